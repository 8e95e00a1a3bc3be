use Rattle.std.proofs.Common.{◌≡◌, ◌++◌, length}
use Rattle.std.specs.Option.{option_map}
use Rattle.tq_model.specs.Grammar.{Item, text_from}
use Rattle.tq_script.specs.Runs.{text_behind_run}
use Rattle.tq_script.proofs.texts.read_quoted.Given as goal

abbrev pub invariant-loop-rest : goal.invariant-loop-rest
invariant-loop-rest l = text_from Item l.quoted ≡ option_map (λ bytes. l.text.items ++ bytes) (text_behind_run l.rest)

abbrev pub decreases-loop-rest : goal.decreases-loop-rest
decreases-loop-rest l = length l.rest
