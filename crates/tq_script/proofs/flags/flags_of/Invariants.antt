use Rattle.std.proofs.Common.{◌≡◌, drop, length}
use Rattle.tq_model.specs.Grammar.{flags_from, pieces}
use Rattle.tq_script.proofs.FlagNames.{flags_behind}
use Rattle.tq_script.proofs.flags.flags_of.Given as goal

abbrev pub invariant-loop-name : goal.invariant-loop-name
invariant-loop-name l = flags_from (pieces l.word) ≡ flags_behind l.flags (drop (length l.yielded) (pieces l.word))
