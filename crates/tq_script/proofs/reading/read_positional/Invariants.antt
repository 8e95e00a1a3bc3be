use Rattle.std.proofs.Common.{◌≡◌, List, [], drop}
use Rattle.tq_model.specs.Grammar.{KeyRow, scan}
use Rattle.tq_script.specs.Cutting.{words_of}
use Rattle.tq_script.specs.Reads.{with_read}
use Rattle.tq_script.proofs.reading.read_positional.Given as goal

abbrev pub invariant-loop-kind : goal.invariant-loop-kind
invariant-loop-kind l = (rows : List KeyRow) → scan l.kinds rows (words_of l.initial.words.column l.initial.words.rest.now)
    ≡ with_read l.values.items [] (scan (drop l.kind-index l.kinds) rows (words_of l.words.column l.words.rest.now))
