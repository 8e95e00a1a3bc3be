use Rattle.std.proofs.Common.{◌≡◌, [], map, length}
use Rattle.tq_model.specs.Grammar.{scan_keyed}
use Rattle.tq_script.specs.Cutting.{words_of}
use Rattle.tq_script.specs.Reads.{with_read}
use Rattle.tq_script.specs.Rows.{given_of, key_row_of}
use Rattle.tq_script.proofs.keys.read_keyed.Given as goal

abbrev pub invariant-loop-word : goal.invariant-loop-word
invariant-loop-word l = scan_keyed (map key_row_of l.rows) (words_of l.initial.words.column l.initial.words.rest.now)
    ≡ with_read [] (map given_of l.given.items) (scan_keyed (map key_row_of l.left.items) (words_of l.words.column l.words.rest.now))

abbrev pub decreases-loop-word : goal.decreases-loop-word
decreases-loop-word l = length l.words.rest.now
