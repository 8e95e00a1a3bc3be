use Rattle.std.proofs.Common.{◌≡◌, ◌+◌, ◌≤◌, length}
use Rattle.tq_model.specs.Grammar.{word_length, Plain}
use Rattle.tq_script.specs.Places.{place_of}
use Rattle.tq_script.proofs.cutting.word_length.Given as goal

abbrev pub invariant-loop-rest : goal.invariant-loop-rest
invariant-loop-rest l = (word_length Plain l.bytes + length l.rest ≡ length l.bytes + word_length (place_of l.place) l.rest) × (length l.rest ≤ length l.bytes)

abbrev pub decreases-loop-rest : goal.decreases-loop-rest
decreases-loop-rest l = length l.rest
