use Rattle.std.proofs.Common.{List, ℕ, ◌++◌, length, drop, replicate, ap, ◌∙◌}
use Rattle.tq_slots.proofs.QueueFormLemmas.{front-filled}
use Rattle.tq_moves.proofs.bytes.filled.Goals as goal

pub returns : goal.returns
returns g c =
    ap (λ (front : List ℕ). front ++ drop (length c.args.run.now) (replicate g.row.N 0)) c.copy_from_slice.ensures.after
    ∙ front-filled g.row.N c.args.run.now
