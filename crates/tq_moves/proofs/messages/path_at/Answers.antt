use Rattle.std.proofs.Common.{◌++◌, ◌∷◌, [], List, length, sym, ap, ◌∙◌, arith}
use Rattle.std.proofs.lemmas.List.{length_push}
use Rattle.tq_types.specs.declared.identifiers.Arrival.{Arrival}
use Rattle.tq_slots.proofs.HeaderLemmas.{no-arrivals, arrivals-more}
use Rattle.tq_moves.proofs.messages.path_at.Goals as goal

pub loop-i-init : goal.loop-i-init
loop-i-init c =
    record {
      read = c.empty-path.ensures ∙ sym (no-arrivals c.args.at c.args.bytes.now);
      size = ap (λ (l : List Arrival). length l) c.empty-path.ensures;
    }

pub loop-i-preserved : goal.loop-i-preserved
loop-i-preserved c =
    let before = c.loop-i.invariant.read in
    let epoch = c.number.ensures in
    let own = c.number-in-loop-i.ensures in
    let size = c.loop-i.invariant.size in
    let longer = ap (λ (l : List Arrival). length l) c.in-Some.ensures.1
    ∙ length_push c.loop-i.path (record { epoch = c.number.result; number = c.number-in-loop-i.result }) in
    record {
      read = c.in-Some.ensures.1 ∙ (λ j. before j ++ record { epoch = epoch j; number = own j } ∷ [])
          ∙ sym (arrivals-more c.loop-i.i c.args.at c.args.bytes.now);
      size = omega arith;
    }
