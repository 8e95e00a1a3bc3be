use Rattle.std.proofs.Common.{◌≡◌, ◌-◌, ◌*◌, ◌++◌, List, length, ap, ◌∙◌, append_assoc, arith}
use Rattle.std.specs.List.{flat_map}
use Rattle.tq_field.specs.Digits.{digits}
use Rattle.tq_types.specs.declared.identifiers.Arrival.{Arrival}
use Rattle.tq_slots.specs.MessageForm.{arrival_bytes}
use Rattle.tq_slots.proofs.HeaderLemmas.{arrivals-length}
use Rattle.tq_moves.proofs.messages.push_path.Goals as goal

pub returns : goal.returns
returns c =
    let before = c.args.out.now.items in
    let arrivals = c.as_slice-arrivals.result.now in
    let path = c.args.path.now in
    let is = c.as_slice-arrivals.ensures.arrivals in
    let count = ap (λ (l : List Arrival). length l) is in
    let size = arrivals-length path in
    let left : 128 - 8 * length arrivals ≡ 128 - length (flat_map arrival_bytes path) = omega arith in
    rw (c.in_ok-push_zeros-2.ensures, c.in_ok-push_arrivals.ensures, c.in_ok-push_zeros.ensures, c.in_ok-push_byte.ensures)
    ((λ i. (((before ++ digits 1 (length (is i))) ++ digits 3 0) ++ flat_map arrival_bytes (is i)) ++ digits (left i) 0)
    ∙ append_assoc ((before ++ digits 1 (length path)) ++ digits 3 0) (flat_map arrival_bytes path) (digits (128 - length (flat_map arrival_bytes path)) 0))
