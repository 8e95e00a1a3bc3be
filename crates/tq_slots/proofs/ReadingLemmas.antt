-- Slots and chains that hold a space stand for what a crash leaves of it.
use Rattle.std.proofs.Common.{◌≡◌, ℕ, true, cond, List, [], ◌∷◌, map, Some, None, get_or, refl, sym, ap, ◌∙◌, inl, inr}
use Rattle.std.specs.Prelude.{is_some}
use Rattle.std.specs.List.{list_all}
use Rattle.tq_types.specs.Label.{arrival_cmp}
use Rattle.tq_types.specs.declared.identifiers.Arrival.{Arrival}
use Rattle.tq_types.proofs.LabelOrder.{arrival_total}
use Rattle.tq_model.specs.Reading.{hold_all}
use Rattle.tq_model.specs.Moves.{IndexedQueue, IndexedSpace}
use Rattle.tq_slots.specs.SlotTable.{table_of}
use Rattle.tq_slots.specs.MessageSlots.{IndexedEntry, Slots, Chains, slot_arrival, says}
use Rattle.tq_slots.specs.KeptEntries.{kept_in}
use Rattle.tq_slots.specs.SpaceOrder.{IsOneOf, IsInOrder}
use Rattle.tq_slots.specs.QueueSlots.{QueueSlots, HaveQueues, used_slots, have_one_arrival, names_used_queue, entries_said, filled_queue, queues_read}
use Rattle.tq_slots.specs.QueueSlots.{crashed_queues}
use Rattle.tq_slots.proofs.ListLemmas.{to_all}
use Rattle.tq_slots.proofs.TableLemmas.{said_there, all_say, keys_differ}
use Rattle.tq_slots.proofs.MessageSlotLemmas.{exact_arrivals, arrivals_equal, is_said}
use Rattle.tq_slots.proofs.KeptLemmas.{kept_from, queue_read}
use Rattle.tq_slots.proofs.QueueSlotLemmas.{bare, to_def, names_differ, queues_said}

module _ (site number : ℕ) (queue_slots : QueueSlots) (slots : Slots) (chains : Chains) (s : IndexedSpace) (order : IsInOrder s)
    (have : HaveQueues queue_slots s.queues)
    (kept : table_of arrival_cmp slot_arrival (says site number chains) slots ≡ Some (kept_in s)) where
  queues_used : list_all (names_used_queue queue_slots) (used_slots slots) ≡ true
  queues_used =
      to_all (names_used_queue queue_slots) (used_slots slots) (λ m h.
      let said = said_there arrival_total exact_arrivals slot_arrival (says site number chains) slots m (kept_in s) kept h in
      let k = kept_from s m.arrival said.0 said.2 in
      let index : k.queue.index ≡ m.queue = ap (λ (d : Arrival × IndexedEntry). d.1.queue) k.is ∙ (is_said site number chains m said.0 said.1).queue in
      let there = have k.queue.index ∙ to_def s.queues k.queue k.of_space (λ r g e. order.entries.indices r k.queue g k.of_space e) in
      ap (λ (i : ℕ). is_some (get_or queue_slots i None)) (sym index) ∙ ap is_some there)

  each_filled : (queues : List IndexedQueue) → ((q : IndexedQueue) → IsOneOf queues q → IsOneOf s.queues q)
      → map (filled_queue (entries_said site number chains slots)) (map bare queues) ≡ crashed_queues queues
  each_filled [] sub = refl
  each_filled (q ∷ queues) sub =
      let rest = each_filled queues (λ r h. sub r (inr h)) in
      let items = queue_read site number chains slots s order.entries kept q (sub q (inl refl)) in
      λ i. record { index = q.index; queue = record q.queue { items = items i } } ∷ rest i

  pub reads_crashed : queues_read site number queue_slots slots chains ≡ Some (crashed_queues s.queues)
  reads_crashed =
      let names = names_differ s.queues order.names queue_slots have in
      let arrivals = keys_differ arrival_total exact_arrivals slot_arrival (says site number chains) have_one_arrival
      (λ m r e. arrivals_equal m.arrival r.arrival e) slots (kept_in s) kept in
      let says_all = all_say arrival_total exact_arrivals slot_arrival (says site number chains) slots (kept_in s) kept in
      let used = queues_used in
      let queues = ap (map (filled_queue (entries_said site number chains slots))) (queues_said s.queues order.names queue_slots have order.entries.indices) in
      (λ i. cond (hold_all (names i ∷ arrivals i ∷ used i ∷ says_all i ∷ [])) (Some (queues i)) None) ∙ ap Some (each_filled s.queues (λ q h. h))
