-- What is kept of a space in order, and the list of a queue from it.
use Rattle.std.proofs.Common.{◌≡◌, ℕ, true, List, [], ◌∷◌, map, Option, Some, None, Less, Equal, Greater, refl, sym, ap, ◌∙◌, subst, ⊎_elim, inl, inr, eqb-true}
use Rattle.std.specs.List.{filter, cons_option, flat_map}
use Rattle.std.specs.Ordering.{eq_by_cmp, ordering_reverse}
use Rattle.std.specs.Cmp.{IsTotalOrder}
use Rattle.std.specs.FinMap as maps
use Rattle.std.specs.FinMap.{get, get-from_entries}
use Rattle.std.proofs.lemmas.Bool.{false≢true, cond_both}
use Rattle.std.proofs.lemmas.Cmp.{on_total}
use Rattle.tq_types.specs.Label.{label_cmp, arrival_cmp}
use Rattle.tq_types.specs.OrderValue.{OrderValue}
use Rattle.tq_types.specs.Placed.{own_arrival}
use Rattle.tq_types.specs.declared.identifiers.Arrival.{Arrival}
use Rattle.tq_types.proofs.LabelOrder.{label_total, own-equal, arrival_total}
use Rattle.tq_model.specs.Space.{Entry, outlives, freed}
use Rattle.tq_model.specs.Moves.{IndexedQueue, IndexedSpace}
use Rattle.tq_slots.specs.SlotTable.{table_of}
use Rattle.tq_slots.specs.MessageSlots.{IndexedEntry, Slots, Chains, arrival_of, slot_arrival, says}
use Rattle.tq_slots.specs.KeptEntries.{KeptEntries, kept_entry, kept_of, kept_in}
use Rattle.tq_slots.specs.SpaceOrder.{IsOneOf, IsAscending, AreOrdered, by_label, in_order}
use Rattle.tq_slots.specs.QueueSlots.{used_slots, entries_said, is_in_queue, the_entry, entries_of}
use Rattle.tq_slots.proofs.ListLemmas.{some_none, some_injective, eq_itself, of_map, to_map, of_filter, to_filter, of_filter_map, to_filter_map, of_flat}
use Rattle.tq_slots.proofs.ListLemmas.{to_flat}
use Rattle.tq_slots.proofs.OrderedListLemmas.{AreApart, AreAllApart, one_list, of_in_order, to_in_order, in_order_ascending}
use Rattle.tq_slots.proofs.MapLemmas.{same_keys, key_itself}
use Rattle.tq_slots.proofs.TableLemmas.{parts, said_there, there_said}
use Rattle.tq_slots.proofs.MessageSlotLemmas.{exact_arrivals, is_said, said_own}

pub by_label_total : (order : OrderValue) → IsTotalOrder (by_label order)
by_label_total order = on_total (λ x. x.label) (label_total order)

-- labels of different arrivals are told apart
pub labels_apart : (order : OrderValue) (x y : Entry) → (own_arrival x.label ≡ own_arrival y.label → ⊥) → AreApart (by_label order) x y
labels_apart order x y differ =
    (elim (label_cmp order x.label y.label) as (λ r. label_cmp order x.label y.label ≡ r → AreApart (by_label order) x y) [
      | Less ↦ λ h. inl h
      | Equal ↦ λ h. absurd (differ (own-equal order x.label y.label h))
      | Greater ↦ λ h. inr ((label_total order).antisymm y.label x.label ∙ ap ordering_reverse h)
    ]) refl

-- ---- the entries of a space

-- what is found was there
found_in : (a : Arrival) (es : List (Arrival × IndexedEntry)) (x : IndexedEntry) → maps.find arrival_cmp a es ≡ Some x → IsOneOf es (a, x)
found_in a [] x h = absurd (some_none (sym h))
found_in a (e ∷ es) x h =
    cond_both (eq_by_cmp arrival_cmp a e.0) (Some e.1) (maps.find arrival_cmp a es) (λ o. o ≡ Some x → IsOneOf (e ∷ es) (a, x))
    (λ t g. inl (λ i. (sym (same_keys exact_arrivals a e.0 t) i, some_injective g i)))
    (λ f g. inr (found_in a es x g))
    h

-- what is there is found, where nothing else stands under the same arrival
found_there : (es : List (Arrival × IndexedEntry)) (e : Arrival × IndexedEntry) → IsOneOf es e
    → ((d : Arrival × IndexedEntry) → IsOneOf es d → d.0 ≡ e.0 → d.1 ≡ e.1)
    → maps.find arrival_cmp e.0 es ≡ Some e.1
found_there [] e h one = absurd h
found_there (d ∷ es) e h one =
    cond_both (eq_by_cmp arrival_cmp e.0 d.0) (Some d.1) (maps.find arrival_cmp e.0 es) (λ o. o ≡ Some e.1)
    (λ t. ap Some (one d (inl refl) (sym (same_keys exact_arrivals e.0 d.0 t))))
    (λ f. ⊎_elim
    (λ s. absurd (false≢true (sym f ∙ ap (λ (x : Arrival × IndexedEntry). eq_by_cmp arrival_cmp e.0 x.0) s ∙ key_itself arrival_total e.0)))
    (λ k. found_there es e k (λ c l. one c (inr l)))
    h)

-- an entry that is kept of a space, with its queue
pub record IsKept (queues : List IndexedQueue) (a : Arrival) (e : IndexedEntry) : Type 0 where
  pub queue : IndexedQueue
  pub entry : Entry
  pub of_space : IsOneOf queues queue
  pub of_queue : IsOneOf queue.queue.items entry
  pub lives : outlives entry ≡ true
  pub is : kept_entry queue.index entry ≡ (a, e)

pub kept_from : (s : IndexedSpace) (a : Arrival) (e : IndexedEntry) → get (kept_in s) a ≡ Some e → IsKept s.queues a e
kept_from s a e h =
    let here = found_in a (flat_map kept_of s.queues) e (sym (get-from_entries arrival_total (flat_map kept_of s.queues) a) ∙ h) in
    let q = of_flat kept_of s.queues (a, e) here in
    let x = of_map (kept_entry q.0.index) (filter outlives q.0.queue.items) (a, e) q.2 in
    let y = of_filter outlives q.0.queue.items x.0 x.1 in
    record { queue = q.0; entry = x.0; of_space = q.1; of_queue = y.1; lives = y.0; is = x.2 }

pub kept_arrival : (s : IndexedSpace) (a : Arrival) (e : IndexedEntry) → get (kept_in s) a ≡ Some e → arrival_of e.entry.message.id ≡ a
kept_arrival s a e h =
    let k = kept_from s a e h in
    ap (λ (d : Arrival × IndexedEntry). arrival_of d.1.entry.message.id) (sym k.is) ∙ ap (λ (d : Arrival × IndexedEntry). d.0) k.is

pub kept_there : (s : IndexedSpace) → AreOrdered s.queues → (q : IndexedQueue) (x : Entry) → IsOneOf s.queues q → IsOneOf q.queue.items x → outlives x ≡ true
    → get (kept_in s) (arrival_of x.message.id) ≡ Some (record { queue = q.index; entry = freed x })
kept_there s ordered q x in_q in_x lives =
    get-from_entries arrival_total (flat_map kept_of s.queues) (arrival_of x.message.id)
    ∙ found_there (flat_map kept_of s.queues) (kept_entry q.index x)
    (to_flat kept_of s.queues q (kept_entry q.index x) in_q
    (to_map (kept_entry q.index) (filter outlives q.queue.items) x (to_filter outlives q.queue.items x lives in_x)))
    (λ d k same.
    let r = of_flat kept_of s.queues d k in
    let y = of_map (kept_entry r.0.index) (filter outlives r.0.queue.items) d r.2 in
    let z = of_filter outlives r.0.queue.items y.0 y.1 in
    let one = ordered.once r.0 q y.0 x r.1 z.1 in_q in_x (ap (λ (e : Arrival × IndexedEntry). e.0) y.2 ∙ same) in
    ap (λ (e : Arrival × IndexedEntry). e.1) (sym y.2) ∙ (λ i. record { queue = one.0 i; entry = freed (one.1 i) }))

-- what a crash leaves of entries in order is in order
crashed_ascending : (order : OrderValue) (items : List Entry) → IsAscending (by_label order) items
    → IsAscending (by_label order) (map freed (filter outlives items))
crashed_ascending order [] up = tt
crashed_ascending order (x ∷ xs) up =
    let rest = crashed_ascending order xs up.1 in
    cond_both (outlives x) (x ∷ filter outlives xs) (filter outlives xs) (λ ys. IsAscending (by_label order) (map freed ys))
    (λ t. (
      λ z h.
          let y = of_map freed (filter outlives xs) z h in
          subst (λ (w : Entry). by_label order x w ≡ Less) y.2 (up.0 y.0 (of_filter outlives xs y.0 y.1).1),
      rest,
    ))
    (λ f. rest)

-- ---- the entries that slots say

-- those of a queue are told apart by their labels
pub said_apart : (site number : ℕ) (chains : Chains) (order : OrderValue) (index : ℕ) (slots : Slots) (m : KeptEntries)
    → table_of arrival_cmp slot_arrival (says site number chains) slots ≡ Some m
    → AreAllApart (by_label order) (entries_of index (entries_said site number chains slots))
said_apart site number chains order index [] m t = tt
said_apart site number chains order index (None ∷ slots) m t = said_apart site number chains order index slots m t
said_apart site number chains order index (Some s ∷ slots) m t =
    let say = says site number chains in
    let es = entries_said site number chains slots in
    let p = parts s.arrival (say s) (table_of arrival_cmp slot_arrival say slots) m t in
    let rest = said_apart site number chains order index slots p.rest p.table in
    subst (λ (o : Option IndexedEntry). AreAllApart (by_label order) (entries_of index (cons_option o es))) (sym p.says)
    (cond_both (is_in_queue index p.value) (p.value ∷ filter (is_in_queue index) es) (filter (is_in_queue index) es)
    (λ xs. AreAllApart (by_label order) (map the_entry xs))
    (λ here. (
      λ z h.
          let e = of_map the_entry (filter (is_in_queue index) es) z h in
          let r = of_filter_map say (used_slots slots) e.0 (of_filter (is_in_queue index) es e.0 e.1).1 in
          let said = said_there arrival_total exact_arrivals slot_arrival say slots r.0 p.rest p.table r.1 in
          subst (AreApart (by_label order) p.value.entry) e.2 (labels_apart order p.value.entry e.0.entry (λ one.
          let same : r.0.arrival ≡ s.arrival = sym (said_own site number chains r.0 e.0 r.2) ∙ sym one ∙ said_own site number chains s p.value p.says in
          some_none (sym said.2 ∙ ap (get p.rest) same ∙ p.new))),
      rest,
    ))
    (λ other. rest))

module _ (site number : ℕ) (chains : Chains) (slots : Slots) (s : IndexedSpace) (ordered : AreOrdered s.queues)
    (kept : table_of arrival_cmp slot_arrival (says site number chains) slots ≡ Some (kept_in s)) where
  pub kept_from_said : (e : IndexedEntry) → IsOneOf (entries_said site number chains slots) e → IsKept s.queues (arrival_of e.entry.message.id) e
  kept_from_said e h =
      let r = of_filter_map (says site number chains) (used_slots slots) e h in
      let said = said_there arrival_total exact_arrivals slot_arrival (says site number chains) slots r.0 (kept_in s) kept r.1 in
      kept_from s (arrival_of e.entry.message.id) e (ap (get (kept_in s)) (is_said site number chains r.0 e r.2).arrival ∙ said.2 ∙ sym said.1 ∙ r.2)

  kept_is_said : (q : IndexedQueue) (x : Entry) → IsOneOf s.queues q → IsOneOf q.queue.items x → outlives x ≡ true
      → IsOneOf (entries_said site number chains slots) (record { queue = q.index; entry = freed x })
  kept_is_said q x in_q in_x lives =
      let e : IndexedEntry = record { queue = q.index; entry = freed x } in
      let r = there_said arrival_total exact_arrivals slot_arrival (says site number chains) slots (arrival_of x.message.id) e (kept_in s) kept
      (kept_there s ordered q x in_q in_x lives) in
      to_filter_map (says site number chains) (used_slots slots) r.0 e r.1 r.2

  -- The entries of a queue that the slots say, in order, are what a crash leaves of its list.
  pub queue_read : (q : IndexedQueue) → IsOneOf s.queues q
      → in_order (by_label q.queue.order) (entries_of q.index (entries_said site number chains slots)) ≡ map freed (filter outlives q.queue.items)
  queue_read q in_q =
      let es = entries_said site number chains slots in
      let mine = filter (is_in_queue q.index) es in
      let order = by_label_total q.queue.order in
      one_list order (in_order (by_label q.queue.order) (entries_of q.index es)) (map freed (filter outlives q.queue.items))
      (in_order_ascending order (entries_of q.index es) (said_apart site number chains q.queue.order q.index slots (kept_in s) kept))
      (crashed_ascending q.queue.order q.queue.items (ordered.ascending q in_q))
      (λ z h.
      let e = of_map the_entry mine z (of_in_order order (entries_of q.index es) z h) in
      let f = of_filter (is_in_queue q.index) es e.0 e.1 in
      let k = kept_from_said e.0 f.1 in
      let one : k.queue.index ≡ q.index = ap (λ (d : Arrival × IndexedEntry). d.1.queue) k.is ∙ eqb-true e.0.queue q.index f.0 in
      let here = subst (λ (r : IndexedQueue). IsOneOf r.queue.items k.entry) (ordered.indices k.queue q k.of_space in_q one) k.of_queue in
      let z_is : freed k.entry ≡ z = ap (λ (d : Arrival × IndexedEntry). d.1.entry) k.is ∙ e.2 in
      subst (IsOneOf (map freed (filter outlives q.queue.items))) z_is
      (to_map freed (filter outlives q.queue.items) k.entry (to_filter outlives q.queue.items k.entry k.lives here)))
      (λ z h.
      let y = of_map freed (filter outlives q.queue.items) z h in
      let x = of_filter outlives q.queue.items y.0 y.1 in
      let e : IndexedEntry = record { queue = q.index; entry = freed y.0 } in
      subst (IsOneOf (in_order (by_label q.queue.order) (entries_of q.index es))) y.2
      (to_in_order order (entries_of q.index es) (freed y.0)
      (to_map the_entry mine e (to_filter (is_in_queue q.index) es e (eq_itself q.index) (kept_is_said q y.0 in_q x.1 x.0)))))
