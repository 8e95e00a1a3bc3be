-- Slots and chains hold the space that is read of them.
use Rattle.std.proofs.Common.{◌≡◌, ℕ, ◌&&◌, not, true, List, [], ◌∷◌, map, Some, None, get_or, refl, sym, ap, ◌∙◌, subst, eqb-true}
use Rattle.std.specs.Prelude.{is_some}
use Rattle.std.specs.List.{filter, list_all}
use Rattle.std.specs.FinMap.{get, same_map}
use Rattle.std.proofs.lemmas.Bool.{and_parts}
use Rattle.std.proofs.lemmas.Option.{cond_some}
use Rattle.tq_types.specs.Label.{arrival_cmp}
use Rattle.tq_types.specs.declared.identifiers.Arrival.{Arrival}
use Rattle.tq_types.proofs.LabelOrder.{arrival_total}
use Rattle.tq_model.specs.declared.space.QueueDef.{QueueDef}
use Rattle.tq_model.specs.Reading.{hold_all, no_two}
use Rattle.tq_model.specs.Space.{Entry, is_persistent, is_adding, outlives}
use Rattle.tq_model.specs.Moves.{IndexedQueue, IndexedSpace}
use Rattle.tq_slots.specs.SlotTable.{table_of}
use Rattle.tq_slots.specs.MessageSlots.{IndexedEntry, UsedSlot, Slots, Chains, arrival_of, slot_arrival, says}
use Rattle.tq_slots.specs.KeptEntries.{KeptEntries, kept_in}
use Rattle.tq_slots.specs.SpaceOrder.{IsOneOf, IsAscending, AreOrdered, by_name, by_label}
use Rattle.tq_slots.specs.QueueSlots.{QueueSlots, HaveQueues, def_at, queues_from, used_slots, have_one_name, have_one_arrival, names_used_queue}
use Rattle.tq_slots.specs.QueueSlots.{slots_tests, entries_said, is_in_queue, the_entry, entries_of, filled_queue}
use Rattle.tq_slots.specs.SlotsLaw.{HoldSpace, LoadLaw}
use Rattle.tq_slots.proofs.ListLemmas.{some_none, some_injective, the_some, eq_itself, of_map, to_map, of_filter, to_filter, of_filter_map, to_filter_map}
use Rattle.tq_slots.proofs.ListLemmas.{of_all}
use Rattle.tq_slots.proofs.OrderedListLemmas.{of_in_order, to_in_order, in_order_ascending}
use Rattle.tq_slots.proofs.TableLemmas.{said_there, there_said, table_there}
use Rattle.tq_slots.proofs.MessageSlotLemmas.{exact_arrivals, arrival_itself, is_said}
use Rattle.tq_slots.proofs.KeptLemmas.{by_label_total, said_apart, kept_from, kept_there}
use Rattle.tq_slots.proofs.QueueSlotLemmas.{made, of_def, to_def, of_slots, to_slots, zero_plus, slots_ascending}

-- ---- queues

module _ (queue_slots : QueueSlots) (entries : List IndexedEntry) where
  filled : List IndexedQueue
  filled = map (filled_queue entries) (queues_from 0 queue_slots)

  -- the slot of a queue that is read
  record IsFilled (q : IndexedQueue) : Type 0 where
    def : QueueDef
    at : get_or queue_slots q.index None ≡ Some def
    is : filled_queue entries (made q.index def) ≡ q

  is_filled : (q : IndexedQueue) → IsOneOf filled q → IsFilled q
  unfolding filled
  is_filled q h =
      let b = of_map (filled_queue entries) (queues_from 0 queue_slots) q h in
      let r = of_slots 0 queue_slots b.0 b.1 in
      let index : r.0 ≡ q.index = zero_plus r.0 ∙ ap (λ (x : IndexedQueue). x.index) r.3 ∙ ap (λ (x : IndexedQueue). x.index) b.2 in
      record {
        def = r.1;
        at = ap (λ (i : ℕ). get_or queue_slots i None) (sym index) ∙ r.2;
        is = ap (λ (i : ℕ). filled_queue entries (made i r.1)) (sym index ∙ zero_plus r.0) ∙ ap (filled_queue entries) r.3 ∙ b.2;
      }

  has_filled : (i : ℕ) (d : QueueDef) → get_or queue_slots i None ≡ Some d → IsOneOf filled (filled_queue entries (made i d))
  unfolding filled
  has_filled i d at =
      to_map (filled_queue entries) (queues_from 0 queue_slots) (made i d)
      (subst (λ (n : ℕ). IsOneOf (queues_from 0 queue_slots) (made n d)) (sym (zero_plus i)) (to_slots 0 queue_slots i d at))

  one_index : (q r : IndexedQueue) → IsOneOf filled q → IsOneOf filled r → q.index ≡ r.index → q ≡ r
  one_index q r h k same =
      let a = is_filled q h in
      let b = is_filled r k in
      let defs : a.def ≡ b.def = some_injective (sym a.at ∙ ap (λ (i : ℕ). get_or queue_slots i None) same ∙ b.at) in
      sym a.is ∙ (λ i. filled_queue entries (made (same i) (defs i))) ∙ b.is

  filled_have : HaveQueues queue_slots filled
  filled_have i =
      (elim (get_or queue_slots i None) as (λ o. get_or queue_slots i None ≡ o → o ≡ def_at i filled) [
        | Some d ↦ λ e.
            let q = filled_queue entries (made i d) in
            sym (to_def filled q (has_filled i d e) (λ r h same. one_index r q h (has_filled i d e) same))
        | None ↦ λ e.
            (elim (def_at i filled) as (λ o. def_at i filled ≡ o → None ≡ o) [
              | None ↦ λ e'. refl
              | Some d ↦ λ e'.
                  let q = of_def i filled d e' in
                  let a = is_filled q.0 q.1 in
                  absurd (some_none (sym a.at ∙ ap (λ (n : ℕ). get_or queue_slots n None) q.2 ∙ e))
            ]) refl
      ]) refl

  filled_ascending : (queues : List IndexedQueue) → IsAscending by_name queues → IsAscending by_name (map (filled_queue entries) queues)
  filled_ascending [] up = tt
  filled_ascending (q ∷ queues) up = (
    λ z h. let r = of_map (filled_queue entries) queues z h in ap (by_name q) (sym r.2) ∙ up.0 r.0 r.1,
    filled_ascending queues up.1,
  )

-- ---- messages

module _ (site number : ℕ) (queue_slots : QueueSlots) (slots : Slots) (chains : Chains) (m : KeptEntries)
    (t : table_of arrival_cmp slot_arrival (says site number chains) slots ≡ Some m)
    (used : list_all (names_used_queue queue_slots) (used_slots slots) ≡ true) (s : IndexedSpace)
    (read : filled queue_slots (entries_said site number chains slots) ≡ s.queues) where
  said_looked : (u : UsedSlot) (e : IndexedEntry) → IsOneOf (used_slots slots) u → says site number chains u ≡ Some e
      → get m (arrival_of e.entry.message.id) ≡ Some e
  said_looked u e h said =
      let there = said_there arrival_total exact_arrivals slot_arrival (says site number chains) slots u m t h in
      ap (get m) (is_said site number chains u e said).arrival ∙ there.2 ∙ sym there.1 ∙ said

  -- an entry that is read, with the slot that says it
  record IsRead (q : IndexedQueue) (x : Entry) : Type 0 where
    slot : UsedSlot
    said : says site number chains slot ≡ Some (record { queue = q.index; entry = x })
    there : get m (arrival_of x.message.id) ≡ Some (record { queue = q.index; entry = x })

  is_read : (q : IndexedQueue) (x : Entry) → IsOneOf s.queues q → IsOneOf q.queue.items x → IsRead q x
  is_read q x in_q in_x =
      let es = entries_said site number chains slots in
      let f = is_filled queue_slots es q (subst (λ (qs : List IndexedQueue). IsOneOf qs q) (sym read) in_q) in
      let mine = filter (is_in_queue q.index) es in
      let e = of_map the_entry mine x (of_in_order (by_label_total f.def.order) (entries_of q.index es) x
      (subst (λ (r : IndexedQueue). IsOneOf r.queue.items x) (sym f.is) in_x)) in
      let g = of_filter (is_in_queue q.index) es e.0 e.1 in
      let r = of_filter_map (says site number chains) (used_slots slots) e.0 g.1 in
      let here : IndexedEntry = record { queue = q.index; entry = x } in
      let e_is : e.0 ≡ here = λ i. record { queue = eqb-true e.0.queue q.index g.0 i; entry = e.2 i } in
      let says_x : says site number chains r.0 ≡ Some here = subst (λ (y : IndexedEntry). says site number chains r.0 ≡ Some y) e_is r.2 in
      record { slot = r.0; said = says_x; there = said_looked r.0 here r.1 says_x }

  read_ordered : AreOrdered s.queues
  read_ordered =
      let es = entries_said site number chains slots in
      record {
        ascending = λ q h.
            let f = is_filled queue_slots es q (subst (λ (qs : List IndexedQueue). IsOneOf qs q) (sym read) h) in
            subst (λ (r : IndexedQueue). IsAscending (by_label r.queue.order) r.queue.items) f.is
            (in_order_ascending (by_label_total f.def.order) (entries_of q.index es) (said_apart site number chains f.def.order q.index slots m t));
        own = λ q x h k.
            let r = is_read q x h k in
            (is_said site number chains r.slot (record { queue = q.index; entry = x }) r.said).chain.stands.own;
        once = λ q r x y h k h' k' same.
            let one = some_injective (sym (is_read q x h k).there ∙ ap (get m) same ∙ (is_read r y h' k').there) in
            (ap (λ (e : IndexedEntry). e.queue) one, ap (λ (e : IndexedEntry). e.entry) one);
        indices = λ q r h h' same.
            one_index queue_slots es q r (subst (λ (qs : List IndexedQueue). IsOneOf qs q) (sym read) h)
            (subst (λ (qs : List IndexedQueue). IsOneOf qs r) (sym read) h') same;
      }

  -- what the table has is kept of the space
  table_kept : (a : Arrival) (e : IndexedEntry) → get m a ≡ Some e → get (kept_in s) a ≡ Some e
  table_kept a e at =
      let es = entries_said site number chains slots in
      let r = there_said arrival_total exact_arrivals slot_arrival (says site number chains) slots a e m t at in
      let said = is_said site number chains r.0 e r.2 in
      let d = the_some (get_or queue_slots e.queue None)
      (ap (λ (i : ℕ). is_some (get_or queue_slots i None)) said.queue ∙ of_all (names_used_queue queue_slots) (used_slots slots) r.0 used r.1) in
      let q = filled_queue es (made e.queue d.0) in
      let in_q = subst (λ (qs : List IndexedQueue). IsOneOf qs q) read (has_filled queue_slots es e.queue d.0 d.1) in
      let in_x = to_in_order (by_label_total d.0.order) (entries_of e.queue es) e.entry
      (to_map the_entry (filter (is_in_queue e.queue) es) e
      (to_filter (is_in_queue e.queue) es e (eq_itself e.queue) (to_filter_map (says site number chains) (used_slots slots) r.0 e r.1 r.2))) in
      let stands = said.chain.stands in
      let lives : outlives e.entry ≡ true = λ i. is_persistent (stands.persistent i) && not (is_adding (stands.free i)) in
      ap (get (kept_in s)) (sym r.3 ∙ sym said.arrival) ∙ kept_there s read_ordered q e.entry in_q in_x lives ∙
      (λ i. Some (record { queue = e.queue; entry = record e.entry { mark = sym stands.free i } }))

  -- what is kept of the space the table has
  kept_table : (a : Arrival) (e : IndexedEntry) → get (kept_in s) a ≡ Some e → get m a ≡ Some e
  kept_table a e at =
      let k = kept_from s a e at in
      let r = is_read k.queue k.entry k.of_space k.of_queue in
      let there : get m a ≡ Some (record { queue = k.queue.index; entry = k.entry }) = ap (get m) (sym (ap (λ (d : Arrival × IndexedEntry). d.0) k.is))
      ∙ r.there in
      there ∙ sym (table_kept a (record { queue = k.queue.index; entry = k.entry }) there) ∙ at

  same_looked : (a : Arrival) → get m a ≡ get (kept_in s) a
  same_looked a =
      (elim (get m a) as (λ o. get m a ≡ o → o ≡ get (kept_in s) a) [
        | Some e ↦ λ h. sym (table_kept a e h)
        | None ↦ λ h.
            (elim (get (kept_in s) a) as (λ o. get (kept_in s) a ≡ o → None ≡ o) [
              | None ↦ λ g. refl
              | Some e ↦ λ g. absurd (some_none (sym (kept_table a e g) ∙ h))
            ]) refl
      ]) refl

  read_holds : no_two have_one_name (used_slots queue_slots) ≡ true → HoldSpace site number queue_slots slots chains s
  unfolding filled
  read_holds names =
      let es = entries_said site number chains slots in
      record {
        queues = subst (HaveQueues queue_slots) read (filled_have queue_slots es);
        kept = t ∙ ap Some (same_map arrival_total exact_arrivals m (kept_in s) same_looked);
        order = record {
          entries = read_ordered;
          names = subst (IsAscending by_name) read
              (filled_ascending queue_slots es (queues_from 0 queue_slots) (slots_ascending 0 queue_slots names));
        };
      }

pub load_law : LoadLaw
unfolding filled
load_law site number queue_slots slots chains s h =
    let es = entries_said site number chains slots in
    let parts = cond_some (hold_all (slots_tests site number queue_slots slots chains)) (map (filled_queue es) (queues_from 0 queue_slots)) s.queues h in
    let names = and_parts (no_two have_one_name (used_slots queue_slots)) _ parts.0 in
    let arrivals = and_parts (no_two have_one_arrival (used_slots slots)) _ names.1 in
    let used = and_parts (list_all (names_used_queue queue_slots) (used_slots slots)) _ arrivals.1 in
    let say = and_parts (list_all (λ m. is_some (says site number chains m)) (used_slots slots)) _ used.1 in
    let m = table_there arrival_total exact_arrivals slot_arrival (says site number chains) have_one_arrival
    (λ r p e. arrival_itself r.arrival p.arrival e) slots say.0 arrivals.0 in
    read_holds site number queue_slots slots chains m.0 m.1 used.0 s parts.1 names.0
