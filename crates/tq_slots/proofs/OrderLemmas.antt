-- A plan that fits leaves a space in order.
use Rattle.std.proofs.Common.{◌≡◌, ◌⊎◌, ℕ, ◌==◌, Bool, true, false, List, [], ◌∷◌, Some, None, refl, sym, ap, ◌∙◌, subst, ⊎_elim, inl, inr, eqb-true}
use Rattle.std.specs.List.{position_or_len, list_any}
use Rattle.std.specs.Ordering.{nat_cmp}
use Rattle.std.specs.Cmp.Lexicographic.{slice_cmp}
use Rattle.std.proofs.lemmas.Bool.{false≢true, cond_both}
use Rattle.tq_types.specs.Placed.{own_arrival}
use Rattle.tq_types.specs.declared.identifiers.MsgId.{MsgId}
use Rattle.tq_model.specs.declared.space.QueueDef.{QueueDef}
use Rattle.tq_model.specs.declared.space.Change.{Change}
use Rattle.tq_model.specs.declared.space.SpaceMove.{SpaceMove}
use Rattle.tq_model.specs.declared.space.SpaceMove.TheVariants.{Insert, Remove, Replace, PutQueue, DropQueue}
use Rattle.tq_model.specs.Space.{Owner, Entry, Queue, change_first, has_id, dropped, with_entry, without_entry}
use Rattle.tq_model.specs.Moves.{IndexedQueue, IndexedSpace, owner_in, entry_view, after_change, queue_of, has_index, on_queue, indexed_holds}
use Rattle.tq_model.specs.Moves.{entry_inserted, entry_removed, entry_with_id, entry_replaced, queue_added, queue_put, queue_dropped, queues_moved, moved}
use Rattle.tq_model.specs.Moves.{moved_by, purged_of}
use Rattle.tq_slots.specs.MessageSlots.{arrival_of}
use Rattle.tq_slots.specs.KeptEntries.{SpacePlan, space_after}
use Rattle.tq_slots.specs.SpaceOrder.{IsOneOf, IsAscending, by_label, by_name, AreOrdered, IsInOrder, IsNew, CanPut, MoveFits, MovesFit}
use Rattle.tq_slots.proofs.ListLemmas.{eq_itself, of_any, to_any, of_changed, of_removed}
use Rattle.tq_slots.proofs.OrderedListLemmas.{ascending_apart, removed_ascending, changed_ascending, only_one_passes, of_changed_one, of_placed}
use Rattle.tq_slots.proofs.OrderedListLemmas.{placed_ascending}
use Rattle.tq_slots.proofs.MessageSlotLemmas.{same_arrivals}
use Rattle.tq_slots.proofs.FrameLemmas.{of_found}
use Rattle.tq_slots.proofs.KeptLemmas.{by_label_total, labels_apart}
use Rattle.tq_slots.proofs.QueueSlotLemmas.{by_name_total, not_named_alike, names_apart}

-- the queues of a space in order
abbrev Orderly : List IndexedQueue → Type 0
Orderly queues = AreOrdered queues × IsAscending by_name queues

-- ---- queues that were there

-- The queue was there, under this name and index; each of its entries was there in it, or is a new one.
record Comes (new : ℕ → Entry → Type 0) (old : List IndexedQueue) (q : IndexedQueue) : Type 0 where
  from : IndexedQueue
  there : IsOneOf old from
  index : from.index ≡ q.index
  name : from.queue.name ≡ q.queue.name
  ascending : IsAscending (by_label q.queue.order) q.queue.items
  items : (x : Entry) → IsOneOf q.queue.items x → IsOneOf from.queue.items x ⊎ new q.index x

-- new entries: one at most, under its own arrival, which no entry had
record AreNew (new : ℕ → Entry → Type 0) (old : List IndexedQueue) : Type 0 where
  own : (i : ℕ) (x : Entry) → new i x → own_arrival x.label ≡ arrival_of x.message.id
  one : (i j : ℕ) (x y : Entry) → new i x → new j y → (i ≡ j) × (x ≡ y)
  apart : (i : ℕ) (x : Entry) → new i x → IsNew (arrival_of x.message.id) old

comes_in_order : (new : ℕ → Entry → Type 0) (old queues : List IndexedQueue) → AreNew new old → AreOrdered old → IsAscending by_name queues
    → ((q : IndexedQueue) → IsOneOf queues q → Comes new old q) → Orderly queues
comes_in_order new old queues are was up comes = (
  record {
    ascending = λ q h. (comes q h).ascending;
    own = λ q x h k. let c = comes q h in ⊎_elim (λ l. was.own c.from x c.there l) (λ n. are.own q.index x n) (c.items x k);
    once = λ q r x y h k h' k' same.
        let c = comes q h in
        let d = comes r h' in
        ⊎_elim
        (λ l. ⊎_elim
        (λ l'. let e = was.once c.from d.from x y c.there l d.there l' same in (sym c.index ∙ e.0 ∙ d.index, e.1))
        (λ n'. absurd (are.apart r.index y n' c.from x c.there l (sym same)))
        (d.items y k'))
        (λ n. ⊎_elim (λ l'. absurd (are.apart q.index x n d.from y d.there l' same)) (λ n'. are.one q.index r.index x y n n') (d.items y k'))
        (c.items x k);
    indices = λ q r h h' same.
        let c = comes q h in
        let d = comes r h' in
        let one = was.indices c.from d.from c.there d.there (c.index ∙ same ∙ sym d.index) in
        ⊎_elim (λ e. e) (λ a. absurd (not_named_alike q r (sym c.name ∙ ap (λ (z : IndexedQueue). z.queue.name) one ∙ d.name) a))
        (ascending_apart by_name queues q r up h h');
  },
  up,
)

none_new : ℕ → Entry → Type 0
none_new i x = ⊥

none_are_new : (old : List IndexedQueue) → AreNew none_new old
unfolding none_new
none_are_new old = record { own = λ i x n. absurd n; one = λ i j x y n m. absurd n; apart = λ i x n. absurd n }

stays : (new : ℕ → Entry → Type 0) (old : List IndexedQueue) → AreOrdered old → (q : IndexedQueue) → IsOneOf old q → Comes new old q
stays new old was q h = record { from = q; there = h; index = refl; name = refl; ascending = was.ascending q h; items = λ x k. inl k }

-- one queue is changed, and keeps its name
changed_in_order : (new : ℕ → Entry → Type 0) (test : IndexedQueue → Bool) (change : Queue → Queue) (queues : List IndexedQueue) → AreNew new queues
    → Orderly queues
    → ((q : IndexedQueue) → IsOneOf queues q → test q ≡ true → q.queue.name ≡ (change q.queue).name)
    → ((q : IndexedQueue) → IsOneOf queues q → test q ≡ true → IsAscending (by_label (change q.queue).order) (change q.queue).items)
    → ((q : IndexedQueue) → IsOneOf queues q → test q ≡ true → (x : Entry) → IsOneOf (change q.queue).items x → IsOneOf q.queue.items x ⊎ new q.index x)
    → Orderly (change_first test (on_queue change) queues)
changed_in_order new test change queues are was name ascending items =
    comes_in_order new queues (change_first test (on_queue change) queues) are was.0
    (changed_ascending by_name test (on_queue change) queues (λ q r h t. ap (λ n. slice_cmp nat_cmp n r.queue.name) (sym (name q h t)))
    (λ q r h t. ap (slice_cmp nat_cmp r.queue.name) (sym (name q h t))) was.1)
    (λ q h. ⊎_elim
    (λ k. stays new queues was.0 q k)
    (λ r. subst (Comes new queues) r.3 (record {
      from = r.0;
      there = r.1;
      index = refl;
      name = name r.0 r.1 r.2;
      ascending = ascending r.0 r.1 r.2;
      items = items r.0 r.1 r.2;
    }))
    (of_changed test (on_queue change) queues q h))

-- ---- entries

removed_in_order : (id : MsgId) (queues : List IndexedQueue) → Orderly queues → Orderly (entry_removed id queues)
unfolding none_new
removed_in_order id queues was =
    changed_in_order none_new (indexed_holds id) (without_entry id) queues (none_are_new queues) was (λ q h t. refl)
    (λ q h t. removed_ascending (by_label q.queue.order) q.queue.items (position_or_len (has_id id) q.queue.items) (was.0.ascending q h))
    (λ q h t x k. inl (of_removed q.queue.items (position_or_len (has_id id) q.queue.items) x k))

is_new : ℕ → Entry → ℕ → Entry → Type 0
is_new index x i y = (index ≡ i) × (x ≡ y)

inserted_in_order : (index : ℕ) (x : Entry) (queues : List IndexedQueue) → own_arrival x.label ≡ arrival_of x.message.id
    → IsNew (arrival_of x.message.id) queues → Orderly queues
    → Orderly (entry_inserted index x queues)
unfolding is_new
inserted_in_order index x queues own new was =
    changed_in_order (is_new index x) (has_index index) (with_entry x) queues
    (record {
      own = λ i y n. ap (λ (z : Entry). own_arrival z.label) (sym n.1) ∙ own ∙ ap (λ (z : Entry). arrival_of z.message.id) n.1;
      one = λ i j y z n m. (sym n.0 ∙ m.0, sym n.1 ∙ m.1);
      apart = λ i y n q z h k e. new q z h k (ap (λ (w : Entry). arrival_of w.message.id) n.1 ∙ e);
    })
    was (λ q h t. refl)
    (λ q h t. placed_ascending (by_label_total q.queue.order) x q.queue.items (was.0.ascending q h)
    (λ z k. labels_apart q.queue.order x z (λ e. new q z h k (sym own ∙ e ∙ was.0.own q z h k))))
    (λ q h t z k. ⊎_elim (λ e. inr (sym (eqb-true q.index index t), e)) (λ l. inl l) (of_placed (by_label_total q.queue.order) x q.queue.items z k))

-- once an entry is removed, its arrival is new
pub removed_is_new : (id : MsgId) (queues : List IndexedQueue) (x : Entry) → entry_with_id id queues ≡ Some x → Orderly queues
    → IsNew (arrival_of x.message.id) (entry_removed id queues)
removed_is_new id queues x found was q y h k same =
    let at = of_found id queues x found in
    let was_it : (r : IndexedQueue) → IsOneOf queues r → IsOneOf r.queue.items y → has_id id y ≡ true =
    λ r hr kr. ap (has_id id) (sym (was.0.once at.0 r x y at.1 at.2 hr kr same).1) ∙ at.3 in
    let one_arrival : (z w : Entry) → has_id id z ≡ true → has_id id w ≡ true → arrival_of z.message.id ≡ arrival_of w.message.id =
    λ z w p p'. same_arrivals z.message.id id p ∙ sym (same_arrivals w.message.id id p') in
    ⊎_elim
    (λ l. false≢true (sym l.1 ∙ to_any (has_id id) q.queue.items y k (was_it q l.0 k)))
    (λ r.
    let there : IsOneOf (dropped id r.0.queue.items) y = subst (λ (z : IndexedQueue). IsOneOf z.queue.items y) (sym r.3) k in
    let was_there = of_removed r.0.queue.items (position_or_len (has_id id) r.0.queue.items) y there in
    only_one_passes {R = by_label r.0.queue.order} (by_label_total r.0.queue.order) (has_id id) r.0.queue.items (was.0.ascending r.0 r.1)
    (λ z w hz hw p p'. (was.0.once r.0 r.0 z w r.1 hz r.1 hw (one_arrival z w p p')).1)
    y there (was_it r.0 r.1 was_there))
    (of_changed_one by_name_total (indexed_holds id) (on_queue (without_entry id)) queues was.1
    (λ a b ha hb pa pb.
    let z = of_any (has_id id) a.queue.items pa in
    let w = of_any (has_id id) b.queue.items pb in
    was.0.indices a b ha hb (was.0.once a b z.0 w.0 ha z.1 hb w.1 (one_arrival z.0 w.0 z.2 w.2)).0)
    q h)

replaced_in_order : (owners : ℕ → Owner) (c : Change) (queues : List IndexedQueue) → own_arrival c.label ≡ arrival_of c.id → Orderly queues
    → Orderly (entry_replaced owners c (entry_with_id c.id queues) queues)
replaced_in_order owners c queues own was =
    (elim (entry_with_id c.id queues) as (λ o. entry_with_id c.id queues ≡ o → Orderly (entry_replaced owners c o queues)) [
      | None ↦ λ e. was
      | Some x ↦ λ e.
          inserted_in_order c.queue (after_change owners c x) (entry_removed c.id queues)
          (own ∙ sym (same_arrivals x.message.id c.id (of_found c.id queues x e).3))
          (removed_is_new c.id queues x e was) (removed_in_order c.id queues was)
    ]) refl

-- ---- queues

dropped_in_order : (index : ℕ) (queues : List IndexedQueue) → Orderly queues → Orderly (queue_dropped index queues)
dropped_in_order index queues was =
    let at = position_or_len (has_index index) queues in
    comes_in_order none_new queues (queue_dropped index queues) (none_are_new queues) was.0 (removed_ascending by_name queues at was.1)
    (λ q h. stays none_new queues was.0 q (of_removed queues at q h))

added_in_order : (index : ℕ) (d : QueueDef) (queues : List IndexedQueue) → CanPut index d queues → list_any (has_index index) queues ≡ false
    → Orderly queues → Orderly (queue_added index d queues)
added_in_order index d queues can new was =
    let made : IndexedQueue = record { index = index; queue = queue_of d [] } in
    let of_two : (q : IndexedQueue) → IsOneOf (queue_added index d queues) q → (made ≡ q) ⊎ IsOneOf queues q = λ q h. of_placed by_name_total made queues q h in
    let bare : (q : IndexedQueue) (x : Entry) → made ≡ q → IsOneOf q.queue.items x → ⊥ = λ q x e k. subst (λ (r : IndexedQueue). IsOneOf r.queue.items x)
    (sym e) k in
    let other : (q : IndexedQueue) → IsOneOf queues q → q.index ≡ index → ⊥ =
    λ q h e. false≢true (sym new ∙ to_any (has_index index) queues q h (ap (λ (n : ℕ). n == index) e ∙ eq_itself index)) in (
      record {
        ascending = λ q h. ⊎_elim (λ e. subst (λ (r : IndexedQueue). IsAscending (by_label r.queue.order) r.queue.items) e tt) (λ k. was.0.ascending q k)
            (of_two q h);
        own = λ q x h k. ⊎_elim (λ e. absurd (bare q x e k)) (λ l. was.0.own q x l k) (of_two q h);
        once = λ q r x y h k h' k' same. ⊎_elim (λ e. absurd (bare q x e k))
            (λ l. ⊎_elim (λ e. absurd (bare r y e k')) (λ l'. was.0.once q r x y l k l' k' same) (of_two r h')) (of_two q h);
        indices = λ q r h h' same. ⊎_elim
            (λ e. ⊎_elim (λ e'. sym e ∙ e') (λ l'. absurd (other r l' (sym same ∙ ap (λ (z : IndexedQueue). z.index) (sym e)))) (of_two r h'))
            (λ l. ⊎_elim (λ e'. absurd (other q l (same ∙ ap (λ (z : IndexedQueue). z.index) (sym e')))) (λ l'. was.0.indices q r l l' same) (of_two r h'))
            (of_two q h);
      },
      placed_ascending by_name_total made queues was.1 (λ z k. names_apart made z (λ e. can.new new z k (sym e))),
    )

put_in_order : (index : ℕ) (d : QueueDef) (queues : List IndexedQueue) → CanPut index d queues → Orderly queues → Orderly (queue_put index d queues)
unfolding none_new
put_in_order index d queues can was =
    let change : Queue → Queue = λ queue. queue_of d queue.items in
    cond_both (list_any (has_index index) queues) (change_first (has_index index) (on_queue change) queues) (queue_added index d queues) Orderly
    (λ t. changed_in_order none_new (has_index index) change queues (none_are_new queues) was
    (λ q h t'. (can.kept q h (eqb-true q.index index t')).0)
    (λ q h t'. subst (λ o. IsAscending (by_label o) q.queue.items) (can.kept q h (eqb-true q.index index t')).1 (was.0.ascending q h))
    (λ q h t' x k. inl k))
    (λ f. added_in_order index d queues can f was)

-- ---- plans

move_in_order : (owners : ℕ → Owner) (move : SpaceMove) (queues : List IndexedQueue) → MoveFits move queues → Orderly queues
    → Orderly (queues_moved owners move queues)
move_in_order owners (Insert e) queues fits was = inserted_in_order e.queue (entry_view owners e) queues fits.0 fits.1 was
move_in_order owners (Remove id) queues fits was = removed_in_order id queues was
move_in_order owners (Replace c) queues fits was = replaced_in_order owners c queues fits was
move_in_order owners (PutQueue index d) queues fits was = put_in_order index d queues fits was
move_in_order owners (DropQueue index) queues fits was = dropped_in_order index queues was

moves_in_order : (moves : List SpaceMove) (s : IndexedSpace) → MovesFit moves s → Orderly s.queues → Orderly (moved_by moves s).queues
moves_in_order [] s fit was = was
moves_in_order (move ∷ moves) s fit was = moves_in_order moves (moved move s) fit.1 (move_in_order (owner_in s.owners) move s.queues fit.0 was)

purge_in_order : (ids : List MsgId) (s : IndexedSpace) → Orderly s.queues → Orderly (purged_of ids s).queues
purge_in_order [] s was = was
purge_in_order (id ∷ ids) s was = purge_in_order ids (moved (Remove id) s) (removed_in_order id s.queues was)

pub plan_in_order : (p : SpacePlan) (s : IndexedSpace) → MovesFit p.moves (purged_of p.purge s) → IsInOrder s → IsInOrder (space_after p s)
plan_in_order p s fit was =
    let h = moves_in_order p.moves (purged_of p.purge s) fit (purge_in_order p.purge s (was.entries, was.names)) in
    record { entries = h.0; names = h.1 }
