-- After a plan each entry that is kept has its chain.
use Rattle.std.proofs.Common.{◌≡◌, ◌⊎◌, ℕ, Bool, true, false, List, [], ◌∷◌, Some, None, refl, sym, ◌∙◌, subst, ⊎_elim, inl, inr}
use Rattle.std.specs.List.{position_or_len, list_any}
use Rattle.std.proofs.lemmas.Bool.{cases_Bool, cond_both}
use Rattle.tq_types.specs.Label.{arrival_cmp}
use Rattle.tq_types.specs.Placed.{own_arrival}
use Rattle.tq_types.specs.declared.identifiers.Arrival.{Arrival}
use Rattle.tq_types.specs.declared.identifiers.MsgId.{MsgId}
use Rattle.tq_model.specs.declared.space.Change.{Change}
use Rattle.tq_model.specs.declared.space.QueueDef.{QueueDef}
use Rattle.tq_model.specs.declared.space.SpaceMove.{SpaceMove}
use Rattle.tq_model.specs.declared.space.SpaceMove.TheVariants.{Insert, Remove, Replace, PutQueue, DropQueue}
use Rattle.tq_model.specs.Space.{Owner, Entry, Queue, change_first, has_id, with_entry, without_entry, outlives, freed}
use Rattle.tq_model.specs.Moves.{IndexedQueue, IndexedSpace, owner_in, entry_view, after_change, queue_of, has_index, on_queue, indexed_holds}
use Rattle.tq_model.specs.Moves.{entry_inserted, entry_removed, entry_with_id, entry_replaced, queue_added, queue_put, queues_moved, moved, moved_by}
use Rattle.tq_model.specs.Moves.{purged_of}
use Rattle.tq_slots.specs.SlotTable.{table_of}
use Rattle.tq_slots.specs.MessageSlots.{IndexedEntry, Slots, Chains, arrival_of, slot_arrival, says, HasChain}
use Rattle.tq_slots.specs.KeptEntries.{SpacePlan, kept_in, space_after}
use Rattle.tq_slots.specs.SpaceOrder.{IsOneOf, IsNew, AreOrdered, MoveFits, MovesFit}
use Rattle.tq_slots.specs.SlotsAfter.{first_of, KeepsChain, ChainFits, ChainsFit}
use Rattle.tq_slots.proofs.ListLemmas.{of_changed, of_removed}
use Rattle.tq_slots.proofs.OrderedListLemmas.{of_placed}
use Rattle.tq_slots.proofs.MessageSlotLemmas.{same_arrivals}
use Rattle.tq_slots.proofs.FrameLemmas.{of_found}
use Rattle.tq_slots.proofs.KeptLemmas.{by_label_total, kept_from, kept_there}
use Rattle.tq_slots.proofs.QueueSlotLemmas.{by_name_total}
use Rattle.tq_slots.proofs.SlotsAfterLemmas.{has_chain, HaveChains}

-- ---- what holds of each entry of a space

Each : (Entry → Type 0) → List IndexedQueue → Type 0
Each P queues = (q : IndexedQueue) (x : Entry) → IsOneOf queues q → IsOneOf q.queue.items x → P x

module _ (P : Entry → Type 0) where
  each_changed : (test : IndexedQueue → Bool) (change : Queue → Queue) (queues : List IndexedQueue)
      → ((q : IndexedQueue) (x : Entry) → IsOneOf (change q.queue).items x → IsOneOf q.queue.items x ⊎ P x)
      → Each P queues → Each P (change_first test (on_queue change) queues)
  unfolding Each
  each_changed test change queues items all q x h k =
      ⊎_elim
      (λ l. all q x l k)
      (λ r. ⊎_elim (λ l. all r.0 x r.1 l) (λ new. new) (items r.0 x (subst (λ (z : IndexedQueue). IsOneOf z.queue.items x) (sym r.3) k)))
      (of_changed test (on_queue change) queues q h)

  each_inserted : (index : ℕ) (x : Entry) (queues : List IndexedQueue) → P x → Each P queues → Each P (entry_inserted index x queues)
  each_inserted index x queues here =
      each_changed (has_index index) (with_entry x) queues
      (λ q y k. ⊎_elim (λ e. inr (subst P e here)) (λ l. inl l) (of_placed (by_label_total q.queue.order) x q.queue.items y k))

  each_removed : (id : MsgId) (queues : List IndexedQueue) → Each P queues → Each P (entry_removed id queues)
  each_removed id queues =
      each_changed (indexed_holds id) (without_entry id) queues
      (λ q y k. inl (of_removed q.queue.items (position_or_len (has_id id) q.queue.items) y k))

  each_put : (index : ℕ) (d : QueueDef) (queues : List IndexedQueue) → Each P queues → Each P (queue_put index d queues)
  unfolding Each
  each_put index d queues all =
      let made : IndexedQueue = record { index = index; queue = queue_of d [] } in
      let change : Queue → Queue = λ queue. queue_of d queue.items in
      cond_both (list_any (has_index index) queues) (change_first (has_index index) (on_queue change) queues) (queue_added index d queues) (Each P)
      (λ t. each_changed (has_index index) change queues (λ q x k. inl k) all)
      (λ f q x h k. ⊎_elim (λ e. absurd (subst (λ (z : IndexedQueue). IsOneOf z.queue.items x) (sym e) k)) (λ l. all q x l k)
      (of_placed by_name_total made queues q h))

new_removed : (a : Arrival) (id : MsgId) (queues : List IndexedQueue) → IsNew a queues → IsNew a (entry_removed id queues)
unfolding Each
new_removed a id queues new = each_removed (λ x. a ≡ arrival_of x.message.id → ⊥) id queues new

pub new_purged : (a : Arrival) (ids : List MsgId) (s : IndexedSpace) → IsNew a s.queues → IsNew a (purged_of ids s).queues
new_purged a [] s new = new
new_purged a (id ∷ ids) s new = new_purged a ids (moved (Remove id) s) (new_removed a id s.queues new)

-- ---- chains

module _ (site number : ℕ) (chains : Chains) (new : Arrival → ℕ) (slots : Slots) where
  Chained : Entry → Type 0
  Chained x = KeepsChain site number chains new slots x

  changed_chained : (owners : ℕ → Owner) (c : Change) (x : Entry) → own_arrival c.label ≡ arrival_of x.message.id
      → (outlives x ≡ true → (c.label.path ≡ []) ⊎ (c.label.path ≡ x.label.path))
      → (outlives x ≡ false → Chained (after_change owners c x)) → Chained x → Chained (after_change owners c x)
  unfolding Chained
  changed_chained owners c x own path fresh was =
      ⊎_elim
      (λ lives kept.
      let h = was lives in
      record {
        chain = h.chain;
        at = h.at;
        stands = record {
          own = own;
          free = refl;
          persistent = h.stands.persistent;
          of_site = h.stands.of_site;
          of_space = h.stands.of_space;
          body = h.stands.body;
        };
        fits = record {
          path = ⊎_elim (λ e. inl e) (λ e. ⊎_elim (λ e'. inl (e ∙ e')) (λ e'. inr (e ∙ e')) h.fits.path) (path lives);
          rest = λ i. record (h.fits.rest i) { path = c.label.path };
        };
      })
      fresh
      (cases_Bool (outlives x))

  move_chained : (owners : ℕ → Owner) (move : SpaceMove) (queues : List IndexedQueue) → MoveFits move queues
      → ChainFits site number chains new slots owners move queues
      → Each Chained queues → Each Chained (queues_moved owners move queues)
  unfolding Each Chained
  move_chained owners (Insert e) queues fits chain all = each_inserted Chained e.queue (entry_view owners e) queues chain all
  move_chained owners (Remove id) queues fits chain all = each_removed Chained id queues all
  move_chained owners (Replace c) queues fits chain all =
      (elim (entry_with_id c.id queues) as (λ o. entry_with_id c.id queues ≡ o → Each Chained (entry_replaced owners c o queues)) [
        | None ↦ λ e. all
        | Some x ↦ λ e.
            let at = of_found c.id queues x e in
            let h = chain x e in
            each_inserted Chained c.queue (after_change owners c x) (entry_removed c.id queues)
            (changed_chained owners c x (fits ∙ sym (same_arrivals x.message.id c.id at.3)) h.0 h.1 (all at.0 x at.1 at.2))
            (each_removed Chained c.id queues all)
      ]) refl
  move_chained owners (PutQueue index d) queues fits chain all = each_put Chained index d queues all
  move_chained owners (DropQueue index) queues fits chain all = λ q x h k. all q x (of_removed queues (position_or_len (has_index index) queues) q h) k

  moves_chained : (moves : List SpaceMove) (s : IndexedSpace) → MovesFit moves s → ChainsFit site number chains new slots moves s → Each Chained s.queues
      → Each Chained (moved_by moves s).queues
  moves_chained [] s fit chain all = all
  moves_chained (move ∷ moves) s fit chain all =
      moves_chained moves (moved move s) fit.1 chain.1
      (move_chained (owner_in s.owners) move s.queues fit.0 chain.0 all)

  purge_chained : (ids : List MsgId) (s : IndexedSpace) → Each Chained s.queues → Each Chained (purged_of ids s).queues
  purge_chained [] s all = all
  purge_chained (id ∷ ids) s all = purge_chained ids (moved (Remove id) s) (each_removed Chained id s.queues all)

  pub plan_has_chains : (p : SpacePlan) (s : IndexedSpace) → AreOrdered s.queues
      → table_of arrival_cmp slot_arrival (says site number chains) slots ≡ Some (kept_in s)
      → MovesFit p.moves (purged_of p.purge s) → ChainsFit site number chains new slots p.moves (purged_of p.purge s)
      → HaveChains site number chains new slots p s
  unfolding Each Chained
  plan_has_chains p s ordered t fit chain a e named at =
      let first : Each Chained s.queues =
      λ q x h k lives. has_chain site number chains new slots (kept_in s) (arrival_of x.message.id) (record { queue = q.index; entry = freed x }) t
      (kept_there s ordered q x h k lives) in
      let all = moves_chained p.moves (purged_of p.purge s) fit chain (purge_chained p.purge s first) in
      let k = kept_from (space_after p s) a e at in
      subst (λ (d : Arrival × IndexedEntry). HasChain site number chains (first_of slots new d.0) d.1.entry) k.is
      (all k.queue k.entry k.of_space k.of_queue k.lives)
