-- What a removal leaves.
use Rattle.std.proofs.Common.{◌≡◌, ◌≢◌, ℕ, ◌+◌, ◌<◌, ◌==◌, true, List, map, length, get_or, set, refl, sym, ap, ◌∙◌, subst, arith, Option, Some, None, eq-eqb, option_map}
use Rattle.std.specs.Prelude.{is_some}
use Rattle.std.specs.List.{find, position, position_or_len, remove, count_by}
use Rattle.std.proofs.lemmas.List.{map-set, get_or-map, length-map}
use Rattle.std.proofs.lemmas.List.Sums.{sum_by-remove}
use Rattle.tq_types.specs.declared.identifiers.MsgId.{MsgId}
use Rattle.tq_types.specs.declared.messages.Entry.{Entry}
use Rattle.tq_model.specs.Space.{has_id, without_entry}
use Rattle.tq_model.specs.Moves.{IndexedQueue, entry_view, queue_of, on_queue, entry_removed, indexed_holds, entry_with_id, session_owners}
use Rattle.tq_space.specs.declared.shelf.HeldQueue.{HeldQueue}
use Rattle.tq_space.specs.Slots.{slot_entry, slot_at, entry_at, slot_test, slot_count, IsPlainSlot}
use Rattle.tq_space.specs.Shelf.{indexed_at, key_count, IsListed}
use Rattle.tq_model.proofs.Places.{position-found, change_first-at, map-remove, find-at}
use Rattle.tq_space.proofs.Keys.{hit, all_kept, place-entries, first_holding, entry_with_id-at, frame, IsRekeyed, counted, same_indices, by_key, count-most}

module _ (slots slots' : List (Option Entry)) (queues : List HeldQueue) (listed : IsListed slots queues) (at : ℕ) (d : HeldQueue)
    (within : at < length queues) (q' : HeldQueue) (place : ℕ) (inside : place < length (get_or queues at d).keys.items)
    (key : ℕ) (is_key : key ≡ get_or (get_or queues at d).keys.items place key)
    (others : (other : ℕ) → other ≢ key → slot_at slots' other ≡ slot_at slots other) (gone : slot_at slots' key ≡ None)
    (keyed : IsRekeyed (get_or queues at d) q' (remove (get_or queues at d).keys.items place)) where
  count_new : (k : ℕ) → key_count k (set queues at q') + hit (key == k) ≡ key_count k queues
  count_new k =
      let q = get_or queues at d in
      let whole = counted queues at d within q' k in
      let less = sum_by-remove (λ (x : ℕ). hit (x == k)) q.keys.items place key inside in
      let one : hit (get_or q.keys.items place key == k) ≡ hit (key == k) = ap (λ (x : ℕ). hit (x == k)) (sym is_key) in
      let these : count_by (λ x. x == k) q'.keys.items ≡ count_by (λ x. x == k) (remove q.keys.items place) = ap (λ (keys : List ℕ). count_by (λ x. x == k) keys) keyed.keys_are in
      omega arith

  keys_new : (k : ℕ) → key_count k (set queues at q') ≡ slot_count (slot_at slots' k)
  keys_new k =
      by_key key k (key_count k (set queues at q') ≡ slot_count (slot_at slots' k))
      (λ same.
      let one : hit (key == k) ≡ 1 = ap hit (eq-eqb key k same) in
      let most = count-most (slot_at slots k) in
      let before = listed.keys k in
      let there : slot_count (slot_at slots' k) ≡ 0 = ap (λ (x : ℕ). slot_count (slot_at slots' x)) (sym same) ∙ ap slot_count gone in
      let all = count_new k in
      omega arith)
      (λ differs no.
      let zero : hit (key == k) ≡ 0 = ap hit no in
      let there : slot_count (slot_at slots' k) ≡ slot_count (slot_at slots k) = ap slot_count (others k differs) in
      let before = listed.keys k in
      let all = count_new k in
      omega arith)

  plain_new : (k : ℕ) → IsPlainSlot (slot_at slots' k)
  plain_new k =
      by_key key k (IsPlainSlot (slot_at slots' k))
      (λ same. subst (λ (x : ℕ). IsPlainSlot (slot_at slots' x)) same (subst IsPlainSlot (sym gone) tt))
      (λ differs no. subst IsPlainSlot (sym (others k differs)) (listed.plain k))

  pub listed_new : IsListed slots' (set queues at q')
  listed_new = record {
    keys = keys_new;
    indices = λ index. let same = same_indices queues at d within q' keyed.index index in let before = listed.indices index in omega arith;
    plain = plain_new;
  }

  seen_new : map (indexed_at slots') (set queues at q')
      ≡ set (map (indexed_at slots) queues) at (record { index = (get_or queues at d).index; queue = queue_of (get_or queues at d).def (remove (map (entry_at slots) (get_or queues at d).keys.items) place) })
  seen_new =
      let q = get_or queues at d in
      let none : key_count key (set queues at q') ≡ 0 = keys_new key ∙ ap slot_count gone in
      let items : map (entry_at slots) q'.keys.items ≡ remove (map (entry_at slots) q.keys.items) place =
      ap (λ (l : List ℕ). map (entry_at slots) l) keyed.keys_are ∙ map-remove (entry_at slots) q.keys.items place in
      frame slots slots' key others (set queues at q') none ∙ map-set (indexed_at slots) queues at q'
      ∙ λ i. set (map (indexed_at slots) queues) at (record { index = keyed.index i; queue = queue_of (keyed.def i) (items i) })

  pub removed : (id : MsgId)
      → position (λ (q : HeldQueue). is_some (position (λ k. slot_test (has_id id) (slot_at slots k)) q.keys.items)) queues ≡ Some at
      → position (λ k. slot_test (has_id id) (slot_at slots k)) (get_or queues at d).keys.items ≡ Some place
      → map (indexed_at slots') (set queues at q') ≡ entry_removed id (map (indexed_at slots) queues)
  removed id holds found =
      let q = get_or queues at d in
      let view = map (indexed_at slots) queues in
      let items = map (entry_at slots) q.keys.items in
      let first : position_or_len (indexed_holds id) view ≡ at =
      first_holding slots queues listed id
      ∙ (position-found (λ (x : HeldQueue). is_some (position (λ k. slot_test (has_id id) (slot_at slots k)) x.keys.items)) queues at holds).0 in
      let there : get_or view at (indexed_at slots d) ≡ indexed_at slots q = get_or-map (indexed_at slots) queues at d (indexed_at slots d) within in
      let spot : place ≡ position_or_len (has_id id) items =
      sym (position-found (λ (k : ℕ). slot_test (has_id id) (slot_at slots k)) q.keys.items place found).0
      ∙ sym (place-entries slots (has_id id) q.keys.items (all_kept slots queues listed at d within)) in
      seen_new
      ∙ (λ i. set view at (record { index = q.index; queue = queue_of q.def (remove items (spot i)) }))
      ∙ (λ i. set view (sym first i) (on_queue (without_entry id) (sym there i)))
      ∙ ap (λ (n : ℕ). set view (position_or_len (indexed_holds id) view) (on_queue (without_entry id) (get_or view n (indexed_at slots d)))) (sym first)
      ∙ sym (change_first-at (indexed_holds id) (on_queue (without_entry id)) (indexed_at slots d) view)

  some-entry : (o : Option Entry) → is_some o ≡ true → option_map (entry_view session_owners) o ≡ Some (slot_entry o)
  some-entry None h = cc
  some-entry (Some e) h = refl

  pub taken : (id : MsgId)
      → position (λ (q : HeldQueue). is_some (position (λ k. slot_test (has_id id) (slot_at slots k)) q.keys.items)) queues ≡ Some at
      → position (λ k. slot_test (has_id id) (slot_at slots k)) (get_or queues at d).keys.items ≡ Some place
      → option_map (entry_view session_owners) (slot_at slots key) ≡ entry_with_id id (map (indexed_at slots) queues)
  taken id holds found =
      let q = get_or queues at d in
      let view = map (indexed_at slots) queues in
      let items = map (entry_at slots) q.keys.items in
      let kept = all_kept slots queues listed at d within in
      let there : is_some (slot_at slots key) ≡ true = subst (λ (k : ℕ). is_some (slot_at slots k) ≡ true) (sym is_key) (kept place key inside) in
      let first : position_or_len (indexed_holds id) view ≡ at =
      first_holding slots queues listed id
      ∙ (position-found (λ (x : HeldQueue). is_some (position (λ k. slot_test (has_id id) (slot_at slots k)) x.keys.items)) queues at holds).0 in
      let below : position_or_len (indexed_holds id) view < length view = omega (arith, first, within, length-map queues (indexed_at slots)) in
      let at_view : get_or view (position_or_len (indexed_holds id) view) (indexed_at slots d) ≡ indexed_at slots q =
      ap (λ (n : ℕ). get_or view n (indexed_at slots d)) first ∙ get_or-map (indexed_at slots) queues at d (indexed_at slots d) within in
      let spot : position_or_len (has_id id) items ≡ place =
      place-entries slots (has_id id) q.keys.items kept ∙ (position-found (λ (k : ℕ). slot_test (has_id id) (slot_at slots k)) q.keys.items place found).0 in
      let in_items : position_or_len (has_id id) items < length items = omega (arith, spot, inside, length-map q.keys.items (entry_at slots)) in
      let item : get_or items place (entry_at slots key) ≡ entry_at slots key =
      get_or-map (entry_at slots) q.keys.items place key (entry_at slots key) inside ∙ ap (entry_at slots) (sym is_key) in
      some-entry (slot_at slots key) there
      ∙ sym (entry_with_id-at id (indexed_at slots d) view below
      ∙ ap (λ (x : IndexedQueue). find (has_id id) x.queue.items) at_view
      ∙ find-at (has_id id) (entry_at slots key) items in_items
      ∙ ap (λ (n : ℕ). Some (get_or items n (entry_at slots key))) spot
      ∙ ap Some item)
