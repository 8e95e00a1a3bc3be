-- What an insert leaves.
use Rattle.std.proofs.Common.{◌≡◌, ◌≢◌, ℕ, ◌+◌, ◌<◌, ◌==◌, List, map, length, get_or, set, sym, ap, ◌∙◌, subst, arith, Option, Some, None, eq-eqb}
use Rattle.std.specs.List.{position, position_or_len, insert, count_by}
use Rattle.std.proofs.lemmas.List.{map-set, get_or-map}
use Rattle.std.proofs.lemmas.List.Sums.{sum_by-insert, get_or-le-sum_by}
use Rattle.tq_types.specs.declared.messages.Entry.{Entry}
use Rattle.tq_model.specs.Space.{stands_before, with_entry}
use Rattle.tq_model.specs.Moves.{entry_view, queue_of, has_index, on_queue, entry_inserted, session_owners}
use Rattle.tq_space.specs.declared.shelf.HeldQueue.{HeldQueue}
use Rattle.tq_space.specs.Slots.{slot_entry, slot_at, entry_at, slot_test, slot_count, IsPlainSlot, label_before}
use Rattle.tq_space.specs.Plain.{IsPlainEntry}
use Rattle.tq_space.specs.Shelf.{indexed_at, key_count, IsListed}
use Rattle.tq_model.proofs.Places.{position_or_len-map, position-found, change_first-at, map-insert}
use Rattle.tq_space.proofs.Keys.{hit, all_kept, place-entries, frame_keys, frame, IsRekeyed, counted, same_indices, by_key}

module _ (slots slots' : List (Option Entry)) (queues : List HeldQueue) (listed : IsListed slots queues) (at : ℕ) (d : HeldQueue)
    (within : at < length queues) (q' : HeldQueue) (key place : ℕ) (e : Entry)
    (others : (other : ℕ) → other ≢ key → slot_at slots' other ≡ slot_at slots other)
    (vacant : slot_at slots key ≡ None) (stored : slot_at slots' key ≡ Some e)
    (keyed : IsRekeyed (get_or queues at d) q' (insert (get_or queues at d).keys.items place key)) (plain : IsPlainEntry e) where
  count_new : (k : ℕ) → key_count k (set queues at q') ≡ key_count k queues + hit (key == k)
  count_new k =
      let q = get_or queues at d in
      let whole = counted queues at d within q' k in
      let one : count_by (λ x. x == k) q'.keys.items ≡ count_by (λ x. x == k) q.keys.items + hit (key == k) =
      ap (λ (keys : List ℕ). count_by (λ x. x == k) keys) keyed.keys_are ∙ sum_by-insert (λ (x : ℕ). hit (x == k)) q.keys.items place key in
      omega arith

  none_yet : key_count key queues ≡ 0
  none_yet = listed.keys key ∙ ap slot_count vacant

  keys_new : (k : ℕ) → key_count k (set queues at q') ≡ slot_count (slot_at slots' k)
  keys_new k =
      by_key key k (key_count k (set queues at q') ≡ slot_count (slot_at slots' k))
      (λ same.
      let one : hit (key == k) ≡ 1 = ap hit (eq-eqb key k same) in
      let none : key_count k queues ≡ 0 = subst (λ (x : ℕ). key_count x queues ≡ 0) same none_yet in
      let there : slot_count (slot_at slots' k) ≡ 1 = ap (λ (x : ℕ). slot_count (slot_at slots' x)) (sym same) ∙ ap slot_count stored in
      let all = count_new k in
      omega arith)
      (λ differs no.
      let zero : hit (key == k) ≡ 0 = ap hit no in
      let there : slot_count (slot_at slots' k) ≡ slot_count (slot_at slots k) = ap slot_count (others k differs) in
      let before = listed.keys k in
      let all = count_new k in
      omega arith)

  plain_new : (k : ℕ) → IsPlainSlot (slot_at slots' k)
  plain_new k =
      by_key key k (IsPlainSlot (slot_at slots' k))
      (λ same. subst (λ (x : ℕ). IsPlainSlot (slot_at slots' x)) same (subst IsPlainSlot (sym stored) plain))
      (λ differs no. subst IsPlainSlot (sym (others k differs)) (listed.plain k))

  pub listed_new : IsListed slots' (set queues at q')
  listed_new = record {
    keys = keys_new;
    indices = λ index. let same = same_indices queues at d within q' keyed.index index in let before = listed.indices index in omega arith;
    plain = plain_new;
  }

  items_new : map (entry_at slots') q'.keys.items ≡ insert (map (entry_at slots) (get_or queues at d).keys.items) place (entry_view session_owners e)
  items_new =
      let keys = (get_or queues at d).keys.items in
      let bound = get_or-le-sum_by (λ (q : HeldQueue). count_by (λ x. x == key) q.keys.items) queues at d within in
      let none = none_yet in
      let same = frame_keys slots slots' key others keys (omega arith) in
      ap (λ (l : List ℕ). map (entry_at slots') l) keyed.keys_are ∙ map-insert (entry_at slots') keys place key
      ∙ λ i. insert (same i) place (slot_entry (stored i))

  seen_new : map (indexed_at slots') (set queues at q')
      ≡ set (map (indexed_at slots) queues) at (record { index = (get_or queues at d).index; queue = queue_of (get_or queues at d).def (insert (map (entry_at slots) (get_or queues at d).keys.items) place (entry_view session_owners e)) })
  seen_new =
      map-set (indexed_at slots') queues at q'
      ∙ λ i. set (frame slots slots' key others queues none_yet i) at (record { index = keyed.index i; queue = queue_of (keyed.def i) (items_new i) })

  pub inserted : (index : ℕ) → position (λ q. q.index == index) queues ≡ Some at
      → place ≡ position_or_len (λ k. slot_test (label_before (get_or queues at d).def.order e.label) (slot_at slots k)) (get_or queues at d).keys.items
      → map (indexed_at slots') (set queues at q') ≡ entry_inserted index (entry_view session_owners e) (map (indexed_at slots) queues)
  inserted index found is_place =
      let q = get_or queues at d in
      let view = map (indexed_at slots) queues in
      let first : position_or_len (has_index index) view ≡ at =
      position_or_len-map (indexed_at slots) (has_index index) queues ∙ (position-found (λ (x : HeldQueue). x.index == index) queues at found).0 in
      let there : get_or view at (indexed_at slots d) ≡ indexed_at slots q = get_or-map (indexed_at slots) queues at d (indexed_at slots d) within in
      let spot : place ≡ position_or_len (stands_before q.def.order (entry_view session_owners e)) (map (entry_at slots) q.keys.items) =
      is_place ∙ sym (place-entries slots (label_before q.def.order e.label) q.keys.items (all_kept slots queues listed at d within)) in
      seen_new
      ∙ (λ i. set view at (record { index = q.index; queue = queue_of q.def (insert (map (entry_at slots) q.keys.items) (spot i) (entry_view session_owners e)) }))
      ∙ (λ i. set view (sym first i) (on_queue (with_entry (entry_view session_owners e)) (sym there i)))
      ∙ ap (λ (n : ℕ). set view (position_or_len (has_index index) view) (on_queue (with_entry (entry_view session_owners e)) (get_or view n (indexed_at slots d)))) (sym first)
      ∙ sym (change_first-at (has_index index) (on_queue (with_entry (entry_view session_owners e))) (indexed_at slots d) view)
