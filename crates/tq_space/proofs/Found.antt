-- What is found on a shelf.
use Rattle.std.proofs.Common.{◌≡◌, ℕ, ◌+◌, ◌<◌, ◌==◌, Bool, true, List, [], ◌∷◌, map, length, get_or, refl, sym, ap, ◌∙◌, subst, arith, Option, Some, None, option_map, ltb}
use Rattle.std.specs.Prelude.{is_some}
use Rattle.std.specs.Str.{bytes_eq}
use Rattle.std.specs.List.{All, list_any, find, position, position_or_len, count_by}
use Rattle.std.proofs.lemmas.List.{get_or-map, length-map}
use Rattle.std.proofs.lemmas.List.Elements.{All-map}
use Rattle.std.proofs.lemmas.List.Sums.{sum_by-cons}
use Rattle.tq_types.specs.declared.messages.Entry.{Entry as HeldEntry}
use Rattle.tq_types.specs.declared.identifiers.MsgId.{MsgId}
use Rattle.tq_model.specs.Space.{Entry, has_id}
use Rattle.tq_model.specs.Moves.{IndexedQueue, entry_view, has_index, entry_with_id, indexed_holds, session_owners}
use Rattle.tq_space.specs.declared.shelf.HeldQueue.{HeldQueue}
use Rattle.tq_space.specs.Slots.{slot_entry, slot_at, entry_at, slot_test, IsPlainSlot}
use Rattle.tq_space.specs.Plain.{HasNoExpirations}
use Rattle.tq_space.specs.Shelf.{indexed_at, IsListed}
use Rattle.tq_space.specs.Reads.{indexed_named, HasDistinctIndices}
use Rattle.tq_model.proofs.Places.{position_or_len-map, position-found, position-none, list_any-place, some-cond, find-at, find-none}
use Rattle.tq_space.proofs.Keys.{hit, all_kept, place-entries, first_holding, entry_with_id-at}

-- tests of the queues that are seen, and of those that are kept, with one first place
any_seen : (slots : List (Option HeldEntry)) (queues : List HeldQueue) (seen : IndexedQueue → Bool) (kept : HeldQueue → Bool)
    → position_or_len seen (map (indexed_at slots) queues) ≡ position_or_len kept queues → list_any seen (map (indexed_at slots) queues) ≡ is_some (position kept queues)
any_seen slots queues seen kept same =
    list_any-place seen (map (indexed_at slots) queues)
    ∙ (λ i. ltb (same i) (length-map queues (indexed_at slots) i))
    ∙ sym (some-cond (ltb (position_or_len kept queues) (length queues)) (position_or_len kept queues))

pub index_any : (slots : List (Option HeldEntry)) (queues : List HeldQueue) (index : ℕ)
    → list_any (has_index index) (map (indexed_at slots) queues) ≡ is_some (position (λ q. q.index == index) queues)
index_any slots queues index = any_seen slots queues (has_index index) (λ q. q.index == index) (position_or_len-map (indexed_at slots) (has_index index) queues)

pub id_any : (slots : List (Option HeldEntry)) (queues : List HeldQueue) → IsListed slots queues → (id : MsgId)
    → list_any (indexed_holds id) (map (indexed_at slots) queues) ≡ is_some (position (λ q. is_some (position (λ k. slot_test (has_id id) (slot_at slots k)) q.keys.items)) queues)
id_any slots queues listed id =
    any_seen slots queues (indexed_holds id) (λ q. is_some (position (λ k. slot_test (has_id id) (slot_at slots k)) q.keys.items)) (first_holding slots queues listed id)

pub named_none : (slots : List (Option HeldEntry)) (queues : List HeldQueue) (name : List ℕ) → position (λ q. bytes_eq q.def.name name) queues ≡ None
    → find (indexed_named name) (map (indexed_at slots) queues) ≡ None
named_none slots queues name none =
    let past = position-none (λ (q : HeldQueue). bytes_eq q.def.name name) queues none in
    find-none (indexed_named name) (map (indexed_at slots) queues)
    (omega (arith, position_or_len-map (indexed_at slots) (indexed_named name) queues, length-map queues (indexed_at slots)))

pub named_at : (slots : List (Option HeldEntry)) (queues : List HeldQueue) (name : List ℕ) (at : ℕ) (d : HeldQueue) → d ≡ get_or queues at d
    → position (λ q. bytes_eq q.def.name name) queues ≡ Some at → find (indexed_named name) (map (indexed_at slots) queues) ≡ Some (indexed_at slots d)
named_at slots queues name at d is_d found =
    let view = map (indexed_at slots) queues in
    let parts = position-found (λ (q : HeldQueue). bytes_eq q.def.name name) queues at found in
    let first : position_or_len (indexed_named name) view ≡ at = position_or_len-map (indexed_at slots) (indexed_named name) queues ∙ parts.0 in
    find-at (indexed_named name) (indexed_at slots d) view (omega (arith, first, parts.1, length-map queues (indexed_at slots)))
    ∙ ap (λ (n : ℕ). Some (get_or view n (indexed_at slots d))) first
    ∙ ap Some (get_or-map (indexed_at slots) queues at d (indexed_at slots d) parts.1 ∙ ap (indexed_at slots) (sym is_d))

count_map : {X Y : Type 0} (f : X → Y) (p : Y → Bool) (xs : List X) → count_by p (map f xs) ≡ count_by (λ x. p (f x)) xs
count_map f p [] = refl
count_map f p (x ∷ xs) =
    let here : count_by p (map f (x ∷ xs)) ≡ hit (p (f x)) + count_by p (map f xs) = sum_by-cons (λ y. hit (p y)) (f x) (map f xs) in
    let there : count_by (λ y. p (f y)) (x ∷ xs) ≡ hit (p (f x)) + count_by (λ y. p (f y)) xs = sum_by-cons (λ y. hit (p (f y))) x xs in
    let rest : count_by p (map f xs) ≡ count_by (λ y. p (f y)) xs = count_map f p xs in
    here ∙ ap (λ (n : ℕ). hit (p (f x)) + n) rest ∙ sym there

plain-lasts : (o : Option HeldEntry) → IsPlainSlot o → (slot_entry o).message.expiration ≡ None
plain-lasts None h = refl
plain-lasts (Some e) h = h.expiration

some-entry : (o : Option HeldEntry) → is_some o ≡ true → option_map (entry_view session_owners) o ≡ Some (slot_entry o)
some-entry None h = cc
some-entry (Some e) h = refl

module _ (slots : List (Option HeldEntry)) (queues : List HeldQueue) (listed : IsListed slots queues) where
  pub distinct_seen : HasDistinctIndices (map (indexed_at slots) queues)
  distinct_seen index =
      let same : count_by (has_index index) (map (indexed_at slots) queues) ≡ count_by (λ (q : HeldQueue). q.index == index) queues = count_map (indexed_at slots) (has_index index) queues in
      let most = listed.indices index in
      omega arith

  pub lasting_seen : HasNoExpirations (map (indexed_at slots) queues)
  lasting_seen =
      All-map (λ (q : IndexedQueue). All (λ (item : Entry). item.message.expiration ≡ None) q.queue.items) (indexed_at slots) queues
      (λ k d lt. All-map (λ (item : Entry). item.message.expiration ≡ None) (entry_at slots) (get_or queues k d).keys.items
      (λ j e inside. plain-lasts (slot_at slots (get_or (get_or queues k d).keys.items j e)) (listed.plain (get_or (get_or queues k d).keys.items j e))))

  module _ (test : Entry → Bool) (at : ℕ) (d : HeldQueue) (is_d : d ≡ get_or queues at d) (within : at < length queues) where
    kept : All (λ k. is_some (slot_at slots k) ≡ true) d.keys.items
    kept = subst (λ (q : HeldQueue). All (λ (k : ℕ). is_some (slot_at slots k) ≡ true) q.keys.items) (sym is_d) (all_kept slots queues listed at d within)

    pub answer_none : position (λ k. slot_test test (slot_at slots k)) d.keys.items ≡ None → find test (map (entry_at slots) d.keys.items) ≡ None
    answer_none none =
        let past = position-none (λ (k : ℕ). slot_test test (slot_at slots k)) d.keys.items none in
        find-none test (map (entry_at slots) d.keys.items) (omega (arith, place-entries slots test d.keys.items kept, length-map d.keys.items (entry_at slots)))

    pub answer_at : (place key : ℕ) → position (λ k. slot_test test (slot_at slots k)) d.keys.items ≡ Some place → key ≡ get_or d.keys.items place key
        → option_map (entry_view session_owners) (slot_at slots key) ≡ find test (map (entry_at slots) d.keys.items)
    answer_at place key found is_key =
        let items = map (entry_at slots) d.keys.items in
        let parts = position-found (λ (k : ℕ). slot_test test (slot_at slots k)) d.keys.items place found in
        let spot : position_or_len test items ≡ place = place-entries slots test d.keys.items kept ∙ parts.0 in
        let there : is_some (slot_at slots key) ≡ true = subst (λ (k : ℕ). is_some (slot_at slots k) ≡ true) (sym is_key) (kept place key parts.1) in
        some-entry (slot_at slots key) there
        ∙ sym (find-at test (entry_at slots key) items (omega (arith, spot, parts.1, length-map d.keys.items (entry_at slots)))
        ∙ ap (λ (n : ℕ). Some (get_or items n (entry_at slots key))) spot
        ∙ ap Some (get_or-map (entry_at slots) d.keys.items place key (entry_at slots key) parts.1 ∙ ap (entry_at slots) (sym is_key)))

  pub entry_at_id : (id : MsgId) (at : ℕ) (d : HeldQueue) → d ≡ get_or queues at d
      → position (λ (q : HeldQueue). is_some (position (λ k. slot_test (has_id id) (slot_at slots k)) q.keys.items)) queues ≡ Some at
      → (place key : ℕ) → position (λ k. slot_test (has_id id) (slot_at slots k)) d.keys.items ≡ Some place → key ≡ get_or d.keys.items place key
      → option_map (entry_view session_owners) (slot_at slots key) ≡ entry_with_id id (map (indexed_at slots) queues)
  entry_at_id id at d is_d holds place key found is_key =
      let view = map (indexed_at slots) queues in
      let parts = position-found (λ (x : HeldQueue). is_some (position (λ k. slot_test (has_id id) (slot_at slots k)) x.keys.items)) queues at holds in
      let first : position_or_len (indexed_holds id) view ≡ at = first_holding slots queues listed id ∙ parts.0 in
      let below : position_or_len (indexed_holds id) view < length view = omega (arith, first, parts.1, length-map queues (indexed_at slots)) in
      let at_view : get_or view (position_or_len (indexed_holds id) view) (indexed_at slots d) ≡ indexed_at slots d =
      ap (λ (n : ℕ). get_or view n (indexed_at slots d)) first ∙ get_or-map (indexed_at slots) queues at d (indexed_at slots d) parts.1 ∙ ap (indexed_at slots) (sym is_d) in
      answer_at (has_id id) at d is_d parts.1 place key found is_key
      ∙ sym (entry_with_id-at id (indexed_at slots d) view below ∙ ap (λ (x : IndexedQueue). find (has_id id) x.queue.items) at_view)
