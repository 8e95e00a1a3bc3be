-- What the calls of a shelf leave, in the form in which the code has it.
use Rattle.std.proofs.Common.{◌≡◌, ◌≢◌, ℕ, ◌+◌, ◌<◌, ◌≤◌, ◌==◌, Bool, true, List, [], ◌∷◌, map, length, get_or, set, take, drop, false, cond, ◌||◌, eq-eqb, refl, sym, ap, ◌∙◌, subst, arith, Option, Some, None, option_map, vec_len, vec_capacity}
use Rattle.std.specs.Prelude.{is_some}
use Rattle.std.specs.List.{list_any, position, position_or_len, insert, remove, sum, sum_by, count_by}
use Rattle.std.specs.Prelude.{OnSome, IfNone}
use Rattle.slab.specs.Slab.{Slab, slab_len}
use Rattle.std.proofs.lemmas.List.Elements.{All-set, All-append, All-take, All-drop, All-cons}
use Rattle.std.proofs.lemmas.List.{same_lists, get_or-map, length-map}
use Rattle.std.proofs.lemmas.List.Sums.{sum-map, sum_by-insert, sum_by-cons, passes_at_first}
use Rattle.tq_types.specs.declared.identifiers.MsgId.{MsgId}
use Rattle.tq_types.specs.declared.messages.Entry.{Entry}
use Rattle.tq_model.specs.Space.{has_id}
use Rattle.tq_model.specs.Moves.{entry_view, entry_inserted, entry_removed, entry_with_id, has_index, queue_of, queue_added, comes_before, session_owners}
use Rattle.tq_model.specs.declared.space.QueueDef.{QueueDef}
use Rattle.tq_space.specs.declared.shelf.HeldQueue.{HeldQueue}
use Rattle.tq_space.specs.Slots.{slot_at, slot_test, entry_at, label_before}
use Rattle.tq_space.specs.Plain.{IsPlainEntry}
use Rattle.tq_space.specs.Shelf.{indexed_at, IsListed}
use Rattle.tq_space.specs.Grown.{HasRoomIn, IsGrown, AreGrown}
use Rattle.tq_model.proofs.Places.{position-found, position_or_len-map, map-insert}
use Rattle.tq_space.proofs.Keys.{IsRekeyed, hit, by_key}
use Rattle.tq_space.proofs.Inserted as inserts
use Rattle.tq_space.proofs.Removed as removals

pub room_less : (n m : ℕ) (queues : List HeldQueue) → m ≤ n → HasRoomIn n queues → HasRoomIn m queues
room_less n m queues less room = λ k d lt. let here = room k d lt in omega arith

pub room_set : (n : ℕ) (queues : List HeldQueue) (at : ℕ) (q : HeldQueue) → vec_len q.keys + n ≤ vec_capacity q.keys → HasRoomIn n queues → HasRoomIn n (set queues at q)
room_set n queues at q here room = All-set (λ (x : HeldQueue). vec_len x.keys + n ≤ vec_capacity x.keys) queues at q here room

pub room_at : (n : ℕ) (queues : List HeldQueue) (at : ℕ) (d : HeldQueue) → d ≡ get_or queues at d → at < length queues → HasRoomIn n queues → vec_len d.keys + n ≤ vec_capacity d.keys
room_at n queues at d is_d within room = subst (λ (x : HeldQueue). vec_len x.keys + n ≤ vec_capacity x.keys) (sym is_d) (room at d within)

module _ (slots slots' : List (Option Entry)) (queues : List HeldQueue) (listed : IsListed slots queues) (at : ℕ) (d : HeldQueue)
    (is_d : d ≡ get_or queues at d) (q' : HeldQueue) (key place : ℕ) (e : Entry)
    (others : (other : ℕ) → other ≢ key → slot_at slots' other ≡ slot_at slots other)
    (vacant : slot_at slots key ≡ None) (stored : slot_at slots' key ≡ Some e)
    (keyed : IsRekeyed d q' (insert d.keys.items place key)) (plain : IsPlainEntry e)
    (found : position (λ q. q.index == e.queue) queues ≡ Some at)
    (is_place : place ≡ position_or_len (λ k. slot_test (label_before d.def.order e.label) (slot_at slots k)) d.keys.items) where
  within : at < length queues
  within = (position-found (λ (q : HeldQueue). q.index == e.queue) queues at found).1

  keyed_there : IsRekeyed (get_or queues at d) q' (insert (get_or queues at d).keys.items place key)
  keyed_there = subst (λ (x : HeldQueue). IsRekeyed x q' (insert x.keys.items place key)) is_d keyed

  pub inserted_listed : IsListed slots' (set queues at q')
  inserted_listed = inserts.listed_new slots slots' queues listed at d within q' key place e others vacant stored keyed_there plain

  pub inserted_seen : map (indexed_at slots') (set queues at q') ≡ entry_inserted e.queue (entry_view session_owners e) (map (indexed_at slots) queues)
  inserted_seen =
      inserts.inserted slots slots' queues listed at d within q' key place e others vacant stored keyed_there plain e.queue found
      (subst (λ (x : HeldQueue). place ≡ position_or_len (λ k. slot_test (label_before x.def.order e.label) (slot_at slots k)) x.keys.items) is_d is_place)

module _ (slots slots' : List (Option Entry)) (queues : List HeldQueue) (listed : IsListed slots queues) (at : ℕ) (d : HeldQueue)
    (is_d : d ≡ get_or queues at d) (q' : HeldQueue) (place key : ℕ) (is_key : key ≡ get_or d.keys.items place key) (id : MsgId)
    (others : (other : ℕ) → other ≢ key → slot_at slots' other ≡ slot_at slots other) (gone : slot_at slots' key ≡ None)
    (keyed : IsRekeyed d q' (remove d.keys.items place))
    (holds : position (λ (q : HeldQueue). is_some (position (λ k. slot_test (has_id id) (slot_at slots k)) q.keys.items)) queues ≡ Some at)
    (found : position (λ k. slot_test (has_id id) (slot_at slots k)) d.keys.items ≡ Some place) where
  within' : at < length queues
  within' = (position-found (λ (q : HeldQueue). is_some (position (λ k. slot_test (has_id id) (slot_at slots k)) q.keys.items)) queues at holds).1

  keyed_there' : IsRekeyed (get_or queues at d) q' (remove (get_or queues at d).keys.items place)
  keyed_there' = subst (λ (x : HeldQueue). IsRekeyed x q' (remove x.keys.items place)) is_d keyed

  found_there : position (λ k. slot_test (has_id id) (slot_at slots k)) (get_or queues at d).keys.items ≡ Some place
  found_there = subst (λ (x : HeldQueue). position (λ k. slot_test (has_id id) (slot_at slots k)) x.keys.items ≡ Some place) is_d found

  inside : place < length (get_or queues at d).keys.items
  inside = (position-found (λ (k : ℕ). slot_test (has_id id) (slot_at slots k)) (get_or queues at d).keys.items place found_there).1

  key_there : key ≡ get_or (get_or queues at d).keys.items place key
  key_there = subst (λ (x : HeldQueue). key ≡ get_or x.keys.items place key) is_d is_key

  pub removed_listed : IsListed slots' (set queues at q')
  removed_listed = removals.listed_new slots slots' queues listed at d within' q' place inside key key_there others gone keyed_there'

  pub removed_seen : map (indexed_at slots') (set queues at q') ≡ entry_removed id (map (indexed_at slots) queues)
  removed_seen = removals.removed slots slots' queues listed at d within' q' place inside key key_there others gone keyed_there' id holds found_there

  pub removed_entry : option_map (entry_view session_owners) (slot_at slots key) ≡ entry_with_id id (map (indexed_at slots) queues)
  removed_entry = removals.taken slots slots' queues listed at d within' q' place inside key key_there others gone keyed_there' id holds found_there

pub position-passes : {X : Type 0} (test : X → Bool) (xs : List X) (at : ℕ) (d : X) → position test xs ≡ Some at → test (get_or xs at d) ≡ true
position-passes test xs at d found =
    let parts = position-found test xs at found in
    let below : position_or_len test xs < length xs = omega (arith, parts.0, parts.1) in
    subst (λ (n : ℕ). test (get_or xs n d) ≡ true) parts.0 (passes_at_first test xs d below)

pub slab_less : (r : Option Entry) (old new : Slab Entry) → OnSome r (slab_len new + 1 ≡ slab_len old) → IfNone r (new ≡ old) → slab_len new ≤ slab_len old
slab_less None old new some none = let same : slab_len new ≡ slab_len old = ap slab_len none in omega arith
slab_less (Some e) old new some none = omega arith

-- ---- queues that got more room

some_first : {X : Type 0} (xs : List X) (k : ℕ) → k < length xs → (P : Type 0) → (X → P) → P
some_first [] k lt P f = absurd (omega arith)
some_first (x ∷ xs) k lt P f = f x

module _ (a b : List HeldQueue) (grown : AreGrown a b) where
  map_grown : {Y : Type 0} (f : HeldQueue → Y) → ((q q' : HeldQueue) → IsGrown q q' → f q ≡ f q') → map f a ≡ map f b
  map_grown f same =
      same_lists (map f a) (map f b) (length-map a f ∙ sym grown.long ∙ sym (length-map b f))
      (λ k d lt.
      let below : k < length a = omega (arith, length-map a f) in
      let below' : k < length b = omega (arith, grown.long) in
      some_first a k below (get_or (map f a) k d ≡ get_or (map f b) k d)
      (λ x. get_or-map f a k x d below ∙ same (get_or a k x) (get_or b k x) (grown.each k x below) ∙ sym (get_or-map f b k x d below')))

  sum_grown : (f : HeldQueue → ℕ) → ((q q' : HeldQueue) → IsGrown q q' → f q ≡ f q') → sum_by f a ≡ sum_by f b
  sum_grown f same = sym (sum-map f a) ∙ ap sum (map_grown f same) ∙ sum-map f b

  pub seen_grown : (slots : List (Option Entry)) → map (indexed_at slots) b ≡ map (indexed_at slots) a
  seen_grown slots =
      sym (map_grown (indexed_at slots) (λ q q' g i. record { index = sym g.index i; queue = queue_of (sym g.def i) (map (entry_at slots) (sym g.keys_are i)) }))

  pub listed_grown : (slots : List (Option Entry)) → IsListed slots a → IsListed slots b
  listed_grown slots listed = record {
    keys = λ key. sym (sum_grown (λ (q : HeldQueue). count_by (λ k. k == key) q.keys.items) (λ q q' g. ap (λ (l : List ℕ). count_by (λ k. k == key) l) (sym g.keys_are))) ∙ listed.keys key;
    indices = λ index.
        let same = sum_grown (λ (q : HeldQueue). hit (q.index == index)) (λ q q' g. ap (λ (n : ℕ). hit (n == index)) (sym g.index)) in
        let before = listed.indices index in
        omega arith;
    plain = listed.plain;
  }

  pub room_grown : (n : ℕ) → HasRoomIn n a → HasRoomIn n b
  room_grown n room = λ k d lt.
      let below : k < length a = omega (arith, grown.long) in
      let g = grown.each k d below in
      let here = room k d below in
      omega (arith, g.len, g.room)

-- ---- a queue that is added

count_none : {X : Type 0} (p : X → Bool) (xs : List X) → list_any p xs ≡ false → count_by p xs ≡ 0
count_none p [] = λ h. refl
count_none p (x ∷ xs) =
    let sum : count_by p (x ∷ xs) ≡ hit (p x) + count_by p xs = sum_by-cons (λ y. cond (p y) 1 0) x xs in
    elim (p x) as (λ b. count_by p (x ∷ xs) ≡ hit b + count_by p xs → b || list_any p xs ≡ false → count_by p (x ∷ xs) ≡ 0) [
      | true ↦ λ s h. cc
      | false ↦ λ s h. let rest = count_none p xs h in omega arith
    ] sum

any_map : {X Y : Type 0} (f : X → Y) (p : Y → Bool) (xs : List X) → list_any p (map f xs) ≡ list_any (λ x. p (f x)) xs
any_map f p [] = refl
any_map f p (x ∷ xs) = ap (λ b. p (f x) || b) (any_map f p xs)

module _ (slots : List (Option Entry)) (queues : List HeldQueue) (listed : IsListed slots queues) (index : ℕ) (d : QueueDef) (q : HeldQueue) (place : ℕ)
    (is_index : q.index ≡ index) (is_def : q.def ≡ d) (is_empty : q.keys.items ≡ [])
    (new : list_any (has_index index) (map (indexed_at slots) queues) ≡ false) where
  pub added_listed : IsListed slots (insert queues place q)
  added_listed = record {
    keys = λ key.
        let one = sum_by-insert (λ (x : HeldQueue). count_by (λ k. k == key) x.keys.items) queues place q in
        let none : count_by (λ k. k == key) q.keys.items ≡ 0 = ap (λ (l : List ℕ). count_by (λ k. k == key) l) is_empty in
        let before = listed.keys key in
        omega arith;
    indices = λ i.
        let one = sum_by-insert (λ (x : HeldQueue). hit (x.index == i)) queues place q in
        let before = listed.indices i in
        let here : hit (q.index == i) ≡ hit (index == i) = ap (λ (n : ℕ). hit (n == i)) is_index in
        by_key index i (count_by (λ x. x.index == i) (insert queues place q) ≤ 1)
        (λ same.
        let yes : hit (index == i) ≡ 1 = ap hit (eq-eqb index i same) in
        let no : count_by (λ (x : HeldQueue). x.index == index) queues ≡ 0 = count_none (λ (x : HeldQueue). x.index == index) queues (sym (any_map (indexed_at slots) (has_index index) queues) ∙ new) in
        let none : count_by (λ (x : HeldQueue). x.index == i) queues ≡ 0 = subst (λ (n : ℕ). count_by (λ (x : HeldQueue). x.index == n) queues ≡ 0) same no in
        omega arith)
        (λ differs not_equal.
        let zero : hit (index == i) ≡ 0 = ap hit not_equal in
        omega arith);
    plain = listed.plain;
  }

  pub added_seen : place ≡ position_or_len (λ (x : HeldQueue). comes_before d.name (indexed_at slots x)) queues
      → map (indexed_at slots) (insert queues place q) ≡ queue_added index d (map (indexed_at slots) queues)
  added_seen is_place =
      map-insert (indexed_at slots) queues place q
      ∙ λ i. insert (map (indexed_at slots) queues) ((is_place ∙ sym (position_or_len-map (indexed_at slots) (comes_before d.name) queues)) i)
      (record { index = is_index i; queue = queue_of (is_def i) (map (entry_at slots) (is_empty i)) })

pub room_added : (queues : List HeldQueue) (place n m : ℕ) (q : HeldQueue) → m ≤ n → HasRoomIn n queues → vec_len q.keys + m ≤ vec_capacity q.keys → HasRoomIn m (insert queues place q)
room_added queues place n m q less room here =
    let P : HeldQueue → Type 0 = λ (x : HeldQueue). vec_len x.keys + m ≤ vec_capacity x.keys in
    let all : HasRoomIn m queues = room_less n m queues less room in
    All-append P (take place queues) (q ∷ drop place queues) (All-take P place queues all)
    (All-cons P q (drop place queues) here (All-drop P place queues all))
