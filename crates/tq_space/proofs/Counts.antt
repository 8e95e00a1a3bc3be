-- What the moves change in sums over all entries.
use Rattle.std.proofs.Common.{◌≡◌, ℕ, ◌+◌, ◌<◌, ◌||◌, Bool, true, false, cond, List, [], ◌∷◌, map, length, get_or, refl, sym, ap, ◌∙◌, subst, arith, Option, Some, None, ltb, ltb-true, ltb-false}
use Rattle.std.specs.Prelude.{is_some}
use Rattle.std.specs.List.{list_any, find, position_or_len, insert, remove, sum_by}
use Rattle.std.proofs.lemmas.List.{get_or-map, length-map}
use Rattle.std.proofs.lemmas.List.Edits.{length-insert, length-remove}
use Rattle.std.proofs.lemmas.List.Sums.{sum_by-cons, sum_by-insert, sum_by-remove}
use Rattle.tq_types.specs.declared.identifiers.MsgId.{MsgId}
use Rattle.tq_model.specs.declared.space.Change.{Change}
use Rattle.tq_model.specs.declared.space.QueueDef.{QueueDef}
use Rattle.tq_model.specs.Space.{Owner, Entry, Queue, change_first, has_id, holds_id, with_entry, without_entry, stands_before}
use Rattle.tq_model.specs.Moves.{IndexedQueue, the_queue, has_index, on_queue, entry_inserted, entry_removed, entry_replaced, entry_with_id, after_change, indexed_holds, queue_added, queue_dropped, queue_of, comes_before}
use Rattle.tq_model.specs.Room.{pages_of_entry, queue_pages}
use Rattle.tq_space.specs.Plain.{HasNoEntries}
use Rattle.tq_model.proofs.Places.{list_any-place, find-at, position_or_len-within, map-insert, map-remove}
use Rattle.tq_space.proofs.Places.{remove-past}

-- the sum of what each queue counts
abbrev pub total : (Queue → ℕ) → List IndexedQueue → ℕ
total g qs = sum_by g (map the_queue qs)

total-cons : (g : Queue → ℕ) (q : IndexedQueue) (qs : List IndexedQueue) → total g (q ∷ qs) ≡ g q.queue + total g qs
total-cons g q qs = sum_by-cons g q.queue (map the_queue qs)

-- an insert into a queue that is there
pub total_inserted : (g : Queue → ℕ) (n : ℕ) (item : Entry) → ((q : Queue) → g (with_entry item q) ≡ g q + n) → (index : ℕ) (qs : List IndexedQueue)
    → list_any (has_index index) qs ≡ true → total g (entry_inserted index item qs) ≡ total g qs + n
total_inserted g n item more index [] = λ h. cc
total_inserted g n item more index (q ∷ qs) =
    let before = total-cons g q qs in
    elim (has_index index q) as (λ b. b || list_any (has_index index) qs ≡ true
    → total g (cond b (record q { queue = with_entry item q.queue } ∷ qs) (q ∷ entry_inserted index item qs)) ≡ total g (q ∷ qs) + n) [
      | true ↦ λ h. let after = total-cons g (record q { queue = with_entry item q.queue }) qs in let one = more q.queue in omega arith
      | false ↦ λ h. let after = total-cons g q (entry_inserted index item qs) in let rest = total_inserted g n item more index qs h in omega arith
    ]

pub any-find : {X : Type 0} (p : X → Bool) (xs : List X) → list_any p xs ≡ is_some (find p xs)
any-find p [] = refl
any-find p (x ∷ xs) = elim (p x) as (λ b. b || list_any p xs ≡ is_some (cond b (Some x) (find p xs))) [ true ↦ refl | false ↦ any-find p xs ]

no-some : {X : Type 0} (o : Option X) → true ≡ is_some o → o ≡ None → ⊥
no-some None h e = cc
no-some (Some x) h e = cc

-- nothing has the identifier: nothing goes
pub removed_nothing : (id : MsgId) (qs : List IndexedQueue) → entry_with_id id qs ≡ None → entry_removed id qs ≡ qs
removed_nothing id [] = λ h. refl
removed_nothing id (q ∷ qs) =
    elim (holds_id id q.queue) as (λ b. b ≡ is_some (find (has_id id) q.queue.items) → cond b (find (has_id id) q.queue.items) (entry_with_id id qs) ≡ None
    → cond b (record q { queue = without_entry id q.queue } ∷ qs) (q ∷ entry_removed id qs) ≡ q ∷ qs) [
      | true ↦ λ some h. absurd (no-some (find (has_id id) q.queue.items) some h)
      | false ↦ λ some h. ap (λ (l : List IndexedQueue). q ∷ l) (removed_nothing id qs h)
    ] (any-find (has_id id) q.queue.items)

pub found-place : {X : Type 0} (p : X → Bool) (xs : List X) (x : X) → find p xs ≡ Some x → (position_or_len p xs < length xs) × (get_or xs (position_or_len p xs) x ≡ x)
found-place p xs x found =
    let any : list_any p xs ≡ true = any-find p xs ∙ ap is_some found in
    let below : position_or_len p xs < length xs = ltb-true (position_or_len p xs) (length xs) (sym (list_any-place p xs) ∙ any) in
    let same : Some (get_or xs (position_or_len p xs) x) ≡ Some x = sym (find-at p x xs below) ∙ found in
    (below, cc)

-- the entry of the identifier goes
pub total_removed : (g : Queue → ℕ) (w : Entry → ℕ) → ((q : Queue) (at : ℕ) (d : Entry) → at < length q.items → g (record q { items = remove q.items at }) + w (get_or q.items at d) ≡ g q)
    → (id : MsgId) (item : Entry) (qs : List IndexedQueue) → entry_with_id id qs ≡ Some item → total g (entry_removed id qs) + w item ≡ total g qs
total_removed g w less id item [] = λ h. cc
total_removed g w less id item (q ∷ qs) =
    let before = total-cons g q qs in
    elim (holds_id id q.queue) as (λ b. cond b (find (has_id id) q.queue.items) (entry_with_id id qs) ≡ Some item
    → total g (cond b (record q { queue = without_entry id q.queue } ∷ qs) (q ∷ entry_removed id qs)) + w item ≡ total g (q ∷ qs)) [
      | true ↦ λ h.
          let place = found-place (has_id id) q.queue.items item h in
          let after = total-cons g (record q { queue = without_entry id q.queue }) qs in
          let one = less q.queue (position_or_len (has_id id) q.queue.items) item place.0 in
          let this : w (get_or q.queue.items (position_or_len (has_id id) q.queue.items) item) ≡ w item = ap w place.1 in
          omega arith
      | false ↦ λ h. let after = total-cons g q (entry_removed id qs) in let rest = total_removed g w less id item qs h in omega arith
    ]

-- a queue without entries is added
pub total_added : (g : Queue → ℕ) (index : ℕ) (d : QueueDef) → g (queue_of d []) ≡ 0 → (qs : List IndexedQueue) → total g (queue_added index d qs) ≡ total g qs
total_added g index d none qs =
    let place = position_or_len (comes_before d.name) qs in
    let new : IndexedQueue = record { index = index; queue = queue_of d [] } in
    let all : total g (queue_added index d qs) ≡ sum_by g (insert (map the_queue qs) place (queue_of d [])) = ap (λ (l : List Queue). sum_by g l) (map-insert the_queue qs place new) in
    let sum = sum_by-insert g (map the_queue qs) place (queue_of d []) in
    omega arith

-- a queue changes and keeps what it counts
pub total_changed : (g : Queue → ℕ) (test : IndexedQueue → Bool) (f : Queue → Queue) → ((q : Queue) → g (f q) ≡ g q) → (qs : List IndexedQueue)
    → total g (change_first test (on_queue f) qs) ≡ total g qs
total_changed g test f same [] = refl
total_changed g test f same (q ∷ qs) =
    let before = total-cons g q qs in
    elim (test q) as (λ b. total g (cond b (on_queue f q ∷ qs) (q ∷ change_first test (on_queue f) qs)) ≡ total g (q ∷ qs)) [
      | true ↦ let after = total-cons g (on_queue f q) qs in let one = same q.queue in omega arith
      | false ↦ let after = total-cons g q (change_first test (on_queue f) qs) in let rest = total_changed g test f same qs in omega arith
    ]

-- a queue without entries goes
pub total_dropped : (g : Queue → ℕ) → ((q : Queue) → q.items ≡ [] → g q ≡ 0) → (index : ℕ) (qs : List IndexedQueue) → HasNoEntries (find (has_index index) qs)
    → total g (queue_dropped index qs) ≡ total g qs
total_dropped g none index [] = λ h. refl
total_dropped g none index (q ∷ rest) =
    let qs = q ∷ rest in
    let n = position_or_len (has_index index) qs in λ h.
    elim (ltb n (length qs)) as (λ b. ltb n (length qs) ≡ b → total g (remove qs n) ≡ total g qs) [
      | true ↦ λ e.
          let below : n < length qs = ltb-true n (length qs) e in
          let empty : (get_or qs n q).queue.items ≡ [] = subst HasNoEntries (find-at (has_index index) q qs below) h in
          let gone = sum_by-remove g (map the_queue qs) n q.queue (omega (arith, below, length-map qs the_queue)) in
          let this : g (get_or (map the_queue qs) n q.queue) ≡ 0 = ap g (get_or-map the_queue qs n q q.queue below) ∙ none (get_or qs n q).queue empty in
          let all : total g (remove qs n) ≡ sum_by g (remove (map the_queue qs) n) = ap (λ (l : List Queue). sum_by g l) (map-remove the_queue qs n) in
          omega arith
      | false ↦ λ e. ap (λ (l : List IndexedQueue). total g l) (remove-past qs n (ltb-false n (length qs) e))
    ] refl

-- a change of a queue keeps which indices are there
pub any_changed : (p test : IndexedQueue → Bool) (f : IndexedQueue → IndexedQueue) → ((q : IndexedQueue) → p (f q) ≡ p q) → (qs : List IndexedQueue)
    → list_any p (change_first test f qs) ≡ list_any p qs
any_changed p test f same [] = refl
any_changed p test f same (q ∷ qs) =
    elim (test q) as (λ b. list_any p (cond b (f q ∷ qs) (q ∷ change_first test f qs)) ≡ p q || list_any p qs) [
      | true ↦ ap (λ (b : Bool). b || list_any p qs) (same q)
      | false ↦ ap (λ (b : Bool). p q || b) (any_changed p test f same qs)
    ]

pub any_removed : (index : ℕ) (id : MsgId) (qs : List IndexedQueue) → list_any (has_index index) (entry_removed id qs) ≡ list_any (has_index index) qs
any_removed index id qs = any_changed (has_index index) (indexed_holds id) (on_queue (without_entry id)) (λ q. refl) qs

-- an entry goes and comes again, in a queue that is there
pub total_replaced : (owners : ℕ → Owner) (g : Queue → ℕ) (w : Entry → ℕ) → ((item : Entry) (q : Queue) → g (with_entry item q) ≡ g q + w item)
    → ((q : Queue) (at : ℕ) (d : Entry) → at < length q.items → g (record q { items = remove q.items at }) + w (get_or q.items at d) ≡ g q)
    → (c : Change) → ((item : Entry) → w (after_change owners c item) ≡ w item) → (qs : List IndexedQueue) → list_any (has_index c.queue) qs ≡ true
    → total g (entry_replaced owners c (entry_with_id c.id qs) qs) ≡ total g qs
total_replaced owners g w more less c same qs there =
    elim (entry_with_id c.id qs) as (λ o. entry_with_id c.id qs ≡ o → total g (entry_replaced owners c o qs) ≡ total g qs) [
      | None ↦ λ e. refl
      | Some item ↦ λ e.
          let gone = total_removed g w less c.id item qs e in
          let still : list_any (has_index c.queue) (entry_removed c.id qs) ≡ true = any_removed c.queue c.id qs ∙ there in
          let again = total_inserted g (w (after_change owners c item)) (after_change owners c item) (more (after_change owners c item)) c.queue (entry_removed c.id qs) still in
          let kept = same item in
          omega arith
    ] refl

-- the two sums

abbrev pub length_of : Queue → ℕ
length_of q = length q.items

pub length_more : (item : Entry) (q : Queue) → length_of (with_entry item q) ≡ length_of q + 1
length_more item q = length-insert q.items (position_or_len (stands_before q.order item) q.items) item (position_or_len-within (stands_before q.order item) q.items)

pub length_less : (q : Queue) (at : ℕ) (d : Entry) → at < length q.items → length_of (record q { items = remove q.items at }) + 1 ≡ length_of q
length_less q at d within = length-remove q.items at within

pub pages_more : (item : Entry) (q : Queue) → queue_pages (with_entry item q) ≡ queue_pages q + pages_of_entry item
pages_more item q = sum_by-insert pages_of_entry q.items (position_or_len (stands_before q.order item) q.items) item

pub pages_less : (q : Queue) (at : ℕ) (d : Entry) → at < length q.items → queue_pages (record q { items = remove q.items at }) + pages_of_entry (get_or q.items at d) ≡ queue_pages q
pages_less q at d within = sum_by-remove pages_of_entry q.items at d within
