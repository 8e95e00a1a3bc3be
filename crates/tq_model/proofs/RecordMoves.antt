-- What the move of a record keeps of a space.
use Rattle.std.proofs.Common.{◌≡◌, ◌<◌, ◌≤◌, inl, inr, ⊎_elim, ℕ, suc, ◌+◌, ◌==◌, ◌&&◌, Bool, true, false, cond, not, List, [], ◌∷◌, map, length, take, drop, refl, sym, ap, ◌∙◌, subst, arith, eqb-true, ne_eqb}
use Rattle.std.specs.List.{All, list_any, filter, insert, remove, position_or_len, sum_by, count_by}
use Rattle.std.proofs.lemmas.Bool.{cond_both, and_left, and_right, or_parts, cases_Bool, cond-false}
use Rattle.std.proofs.lemmas.List.{length-map}
use Rattle.std.proofs.lemmas.List.Elements.{All-nil, All-head, All-tail, All-cons, All-append, All-take, All-drop, All-weaker, All-map}
use Rattle.std.proofs.lemmas.List.Folds.{list_any_none, map_fixed}
use Rattle.std.proofs.lemmas.List.Sums.{sum_by-cons, sum_by-insert}
use Rattle.tq_types.specs.declared.identifiers.Arrival.{Arrival}
use Rattle.tq_types.specs.declared.identifiers.MsgId.{MsgId}
use Rattle.tq_model.specs.declared.space.QueueDef.{QueueDef}
use Rattle.tq_model.specs.declared.space.SpaceMove.TheVariants.{PutQueue}
use Rattle.tq_model.specs.declared.record.SpaceRecord.{SpaceRecord}
use Rattle.tq_model.specs.declared.record.SpaceRecord.TheVariants.{Added, Gone, QueueMade}
use Rattle.tq_model.specs.Space.{is_persistent, is_adding, Entry, Queue, change_first, same_id, has_id, is_named, stands_before, with_entry, without_entry, comes_after, outlives, freed, crashed_queue, crashed}
use Rattle.tq_model.specs.Moves.{IndexedQueue, IndexedSpace, the_queue, space_of, owner_in, entry_view, queue_of, has_index, on_queue, indexed_holds, comes_before, queue_put, moved}
use Rattle.tq_model.specs.SpaceForm.{id_in, plain_entry, default_queue, move_of, holds_arrival, holds_name}
use Rattle.tq_model.specs.Plain.{SurvivesCrash, HasOnlySurvivors, KeepsAllAtCrash, AllEntries, AllIds, HasEpochs, IsBefore, IsNewer}
use Rattle.tq_model.specs.Step.{has_queue, with_queue}
use Rattle.tq_model.proofs.Places.{map-insert, position_or_len-map}
use Rattle.tq_model.proofs.Maps.{list_any-map}

-- ---- lists

pub All-change_first : {X : Type 0} (P : X → Type 0) (test : X → Bool) (change : X → X) → ((x : X) → P x → P (change x)) → (xs : List X) → All P xs → All P (change_first test change xs)
All-change_first P test change keeps [] all = All-nil P
All-change_first P test change keeps (x ∷ xs) all =
    let first = All-head P x xs all in
    let rest = All-tail P x xs all in
    let further = All-cons P x (change_first test change xs) first (All-change_first P test change keeps xs rest) in
    cond_both (test x) (change x ∷ xs) (x ∷ change_first test change xs) (All P) (λ yes. All-cons P (change x) xs (keeps x first) rest) (λ no. further)

pub All-insert : {X : Type 0} (P : X → Type 0) (xs : List X) (at : ℕ) (x : X) → P x → All P xs → All P (insert xs at x)
All-insert P xs at x here all = All-append P (take at xs) (x ∷ drop at xs) (All-take P at xs all) (All-cons P x (drop at xs) here (All-drop P at xs all))

pub All-remove : {X : Type 0} (P : X → Type 0) (xs : List X) (at : ℕ) → All P xs → All P (remove xs at)
All-remove P xs at all = All-append P (take at xs) (drop (suc at) xs) (All-take P at xs all) (All-drop P (suc at) xs all)

filter_all : {X : Type 0} (test : X → Bool) (xs : List X) → All (λ x. test x ≡ true) xs → filter test xs ≡ xs
filter_all test [] all = refl
filter_all test (x ∷ xs) all =
    λ i. cond (All-head (λ y. test y ≡ true) x xs all i) (x ∷ filter_all test xs (All-tail (λ y. test y ≡ true) x xs all) i) (filter test xs)

pub sum_by-change_first : {X : Type 0} (f : X → ℕ) (test : X → Bool) (change : X → X) → ((x : X) → f (change x) ≡ f x) → (xs : List X) → sum_by f (change_first test change xs) ≡ sum_by f xs
sum_by-change_first f test change same [] = refl
sum_by-change_first f test change same (x ∷ xs) =
    let rest = sum_by-change_first f test change same xs in
    let kept : sum_by f (x ∷ change_first test change xs) ≡ sum_by f (x ∷ xs) =
    sum_by-cons f x (change_first test change xs) ∙ ap (λ (n : ℕ). f x + n) rest ∙ sym (sum_by-cons f x xs) in
    let changed : sum_by f (change x ∷ xs) ≡ sum_by f (x ∷ xs) =
    sum_by-cons f (change x) xs ∙ ap (λ (n : ℕ). n + sum_by f xs) (same x) ∙ sym (sum_by-cons f x xs) in
    cond_both (test x) (change x ∷ xs) (x ∷ change_first test change xs) (λ ys. sum_by f ys ≡ sum_by f (x ∷ xs)) (λ yes. changed) (λ no. kept)

pub count_by-none : {X : Type 0} (test : X → Bool) (xs : List X) → list_any test xs ≡ false → count_by test xs ≡ 0
count_by-none test [] none = refl
count_by-none test (x ∷ xs) none =
    let parts = or_parts (test x) (list_any test xs) none in
    sum_by-cons (λ y. cond (test y) 1 0) x xs ∙ (λ i. cond (parts.0 i) 1 0 + count_by-none test xs parts.1 i)

-- ---- one move

-- the queue of that index, made or changed
All-put : (P : IndexedQueue → Type 0) (index : ℕ) (d : QueueDef) (queues : List IndexedQueue)
    → ((q : IndexedQueue) → P q → P (on_queue (λ queue. queue_of d queue.items) q)) → P (record { index = index; queue = queue_of d [] })
    → All P queues → All P (queue_put index d queues)
All-put P index d queues keeps new all =
    let made : IndexedQueue = record { index = index; queue = queue_of d [] } in
    let changed = change_first (has_index index) (on_queue (λ queue. queue_of d queue.items)) queues in
    let at = position_or_len (comes_before d.name) queues in
    cond_both (list_any (has_index index) queues) changed (insert queues at made) (All P)
    (λ yes. All-change_first P (has_index index) (on_queue (λ queue. queue_of d queue.items)) keeps queues all) (λ no. All-insert P queues at made new all)

-- ---- plain spaces

-- Each record leaves a plain space plain.
pub moved_plain : (t : IndexedSpace) (r : SpaceRecord) → KeepsAllAtCrash t → KeepsAllAtCrash (moved (move_of t r) t)
moved_plain t (Added queue arrival body) plain =
    let item = entry_view (owner_in t.owners) (plain_entry queue arrival (id_in t arrival) body) in
    All-change_first HasOnlySurvivors (has_index queue) (on_queue (with_entry item))
    (λ q is. record {
      qos = is.qos;
      items = All-insert SurvivesCrash q.queue.items (position_or_len (stands_before q.queue.order item) q.queue.items) item (record { free = refl; persistent = refl }) is.items;
    })
    t.queues plain
moved_plain t (Gone arrival) plain =
    let id = id_in t arrival in
    All-change_first HasOnlySurvivors (indexed_holds id) (on_queue (without_entry id))
    (λ q is. record { qos = is.qos; items = All-remove SurvivesCrash q.queue.items (position_or_len (has_id id) q.queue.items) is.items })
    t.queues plain
moved_plain t (QueueMade index name) plain =
    All-put HasOnlySurvivors index (default_queue name) t.queues (λ q is. record { qos = refl; items = is.items }) (record { qos = refl; items = All-nil SurvivesCrash }) plain

-- a plain entry outlives a crash, and was free before it
outlives_plain : (item : Entry) → SurvivesCrash item → outlives item ≡ true
outlives_plain item is = λ i. is_persistent (is.persistent i) && not (is_adding (is.free i))

freed_plain : (item : Entry) → SurvivesCrash item → freed item ≡ item
freed_plain item is = λ i. record item { mark = sym is.free i }

crashed_items : (items : List Entry) → All SurvivesCrash items → map freed (filter outlives items) ≡ items
crashed_items items plain =
    ap (map freed) (filter_all outlives items (All-weaker SurvivesCrash (λ item. outlives item ≡ true) outlives_plain items plain))
    ∙ map_fixed freed items (All-weaker SurvivesCrash (λ item. freed item ≡ item) freed_plain items plain)

-- A crash leaves a plain space as it was.
pub crashed_plain : (t : IndexedSpace) → KeepsAllAtCrash t → crashed (space_of t) ≡ space_of t
crashed_plain t plain =
    let same = All-weaker HasOnlySurvivors (λ q. crashed_queue (the_queue q) ≡ the_queue q)
    (λ q is. ap (λ items. record q.queue { items = items }) (crashed_items q.queue.items is.items)) t.queues plain in
    ap (λ queues. record (space_of t) { queues = queues }) (map_fixed crashed_queue (map the_queue t.queues) (All-map (λ queue. crashed_queue queue ≡ queue) the_queue t.queues same))

-- ---- entries and identifiers

-- What holds of all entries holds after each record, where it holds of the one that comes in.
pub entries_added : (P : Entry → Type 0) (t : IndexedSpace) (queue : ℕ) (arrival : Arrival) (body : List ℕ) → P (entry_view (owner_in t.owners) (plain_entry queue arrival (id_in t arrival) body))
    → AllEntries P t → AllEntries P (moved (move_of t (Added queue arrival body)) t)
entries_added P t queue arrival body here all =
    let item = entry_view (owner_in t.owners) (plain_entry queue arrival (id_in t arrival) body) in
    All-change_first (λ (q : IndexedQueue). All P q.queue.items) (has_index queue) (on_queue (with_entry item))
    (λ q is. All-insert P q.queue.items (position_or_len (stands_before q.queue.order item) q.queue.items) item here is)
    t.queues all

pub entries_gone : (P : Entry → Type 0) (t : IndexedSpace) (arrival : Arrival) → AllEntries P t → AllEntries P (moved (move_of t (Gone arrival)) t)
entries_gone P t arrival all =
    let id = id_in t arrival in
    All-change_first (λ (q : IndexedQueue). All P q.queue.items) (indexed_holds id) (on_queue (without_entry id))
    (λ q is. All-remove P q.queue.items (position_or_len (has_id id) q.queue.items) is)
    t.queues all

pub entries_made : (P : Entry → Type 0) (t : IndexedSpace) (index : ℕ) (name : List ℕ) → AllEntries P t → AllEntries P (moved (move_of t (QueueMade index name)) t)
entries_made P t index name all = All-put (λ (q : IndexedQueue). All P q.queue.items) index (default_queue name) t.queues (λ q is. is) (All-nil P) all

pub ids_added : (P : MsgId → Type 0) (t : IndexedSpace) (queue : ℕ) (arrival : Arrival) (body : List ℕ) → P (id_in t arrival)
    → AllIds P t → AllIds P (moved (move_of t (Added queue arrival body)) t)
ids_added P t queue arrival body here all = entries_added (λ x. P x.message.id) t queue arrival body here all

pub ids_gone : (P : MsgId → Type 0) (t : IndexedSpace) (arrival : Arrival) → AllIds P t → AllIds P (moved (move_of t (Gone arrival)) t)
ids_gone P t arrival all = entries_gone (λ x. P x.message.id) t arrival all

pub ids_made : (P : MsgId → Type 0) (t : IndexedSpace) (index : ℕ) (name : List ℕ) → AllIds P t → AllIds P (moved (move_of t (QueueMade index name)) t)
ids_made P t index name all = entries_made (λ x. P x.message.id) t index name all

pub ids_weaker : (P Q : MsgId → Type 0) → ((id : MsgId) → P id → Q id) → (t : IndexedSpace) → AllIds P t → AllIds Q t
ids_weaker P Q follows t all =
    All-weaker (λ (q : IndexedQueue). All (λ (x : Entry). P x.message.id) q.queue.items) (λ (q : IndexedQueue). All (λ (x : Entry). Q x.message.id) q.queue.items)
    (λ q is. All-weaker (λ (x : Entry). P x.message.id) (λ (x : Entry). Q x.message.id) (λ x here. follows x.message.id here) q.queue.items is)
    t.queues all

-- What arrives in a later epoch is newer than all of the space.
pub newer_after_boot : (epoch epoch' : ℕ) (t : IndexedSpace) → epoch < epoch' → HasEpochs epoch t → IsNewer epoch' 0 t
newer_after_boot epoch epoch' t later epochs = ids_weaker (λ id. id.epoch ≤ epoch) (IsBefore epoch' 0) (λ id upto. inl (omega arith)) t epochs

before_differs : (epoch number site space : ℕ) (id : MsgId) → IsBefore epoch number id → same_id id (record { site = site; space = space; epoch = epoch; number = number }) ≡ false
before_differs epoch number site space id before =
    ⊎_elim
    (λ earlier. and_left (id.site == site && id.space == space && id.epoch == epoch) (id.number == number)
    (and_right (id.site == site && id.space == space) (id.epoch == epoch) (ne_eqb id.epoch epoch (λ same. omega arith))))
    (λ here. and_right (id.site == site && id.space == space && id.epoch == epoch) (id.number == number) (ne_eqb id.number number (λ same. omega (arith, here.1))))
    before

-- The space does not hold what is newer than all of it.
pub newer_is_new : (epoch number : ℕ) (t : IndexedSpace) → IsNewer epoch number t → holds_arrival t (record { epoch = epoch; number = number }) ≡ false
newer_is_new epoch number t newer =
    let id = id_in t (record { epoch = epoch; number = number }) in
    list_any_none (indexed_holds id) t.queues
    (All-weaker (λ (q : IndexedQueue). All (λ (x : Entry). IsBefore epoch number x.message.id) q.queue.items) (λ (q : IndexedQueue). indexed_holds id q ≡ false)
    (λ q is. list_any_none (has_id id) q.queue.items
    (All-weaker (λ (x : Entry). IsBefore epoch number x.message.id) (λ (x : Entry). has_id id x ≡ false) (λ x before. before_differs epoch number t.site t.number x.message.id before) q.queue.items is))
    t.queues newer)

-- Once it has come, the next number is newer. (After `Gone` and `QueueMade` this one still is: `ids_gone`, `ids_made`.)
pub newer_next : (epoch number queue : ℕ) (body : List ℕ) (t : IndexedSpace) → IsNewer epoch number t
    → IsNewer epoch (number + 1) (moved (move_of t (Added queue (record { epoch = epoch; number = number }) body)) t)
newer_next epoch number queue body t newer =
    ids_added (IsBefore epoch (number + 1)) t queue (record { epoch = epoch; number = number }) body (inr (refl, omega arith))
    (ids_weaker (IsBefore epoch number) (IsBefore epoch (number + 1)) (λ id before. ⊎_elim (λ earlier. inl earlier) (λ here. inr (here.0, omega (arith, here.1))) before) t newer)

-- ---- queues

-- no index stands twice
abbrev pub HasDistinctIndices : IndexedSpace → Type 0
HasDistinctIndices t = (index : ℕ) → count_by (has_index index) t.queues ≤ 1

-- one where it is true
abbrev hit : Bool → ℕ
hit b = cond b 1 0

-- A queue that is changed keeps its index.
kept_distinct : (index : ℕ) (test : IndexedQueue → Bool) (change : Queue → Queue) (queues : List IndexedQueue)
    → count_by (has_index index) queues ≤ 1 → count_by (has_index index) (change_first test (on_queue change) queues) ≤ 1
kept_distinct index test change queues before =
    let same : count_by (has_index index) (change_first test (on_queue change) queues) ≡ count_by (has_index index) queues =
    sum_by-change_first (λ (q : IndexedQueue). hit (has_index index q)) test (on_queue change) (λ q. refl) queues in
    omega arith

inserted_distinct : (queues : List IndexedQueue) (at : ℕ) (q : IndexedQueue) → list_any (has_index q.index) queues ≡ false
    → ((index : ℕ) → count_by (has_index index) queues ≤ 1) → (index : ℕ) → count_by (has_index index) (insert queues at q) ≤ 1
inserted_distinct queues at q new distinct index =
    let before = distinct index in
    let more : count_by (has_index index) (insert queues at q) ≡ count_by (has_index index) queues + hit (q.index == index) = sum_by-insert (λ (x : IndexedQueue). hit (has_index index x)) queues at q in
    ⊎_elim
    (λ is.
    let one : hit (q.index == index) ≡ 1 = ap hit is in
    let none : count_by (has_index index) queues ≡ 0 = subst (λ (n : ℕ). count_by (has_index n) queues ≡ 0) (eqb-true q.index index is) (count_by-none (has_index q.index) queues new) in
    omega arith)
    (λ differs.
    let zero : hit (q.index == index) ≡ 0 = ap hit differs in
    omega arith)
    (cases_Bool (q.index == index))

put_distinct : (index : ℕ) (d : QueueDef) (queues : List IndexedQueue) → ((i : ℕ) → count_by (has_index i) queues ≤ 1)
    → (i : ℕ) → count_by (has_index i) (queue_put index d queues) ≤ 1
put_distinct index d queues distinct i =
    let made : IndexedQueue = record { index = index; queue = queue_of d [] } in
    let at = position_or_len (comes_before d.name) queues in
    let changed = change_first (has_index index) (on_queue (λ queue. queue_of d queue.items)) queues in
    cond_both (list_any (has_index index) queues) changed (insert queues at made) (λ qs. count_by (has_index i) qs ≤ 1)
    (λ yes. kept_distinct i (has_index index) (λ queue. queue_of d queue.items) queues (distinct i))
    (λ no. inserted_distinct queues at made no distinct i)

-- No index comes to stand twice.
pub moved_distinct : (t : IndexedSpace) (r : SpaceRecord) → HasDistinctIndices t → HasDistinctIndices (moved (move_of t r) t)
moved_distinct t (Added queue arrival body) distinct index =
    kept_distinct index (has_index queue) (with_entry (entry_view (owner_in t.owners) (plain_entry queue arrival (id_in t arrival) body))) t.queues (distinct index)
moved_distinct t (Gone arrival) distinct index = kept_distinct index (indexed_holds (id_in t arrival)) (without_entry (id_in t arrival)) t.queues (distinct index)
moved_distinct t (QueueMade new name) distinct index = put_distinct new (default_queue name) t.queues distinct index

-- A queue that is put under a new index stands in its place by name.
pub queue_space : (index : ℕ) (name : List ℕ) (t : IndexedSpace) → list_any (has_index index) t.queues ≡ false
    → space_of (moved (PutQueue index (default_queue name)) t) ≡ with_queue name (space_of t)
queue_space index name t new =
    let made : IndexedQueue = record { index = index; queue = queue_of (default_queue name) [] } in
    let at = position_or_len (comes_before name) t.queues in
    let changed = change_first (has_index index) (on_queue (λ queue. queue_of (default_queue name) queue.items)) t.queues in
    ap (λ queues. record (space_of t) { queues = map the_queue queues }) (cond-false (list_any (has_index index) t.queues) changed (insert t.queues at made) new)
    ∙ ap (λ queues. record (space_of t) { queues = queues }) (map-insert the_queue t.queues at made)
    ∙ ap (λ n. record (space_of t) { queues = insert (map the_queue t.queues) n (queue_of (default_queue name) []) }) (sym (position_or_len-map the_queue (comes_after name) t.queues))

pub has_queue_is : (name : List ℕ) (t : IndexedSpace) → has_queue name (space_of t) ≡ list_any (holds_name name) t.queues
has_queue_is name t = list_any-map the_queue (is_named name) t.queues

pub queues_counted : (t : IndexedSpace) → length (space_of t).queues ≡ length t.queues
queues_counted t = length-map t.queues the_queue
