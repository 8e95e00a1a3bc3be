-- What a plan does not name stays as it is kept.
use Rattle.std.proofs.Common.{◌≡◌, ℕ, Bool, true, false, cond, List, [], ◌∷◌, ◌++◌, map, Option, Some, None, take, drop, refl, sym, ap, ◌∙◌, inl, inr, eqb-true}
use Rattle.std.specs.List.{filter, flat_map, insert, position_or_len, list_any, find}
use Rattle.std.specs.Option.{option_or}
use Rattle.std.specs.Ordering.{eq_by_cmp}
use Rattle.std.specs.FinMap as maps
use Rattle.std.specs.FinMap.{get-from_entries}
use Rattle.std.proofs.lemmas.List.{take-append-drop}
use Rattle.std.proofs.lemmas.Bool.{or_parts, cond_both}
use Rattle.tq_types.specs.Label.{arrival_cmp}
use Rattle.tq_types.proofs.LabelOrder.{arrival_total}
use Rattle.tq_types.specs.declared.identifiers.Arrival.{Arrival}
use Rattle.tq_types.specs.declared.identifiers.MsgId.{MsgId}
use Rattle.tq_model.specs.declared.space.QueueDef.{QueueDef}
use Rattle.tq_model.specs.declared.space.Change.{Change}
use Rattle.tq_model.specs.declared.space.SpaceMove.{SpaceMove}
use Rattle.tq_model.specs.declared.space.SpaceMove.TheVariants.{Insert, Remove, Replace, PutQueue, DropQueue}
use Rattle.tq_model.specs.Space.{Owner, Entry, Queue, change_first, has_id, outlives, freed, stands_before, dropped, with_entry, without_entry, holds_id}
use Rattle.tq_model.specs.Moves.{IndexedQueue, IndexedSpace, owner_in, entry_view, after_change, queue_of, has_index, on_queue, indexed_holds}
use Rattle.tq_model.specs.Moves.{entry_inserted, entry_removed, entry_with_id, entry_replaced, comes_before, queue_put, queue_dropped, queues_moved, moved}
use Rattle.tq_model.specs.Moves.{moved_by, purged_of}
use Rattle.tq_slots.specs.SlotTable.{is_one_of, ChangesOnly}
use Rattle.tq_slots.specs.MessageSlots.{IndexedEntry, arrival_of}
use Rattle.tq_slots.specs.KeptEntries.{kept_entry, kept_of, kept_in, SpacePlan, space_after, named_by, named_in}
use Rattle.tq_slots.specs.SpaceOrder.{IsOneOf, MoveFits, MovesFit}
use Rattle.tq_slots.proofs.ListLemmas.{of_find, none_of_two, without_first}
use Rattle.tq_slots.proofs.MessageSlotLemmas.{same_arrivals}

abbrev Apart : Arrival → Arrival → Type 0
Apart a b = eq_by_cmp arrival_cmp a b ≡ false

-- ---- the entries of a queue

-- what is kept of these entries at an arrival
abbrev look : Arrival → ℕ → List Entry → Option IndexedEntry
look a index items = maps.find arrival_cmp a (map (kept_entry index) (filter outlives items))

look-cons : (a : Arrival) (index : ℕ) (x : Entry) (xs : List Entry)
    → look a index (x ∷ xs) ≡ cond (outlives x) (cond (eq_by_cmp arrival_cmp a (arrival_of x.message.id)) (Some (record { queue = index; entry = freed x }))
    (look a index xs)) (look a index xs)
look-cons a index x xs =
    let rest = look a index xs in
    (elim (outlives x) as (λ b. maps.find arrival_cmp a (map (kept_entry index) (cond b (x ∷ filter outlives xs) (filter outlives xs)))
    ≡ cond b (cond (eq_by_cmp arrival_cmp a (arrival_of x.message.id))
    (Some (record { queue = index; entry = freed x })) rest) rest) [ true ↦ refl | false ↦ refl ])

look_more : (a : Arrival) (index : ℕ) (x : Entry) (xs ys : List Entry) → look a index xs ≡ look a index ys → look a index (x ∷ xs) ≡ look a index (x ∷ ys)
look_more a index x xs ys rest =
    look-cons a index x xs
    ∙ ap (λ v. cond (outlives x) (cond (eq_by_cmp arrival_cmp a (arrival_of x.message.id)) (Some (record { queue = index; entry = freed x })) v) v) rest
    ∙ sym (look-cons a index x ys)

look_past : (a : Arrival) (index : ℕ) (x : Entry) (xs ys : List Entry) → Apart a (arrival_of x.message.id)
    → look a index (xs ++ x ∷ ys) ≡ look a index (xs ++ ys)
look_past a index x [] ys apart =
    let rest = look a index ys in
    let both : (b : Bool) → cond b rest rest ≡ rest = λ b. elim b as (λ c. cond c rest rest ≡ rest) [ true ↦ refl | false ↦ refl ] in
    look-cons a index x ys ∙ ap (λ b. cond (outlives x) (cond b (Some (record { queue = index; entry = freed x })) rest) rest) apart ∙ both (outlives x)
look_past a index x (y ∷ xs) ys apart = look_more a index y (xs ++ x ∷ ys) (xs ++ ys) (look_past a index x xs ys apart)

look-insert : (a : Arrival) (index : ℕ) (x : Entry) (items : List Entry) (at : ℕ) → Apart a (arrival_of x.message.id)
    → look a index (insert items at x) ≡ look a index items
look-insert a index x items at apart = look_past a index x (take at items) (drop at items) apart ∙ ap (look a index) (take-append-drop at items)

look-dropped : (a : Arrival) (index : ℕ) (id : MsgId) (items : List Entry) → Apart a (arrival_of id) → look a index (dropped id items) ≡ look a index items
look-dropped a index id [] apart = refl
look-dropped a index id (x ∷ items) apart =
    ap (look a index) (without_first (has_id id) x items)
    ∙ cond_both (has_id id x) items (x ∷ dropped id items) (λ xs. look a index xs ≡ look a index (x ∷ items))
    (λ t. sym (look_past a index x [] items (ap (eq_by_cmp arrival_cmp a) (same_arrivals x.message.id id t) ∙ apart)))
    (λ f. look_more a index x (dropped id items) items (look-dropped a index id items apart))

-- ---- the queues of a space

find-joined : (a : Arrival) (xs ys : List (Arrival × IndexedEntry))
    → maps.find arrival_cmp a (xs ++ ys) ≡ option_or (maps.find arrival_cmp a xs) (maps.find arrival_cmp a ys)
find-joined a [] ys = refl
find-joined a (x ∷ xs) ys =
    (elim (eq_by_cmp arrival_cmp a x.0) as (λ b. cond b (Some x.1) (maps.find arrival_cmp a (xs ++ ys)) ≡ option_or
    (cond b (Some x.1) (maps.find arrival_cmp a xs)) (maps.find arrival_cmp a ys)) [
      | true ↦ refl
      | false ↦ find-joined a xs ys
    ])

abbrev look_in : Arrival → List IndexedQueue → Option IndexedEntry
look_in a queues = maps.find arrival_cmp a (flat_map kept_of queues)

look_in-cons : (a : Arrival) (q : IndexedQueue) (queues : List IndexedQueue)
    → look_in a (q ∷ queues) ≡ option_or (look a q.index q.queue.items) (look_in a queues)
look_in-cons a q queues = find-joined a (kept_of q) (flat_map kept_of queues)

look_in_more : (a : Arrival) (q r : IndexedQueue) (qs rs : List IndexedQueue) → look a q.index q.queue.items ≡ look a r.index r.queue.items
    → look_in a qs ≡ look_in a rs
    → look_in a (q ∷ qs) ≡ look_in a (r ∷ rs)
look_in_more a q r qs rs first rest = look_in-cons a q qs ∙ (λ i. option_or (first i) (rest i)) ∙ sym (look_in-cons a r rs)

look_in_changed : (a : Arrival) (test : IndexedQueue → Bool) (change : Queue → Queue)
    → ((q : IndexedQueue) → look a q.index (change q.queue).items ≡ look a q.index q.queue.items)
    → (queues : List IndexedQueue) → look_in a (change_first test (on_queue change) queues) ≡ look_in a queues
look_in_changed a test change keeps [] = refl
look_in_changed a test change keeps (q ∷ queues) =
    let rest = change_first test (on_queue change) queues in
    cond_both (test q) (on_queue change q ∷ queues) (q ∷ rest) (λ qs. look_in a qs ≡ look_in a (q ∷ queues))
    (λ t. look_in_more a (on_queue change q) q queues queues (keeps q) refl)
    (λ f. look_in_more a q q rest queues refl (look_in_changed a test change keeps queues))

-- a queue without entries adds nothing
look_in_past : (a : Arrival) (q : IndexedQueue) → q.queue.items ≡ [] → (xs ys : List IndexedQueue) → look_in a (xs ++ q ∷ ys) ≡ look_in a (xs ++ ys)
look_in_past a q none [] ys = look_in-cons a q ys ∙ ap (λ items. option_or (look a q.index items) (look_in a ys)) none
look_in_past a q none (x ∷ xs) ys = look_in_more a x x (xs ++ q ∷ ys) (xs ++ ys) refl (look_in_past a q none xs ys)

-- ---- moves

inserted_apart : (a : Arrival) (index : ℕ) (x : Entry) (queues : List IndexedQueue) → Apart a (arrival_of x.message.id)
    → look_in a (entry_inserted index x queues) ≡ look_in a queues
inserted_apart a index x queues apart =
    look_in_changed a (has_index index) (with_entry x)
    (λ q. look-insert a q.index x q.queue.items (position_or_len (stands_before q.queue.order x) q.queue.items) apart) queues

removed_apart : (a : Arrival) (id : MsgId) (queues : List IndexedQueue) → Apart a (arrival_of id) → look_in a (entry_removed id queues) ≡ look_in a queues
removed_apart a id queues apart = look_in_changed a (indexed_holds id) (without_entry id) (λ q. look-dropped a q.index id q.queue.items apart) queues

pub of_found : (id : MsgId) (queues : List IndexedQueue) (x : Entry) → entry_with_id id queues ≡ Some x
    → (q : IndexedQueue) × IsOneOf queues q × IsOneOf q.queue.items x × (has_id id x ≡ true)
of_found id [] x e = cc
of_found id (q ∷ queues) x e =
    cond_both (holds_id id q.queue) (find (has_id id) q.queue.items) (entry_with_id id queues)
    (λ o. o ≡ Some x → (r : IndexedQueue) × IsOneOf (q ∷ queues) r × IsOneOf r.queue.items x × (has_id id x ≡ true))
    (λ t h. let m = of_find (has_id id) q.queue.items x h in (q, inl refl, m.0, m.1))
    (λ f h. let r = of_found id queues x h in (r.0, inr r.1, r.2, r.3))
    e

replaced_apart : (owners : ℕ → Owner) (a : Arrival) (c : Change) (queues : List IndexedQueue) → Apart a (arrival_of c.id)
    → look_in a (entry_replaced owners c (entry_with_id c.id queues) queues) ≡ look_in a queues
replaced_apart owners a c queues apart =
    (elim (entry_with_id c.id queues) as (λ found. entry_with_id c.id queues ≡ found → look_in a (entry_replaced owners c found queues) ≡ look_in a queues) [
      | None ↦ λ e. refl
      | Some x ↦ λ e.
          inserted_apart a c.queue (after_change owners c x) (entry_removed c.id queues)
          (ap (eq_by_cmp arrival_cmp a) (same_arrivals x.message.id c.id (of_found c.id queues x e).3) ∙ apart)
          ∙ removed_apart a c.id queues apart
    ]) refl

put_apart : (a : Arrival) (index : ℕ) (d : QueueDef) (queues : List IndexedQueue) → look_in a (queue_put index d queues) ≡ look_in a queues
put_apart a index d queues =
    let made : IndexedQueue = record { index = index; queue = queue_of d [] } in
    let at = position_or_len (comes_before d.name) queues in
    cond_both (list_any (has_index index) queues) (change_first (has_index index) (on_queue (λ queue. queue_of d queue.items)) queues)
    (insert queues at made) (λ qs. look_in a qs ≡ look_in a queues)
    (λ t. look_in_changed a (has_index index) (λ queue. queue_of d queue.items) (λ q. refl) queues)
    (λ f. look_in_past a made refl (take at queues) (drop at queues) ∙ ap (look_in a) (take-append-drop at queues))

dropped_apart : (a : Arrival) (index : ℕ) (queues : List IndexedQueue) → ((q : IndexedQueue) → IsOneOf queues q → q.index ≡ index → q.queue.items ≡ [])
    → look_in a (queue_dropped index queues) ≡ look_in a queues
dropped_apart a index [] bare = refl
dropped_apart a index (q ∷ queues) bare =
    ap (look_in a) (without_first (has_index index) q queues)
    ∙ cond_both (has_index index q) queues (q ∷ queue_dropped index queues) (λ qs. look_in a qs ≡ look_in a (q ∷ queues))
    (λ t. sym (look_in_past a q (bare q (inl refl) (eqb-true q.index index t)) [] queues))
    (λ f. look_in_more a q q (queue_dropped index queues) queues refl (dropped_apart a index queues (λ r h. bare r (inr h))))

one_apart : (a b : Arrival) → is_one_of arrival_cmp (b ∷ []) a ≡ false → Apart a b
one_apart a b e = (or_parts (eq_by_cmp arrival_cmp a b) false e).0

moved_apart : (owners : ℕ → Owner) (a : Arrival) (move : SpaceMove) (queues : List IndexedQueue) → MoveFits move queues
    → is_one_of arrival_cmp (named_by move) a ≡ false
    → look_in a (queues_moved owners move queues) ≡ look_in a queues
moved_apart owners a (Insert e) queues fits apart = inserted_apart a e.queue (entry_view owners e) queues (one_apart a (arrival_of e.message.id) apart)
moved_apart owners a (Remove id) queues fits apart = removed_apart a id queues (one_apart a (arrival_of id) apart)
moved_apart owners a (Replace c) queues fits apart = replaced_apart owners a c queues (one_apart a (arrival_of c.id) apart)
moved_apart owners a (PutQueue index d) queues fits apart = put_apart a index d queues
moved_apart owners a (DropQueue index) queues fits apart = dropped_apart a index queues fits

moves_apart : (a : Arrival) (moves : List SpaceMove) (s : IndexedSpace) → MovesFit moves s → is_one_of arrival_cmp (flat_map named_by moves) a ≡ false
    → look_in a (moved_by moves s).queues ≡ look_in a s.queues
moves_apart a [] s fit apart = refl
moves_apart a (move ∷ moves) s fit apart =
    let p = none_of_two (eq_by_cmp arrival_cmp a) (named_by move) (flat_map named_by moves) apart in
    moves_apart a moves (moved move s) fit.1 p.1 ∙ moved_apart (owner_in s.owners) a move s.queues fit.0 p.0

purge_apart : (a : Arrival) (ids : List MsgId) (s : IndexedSpace) → is_one_of arrival_cmp (map arrival_of ids) a ≡ false
    → look_in a (purged_of ids s).queues ≡ look_in a s.queues
purge_apart a [] s apart = refl
purge_apart a (id ∷ ids) s apart =
    let p = or_parts (eq_by_cmp arrival_cmp a (arrival_of id)) (is_one_of arrival_cmp (map arrival_of ids) a) apart in
    purge_apart a ids (moved (Remove id) s) p.1 ∙ removed_apart a id s.queues p.0

pub changes_named : (p : SpacePlan) (s : IndexedSpace) → MovesFit p.moves (purged_of p.purge s)
    → ChangesOnly (named_in p) (kept_in s) (kept_in (space_after p s))
changes_named p s fit a apart =
    let two = none_of_two (eq_by_cmp arrival_cmp a) (map arrival_of p.purge) (flat_map named_by p.moves) apart in
    get-from_entries arrival_total (flat_map kept_of s.queues) a
    ∙ sym (get-from_entries arrival_total (flat_map kept_of (space_after p s).queues) a
    ∙ moves_apart a p.moves (purged_of p.purge s) fit two.1 ∙ purge_apart a p.purge s two.0)
