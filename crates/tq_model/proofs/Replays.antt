-- Spaces that are replayed from the records of their logs.
use Rattle.std.proofs.Common.{◌≡◌, ◌≤◌, ◌<◌, ◌+◌, ℕ, ◌&&◌, true, false, not, nat_le, nat_lt, List, [], ◌∷◌, ◌++◌, length, Option, Some, None, refl, ap, ◌∙◌, subst, arith, leb-true, le-leb, ltb-true, lt-ltb}
use Rattle.std.specs.List.{All, list_any}
use Rattle.std.specs.Option.{option_and_then}
use Rattle.std.proofs.lemmas.Bool.{and_parts, and_from, not-true, not_from_false, cond-true}
use Rattle.std.proofs.lemmas.List.Elements.{All-nil}
use Rattle.std.proofs.lemmas.Option.{same_Some, cond_some, option_and_then_some}
use Rattle.tq_types.specs.declared.identifiers.Arrival.{Arrival}
use Rattle.tq_types.specs.declared.identifiers.MsgId.{MsgId}
use Rattle.tq_model.specs.declared.space.Shape.{Shape}
use Rattle.tq_model.specs.declared.record.SpaceRecord.{SpaceRecord}
use Rattle.tq_model.specs.declared.record.SpaceRecord.TheVariants.{Added, Gone, QueueMade}
use Rattle.tq_model.specs.Space.{Entry}
use Rattle.tq_model.specs.Reading.{is_upto}
use Rattle.tq_model.specs.Moves.{IndexedQueue, IndexedSpace, space_of, owner_in, has_index, entry_view, moved}
use Rattle.tq_model.specs.Room.{pages_for, messages_held, pages_held}
use Rattle.tq_model.specs.SpaceForm.{holds_arrival, can_add, can_follow, id_in, plain_entry, move_of, followed, followed_by, record_in, replayed, empty_space}
use Rattle.tq_model.specs.Plain.{HasOnlySurvivors, KeepsAllAtCrash, AllEntries, AllIds, HasEpochs}
use Rattle.tq_model.proofs.RecordMoves.{HasDistinctIndices, moved_plain, moved_distinct, entries_added, entries_gone, entries_made, ids_added, ids_gone, ids_made}

-- ---- one record more

option_and_then-some : {X : Type 0} (o : Option X) → option_and_then (λ x. Some x) o ≡ o
option_and_then-some None = refl
option_and_then-some (Some x) = refl

option_and_then-twice : {X Y Z : Type 0} (f : X → Option Y) (g : Y → Option Z) (both : X → Option Z) → ((x : X) → both x ≡ option_and_then g (f x))
    → (o : Option X) → option_and_then both o ≡ option_and_then g (option_and_then f o)
option_and_then-twice f g both same None = refl
option_and_then-twice f g both same (Some x) = same x

pub replayed_append : (epoch : ℕ) (ps : List (List ℕ)) (p : List ℕ) (s : IndexedSpace)
    → replayed epoch (ps ++ p ∷ []) s ≡ option_and_then (λ t. followed_by epoch t p) (replayed epoch ps s)
replayed_append epoch [] p s = option_and_then-some (followed_by epoch s p)
replayed_append epoch (q ∷ ps) p s =
    option_and_then-twice (replayed epoch ps) (λ t. followed_by epoch t p) (replayed epoch (ps ++ p ∷ [])) (replayed_append epoch ps p) (followed_by epoch s q)

pub replayed_more : (epoch : ℕ) (ps : List (List ℕ)) (p : List ℕ) (s t u : IndexedSpace) (r : SpaceRecord)
    → replayed epoch ps s ≡ Some t → followed epoch t r ≡ Some u → record_in p ≡ Some r → replayed epoch (ps ++ p ∷ []) s ≡ Some u
replayed_more epoch ps p s t u r before more spelt =
    replayed_append epoch ps p s ∙ ap (option_and_then (λ x. followed_by epoch x p)) before ∙ ap (option_and_then (followed epoch t)) spelt ∙ more

-- ---- What each record keeps, all of them keep.

pub followed_from : (epoch : ℕ) (s : IndexedSpace) (r : SpaceRecord) → can_follow epoch s r ≡ true → followed epoch s r ≡ Some (moved (move_of s r) s)
followed_from epoch s r can = cond-true (can_follow epoch s r) (Some (moved (move_of s r) s)) None can

pub followed_is : (epoch : ℕ) (s t : IndexedSpace) (r : SpaceRecord) → followed epoch s r ≡ Some t → (can_follow epoch s r ≡ true) × (moved (move_of s r) s ≡ t)
followed_is epoch s t r is = cond_some (can_follow epoch s r) (moved (move_of s r) s) t is

pub replayed_keeps : (P : IndexedSpace → Type 0) (epoch : ℕ)
    → ((s : IndexedSpace) (r : SpaceRecord) → can_follow epoch s r ≡ true → P s → P (moved (move_of s r) s))
    → (ps : List (List ℕ)) (s t : IndexedSpace) → replayed epoch ps s ≡ Some t → P s → P t
replayed_keeps P epoch keeps [] s t is holds = subst P (same_Some s t is) holds
replayed_keeps P epoch keeps (p ∷ ps) s t is holds =
    option_and_then_some (replayed epoch ps) (followed_by epoch s p) t is
    (λ u step rest. option_and_then_some (followed epoch s) (record_in p) u step
    (λ r spelt follows.
    let parts = followed_is epoch s u r follows in
    replayed_keeps P epoch keeps ps u t rest (subst P parts.1 (keeps s r parts.0 holds))))

-- ---- what is the same from the first record to the last

pub record IsOneSpace (s t : IndexedSpace) : Type 0 where
  pub site : t.site ≡ s.site
  pub number : t.number ≡ s.number
  pub limits : t.limits ≡ s.limits
  pub error : t.error ≡ s.error

pub replayed_same : (epoch : ℕ) (ps : List (List ℕ)) (s t : IndexedSpace) → replayed epoch ps s ≡ Some t → IsOneSpace s t
replayed_same epoch ps s t is =
    replayed_keeps (IsOneSpace s) epoch (λ u r can same. record { site = same.site; number = same.number; limits = same.limits; error = same.error })
    ps s t is (record { site = refl; number = refl; limits = refl; error = refl })

-- ---- the tests before a record, by their parts

pub record CanAdd (epoch : ℕ) (s : IndexedSpace) (queue : ℕ) (arrival : Arrival) (body : List ℕ) : Type 0 where
  pub has_queue : list_any (has_index queue) s.queues ≡ true
  pub some : 1 ≤ arrival.epoch
  pub upto : arrival.epoch ≤ epoch
  pub new : holds_arrival s arrival ≡ false
  pub message : messages_held (space_of s) < s.limits.messages
  pub pages : pages_held (space_of s) + pages_for (length body) ≤ s.limits.pages

pub can_add_parts : (epoch : ℕ) (s : IndexedSpace) (queue : ℕ) (arrival : Arrival) (body : List ℕ) → can_add epoch s queue arrival body ≡ true → CanAdd epoch s queue arrival body
can_add_parts epoch s queue arrival body can =
    let there = list_any (has_index queue) s.queues in
    let within = nat_le 1 arrival.epoch && nat_le arrival.epoch epoch in
    let new = not (holds_arrival s arrival) in
    let message = nat_lt (messages_held (space_of s)) s.limits.messages in
    let a = and_parts (there && within && new && message) (nat_le (pages_held (space_of s) + pages_for (length body)) s.limits.pages) can in
    let b = and_parts (there && within && new) message a.0 in
    let c = and_parts (there && within) new b.0 in
    let d = and_parts there within c.0 in
    let e = and_parts (nat_le 1 arrival.epoch) (nat_le arrival.epoch epoch) d.1 in
    record {
      has_queue = d.0;
      some = leb-true 1 arrival.epoch e.0;
      upto = leb-true arrival.epoch epoch e.1;
      new = not-true (holds_arrival s arrival) c.1;
      message = ltb-true (messages_held (space_of s)) s.limits.messages b.1;
      pages = leb-true (pages_held (space_of s) + pages_for (length body)) s.limits.pages a.1;
    }

pub can_add_from : (epoch : ℕ) (s : IndexedSpace) (queue : ℕ) (arrival : Arrival) (body : List ℕ) → CanAdd epoch s queue arrival body → can_add epoch s queue arrival body ≡ true
can_add_from epoch s queue arrival body can =
    let there = list_any (has_index queue) s.queues in
    let within = nat_le 1 arrival.epoch && nat_le arrival.epoch epoch in
    let new = not (holds_arrival s arrival) in
    let message = nat_lt (messages_held (space_of s)) s.limits.messages in
    let pages = pages_held (space_of s) + pages_for (length body) in
    and_from (there && within && new && message) (nat_le pages s.limits.pages)
    (and_from (there && within && new) message
    (and_from (there && within) new
    (and_from there within can.has_queue (and_from (nat_le 1 arrival.epoch) (nat_le arrival.epoch epoch) (le-leb 1 arrival.epoch can.some) (le-leb arrival.epoch epoch can.upto)))
    (not_from_false (holds_arrival s arrival) can.new))
    (lt-ltb (messages_held (space_of s)) s.limits.messages can.message))
    (le-leb pages s.limits.pages can.pages)

-- ---- epochs

-- What may follow in one epoch may follow in a later one.
pub can_follow_later : (epoch epoch' : ℕ) (s : IndexedSpace) (r : SpaceRecord) → epoch ≤ epoch' → can_follow epoch s r ≡ true → can_follow epoch' s r ≡ true
can_follow_later epoch epoch' s (Added queue arrival body) later can =
    let parts = can_add_parts epoch s queue arrival body can in
    can_add_from epoch' s queue arrival body
    (record { has_queue = parts.has_queue; some = parts.some; upto = omega (arith, parts.upto); new = parts.new; message = parts.message; pages = parts.pages })
can_follow_later epoch epoch' s (Gone arrival) later can = can
can_follow_later epoch epoch' s (QueueMade index name) later can = can

pub replayed_later : (epoch epoch' : ℕ) (ps : List (List ℕ)) (s t : IndexedSpace) → epoch ≤ epoch' → replayed epoch ps s ≡ Some t → replayed epoch' ps s ≡ Some t
replayed_later epoch epoch' [] s t later is = is
replayed_later epoch epoch' (p ∷ ps) s t later is =
    option_and_then_some (replayed epoch ps) (followed_by epoch s p) t is
    (λ u step rest. option_and_then_some (followed epoch s) (record_in p) u step
    (λ r spelt follows.
    let parts = followed_is epoch s u r follows in
    let now : followed epoch' s r ≡ Some u = followed_from epoch' s r (can_follow_later epoch epoch' s r later parts.0) ∙ ap Some parts.1 in
    ap (λ o. option_and_then (replayed epoch' ps) (option_and_then (followed epoch' s) o)) spelt ∙ ap (option_and_then (replayed epoch' ps)) now
    ∙ replayed_later epoch epoch' ps u t later rest))

pub empty_ids : (P : MsgId → Type 0) (shape : Shape) (site number : ℕ) → AllIds P (empty_space shape site number)
empty_ids P shape site number = All-nil (λ (q : IndexedQueue). All (λ (item : Entry). P item.message.id) q.queue.items)

moved_epochs : (epoch : ℕ) (s : IndexedSpace) (r : SpaceRecord) → can_follow epoch s r ≡ true → HasEpochs epoch s → HasEpochs epoch (moved (move_of s r) s)
moved_epochs epoch s (Added queue arrival body) can epochs = ids_added (λ id. id.epoch ≤ epoch) s queue arrival body (can_add_parts epoch s queue arrival body can).upto epochs
moved_epochs epoch s (Gone arrival) can epochs = ids_gone (λ id. id.epoch ≤ epoch) s arrival epochs
moved_epochs epoch s (QueueMade index name) can epochs = ids_made (λ id. id.epoch ≤ epoch) s index name epochs

pub replayed_epochs : (epoch : ℕ) (ps : List (List ℕ)) (s t : IndexedSpace) → HasEpochs epoch s → replayed epoch ps s ≡ Some t → HasEpochs epoch t
replayed_epochs epoch ps s t epochs is = replayed_keeps (HasEpochs epoch) epoch (moved_epochs epoch) ps s t is epochs

-- ---- epochs of entries, in identifiers and labels

-- each entry has an identifier and a label with epochs up to this one
abbrev pub AreUpto : ℕ → IndexedSpace → Type 0
AreUpto epoch s = AllEntries (λ item. is_upto epoch item ≡ true) s

pub empty_upto : (epoch : ℕ) (shape : Shape) (site number : ℕ) → AreUpto epoch (empty_space shape site number)
empty_upto epoch shape site number = All-nil (λ (q : IndexedQueue). All (λ (item : Entry). is_upto epoch item ≡ true) q.queue.items)

added_upto : (epoch : ℕ) (s : IndexedSpace) (queue : ℕ) (arrival : Arrival) (body : List ℕ) → arrival.epoch ≤ epoch → is_upto epoch (entry_view (owner_in s.owners) (plain_entry queue arrival (id_in s arrival) body)) ≡ true
added_upto epoch s queue arrival body le = ap (λ b. b && (b && true)) (le-leb arrival.epoch epoch le)

moved_upto : (epoch : ℕ) (s : IndexedSpace) (r : SpaceRecord) → can_follow epoch s r ≡ true → AreUpto epoch s → AreUpto epoch (moved (move_of s r) s)
moved_upto epoch s (Added queue arrival body) can all = entries_added (λ item. is_upto epoch item ≡ true) s queue arrival body (added_upto epoch s queue arrival body (can_add_parts epoch s queue arrival body can).upto) all
moved_upto epoch s (Gone arrival) can all = entries_gone (λ item. is_upto epoch item ≡ true) s arrival all
moved_upto epoch s (QueueMade index name) can all = entries_made (λ item. is_upto epoch item ≡ true) s index name all

pub replayed_upto : (epoch : ℕ) (ps : List (List ℕ)) (s t : IndexedSpace) → AreUpto epoch s → replayed epoch ps s ≡ Some t → AreUpto epoch t
replayed_upto epoch ps s t all is = replayed_keeps (AreUpto epoch) epoch (moved_upto epoch) ps s t is all

-- ---- plain spaces and their indices

pub empty_plain : (shape : Shape) (site number : ℕ) → KeepsAllAtCrash (empty_space shape site number)
empty_plain shape site number = All-nil HasOnlySurvivors

pub replayed_plain : (epoch : ℕ) (ps : List (List ℕ)) (s t : IndexedSpace) → KeepsAllAtCrash s → replayed epoch ps s ≡ Some t → KeepsAllAtCrash t
replayed_plain epoch ps s t plain is = replayed_keeps KeepsAllAtCrash epoch (λ u r can. moved_plain u r) ps s t is plain

pub empty_distinct : (shape : Shape) (site number : ℕ) → HasDistinctIndices (empty_space shape site number)
empty_distinct shape site number index = omega arith

pub replayed_distinct : (epoch : ℕ) (ps : List (List ℕ)) (s t : IndexedSpace) → HasDistinctIndices s → replayed epoch ps s ≡ Some t → HasDistinctIndices t
replayed_distinct epoch ps s t distinct is = replayed_keeps HasDistinctIndices epoch (λ u r can. moved_distinct u r) ps s t is distinct
