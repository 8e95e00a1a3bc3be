-- Spaces in order, and the moves that keep them so.
use Rattle.std.specs.Prelude.{◌≡◌, ◌⊎◌, false, List, [], ◌∷◌, ℕ}
use Rattle.std.specs.declared.cmp.Ordering.{Ordering}
use Rattle.std.specs.declared.cmp.Ordering.TheVariants.{Less}
use Rattle.std.specs.List.{insert, list_any, position_or_len}
use Rattle.std.specs.Ordering.{is_lt, nat_cmp}
use Rattle.std.specs.Cmp.Lexicographic.{slice_cmp}
use Rattle.tq_types.specs.Label.{label_cmp}
use Rattle.tq_types.specs.OrderValue.{OrderValue}
use Rattle.tq_types.specs.Placed.{own_arrival}
use Rattle.tq_types.specs.declared.identifiers.Arrival.{Arrival}
use Rattle.tq_model.specs.declared.space.QueueDef.{QueueDef}
use Rattle.tq_model.specs.declared.space.SpaceMove.{SpaceMove}
use Rattle.tq_model.specs.declared.space.SpaceMove.TheVariants.{Insert, Remove, Replace, PutQueue, DropQueue}
use Rattle.tq_model.specs.Space.{Entry}
use Rattle.tq_model.specs.Moves.{IndexedQueue, IndexedSpace, has_index, moved}
use Rattle.tq_slots.specs.MessageSlots.{arrival_of}

-- Lists in order

abbrev pub IsOneOf : {X : Type 0} → List X → X → Type 0
IsOneOf [] x = ⊥
IsOneOf (y ∷ ys) x = (y ≡ x) ⊎ IsOneOf ys x

-- each stands before all behind it
abbrev pub IsAscending : {X : Type 0} → (X → X → Ordering) → List X → Type 0
IsAscending {X} R [] = Unit {0}
IsAscending {X} R (x ∷ xs) = ((y : X) → IsOneOf xs y → R x y ≡ Less) × IsAscending R xs

-- right before the first that x stands before, as entries come into queues and queues into a space
abbrev pub in_place : {X : Type 0} → (X → X → Ordering) → X → List X → List X
in_place R x xs = insert xs (position_or_len (λ y. is_lt (R x y)) xs) x

abbrev pub in_order : {X : Type 0} → (X → X → Ordering) → List X → List X
in_order R [] = []
in_order R (x ∷ xs) = in_place R x (in_order R xs)

abbrev pub by_label : OrderValue → Entry → Entry → Ordering
by_label order x y = label_cmp order x.label y.label

abbrev pub by_name : IndexedQueue → IndexedQueue → Ordering
by_name q r = slice_cmp nat_cmp q.queue.name r.queue.name

-- Spaces

-- Each queue has its entries in order, each labelled by its own arrival; no arrival and no index is there twice.
pub record AreOrdered (queues : List IndexedQueue) : Type 0 where
  pub ascending : (q : IndexedQueue) → IsOneOf queues q → IsAscending (by_label q.queue.order) q.queue.items
  pub own : (q : IndexedQueue) (x : Entry) → IsOneOf queues q → IsOneOf q.queue.items x → own_arrival x.label ≡ arrival_of x.message.id
  pub once : (q r : IndexedQueue) (x y : Entry) → IsOneOf queues q → IsOneOf q.queue.items x → IsOneOf queues r → IsOneOf r.queue.items y
      → arrival_of x.message.id ≡ arrival_of y.message.id → (q.index ≡ r.index) × (x ≡ y)
  pub indices : (q r : IndexedQueue) → IsOneOf queues q → IsOneOf queues r → q.index ≡ r.index → q ≡ r

pub record IsInOrder (s : IndexedSpace) : Type 0 where
  pub entries : AreOrdered s.queues
  pub names : IsAscending by_name s.queues

-- Moves

-- no entry has the arrival
abbrev pub IsNew : Arrival → List IndexedQueue → Type 0
IsNew a queues = (q : IndexedQueue) (x : Entry) → IsOneOf queues q → IsOneOf q.queue.items x → a ≡ arrival_of x.message.id → ⊥

-- a queue that is there keeps its name and its order, and a new one has a new name
pub record CanPut (index : ℕ) (d : QueueDef) (queues : List IndexedQueue) : Type 0 where
  pub kept : (q : IndexedQueue) → IsOneOf queues q → q.index ≡ index → (q.queue.name ≡ d.name) × (q.queue.order ≡ d.order)
  pub new : list_any (has_index index) queues ≡ false → (q : IndexedQueue) → IsOneOf queues q → q.queue.name ≡ d.name → ⊥

-- Labels are by their messages' own arrivals, an entry that comes in is new, and a queue that is dropped has no entries.
abbrev pub MoveFits : SpaceMove → List IndexedQueue → Type 0
MoveFits (Insert e) queues = (own_arrival e.label ≡ arrival_of e.message.id) × IsNew (arrival_of e.message.id) queues
MoveFits (Remove id) queues = Unit {0}
MoveFits (Replace c) queues = own_arrival c.label ≡ arrival_of c.id
MoveFits (PutQueue index d) queues = CanPut index d queues
MoveFits (DropQueue index) queues = (q : IndexedQueue) → IsOneOf queues q → q.index ≡ index → q.queue.items ≡ []

-- one after another
abbrev pub MovesFit : List SpaceMove → IndexedSpace → Type 0
MovesFit [] s = Unit {0}
MovesFit (move ∷ moves) s = MoveFits move s.queues × MovesFit moves (moved move s)
