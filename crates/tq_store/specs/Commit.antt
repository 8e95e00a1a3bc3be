-- What can be done to a space, and what is left of it where that is cut short.
use Rattle.std.specs.Prelude.{◌≡◌, ◌⊎◌, ◌<◌, ◌≤◌, ℕ, true, false, [], ◌∷◌, List, length}
use Rattle.std.specs.List.{list_any}
use Rattle.tq_types.specs.Placed.{own_arrival}
use Rattle.tq_types.specs.declared.identifiers.MsgId.{MsgId}
use Rattle.tq_types.specs.declared.messages.Entry.{Entry}
use Rattle.tq_types.specs.declared.messages.Qos.TheVariants.{Persistent}
use Rattle.tq_model.specs.declared.space.QueueDef.{QueueDef}
use Rattle.tq_model.specs.declared.space.SpaceMove.{SpaceMove}
use Rattle.tq_model.specs.declared.space.SpaceMove.TheVariants.{Insert, Remove, Replace, PutQueue, DropQueue}
use Rattle.tq_model.specs.Moves.{IndexedSpace, entry_view, has_index, indexed_holds, queue_of, session_owners}
use Rattle.tq_model.specs.Names.{is_name}
use Rattle.tq_model.specs.SpaceForm.{holds_name}
use Rattle.tq_slots.specs.MessageSlots.{arrival_of}
use Rattle.tq_slots.specs.SpaceOrder.{IsNew}
use Rattle.tq_slots.specs.SpaceReading.{is_bare_entry, is_bare_queue}
use Rattle.tq_space.specs.declared.plans.Plan.{Plan}
use Rattle.tq_space.specs.Applied.{plan_applied}
use Rattle.tq_space.specs.Plain.{CanInsert}
use Rattle.tq_store.specs.File.{FileState, clusters_of}
use Rattle.tq_store.specs.Stored.{HasSpace}

-- Which moves there are

-- an entry of this space that is new, lasts, has nothing that is not built, and for which there is room
pub record CanComeIn (e : Entry) (s : IndexedSpace) : Type 0 where
  pub can : CanInsert e s
  pub bare : is_bare_entry (entry_view session_owners e) ≡ true
  pub persistent : e.message.qos ≡ Persistent
  pub own : (e.message.id.site ≡ s.site) × (e.message.id.space ≡ s.number)
  pub label : own_arrival e.label ≡ arrival_of e.message.id
  pub new : IsNew (arrival_of e.message.id) s.queues
  pub epoch : 1 ≤ e.message.id.epoch
  pub body : length e.message.body ≤ 65536

-- an entry that is there
pub record CanGo (id : MsgId) (s : IndexedSpace) : Type 0 where
  pub own : (id.site ≡ s.site) × (id.space ≡ s.number)
  pub there : list_any (indexed_holds id) s.queues ≡ true

-- a queue of a new name, under an index that no queue has, with nothing that is not built
pub record CanBeMade (index : ℕ) (d : QueueDef) (s : IndexedSpace) : Type 0 where
  pub unused : list_any (has_index index) s.queues ≡ false
  pub within : index < s.limits.queues
  pub new : list_any (holds_name d.name) s.queues ≡ false
  pub name : is_name d.name ≡ true
  pub bare : is_bare_queue (queue_of d []) ≡ true

-- no line changes an entry or drops a queue yet
abbrev pub CanLast : SpaceMove → IndexedSpace → Type 0
CanLast (Insert e) s = CanComeIn e s
CanLast (Remove id) s = CanGo id s
CanLast (Replace c) s = ⊥
CanLast (PutQueue index d) s = CanBeMade index d s
CanLast (DropQueue index) s = ⊥

-- each line that is built makes one move, or none
abbrev pub IsOneMove : List SpaceMove → IndexedSpace → Type 0
IsOneMove [] s = Unit {0}
IsOneMove (move ∷ []) s = CanLast move s
IsOneMove (move ∷ second ∷ more) s = ⊥

pub record CanCommit (plan : Plan) (s : IndexedSpace) : Type 0 where
  pub purge : plan.purge ≡ []
  pub moves : IsOneMove plan.moves s

-- What is left

-- memory has the space after the plan, and all else where it was
pub record IsDone (plan : Plan) (old new : FileState) : Type 0 where
  pub space : new.space ≡ plan_applied plan old.space
  pub place : new.place ≡ old.place
  pub shape : new.shape ≡ old.shape
  pub clusters : clusters_of new ≡ clusters_of old

-- an image has the space before the plan, or after it
abbrev pub IsOldOrDone : FileState → Plan → List ℕ → Type 0
IsOldOrDone f plan image = HasSpace f.place (clusters_of f) f.space image ⊎ HasSpace f.place (clusters_of f) (plan_applied plan f.space) image
