-- What a plan, or a refusal in its place, has to do with the machine's step.
use Rattle.std.specs.Prelude.{◌≡◌, ℕ, ◌<◌, ◌≤◌, if◌then◌else◌, true, false, List, [], ◌∷◌, length, Option, Some, None, Result, Ok, Err}
use Rattle.std.specs.List.{Contains, find, list_any}
use Rattle.tq_model.specs.declared.calls.EnqueueAsk.{EnqueueAsk}
use Rattle.tq_model.specs.declared.calls.DequeueAsk.{DequeueAsk}
use Rattle.tq_model.specs.declared.calls.CallAnswer.{CallAnswer}
use Rattle.tq_model.specs.declared.space.SpaceMove.TheVariants.{Insert, Remove, PutQueue}
use Rattle.tq_model.specs.Space.{Entry}
use Rattle.tq_model.specs.Moves.{IndexedQueue, IndexedSpace, space_of, has_index, indexed_holds, purged_of}
use Rattle.tq_model.specs.EnqueueStep.{CallOutcome, quality, next_id}
use Rattle.tq_model.specs.SpaceForm.{default_queue, holds_name, can_make}
use Rattle.tq_space.specs.declared.plans.Plan.{Plan}
use Rattle.tq_space.specs.declared.plans.Refusal.{Refusal}
use Rattle.tq_space.specs.declared.plans.Refusal.TheVariants.{Refused, NoMemory}
use Rattle.tq_space.specs.declared.plans.QueueRefusal.{QueueRefusal}
use Rattle.tq_space.specs.declared.plans.QueueRefusal.TheVariants as queue_refusals
use Rattle.tq_space.specs.Applied.{plan_applied}
use Rattle.tq_space.specs.Plain.{CanMoveBy}
use Rattle.tq_space.specs.NewEntry.{entry_of}
use Rattle.tq_space.specs.Reads.{indexed_named}

-- the plan's answer is the step's, its purge and moves give the step's space, and they can be made
pub record IsPlanOf (outcome : CallOutcome) (held : IndexedSpace) (plan : Plan) : Type 0 where
  pub answer : plan.answer ≡ Some outcome.answer
  pub space : space_of (plan_applied plan held) ≡ outcome.space
  pub can : CanMoveBy plan.moves (purged_of plan.purge held)

-- a plan exactly where the step has no refusal, and else that refusal and the purge, which drops nothing while no entry expires
abbrev pub MeetsStep : Result Plan Refusal → CallOutcome → Option CallAnswer → IndexedSpace → Type 0
MeetsStep (Ok plan) outcome refusal held = IsPlanOf outcome held plan × (refusal ≡ None)
MeetsStep (Err (Refused answer purge)) outcome refusal held =
    (refusal ≡ Some answer) × (answer ≡ outcome.answer) × (space_of (purged_of purge held) ≡ outcome.space) × (purge ≡ [])
MeetsStep (Err NoMemory) outcome refusal held = Unit {0}

-- the call is refused by the step
abbrev pub IsRefused : Result Plan Refusal → Type 0
IsRefused (Ok plan) = ⊥
IsRefused (Err (Refused answer purge)) = Unit {0}
IsRefused (Err NoMemory) = ⊥

-- What moves a plan has

-- an enqueue: its entry comes into the queue that it names
pub record IsInsertOf (ask : EnqueueAsk) (held : IndexedSpace) (plan : Plan) : Type 0 where
  pub purge : plan.purge ≡ []
  pub queue : IndexedQueue
  pub found : find (indexed_named ask.call.queue) held.queues ≡ Some queue
  pub moves : plan.moves ≡ Insert (entry_of ask queue.index (quality ask.call.qos queue.queue.qos) (next_id (space_of held) ask.next)) ∷ []

-- an entry of the space
pub record IsAmong (item : Entry) (held : IndexedSpace) : Type 0 where
  pub queue : IndexedQueue
  pub of_space : Contains held.queues queue
  pub of_queue : Contains queue.queue.items item

-- a dequeue: an entry of the space goes, but at a peek
pub record IsRemovalOf (ask : DequeueAsk) (held : IndexedSpace) (plan : Plan) : Type 0 where
  pub purge : plan.purge ≡ []
  pub item : Entry
  pub within : IsAmong item held
  pub holds : list_any (indexed_holds item.message.id) held.queues ≡ true
  pub moves : plan.moves ≡ (if ask.call.peek then [] else Remove item.message.id ∷ [])

-- a queue of a new name is made under the lowest index that no queue has
pub record IsCreationOf (name : List ℕ) (held : IndexedSpace) (plan : Plan) : Type 0 where
  pub purge : plan.purge ≡ []
  pub index : ℕ
  pub lowest : (i : ℕ) → i < index → list_any (has_index i) held.queues ≡ true
  pub can : can_make held index name ≡ true
  pub moves : plan.moves ≡ PutQueue index (default_queue name) ∷ []
  pub answer : plan.answer ≡ None

-- no queue has the name, and there are fewer than the space may have
pub record HasPlaceFor (name : List ℕ) (held : IndexedSpace) : Type 0 where
  pub new : list_any (holds_name name) held.queues ≡ false
  pub fewer : length held.queues < held.limits.queues

-- a plan, or want of memory, exactly where the name is new and there is a place; else the first that is lacking
abbrev pub MeetsCreation : Result Plan QueueRefusal → List ℕ → IndexedSpace → Type 0
MeetsCreation (Ok plan) name held = IsCreationOf name held plan × HasPlaceFor name held
MeetsCreation (Err queue_refusals.Taken) name held = list_any (holds_name name) held.queues ≡ true
MeetsCreation (Err (queue_refusals.QueueFull limit)) name held =
    (list_any (holds_name name) held.queues ≡ false) × (held.limits.queues ≤ length held.queues) × (limit ≡ held.limits.queues)
MeetsCreation (Err queue_refusals.NoMemory) name held = HasPlaceFor name held
