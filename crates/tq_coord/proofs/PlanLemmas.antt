-- Plans of calls on a space.
use Rattle.std.proofs.Common.{◌≡◌, ◌≤◌, ℕ, List, length, Option, Some, None, Ok, Err, Bool, true, false, sym, ◌∙◌, ap, subst, arith}
use Rattle.std.specs.Prelude.{if◌then◌else◌, nat_le, nat_lt, not, ◌&&◌, option_map}
use Rattle.std.specs.List.{list_any}
use Rattle.std.proofs.lemmas.Bool.{and_parts, not-true, le-leb, lt-leb}
use Rattle.tq_types.specs.declared.identifiers.Arrival.{Arrival}
use Rattle.tq_types.specs.declared.identifiers.MsgId.{MsgId}
use Rattle.tq_model.specs.declared.answer.Answer.{Answer}
use Rattle.tq_model.specs.declared.answer.Answer.TheVariants as answers
use Rattle.tq_model.specs.declared.answer.SpaceAnswer.TheVariants as spaces
use Rattle.tq_model.specs.declared.calls.CallAnswer.{CallAnswer}
use Rattle.tq_model.specs.Space.{Space}
use Rattle.tq_model.specs.Moves.{IndexedSpace, space_of, has_index, moved_by, purged_of}
use Rattle.tq_model.specs.SpaceForm.{holds_name, made_length}
use Rattle.tq_model.specs.EnqueueStep.{CallOutcome}
use Rattle.tq_model.specs.Step.{SpaceOutcome, with_queue, space_unless, queue_refusal, queue_outcome}
use Rattle.tq_model.proofs.RecordMoves.{queue_space, has_queue_is, queues_counted}
use Rattle.tq_space.specs.declared.plans.Plan.{Plan}
use Rattle.tq_space.specs.declared.plans.Refusal.TheVariants.{Refused}
use Rattle.tq_space.specs.Loggable.{IsDurable}
use Rattle.tq_space.specs.Planned.{MeetsStep, IsCreationOf, HasPlaceFor}
use Rattle.tq_space.proofs.LogLemmas.{same_durable}
use Rattle.tq_coord.specs.declared.planning.Planned.TheVariants as planned
use Rattle.tq_coord.specs.Calls.{IsPlanned, IsPlanFor}

-- ---- an enqueue or a dequeue, by its step

module _ (step : Space → CallOutcome) (refusal : Space → Option CallAnswer) (size numbers : ℕ) (next : Arrival) (held s : IndexedSpace) (is : held ≡ s) where
  abbrev outcome : Space → SpaceOutcome
  outcome x = record { refusal = option_map answers.Call (refusal x); answer = answers.Call (step x).answer; space = (step x).space; size = size; numbers = numbers }

  -- a plan of the step's, whose answer is taken out of it
  pub granted_is : (plan other : Plan) → MeetsStep (Ok plan) (step (space_of held)) (refusal (space_of held)) held → IsDurable next size numbers held plan
      → other.purge ≡ plan.purge → other.moves ≡ plan.moves → (a : Answer) → ((x : CallAnswer) → plan.answer ≡ Some x → a ≡ answers.Call x)
      → IsPlanned s next (outcome (space_of s)) (planned.Granted other a)
  granted_is plan other meets durable purge moves a taken =
      subst (λ (x : IndexedSpace). IsPlanned x next (outcome (space_of x)) (planned.Granted other a)) is (
        ap (option_map answers.Call) meets.1,
        taken (step (space_of held)).answer meets.0.answer,
        record {
          space = (λ i. space_of (moved_by (moves i) (purged_of (purge i) held))) ∙ meets.0.space;
          durable = same_durable next size numbers held plan other purge moves durable;
        },
      )

  -- a refusal of the step's, which leaves the space as it is
  pub refused_is : (answer : CallAnswer) (purge : List MsgId) → MeetsStep (Err (Refused answer purge)) (step (space_of held)) (refusal (space_of held)) held
      → IsPlanned s next (outcome (space_of s)) (planned.Refused (answers.Call answer))
  refused_is answer purge meets =
      subst (λ (x : IndexedSpace). IsPlanned x next (outcome (space_of x)) (planned.Refused (answers.Call answer))) is
      (ap (option_map answers.Call) meets.0, ap (λ (ids : List MsgId). space_of (purged_of ids held)) (sym meets.3) ∙ meets.2)

-- ---- the refusals of a new queue

module _ (name : List ℕ) (s : IndexedSpace) where
  abbrev with_room : Bool → Option Answer
  with_room full = if full then Some (answers.Space (spaces.QueueFull s.limits.queues)) else None

  abbrev taken_or : Bool → Bool → Option Answer
  taken_or taken full = if taken then Some (answers.Space spaces.Taken) else with_room full

  abbrev is_full : Bool
  is_full = nat_le (space_of s).limits.queues (length (space_of s).queues)

  pub queue_taken : list_any (holds_name name) s.queues ≡ true → queue_refusal name (space_of s) ≡ Some (answers.Space spaces.Taken)
  queue_taken taken = ap (λ (b : Bool). taken_or b is_full) (has_queue_is name s ∙ taken)

  pub queue_full : (limit : ℕ) → (list_any (holds_name name) s.queues ≡ false) × (s.limits.queues ≤ length s.queues) × (limit ≡ s.limits.queues) → queue_refusal name (space_of s) ≡ Some (answers.Space (spaces.QueueFull limit))
  queue_full limit is =
      ap (λ (b : Bool). taken_or b is_full) (has_queue_is name s ∙ is.0)
      ∙ ap with_room (le-leb s.limits.queues (length (space_of s).queues) (omega (arith, queues_counted s, is.1)))
      ∙ ap (λ (k : ℕ). Some (answers.Space (spaces.QueueFull k))) (sym is.2)

  pub queue_free : HasPlaceFor name s → queue_refusal name (space_of s) ≡ None
  queue_free place =
      ap (λ (b : Bool). taken_or b is_full) (has_queue_is name s ∙ place.new) ∙ ap with_room (lt-leb s.limits.queues (length (space_of s).queues) (omega (arith, queues_counted s, place.fewer)))

  -- a refusal, which leaves the space as it is
  pub queue_refused : (a : Answer) → queue_refusal name (space_of s) ≡ Some a → (queue_refusal name (space_of s) ≡ Some a) × (space_of s ≡ (queue_outcome name (space_of s)).space)
  queue_refused a is = (is, sym (ap (λ (o : Option Answer). space_unless o (space_of s) (with_queue name (space_of s))) is))

-- ---- a new queue

module _ (name : List ℕ) (s : IndexedSpace) (plan : Plan) (creation : IsCreationOf name s plan) (place : HasPlaceFor name s) where
  unused : list_any (has_index creation.index) s.queues ≡ false
  unused =
      let room = nat_lt creation.index s.limits.queues in
      let new = not (list_any (has_index creation.index) s.queues) in
      not-true (list_any (has_index creation.index) s.queues) (and_parts room new (and_parts (room && new) (not (list_any (holds_name name) s.queues)) creation.can).0).1

  pub queue_planned : (next : Arrival) → IsDurable next (made_length name) 0 s plan → IsPlanFor s next (queue_outcome name (space_of s)) plan
  queue_planned next durable = record {
    space = (λ i. space_of (moved_by (creation.moves i) (purged_of (creation.purge i) s))) ∙ queue_space creation.index name s unused
        ∙ sym (ap (λ (o : Option Answer). space_unless o (space_of s) (with_queue name (space_of s))) (queue_free name s place));
    durable = durable;
  }
