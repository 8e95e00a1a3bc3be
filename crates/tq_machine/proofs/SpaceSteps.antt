-- The steps of a space, by what is found in its queues before the purge.
use Rattle.std.proofs.Common.{◌≡◌, ℕ, true, false, not, ◌&&◌, List, map, set, get_or, length, refl, sym, ap, ◌∙◌, Option, Some, None, option_map}
use Rattle.std.specs.Prelude.{filter, nat_le, if◌then◌else◌}
use Rattle.std.specs.List.{find, position, position_or_len}
use Rattle.std.proofs.lemmas.List.{map-set, get_or-map}
use Rattle.tq_types.specs.declared.identifiers.Arrival.{Arrival}
use Rattle.tq_model.specs.declared.calls.EnqueueWords.{EnqueueWords}
use Rattle.tq_model.specs.declared.calls.DequeueWords.{DequeueWords}
use Rattle.tq_model.specs.declared.calls.CallAnswer.{CallAnswer}
use Rattle.tq_model.specs.declared.calls.CallAnswer.TheVariants.{Enqueued, BadQueue, NoSpace}
use Rattle.tq_model.specs.CallFlags.{wants_id}
use Rattle.tq_machine.specs.MachineViews.{IsWithinLimits}
use Rattle.tq_model.specs.Space.{Space, Queue, Entry, is_named, queue_named, is_free, is_past, is_eligible, is_expired, purged, purged_queue, with_entry, with_entry_in, space_without}
use Rattle.tq_model.specs.Room.{pages_at, first_lacking, message_rooms}
use Rattle.tq_model.specs.EnqueueStep.{CallOutcome, next_id, entry_to_come, enqueue_step, enqueue_refusal, enqueue_refusal_at, unless_refused, with_message}
use Rattle.tq_model.specs.DequeueStep.{delivered, dequeue_step, dequeue_refusal, dequeue_answer, found_in, refusal_at, taken_from}
use Rattle.tq_model.specs.CallChecks.{enqueue_call, dequeue_call}
use Rattle.tq_machine.specs.SpaceCalls.{enqueue_asked, dequeue_asked}
use Rattle.tq_model.proofs.Maps.{find-map, find-filter}
use Rattle.tq_model.proofs.Places.{position_or_len-map, position-found, change_first-at, find-found}
use Rattle.tq_machine.proofs.Limits.{within-added}

-- an expired entry is not eligible
expired-misses : (clock : ℕ) (item : Entry) → not (is_expired clock item) ≡ false → is_eligible clock item ≡ false
expired-misses clock item =
    elim (is_free item.mark) as (λ free. not (free && is_past clock item.message.expiration) ≡ false → (free && nat_le item.message.available clock && not (is_past clock item.message.expiration)) ≡ false) [
      | false ↦ λ h. refl
      | true ↦
          elim (is_past clock item.message.expiration) as (λ past. not past ≡ false → (nat_le item.message.available clock && not past) ≡ false) [
            | true ↦ λ h. elim (nat_le item.message.available clock) as (λ b. (b && false) ≡ false) [ true ↦ refl | false ↦ refl ]
            | false ↦ λ h. cc
          ]
    ]

pub eligible-purged : (clock : ℕ) (items : List Entry) → find (is_eligible clock) (filter (λ item. not (is_expired clock item)) items) ≡ find (is_eligible clock) items
eligible-purged clock items = find-filter (λ item. not (is_expired clock item)) (is_eligible clock) (expired-misses clock) items

pub named-purged : (clock : ℕ) (name : List ℕ) (queues : List Queue) → queue_named name (map (purged_queue clock) queues) ≡ option_map (purged_queue clock) (queue_named name queues)
named-purged clock name queues = find-map (purged_queue clock) (is_named name) queues

-- Enqueue

module _ (s : Space) (w : EnqueueWords) (clock : ℕ) (next : Arrival) where
  pub enqueue-unnamed : queue_named w.queue s.queues ≡ None → enqueue_refusal s (enqueue_asked w clock next) ≡ Some BadQueue
  enqueue-unnamed none = ap (enqueue_refusal_at s (purged clock s) (enqueue_call w clock)) (named-purged clock w.queue s.queues ∙ ap (option_map (purged_queue clock)) none)

  pub enqueue-named : (queue : Queue) → queue_named w.queue s.queues ≡ Some queue
      → enqueue_refusal s (enqueue_asked w clock next) ≡ option_map NoSpace (first_lacking (message_rooms s (purged clock s) (pages_at queue.qos (length w.body))))
  enqueue-named queue found = ap (enqueue_refusal_at s (purged clock s) (enqueue_call w clock)) (named-purged clock w.queue s.queues ∙ ap (option_map (purged_queue clock)) found)

  pub enqueue-granted : (queue : Queue) → queue_named w.queue s.queues ≡ Some queue → enqueue_refusal s (enqueue_asked w clock next) ≡ None
      → enqueue_step s (enqueue_asked w clock next)
      ≡ record {
        space = record s { queues = with_entry_in w.queue (entry_to_come s queue (enqueue_call w clock) next) (map (purged_queue clock) s.queues) };
        answer = Enqueued (if wants_id w.flags then Some (next_id s next) else None);
      }
  enqueue-granted queue found granted =
      let call = enqueue_call w clock in
      let before : Space = purged clock s in
      ap (λ (o : Option CallAnswer). unless_refused o before (record { space = with_message before call next (queue_named w.queue before.queues); answer = Enqueued (if wants_id w.flags then Some (next_id s next) else None) })) granted
      ∙ ap (λ (o : Option Queue). let outcome : CallOutcome = record { space = with_message before call next o; answer = Enqueued (if wants_id w.flags then Some (next_id s next) else None) } in outcome)
      (named-purged clock w.queue s.queues ∙ ap (option_map (purged_queue clock)) found)

-- the message stands in the queue that is found by its name
pub added-queues : (clock : ℕ) (name : List ℕ) (item : Entry) (queues : List Queue) (at : ℕ) (d queue : Queue) → position (is_named name) queues ≡ Some at
    → purged_queue clock queue ≡ with_entry item (purged_queue clock (get_or queues at d))
    → map (purged_queue clock) (set queues at queue) ≡ with_entry_in name item (map (purged_queue clock) queues)
added-queues clock name item queues at d queue found same =
    let parts = position-found (is_named name) queues at found in
    let view = map (purged_queue clock) queues in
    let first : position_or_len (is_named name) view ≡ at = position_or_len-map (purged_queue clock) (is_named name) queues ∙ parts.0 in
    map-set (purged_queue clock) queues at queue
    ∙ ap (set view at) (same ∙ ap (with_entry item) (sym (get_or-map (purged_queue clock) queues at d (purged_queue clock d) parts.1)))
    ∙ ap (λ (n : ℕ). set view n (with_entry item (get_or view n (purged_queue clock d)))) (sym first)
    ∙ sym (change_first-at (is_named name) (with_entry item) (purged_queue clock d) view)

-- Dequeue

module _ (s : Space) (w : DequeueWords) (clock : ℕ) where
  pub dequeue-unnamed : queue_named w.queue s.queues ≡ None → dequeue_refusal s (dequeue_asked w clock) ≡ Some BadQueue
  dequeue-unnamed none =
      ap (λ (o : Option Queue). refusal_at o (found_in (dequeue_call w) clock o)) (named-purged clock w.queue s.queues ∙ ap (option_map (purged_queue clock)) none)

  pub dequeue-named : (queue : Queue) → queue_named w.queue s.queues ≡ Some queue
      → dequeue_refusal s (dequeue_asked w clock) ≡ refusal_at (Some (purged_queue clock queue)) (find (is_eligible clock) queue.items)
  dequeue-named queue found =
      ap (λ (o : Option Queue). refusal_at o (found_in (dequeue_call w) clock o)) (named-purged clock w.queue s.queues ∙ ap (option_map (purged_queue clock)) found)
      ∙ ap (refusal_at (Some (purged_queue clock queue))) (eligible-purged clock queue.items)

  pub dequeue-granted : (queue : Queue) (item : Entry) → queue_named w.queue s.queues ≡ Some queue → find (is_eligible clock) queue.items ≡ Some item
      → dequeue_step s (dequeue_asked w clock) ≡ record { space = space_without item.message.id (purged clock s); answer = delivered (dequeue_call w) item }
  dequeue-granted queue item found first =
      let call = dequeue_call w in
      let before : Space = purged clock s in
      ap (λ (o : Option Queue). let outcome : CallOutcome = record { space = taken_from before call (found_in call clock o); answer = dequeue_answer call o (found_in call clock o) } in outcome)
      (named-purged clock w.queue s.queues ∙ ap (option_map (purged_queue clock)) found)
      ∙ ap (λ (o : Option Entry). let outcome : CallOutcome = record { space = taken_from before call o; answer = dequeue_answer call (Some (purged_queue clock queue)) o } in outcome)
      (eligible-purged clock queue.items ∙ first)

none-mapped : {X Y : Type 0} (f : X → Y) (o : Option X) → option_map f o ≡ None → o ≡ None
none-mapped f None h = refl
none-mapped f (Some x) h = cc

-- a granted enqueue, by the place of its queue
module _ (s : Space) (w : EnqueueWords) (clock at : ℕ) (d : Queue) (next : Arrival) (found : position (is_named w.queue) s.queues ≡ Some at)
    (granted : enqueue_refusal s (enqueue_asked w clock next) ≡ None) where
  abbrev pub entry-added : Entry
  entry-added = entry_to_come s (get_or s.queues at d) (enqueue_call w clock) next

  pub space-added : record s { queues = with_entry_in w.queue entry-added (map (purged_queue clock) s.queues) } ≡ (enqueue_step s (enqueue_asked w clock next)).space
  space-added =
      ap (λ (o : CallOutcome). o.space) (sym (enqueue-granted s w clock next (get_or s.queues at d) (find-found (is_named w.queue) s.queues at d found) granted))

  pub within-limits-added : IsWithinLimits s → IsWithinLimits (record s { queues = with_entry_in w.queue entry-added (map (purged_queue clock) s.queues) })
  within-limits-added within =
      let queue = get_or s.queues at d in
      let need = pages_at queue.qos (length w.body) in
      let named = enqueue-named s w clock next queue (find-found (is_named w.queue) s.queues at d found) in
      within-added w.queue entry-added clock need s within refl (none-mapped NoSpace (first_lacking (message_rooms s (purged clock s) need)) (sym named ∙ granted))

-- what a granted dequeue finds
pub dequeue-queue : (s : Space) (w : DequeueWords) (clock : ℕ) → dequeue_refusal s (dequeue_asked w clock) ≡ None → queue_named w.queue s.queues ≡ None → ⊥
dequeue-queue s w clock granted none = let clash = sym (dequeue-unnamed s w clock none) ∙ granted in cc

pub dequeue-entry : (s : Space) (w : DequeueWords) (clock : ℕ) (queue : Queue) → dequeue_refusal s (dequeue_asked w clock) ≡ None → queue_named w.queue s.queues ≡ Some queue
    → find (is_eligible clock) queue.items ≡ None → ⊥
dequeue-entry s w clock queue granted found none =
    let clash = sym (dequeue-named s w clock queue found ∙ ap (refusal_at (Some (purged_queue clock queue))) none) ∙ granted in cc
