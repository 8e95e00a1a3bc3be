use Rattle.std.proofs.Common.{◌≡◌, ◌<◌, ◌+◌, ◌++◌, [], ◌∷◌, ℕ, List, length, take, drop, get_or, true, refl, sym, ap, ◌∙◌, subst, arith}
use Rattle.tq_model.specs.declared.space.Shape.{Shape}
use Rattle.tq_model.specs.Moves.{IndexedSpace}
use Rattle.tq_slots.specs.declared.record.QueueSlot.{QueueSlot}
use Rattle.tq_slots.specs.QueueForm.{queue_of_slot}
use Rattle.tq_store.specs.Filling.{HasQueues, can_take, queue_taken}
use Rattle.tq_store.specs.declared.fault.FileError.TheVariants as file
use Rattle.tq_store.proofs.ErrorLemmas.{handed_on}
use Rattle.tq_store.proofs.QueueFillLemmas.{queue_more, queue_unread}
use Rattle.tq_store.proofs.SnocLemmas.{length-part, part-more, part-next}
use Rattle.tq_store.proofs.filling.with_queues.Goals as goal

-- what stands past the end of slots
abbrev past : QueueSlot
past = record { used = 0; name_length = 0; name = []; count = 0; criteria = []; last = 0; rights = 0; qos = 0; retries = 0; delay = 0 }

module _ (site number : ℕ) (shape : Shape) (all : List QueueSlot) (i : ℕ) (below : i < length all) (s : IndexedSpace)
    (has : HasQueues site number shape (take i all) s) where
  abbrev next : QueueSlot
  next = get_or all i past

  next_queue : (s' : IndexedSpace) → can_take (queue_of_slot next) s ≡ true → s' ≡ queue_taken i (queue_of_slot next) s
      → HasQueues site number shape (take (i + 1) all) s'
  next_queue s' can taken =
      let more = queue_more site number shape (take i all) next s has can in
      let space : s' ≡ queue_taken (length (take i all)) (queue_of_slot next) s = taken
      ∙ ap (λ (n : ℕ). queue_taken n (queue_of_slot next) s) (sym (length-part all i (omega (arith, below)))) in
      subst (λ (l : List QueueSlot). HasQueues site number shape l s') (sym (part-more all i (i + 1) past below refl))
      (subst (HasQueues site number shape (take i all ++ next ∷ [])) (sym space) more)

pub returns-in_err-take_queue-clause-damaged : goal.returns-in_err-take_queue-clause-damaged
returns-in_err-take_queue-clause-damaged c = λ is bytes messages branches.
    let place = c.args.place.now in
    let all = c.args.queues.now in
    let i = c.loop-index.index in
    let below = c.loop-index-test.true in
    let refused = handed_on c.take_queue.result c.from_residual.result c.in_err-take_queue.field-0.0 file.Damaged c.in_err-take_queue.was
    c.from_residual.ensures.1 is in
    queue_unread place.site place.number c.args.shape.now (take i all) (get_or all i past) c.loop-index.space.held c.loop-index.invariant all (drop (i + 1) all)
    (part-next all i past below) bytes messages branches (c.take_queue.ensures.damaged refused)

pub loop-index-preserved : goal.loop-index-preserved
loop-index-preserved c =
    let place = c.args.place.now in
    next_queue place.site place.number c.args.shape.now c.args.queues.now c.loop-index.index c.loop-index-test.true c.loop-index.space.held
    c.loop-index.invariant
    c.take_queue.new.space.held c.in_ok-take_queue.ensures.can c.in_ok-take_queue.ensures.taken
