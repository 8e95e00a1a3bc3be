use Rattle.std.proofs.Common.{◌+◌, ◌*◌, ◌∷◌, [], ◌++◌, length, sym, ap, ◌∙◌, arith}
use Rattle.tq_slots.specs.RecordForm.{queue_slot}
use Rattle.tq_slots.proofs.BaseLemmas.{no-slots, slots-more}
use Rattle.tq_field.proofs.Runs.{length-run_at}
use Rattle.tq_moves.proofs.base.queues_from.Goals as goal

pub loop-i-init : goal.loop-i-init
loop-i-init c = c.new-slots.ensures.items ∙ sym (no-slots queue_slot 512 c.args.at c.args.bytes.now)

pub read_queue_slot-requires : goal.read_queue_slot-requires
read_queue_slot-requires c =
    ap (λ l. length l) c.run.ensures ∙ length-run_at (c.args.at + 512 * c.loop-i.i) 512 c.args.bytes.now (omega arith)

pub loop-i-preserved : goal.loop-i-preserved
loop-i-preserved c =
    let before = c.loop-i.invariant in
    let slot = c.read_queue_slot.ensures ∙ ap queue_slot c.run.ensures in
    c.in_ok-push.ensures.items ∙ (λ j. before j ++ slot j ∷ []) ∙ sym (slots-more queue_slot 512 c.loop-i.i c.args.at c.args.bytes.now)
