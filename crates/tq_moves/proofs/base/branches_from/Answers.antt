use Rattle.std.proofs.Common.{◌+◌, ◌*◌, ◌∷◌, [], ◌++◌, length, sym, ap, ◌∙◌, arith}
use Rattle.tq_slots.specs.RecordForm.{branch_slot}
use Rattle.tq_slots.proofs.BaseLemmas.{no-slots, slots-more}
use Rattle.tq_field.proofs.Runs.{length-run_at}
use Rattle.tq_moves.proofs.base.branches_from.Goals as goal

pub loop-i-init : goal.loop-i-init
loop-i-init c = c.new-slots.ensures.items ∙ sym (no-slots branch_slot 160 c.args.at c.args.bytes.now)

pub read_branch_slot-requires : goal.read_branch_slot-requires
read_branch_slot-requires c =
    ap (λ l. length l) c.run.ensures ∙ length-run_at (c.args.at + 160 * c.loop-i.i) 160 c.args.bytes.now (omega arith)

pub loop-i-preserved : goal.loop-i-preserved
loop-i-preserved c =
    let before = c.loop-i.invariant in
    let slot = c.read_branch_slot.ensures ∙ ap branch_slot c.run.ensures in
    c.in_ok-push.ensures.items ∙ (λ j. before j ++ slot j ∷ []) ∙ sym (slots-more branch_slot 160 c.loop-i.i c.args.at c.args.bytes.now)
