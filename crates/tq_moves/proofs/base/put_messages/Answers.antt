use Rattle.std.proofs.Common.{rules, List, ℕ, ◌++◌, take, sym, ap, ◌∙◌, append_assoc}
use Rattle.std.specs.List.{flat_map}
use Rattle.tq_slots.specs.BaseForm.{message_slot_spelt}
use Rattle.tq_slots.specs.Fields.{AreFields}
use Rattle.tq_slots.specs.RecordForm.{message_fields}
use Rattle.tq_moves.proofs.ByteLemmas.{one-spelt}
use Rattle.tq_moves.proofs.RangeLemmas.{one-more}
use Rattle.tq_moves.proofs.base.put_messages.Goals as goal

pub loop-message-preserved : goal.loop-message-preserved
loop-message-preserved c =
    record {
      place = search rules;
      front = c.put-end.ensures.front ∙ (λ j. c.loop-message.invariant.front j ++ c.message_bytes.ensures.bytes j)
          ∙ append_assoc (take c.args.at c.args.into.now) (flat_map message_slot_spelt (take c.loop-message.message-index c.args.messages.now)) _
          ∙ ap (λ (spelt : List ℕ). take c.args.at c.args.into.now ++ spelt)
          (sym (one-spelt message_slot_spelt c.args.messages.now c.loop-message.message-index _ c.loop-message-test.true));
      ranges =
          one-more (λ m. AreFields (message_fields m)) c.args.messages.now c.loop-message.message-index _ c.loop-message-test.true
          c.loop-message.invariant.ranges c.message_bytes.ensures.fields;
      size = search rules;
    }
