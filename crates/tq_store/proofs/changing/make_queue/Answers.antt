use Rattle.std.proofs.Common.{length, ap, subst, sym, ◌∙◌, arith}
use Rattle.std.proofs.lemmas.Bool.{lt-ltb}
use Rattle.tq_gate.specs.Frame.{payload_in}
use Rattle.tq_slots.specs.declared.record.QueueSlot.{QueueSlot}
use Rattle.tq_slots.specs.declared.record.Set.TheVariants as sets
use Rattle.tq_slots.specs.SlotImages.{RawSlots, with_set}
use Rattle.tq_store.specs.Change.{IsRecordOf}
use Rattle.tq_store.proofs.DraftLemmas.{list_made}
use Rattle.tq_store.proofs.changing.make_queue.Goals as goal

pub returns-clause-made : goal.returns-clause-made
returns-clause-made c =
    let old = c.args.table.now in
    let index = c.args.index in
    let payload = payload_in c.in_ok-_rec.change.frame.items in
    let s = sets.Queue index c.queue_slot-slot.result in
    let place = lt-ltb index (length old.queues) c.requires.within in
    let made = list_made c.in_ok-_rec._rec.kind _ s old payload c.in_ok-_rec.ensures.sets (omega arith) place c.in_ok-_rec.ensures.spells in
    record {
      slots = c.set_queue.ensures ∙ ap (λ (q : QueueSlot). with_set (sets.Queue index q) old) c.queue_slot-slot.ensures;
      message = c.in_ok-_rec.ensures.message ∙ c.new.ensures.items;
      written = record {
        frame = c.in_ok-_rec.ensures.frame;
        fits = c.in_ok-_rec.ensures.fits;
        record_is = subst (λ (t : RawSlots). IsRecordOf old t payload) (sym c.set_queue.ensures) made;
      };
    }
