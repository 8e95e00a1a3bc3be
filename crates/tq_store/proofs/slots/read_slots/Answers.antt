use Rattle.std.proofs.Common.{Option, ◌∙◌, sym, subst, rules}
use Rattle.tq_slots.specs.SlotImages.{RawSlots}
use Rattle.tq_store.specs.SlotReading.{bytes_of, IsMissing}
use Rattle.tq_store.proofs.SlotReadingLemmas.{slots_from_base, sizes_by}
use Rattle.tq_store.proofs.slots.read_slots.Goals as goal

pub returns-in_err-follow_all-clause-read : goal.returns-in_err-follow_all-clause-read
returns-in_err-follow_all-clause-read c =
    let payloads = bytes_of c.args.payloads.now in
    let same = slots_from_base c.args.shape.now c.args.base.now payloads c.in_ok-slots.slots c.in_ok-slots.ensures in
    let refused = subst (λ (o : Option RawSlots). IsMissing o c.in_err-follow_all.field-0.0) (sym same) c.in_err-follow_all.ensures.refused in
    search rules

pub returns-clause-read : goal.returns-clause-read
returns-clause-read c =
    slots_from_base c.args.shape.now c.args.base.now (bytes_of c.args.payloads.now) c.in_ok-slots.slots c.in_ok-slots.ensures ∙ c.in_ok-follow_all.ensures.done

pub returns-clause-size : goal.returns-clause-size
returns-clause-size c =
    sizes_by c.args.shape.now c.args.base.now (bytes_of c.args.payloads.now) c.follow_all.new.slots
    (slots_from_base c.args.shape.now c.args.base.now (bytes_of c.args.payloads.now) c.in_ok-slots.slots c.in_ok-slots.ensures ∙ c.in_ok-follow_all.ensures.done)
