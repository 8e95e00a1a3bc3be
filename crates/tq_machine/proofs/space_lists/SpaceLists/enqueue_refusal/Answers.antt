use Rattle.std.proofs.Common.{◌∙◌, ℕ, ap, sym, option_map}
use Rattle.std.specs.Prelude.{option_copied}
use Rattle.tq_model.specs.declared.calls.CallAnswer.TheVariants.{NoSpace}
use Rattle.tq_model.specs.Space.{Space, queue_named, purged}
use Rattle.tq_model.specs.Room.{pages_at, first_lacking, message_rooms}
use Rattle.tq_machine.proofs.SpaceSteps.{enqueue-unnamed, enqueue-named}
use Rattle.tq_machine.proofs.space_lists.SpaceLists.enqueue_refusal.Goals as goal

pub returns-in_default : goal.returns-in_default
returns-in_default c =
    let name = c.args.ask.now.words.now.queue in
    let none = ap (λ (s : Space). queue_named name s.queues) (sym c.self.view_is) ∙ ap (queue_named name) (sym c.deref.ensures.value) ∙ sym c.queue_named.ensures ∙ ap option_copied c.in_default.is in
    sym (enqueue-unnamed c.args.self.now c.args.ask.now.words.now c.args.ask.now.clock c.args.ask.now.next none)

pub returns-in-Some-lack : goal.returns-in-Some-lack
returns-in-Some-lack c =
    let s = c.args.self.now in
    let w = c.args.ask.now.words.now in
    let clock = c.args.ask.now.clock in
    let queue = c.in-Some.queue.now in
    let found = ap (λ (t : Space). queue_named w.queue t.queues) (sym c.self.view_is) ∙ ap (queue_named w.queue) (sym c.deref.ensures.value) ∙ sym c.in-Some.ensures in
    let pages = c.message_pages.ensures.pages ∙ λ i. pages_at (c.qos.ensures i) (c.len.ensures i) in
    ap (option_map NoSpace) (sym c.in-Some-lack.is ∙ c.lack.ensures ∙ ap (λ (n : ℕ). first_lacking (message_rooms s (purged clock s) n)) pages)
    ∙ sym (enqueue-named s w clock c.args.ask.now.next queue found)

pub returns-in-None : goal.returns-in-None
returns-in-None c =
    let s = c.args.self.now in
    let w = c.args.ask.now.words.now in
    let clock = c.args.ask.now.clock in
    let queue = c.in-Some.queue.now in
    let found = ap (λ (t : Space). queue_named w.queue t.queues) (sym c.self.view_is) ∙ ap (queue_named w.queue) (sym c.deref.ensures.value) ∙ sym c.in-Some.ensures in
    let pages = c.message_pages.ensures.pages ∙ λ i. pages_at (c.qos.ensures i) (c.len.ensures i) in
    ap (option_map NoSpace) (sym c.in-None.is ∙ c.lack.ensures ∙ ap (λ (n : ℕ). first_lacking (message_rooms s (purged clock s) n)) pages)
    ∙ sym (enqueue-named s w clock c.args.ask.now.next queue found)
