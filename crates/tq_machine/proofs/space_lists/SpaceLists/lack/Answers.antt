use Rattle.std.proofs.Common.{◌≡◌, ◌∙◌, ℕ, [], ◌∷◌, ap, sym, length, arith}
use Rattle.std.specs.List.{sum_by}
use Rattle.tq_types.specs.declared.rooms.Resource.TheVariants.{Messages, Pages}
use Rattle.tq_machine.specs.MachineViews.{space_view}
use Rattle.tq_model.specs.Space.{Space, Queue, purged, purged_queue}
use Rattle.tq_model.specs.Room.{queue_pages, messages_held, first_lacking, message_rooms}
use Rattle.tq_model.proofs.Maps.{sum_by-map}
use Rattle.tq_machine.proofs.Limits.{purged-messages}
use Rattle.tq_machine.proofs.space_lists.SpaceLists.lack.Goals as goal

lasting_is : (clock : ℕ) (s : Space) → sum_by (λ (q : Queue). length (purged_queue clock q).items) s.queues ≡ messages_held (purged clock s)
lasting_is clock s = sym (sum_by-map (purged_queue clock) (λ (q : Queue). length q.items) s.queues)

pub count_lasting-requires : goal.count_lasting-requires
count_lasting-requires c =
    let clock = c.args.clock in
    let s = space_view c.self.inside in
    let same = ap (sum_by (λ (q : Queue). length (purged_queue clock q).items)) c.deref.ensures.value ∙ lasting_is clock s in
    omega (arith, same, purged-messages clock s, c.self.invariant.messages)

pub count_pages-requires : goal.count_pages-requires
count_pages-requires c =
    let same = ap (sum_by queue_pages) c.deref-2.ensures.value in
    omega (arith, same, c.self.invariant.pages)

pub first_lack-requires-clause-messages_fit : goal.first_lack-requires-clause-messages_fit
first_lack-requires-clause-messages_fit c =
    let clock = c.args.clock in
    let s = space_view c.self.inside in
    let same = c.count_lasting.ensures ∙ ap (sum_by (λ (q : Queue). length (purged_queue clock q).items)) c.deref.ensures.value ∙ lasting_is clock s in
    omega (arith, same, purged-messages clock s, c.self.invariant.messages)

pub first_lack-requires-clause-pages_fit : goal.first_lack-requires-clause-pages_fit
first_lack-requires-clause-pages_fit c =
    let same = c.count_pages.ensures ∙ ap (sum_by queue_pages) c.deref-2.ensures.value in
    omega (arith, same, c.self.invariant.pages, c.requires)

pub returns : goal.returns
returns c =
    let clock = c.args.clock in
    let need = c.args.need in
    let s = space_view c.self.inside in
    let messages = c.count_lasting.ensures ∙ ap (sum_by (λ (q : Queue). length (purged_queue clock q).items)) c.deref.ensures.value ∙ lasting_is clock s in
    let pages = c.count_pages.ensures ∙ ap (sum_by queue_pages) c.deref-2.ensures.value in
    c.first_lack.ensures
    ∙ (λ i. first_lacking (record { resource = Messages; need = 1; held = messages i; limit = c.from-messages.ensures i } ∷ record { resource = Pages; need = need; held = pages i; limit = c.from-pages.ensures i } ∷ []))
    ∙ ap (λ (t : Space). first_lacking (message_rooms t (purged clock t) need)) c.self.view_is
