use Rattle.std.proofs.Common.{◌≡◌, List, refl, sym, ap, ◌∙◌, subst}
use Rattle.tq_model.specs.declared.space.Change.{Change}
use Rattle.tq_model.specs.Moves.{IndexedQueue, IndexedSpace, space_of, owner_in, entry_with_id, entry_replaced}
use Rattle.tq_model.specs.Room.{pages_of_entry, queue_pages, messages_held, pages_held}
use Rattle.tq_space.specs.State.{SpaceState}
use Rattle.tq_space.specs.SpaceView.{held_of}
use Rattle.tq_space.specs.Plain.{CanReplace}
use Rattle.tq_space.proofs.Counts.{total, total_replaced, length_of, length_more, length_less, pages_more, pages_less}
use Rattle.tq_space.proofs.space.Space.replace.Goals as goal

module _ (old new : IndexedSpace) (change : Change) (is_new : new.queues ≡ entry_replaced (owner_in old.owners) change (entry_with_id change.id old.queues) old.queues) (can : CanReplace change old) where
  same_messages : messages_held (space_of new) ≡ messages_held (space_of old)
  same_messages =
      ap (λ (l : List IndexedQueue). total length_of l) is_new ∙ total_replaced (owner_in old.owners) length_of (λ item. 1) length_more length_less change (λ item. refl) old.queues can.there

  same_pages : pages_held (space_of new) ≡ pages_held (space_of old)
  same_pages =
      ap (λ (l : List IndexedQueue). total queue_pages l) is_new ∙ total_replaced (owner_in old.owners) queue_pages pages_of_entry pages_more pages_less change (λ item. refl) old.queues can.there

pub invariant_of-self : goal.invariant_of-self
invariant_of-self c =
    let change = c.args.change.now in
    let old = held_of c.self.inside in
    let new : IndexedSpace = record old { queues = c.replace.new.self.queues } in
    let can : CanReplace change old = subst (λ (s : SpaceState). CanReplace change s.held) (sym c.self.view_is) c.requires.can in
    record {
      messages = c.self.invariant.messages ∙ sym (same_messages old new change c.replace.ensures.queues can);
      pages = c.self.invariant.pages ∙ sym (same_pages old new change c.replace.ensures.queues can);
      messages_most = c.self.invariant.messages_most;
      pages_most = c.self.invariant.pages_most;
    }

pub returns-clause-messages : goal.returns-clause-messages
returns-clause-messages c =
    let old = c.args.self.now.held in
    let new : IndexedSpace = record (held_of c.self.inside) { queues = c.replace.new.self.queues } in
    let queues = ap (λ (s : SpaceState). entry_replaced (owner_in s.held.owners) c.args.change.now (entry_with_id c.args.change.now.id s.held.queues) s.held.queues) c.self.view_is in
    same_messages old new c.args.change.now (c.replace.ensures.queues ∙ queues) c.requires.can

pub returns-clause-pages : goal.returns-clause-pages
returns-clause-pages c =
    let old = c.args.self.now.held in
    let new : IndexedSpace = record (held_of c.self.inside) { queues = c.replace.new.self.queues } in
    let queues = ap (λ (s : SpaceState). entry_replaced (owner_in s.held.owners) c.args.change.now (entry_with_id c.args.change.now.id s.held.queues) s.held.queues) c.self.view_is in
    same_pages old new c.args.change.now (c.replace.ensures.queues ∙ queues) c.requires.can
