use Rattle.std.proofs.Common.{◌≡◌, List, length, sym, ap, ◌∙◌, subst}
use Rattle.std.specs.List.{find, sum_by}
use Rattle.tq_model.specs.Space.{Entry}
use Rattle.tq_model.specs.Moves.{IndexedQueue, has_index}
use Rattle.tq_model.specs.Room.{pages_of_entry, queue_pages}
use Rattle.tq_space.specs.State.{SpaceState}
use Rattle.tq_space.specs.Plain.{CanDrop, HasNoEntries}
use Rattle.tq_space.proofs.Counts.{total, total_dropped, length_of}
use Rattle.tq_space.proofs.space.Space.drop_queue.Goals as goal

pub invariant_of-self : goal.invariant_of-self
invariant_of-self c =
    let qs = c.self.inside.shelf.queues in
    let index = c.args.index in
    let empty : HasNoEntries (find (has_index index) qs) = subst (λ (s : SpaceState). CanDrop index s.held) (sym c.self.view_is) c.requires in
    let same : total length_of c.drop_queue.new.self.queues ≡ total length_of qs =
    ap (λ (l : List IndexedQueue). total length_of l) c.drop_queue.ensures.queues ∙ total_dropped length_of (λ q none. ap (λ (l : List Entry). length l) none) index qs empty in
    let same' : total queue_pages c.drop_queue.new.self.queues ≡ total queue_pages qs =
    ap (λ (l : List IndexedQueue). total queue_pages l) c.drop_queue.ensures.queues ∙ total_dropped queue_pages (λ q none. ap (λ (l : List Entry). sum_by pages_of_entry l) none) index qs empty in
    record {
      messages = c.self.invariant.messages ∙ sym same;
      pages = c.self.invariant.pages ∙ sym same';
      messages_most = c.self.invariant.messages_most;
      pages_most = c.self.invariant.pages_most;
    }
