use Rattle.std.proofs.Common.{◌≡◌, List, refl, sym, ap, ◌∙◌}
use Rattle.tq_model.specs.Space.{Queue}
use Rattle.tq_model.specs.Moves.{IndexedQueue, has_index, queue_of}
use Rattle.tq_model.specs.Room.{queue_pages}
use Rattle.tq_space.proofs.Counts.{total, total_added, total_changed, length_of}
use Rattle.tq_space.proofs.space.Space.put_queue.Goals as goal

pub invariant_of-self : goal.invariant_of-self
invariant_of-self c =
    let qs = c.self.inside.shelf.queues in
    let index = c.args.index in
    let change : Queue → Queue = λ (queue : Queue). queue_of c.args.def.now queue.items in
    let same : total length_of c.change_queue.new.self.queues ≡ total length_of qs =
    ap (λ (l : List IndexedQueue). total length_of l) c.change_queue.ensures.queues ∙ total_changed length_of (has_index index) change (λ q. refl) qs in
    let same' : total queue_pages c.change_queue.new.self.queues ≡ total queue_pages qs =
    ap (λ (l : List IndexedQueue). total queue_pages l) c.change_queue.ensures.queues ∙ total_changed queue_pages (has_index index) change (λ q. refl) qs in
    record {
      messages = c.self.invariant.messages ∙ sym same;
      pages = c.self.invariant.pages ∙ sym same';
      messages_most = c.self.invariant.messages_most;
      pages_most = c.self.invariant.pages_most;
    }

pub invariant_of-self-else-holds_index : goal.invariant_of-self-else-holds_index
invariant_of-self-else-holds_index c =
    let qs = c.self.inside.shelf.queues in
    let index = c.args.index in
    let d = c.args.def.now in
    let same : total length_of c.add_queue.new.self.queues ≡ total length_of qs =
    ap (λ (l : List IndexedQueue). total length_of l) c.add_queue.ensures.queues ∙ total_added length_of index d refl qs in
    let same' : total queue_pages c.add_queue.new.self.queues ≡ total queue_pages qs =
    ap (λ (l : List IndexedQueue). total queue_pages l) c.add_queue.ensures.queues ∙ total_added queue_pages index d refl qs in
    record {
      messages = c.self.invariant.messages ∙ sym same;
      pages = c.self.invariant.pages ∙ sym same';
      messages_most = c.self.invariant.messages_most;
      pages_most = c.self.invariant.pages_most;
    }
