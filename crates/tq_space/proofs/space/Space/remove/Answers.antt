use Rattle.std.proofs.Common.{◌≡◌, ◌+◌, ◌-◌, List, length, sym, ap, ◌∙◌, arith, Some, None, option_map}
use Rattle.tq_model.specs.Moves.{IndexedQueue, entry_view, entry_removed, entry_with_id, session_owners}
use Rattle.tq_model.specs.Room.{pages_of_entry, queue_pages, pages_at}
use Rattle.tq_space.proofs.Counts.{total, total_removed, removed_nothing, length_of, length_less, pages_less}
use Rattle.tq_space.proofs.space.Space.remove.Goals as goal

pub overflow_sub-self : goal.overflow_sub-self
overflow_sub-self c =
    let qs = c.self.inside.shelf.queues in
    let messages : c.self.inside.messages ≡ total length_of qs = c.self.invariant.messages in
    let pages : c.self.inside.pages ≡ total queue_pages qs = c.self.invariant.pages in
    let id = c.args.id.now in
    let entry = c.in-Some.entry in
    let gone : entry_with_id id qs ≡ Some (entry_view session_owners entry) = sym c.in-Some.ensures.entry in
    let fewer : total length_of (entry_removed id qs) + 1 ≡ total length_of qs = total_removed length_of (λ item. 1) length_less id (entry_view session_owners entry) qs gone in
    let less : total queue_pages (entry_removed id qs) + pages_at entry.message.qos (length entry.message.body) ≡ total queue_pages qs = total_removed queue_pages pages_of_entry pages_less id (entry_view session_owners entry) qs gone in
    omega (arith, messages, fewer)

pub overflow_sub-self-in-Some : goal.overflow_sub-self-in-Some
overflow_sub-self-in-Some c =
    let qs = c.self.inside.shelf.queues in
    let messages : c.self.inside.messages ≡ total length_of qs = c.self.invariant.messages in
    let pages : c.self.inside.pages ≡ total queue_pages qs = c.self.invariant.pages in
    let id = c.args.id.now in
    let entry = c.in-Some.entry in
    let gone : entry_with_id id qs ≡ Some (entry_view session_owners entry) = sym c.in-Some.ensures.entry in
    let fewer : total length_of (entry_removed id qs) + 1 ≡ total length_of qs = total_removed length_of (λ item. 1) length_less id (entry_view session_owners entry) qs gone in
    let less : total queue_pages (entry_removed id qs) + pages_at entry.message.qos (length entry.message.body) ≡ total queue_pages qs = total_removed queue_pages pages_of_entry pages_less id (entry_view session_owners entry) qs gone in
    omega (arith, pages, less, c.entry_pages.ensures)

pub invariant_of-self : goal.invariant_of-self
invariant_of-self c =
    let qs = c.self.inside.shelf.queues in
    let messages : c.self.inside.messages ≡ total length_of qs = c.self.invariant.messages in
    let pages : c.self.inside.pages ≡ total queue_pages qs = c.self.invariant.pages in
    let id = c.args.id.now in
    let entry = c.in-Some.entry in
    let gone : entry_with_id id qs ≡ Some (entry_view session_owners entry) = sym c.in-Some.ensures.entry in
    let fewer : total length_of (entry_removed id qs) + 1 ≡ total length_of qs = total_removed length_of (λ item. 1) length_less id (entry_view session_owners entry) qs gone in
    let less : total queue_pages (entry_removed id qs) + pages_at entry.message.qos (length entry.message.body) ≡ total queue_pages qs = total_removed queue_pages pages_of_entry pages_less id (entry_view session_owners entry) qs gone in
    let now_fewer : total length_of c.remove.new.self.queues ≡ total length_of (entry_removed id qs) = ap (λ (l : List IndexedQueue). total length_of l) c.remove.ensures.queues in
    let now_less : total queue_pages c.remove.new.self.queues ≡ total queue_pages (entry_removed id qs) = ap (λ (l : List IndexedQueue). total queue_pages l) c.remove.ensures.queues in
    let new_messages : c.self.inside.messages - 1 ≡ total length_of c.remove.new.self.queues = omega (arith, messages, fewer, now_fewer) in
    let new_pages : c.self.inside.pages - c.entry_pages.result ≡ total queue_pages c.remove.new.self.queues = omega (arith, pages, less, now_less, c.entry_pages.ensures) in
    record {
      messages = new_messages;
      pages = new_pages;
      messages_most = omega (arith, c.self.invariant.messages_most);
      pages_most = omega (arith, c.self.invariant.pages_most);
    }

pub invariant_of-self-in_default : goal.invariant_of-self-in_default
invariant_of-self-in_default c =
    let qs = c.self.inside.shelf.queues in
    let messages : c.self.inside.messages ≡ total length_of qs = c.self.invariant.messages in
    let pages : c.self.inside.pages ≡ total queue_pages qs = c.self.invariant.pages in
    let id = c.args.id.now in
    let none : entry_with_id id qs ≡ None = sym c.remove.ensures.entry ∙ ap (option_map (entry_view session_owners)) c.in_default.is in
    let same : c.remove.new.self.queues ≡ qs = c.remove.ensures.queues ∙ removed_nothing id qs none in
    record {
      messages = messages ∙ ap (λ (l : List IndexedQueue). total length_of l) (sym same);
      pages = pages ∙ ap (λ (l : List IndexedQueue). total queue_pages l) (sym same);
      messages_most = c.self.invariant.messages_most;
      pages_most = c.self.invariant.pages_most;
    }
