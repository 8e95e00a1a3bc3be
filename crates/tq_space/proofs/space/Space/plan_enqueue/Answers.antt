use Rattle.std.proofs.Common.{◌≡◌, ℕ, [], ◌∷◌, length, sym, ap, ◌∙◌, Option, Some, None, option_map}
use Rattle.std.specs.Prelude.{if◌then◌else◌}
use Rattle.std.proofs.lemmas.Option.{same_Some}
use Rattle.tq_types.specs.declared.identifiers.MsgId.{MsgId}
use Rattle.tq_types.specs.declared.messages.Entry.{Entry}
use Rattle.tq_types.specs.declared.messages.Qos.{Qos}
use Rattle.tq_model.specs.declared.calls.EnqueueAsk.{EnqueueAsk}
use Rattle.tq_model.specs.declared.calls.CallAnswer.TheVariants.{Enqueued}
use Rattle.tq_model.specs.declared.space.SpaceMove.TheVariants.{Insert}
use Rattle.tq_model.specs.Room.{pages_at, message_rooms, first_lacking}
use Rattle.tq_model.specs.Moves.{IndexedQueue, space_of}
use Rattle.tq_model.specs.EnqueueStep.{quality}
use Rattle.tq_space.specs.declared.shelf.Named.{Named}
use Rattle.tq_space.specs.NewEntry.{entry_of}
use Rattle.tq_space.specs.Reading.{named_of}
use Rattle.tq_space.proofs.OptionLemmas.{none_of, some_of}
use Rattle.tq_space.proofs.Steps.{not_both, no_queue, no_room, enqueue_planned}
use Rattle.tq_space.proofs.LogLemmas.{enqueue_durable}
use Rattle.tq_space.proofs.space.Space.plan_enqueue.Goals as goal

need_found : (ask : EnqueueAsk) (o : Option IndexedQueue) (q : IndexedQueue) (n : Named) → o ≡ Some q → option_map named_of o ≡ Some n
    → (qos : Qos) → qos ≡ quality ask.call.qos n.qos → (size : ℕ) → size ≡ length ask.call.body → (pages : ℕ) → pages ≡ pages_at qos size
    → pages_at (quality ask.call.qos q.queue.qos) (length ask.call.body) ≡ pages
need_found ask o q n found named qos is_qos size is_size pages is_pages =
    let same : named_of q ≡ n = same_Some (named_of q) n (ap (option_map named_of) (sym found) ∙ named) in
    sym (is_pages ∙ λ i. pages_at ((is_qos ∙ ap (λ (x : Named). quality ask.call.qos x.qos) (sym same)) i) (is_size i))

pub returns-in_default-clause-step : goal.returns-in_default-clause-step
returns-in_default-clause-step c =
    no_queue c.args.self.now.held c.named.ensures.lasting c.args.ask
    (none_of named_of _ (sym c.named.ensures.named ∙ c.in_default.is)) c.new.result c.new.ensures

pub returns-in_default-clause-granted : goal.returns-in_default-clause-granted
returns-in_default-clause-granted c = λ none refused. not_both (returns-in_default-clause-step c).0 none

pub returns-in-Some-lack-clause-step : goal.returns-in-Some-lack-clause-step
returns-in-Some-lack-clause-step c =
    let held = c.args.self.now.held in
    let ask = c.args.ask in
    let named = some_of named_of _ c.in-Some.queue (sym c.in-Some.ensures.named) in
    let need_is = need_found ask _ named.0 c.in-Some.queue named.1 (sym c.in-Some.ensures.named) c.chosen-qos.result c.chosen-qos.ensures c.len.result c.len.ensures c.message_pages.result c.message_pages.ensures.pages in
    no_room held c.named.ensures.lasting ask named.0 named.1 c.lack.result
    (ap (λ (n : ℕ). first_lacking (message_rooms (space_of held) (space_of held) n)) need_is ∙ sym c.lack.ensures)
    c.in-Some-lack.lack c.in-Some-lack.is c.new-in-Some-lack.result c.new-in-Some-lack.ensures

pub returns-in-Some-lack-clause-granted : goal.returns-in-Some-lack-clause-granted
returns-in-Some-lack-clause-granted c = λ none refused. not_both (returns-in-Some-lack-clause-step c).0 none

pub returns-clause-moves : goal.returns-clause-moves
returns-clause-moves c =
    let ask = c.args.ask in
    let named = some_of named_of _ c.in-Some.queue (sym c.in-Some.ensures.named) in
    let same = sym named.2 in
    let qos_is = c.chosen-qos.ensures ∙ ap (λ (n : Named). quality ask.call.qos n.qos) same in
    record {
      purge = c.in-Ok.ensures.purge;
      queue = named.0;
      found = named.1;
      moves = c.in-Ok.ensures.moves ∙ ap (λ (e : Entry). Insert e ∷ []) (c.new_entry-entry.ensures ∙ λ i. entry_of ask (same i).index (qos_is i) (c.id_of-id.ensures i));
    }

pub returns-clause-step : goal.returns-clause-step
returns-clause-step c =
    let held = c.args.self.now.held in
    let ask = c.args.ask in
    let insert = returns-clause-moves c in
    let need_is = need_found ask _ insert.queue c.in-Some.queue insert.found (sym c.in-Some.ensures.named) c.chosen-qos.result c.chosen-qos.ensures c.len.result c.len.ensures c.message_pages.result c.message_pages.ensures.pages in
    enqueue_planned held c.named.ensures.lasting ask c.in-Ok.plan insert c.lack.result
    (ap (λ (n : ℕ). first_lacking (message_rooms (space_of held) (space_of held) n)) need_is ∙ sym c.lack.ensures) c.in_default-lack.is
    c.named.ensures.indices c.requires.plain
    (c.in-Ok.ensures.answer ∙ ap (λ (o : Option MsgId). Some (Enqueued o)) (c.asked_id.ensures ∙ ap (λ (id : MsgId). if ask.call.want_id then Some id else None) c.id_of-id.ensures))

pub returns-clause-durable : goal.returns-clause-durable
returns-clause-durable c = λ bare plain. enqueue_durable c.args.ask c.args.self.now.held c.in-Ok.plan c.requires.checked bare plain (returns-clause-moves c) (returns-clause-step c).0.can
