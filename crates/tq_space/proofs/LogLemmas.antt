-- Plans that the log of a space takes.
use Rattle.std.proofs.Common.{◌≡◌, ◌≤◌, ℕ, ◌+◌, true, false, List, [], ◌∷◌, length, Option, refl, sym, ap, subst, ◌∙◌, arith, add-zero}
use Rattle.tq_types.specs.declared.identifiers.Arrival.{Arrival}
use Rattle.tq_types.specs.declared.identifiers.MsgId.{MsgId}
use Rattle.tq_types.specs.declared.messages.AskedQos.{AskedQos}
use Rattle.tq_types.specs.declared.messages.Entry.{Entry}
use Rattle.tq_types.specs.declared.messages.Qos.{Qos}
use Rattle.tq_types.specs.declared.messages.Qos.TheVariants.{Persistent}
use Rattle.std.proofs.lemmas.List.Elements.{All-contains}
use Rattle.tq_model.specs.declared.calls.EnqueueAsk.{EnqueueAsk}
use Rattle.tq_model.specs.declared.calls.DequeueAsk.{DequeueAsk}
use Rattle.tq_model.specs.declared.record.SpaceRecord.{SpaceRecord}
use Rattle.tq_model.specs.declared.record.SpaceRecord.TheVariants.{Added, Gone, QueueMade}
use Rattle.tq_model.specs.declared.space.SpaceMove.{SpaceMove}
use Rattle.tq_model.specs.declared.space.SpaceMove.TheVariants.{Insert}
use Rattle.tq_model.specs.Moves.{IndexedSpace, space_of, moved, moved_by, purged_of}
use Rattle.tq_model.specs.EnqueueStep.{quality, next_id}
use Rattle.tq_model.specs.SpaceForm.{spelt, id_in, move_of, can_follow, plain_entry, added_length, gone_length, made_length, longest_body}
use Rattle.tq_model.specs.SpaceLog.{IsShort, IsSaidBy, spelt_size, size_in_log, CanFollow, CanFollowBy, arrival_of}
use Rattle.tq_model.specs.Plain.{HasOnlySurvivors, KeepsAllAtCrash, IsOwn, IsBefore, IsNewer}
use Rattle.tq_model.proofs.RecordMoves.{moved_plain, ids_gone, ids_made, newer_is_new, newer_next}
use Rattle.tq_model.proofs.Replays.{can_add_from}
use Rattle.tq_model.proofs.SpaceLogLemmas.{added_size, gone_size, made_size, record_back}
use Rattle.tq_space.specs.declared.plans.Plan.{Plan}
use Rattle.tq_space.specs.Applied.{plan_applied}
use Rattle.tq_space.specs.Loggable.{IsDurable}
use Rattle.tq_space.specs.NewEntry.{entry_of}
use Rattle.tq_space.specs.Plain.{IsBareEnqueue, CanInsert, CanMove, CanMoveBy}
use Rattle.tq_space.specs.Planned.{IsInsertOf, IsRemovalOf, IsCreationOf}
use Rattle.tq_space.specs.Reads.{indexed_named}
use Rattle.tq_space.proofs.PlanMoves.{found_contained, removal_recorded}

-- A plan whose move is that of a record.
module _ (next : Arrival) (size numbers : ℕ) (s : IndexedSpace) (r : SpaceRecord) (plan : Plan) (purge : plan.purge ≡ []) (moves : plan.moves ≡ move_of s r ∷ []) where
  said_plan : (size_is : length (spelt r) ≡ size) → CanMove (move_of s r) s → IsShort r
      → (1 ≤ next.epoch → IsNewer next.epoch next.number s → can_follow next.epoch s r ≡ true)
      → (IsNewer next.epoch next.number s → IsNewer next.epoch (next.number + numbers) (moved (move_of s r) s))
      → IsDurable next size numbers s plan
  said_plan size_is can short follows newer =
      let back = record_back s r in
      let done : plan_applied plan s ≡ moved (move_of s r) s = ap (λ (ids : List MsgId). moved_by plan.moves (purged_of ids s)) purge ∙ ap (λ (ms : List SpaceMove). moved_by ms s) moves in
      record {
        loggable = record {
          purge = purge;
          move = move_of s r;
          moves = moves;
          can = can;
          said = subst (λ (o : Option SpaceRecord). IsSaidBy s (move_of s r) o) (sym back) (refl, short);
        };
        size = ap size_in_log moves ∙ ap spelt_size back ∙ size_is;
        follows = λ some new. subst (CanFollowBy next.epoch s) (sym moves) (subst (CanFollow next.epoch s) (sym back) (follows some new));
        lasts = λ plain. subst KeepsAllAtCrash (sym done) (moved_plain s r plain);
        newer = λ new. subst (IsNewer next.epoch (next.number + numbers)) (sym done) (newer new);
      }

-- no number is taken
no_more : (next : Arrival) (s : IndexedSpace) → IsNewer next.epoch next.number s → IsNewer next.epoch (next.number + 0) s
no_more next s is = subst (λ (k : ℕ). IsNewer next.epoch k s) (sym (add-zero next.number)) is

-- ---- an enqueue

bare_entry : (ask : EnqueueAsk) (index : ℕ) (id : MsgId) → IsBareEnqueue ask.call → entry_of ask index Persistent id ≡ plain_entry index ask.next id ask.call.body
bare_entry ask index id bare = λ i.
    entry_of (record ask {
      call = record ask.call {
        priority = bare.priority i;
        available = bare.available i;
        expiration = bare.expiration i;
        corr = bare.corr i;
        replyq = bare.replyq i;
        failq = bare.failq i;
        reply_qos = bare.reply_qos i;
      };
    }) index Persistent id

insert_said : (ask : EnqueueAsk) (s : IndexedSpace) (plan : Plan) → IsBareEnqueue ask.call → KeepsAllAtCrash s → (insert : IsInsertOf ask s plan) → plan.moves ≡ move_of s (Added insert.queue.index ask.next ask.call.body) ∷ []
insert_said ask s plan bare plain insert =
    let queue = insert.queue in
    let id = next_id (space_of s) ask.next in
    let of_queue : queue.queue.qos ≡ Persistent = (All-contains HasOnlySurvivors s.queues queue plain (found_contained (indexed_named ask.call.queue) s.queues queue insert.found)).qos in
    let persistent : quality ask.call.qos queue.queue.qos ≡ Persistent = ap (λ (asked : AskedQos). quality asked queue.queue.qos) bare.qos ∙ of_queue in
    insert.moves ∙ ap (λ (qos : Qos). Insert (entry_of ask queue.index qos id) ∷ []) persistent ∙ ap (λ (e : Entry). Insert e ∷ []) (bare_entry ask queue.index id bare)

pub enqueue_durable : (ask : EnqueueAsk) (s : IndexedSpace) (plan : Plan) → length ask.call.body ≤ longest_body → IsBareEnqueue ask.call → KeepsAllAtCrash s → IsInsertOf ask s plan
    → CanMoveBy plan.moves (purged_of plan.purge s) → IsDurable ask.next (added_length ask.call.body) 1 s plan
enqueue_durable ask s plan short bare plain insert can_all =
    let r = Added insert.queue.index ask.next ask.call.body in
    let moves = insert_said ask s plan bare plain insert in
    let can : CanInsert (plain_entry insert.queue.index ask.next (id_in s ask.next) ask.call.body) s =
    (subst (λ (ms : List SpaceMove). CanMoveBy ms s) moves (subst (λ (ids : List MsgId). CanMoveBy plan.moves (purged_of ids s)) insert.purge can_all)).0 in
    said_plan ask.next (added_length ask.call.body) 1 s r plan insert.purge moves (added_size insert.queue.index ask.next ask.call.body) can short
    (λ some newer. can_add_from ask.next.epoch s insert.queue.index ask.next ask.call.body (record {
      has_queue = can.there;
      some = some;
      upto = omega arith;
      new = newer_is_new ask.next.epoch ask.next.number s newer;
      message = omega (arith, can.messages);
      pages = can.pages;
    }))
    (newer_next ask.next.epoch ask.next.number insert.queue.index ask.call.body s)

-- ---- a dequeue

pub dequeue_durable : (ask : DequeueAsk) (s : IndexedSpace) (plan : Plan) → ask.call.peek ≡ false → IsOwn s → IsRemovalOf ask s plan → (next : Arrival) → IsDurable next gone_length 0 s plan
dequeue_durable ask s plan taken own removal next =
    let gone = arrival_of removal.item.message.id in
    let said = removal_recorded ask s plan taken own removal in
    said_plan next gone_length 0 s (Gone gone) plan removal.purge said.0 (gone_size gone) tt tt (λ some newer. said.1)
    (λ before. no_more next (moved (move_of s (Gone gone)) s) (ids_gone (IsBefore next.epoch next.number) s gone before))

-- ---- a new queue

pub creation_durable : (name : List ℕ) (s : IndexedSpace) (plan : Plan) → IsCreationOf name s plan → (next : Arrival) → IsDurable next (made_length name) 0 s plan
creation_durable name s plan creation next =
    let made = QueueMade creation.index name in
    said_plan next (made_length name) 0 s made plan creation.purge creation.moves (made_size creation.index name) tt tt (λ some newer. creation.can)
    (λ before. no_more next (moved (move_of s made) s) (ids_made (IsBefore next.epoch next.number) s creation.index name before))

-- the same purge and moves, whatever is answered
pub same_durable : (next : Arrival) (size numbers : ℕ) (s : IndexedSpace) (plan other : Plan) → other.purge ≡ plan.purge → other.moves ≡ plan.moves → IsDurable next size numbers s plan → IsDurable next size numbers s other
same_durable next size numbers s plan other purge moves is =
    let done : plan_applied other s ≡ plan_applied plan s = λ i. moved_by (moves i) (purged_of (purge i) s) in
    record {
      loggable = record { purge = purge ∙ is.loggable.purge; move = is.loggable.move; moves = moves ∙ is.loggable.moves; can = is.loggable.can; said = is.loggable.said };
      size = ap size_in_log moves ∙ is.size;
      follows = λ some new. subst (CanFollowBy next.epoch s) (sym moves) (is.follows some new);
      lasts = λ plain. subst KeepsAllAtCrash (sym done) (is.lasts plain);
      newer = λ new. subst (IsNewer next.epoch (next.number + numbers)) (sym done) (is.newer new);
    }
