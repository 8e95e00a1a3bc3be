use Rattle.std.proofs.Common.{◌≡◌, ℕ, ◌≤◌, ◌||◌, Bool, false, List, [], ◌∷◌, length, sym, ap, ◌∙◌, subst, arith, eq-eqb}
use Rattle.tq_types.specs.declared.messages.Entry.{Entry}
use Rattle.tq_model.specs.declared.space.QueueDef.{QueueDef}
use Rattle.tq_types.specs.declared.identifiers.MsgId.{MsgId}
use Rattle.tq_model.specs.declared.space.SpaceMove.{SpaceMove}
use Rattle.tq_model.specs.declared.space.SpaceMove.TheVariants.{PutQueue, Insert}
use Rattle.tq_model.specs.Moves.{IndexedQueue, IndexedSpace, purged_of}
use Rattle.tq_model.specs.Room.{pages_at}
use Rattle.tq_model.specs.SpaceForm.{empty_space}
use Rattle.tq_space.specs.Plain.{IsPlainEntry, CanMoveBy}
use Rattle.tq_part_tests.proofs.spaces.queues.Goals as goal

-- a queue and its first entry, in a space without queues
first_moves : (s : IndexedSpace) (index : ℕ) (d : QueueDef) (e : Entry) → s.queues ≡ [] → 1 ≤ s.limits.messages → IsPlainEntry e → e.queue ≡ index
    → pages_at e.message.qos (length e.message.body) ≡ 0 → CanMoveBy (PutQueue index d ∷ Insert e ∷ []) s
first_moves s index d e none limit plain at pages =
    let bare : CanMoveBy (PutQueue index d ∷ Insert e ∷ []) (record s { queues = [] }) = (
      tt,
      (
        record {
          plain = plain;
          there = ap (λ (b : Bool). b || false) (eq-eqb index e.queue (sym at));
          messages = limit;
          pages = omega (arith, pages);
        },
        tt,
      ),
    ) in
    subst (λ (qs : List IndexedQueue). CanMoveBy (PutQueue index d ∷ Insert e ∷ []) (record s { queues = qs })) (sym none) bare

pub apply-requires-clause-can : goal.apply-requires-clause-can
apply-requires-clause-can g c =
    let space = c.new-space.result in
    let is_new : space.held ≡ empty_space c.shape.result 1 8 = c.new-space.ensures.held in
    let none : space.held.queues ≡ [] = ap (λ (s : IndexedSpace). s.queues) is_new in
    let limit : space.held.limits.messages ≡ 2 = ap (λ (s : IndexedSpace). s.limits.messages) is_new ∙ c.shape.ensures in
    let moves = PutQueue 3 c.definition.result ∷ Insert c.in_ok-first.first ∷ [] in
    let here : CanMoveBy moves space.held =
    first_moves space.held 3 c.definition.result c.in_ok-first.first none (omega arith) c.in_ok-first.ensures.plain c.in_ok-first.ensures.queue c.in_ok-first.ensures.pages in
    let plan = c.in_ok-plan.plan in
    let held = c.reserve.new.self.held in
    let on : CanMoveBy moves held = subst (λ (s : IndexedSpace). CanMoveBy moves s) (sym c.reserve.ensures.held) here in
    let unpurged : CanMoveBy moves (purged_of plan.purge held) = subst (λ (ids : List MsgId). CanMoveBy moves (purged_of ids held)) (sym c.in_ok-plan.ensures.purge) on in
    subst (λ (l : List SpaceMove). CanMoveBy l (purged_of plan.purge held)) (sym c.in_ok-plan.ensures.moves) unpurged
