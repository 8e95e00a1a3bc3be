-- The moves of plans, in the words of the records of a space's log.
use Rattle.std.proofs.Common.{◌≡◌, ℕ, ◌&&◌, Bool, true, false, List, [], ◌∷◌, refl, ap, ◌∙◌, sym, Some, eq-eqb}
use Rattle.std.specs.Prelude.{if◌then◌else◌}
use Rattle.std.specs.List.{All, Contains, find, list_any, position_or_len}
use Rattle.std.proofs.lemmas.List.Folds.{list_any_at}
use Rattle.std.proofs.lemmas.List.Elements.{All-contains}
use Rattle.tq_types.specs.declared.identifiers.MsgId.{MsgId}
use Rattle.tq_model.specs.declared.calls.DequeueAsk.{DequeueAsk}
use Rattle.tq_model.specs.declared.space.SpaceMove.TheVariants.{Remove}
use Rattle.tq_model.specs.declared.record.SpaceRecord.TheVariants.{Gone}
use Rattle.tq_model.specs.Space.{Entry, same_id, has_id}
use Rattle.tq_model.specs.Moves.{IndexedQueue, IndexedSpace, indexed_holds}
use Rattle.tq_model.specs.SpaceForm.{id_in, move_of, holds_arrival}
use Rattle.tq_model.specs.SpaceLog.{arrival_of}
use Rattle.tq_model.specs.Plain.{AllIds, IsOwn}
use Rattle.tq_space.specs.declared.plans.Plan.{Plan}
use Rattle.tq_space.specs.Planned.{IsRemovalOf, IsAmong}
use Rattle.tq_space.proofs.Counts.{found-place}

-- ---- what is found is there

pub found_contained : {X : Type 0} (p : X → Bool) (xs : List X) (x : X) → find p xs ≡ Some x → Contains xs x
found_contained p xs x found = let place = found-place p xs x found in (position_or_len p xs, place.0, place.1)

contained_any : {X : Type 0} (p : X → Bool) (xs : List X) (x : X) → p x ≡ true → Contains xs x → list_any p xs ≡ true
contained_any p xs x passes there = list_any_at p xs there.0 x there.1 (ap p there.2 ∙ passes)

same_as_itself : (id : MsgId) → same_id id id ≡ true
same_as_itself id =
    let same = λ (n : ℕ). eq-eqb n n refl in
    λ i. same id.site i && same id.space i && same id.epoch i && same id.number i

-- an entry's identifier is held
pub among_held : (item : Entry) (held : IndexedSpace) → IsAmong item held → list_any (indexed_holds item.message.id) held.queues ≡ true
among_held item held among =
    let id = item.message.id in
    contained_any (indexed_holds id) held.queues among.queue (contained_any (has_id id) among.queue.queue.items item (same_as_itself id) among.of_queue) among.of_space

-- what holds of each identifier of a space holds of an entry's
pub among_id : (P : MsgId → Type 0) (item : Entry) (held : IndexedSpace) → AllIds P held → IsAmong item held → P item.message.id
among_id P item held all among =
    let here = All-contains (λ (q : IndexedQueue). All (λ (x : Entry). P x.message.id) q.queue.items) held.queues among.queue all among.of_space in
    All-contains (λ (x : Entry). P x.message.id) among.queue.queue.items item here among.of_queue

-- ---- plans and records

pub removal_recorded : (ask : DequeueAsk) (held : IndexedSpace) (plan : Plan) → ask.call.peek ≡ false → IsOwn held
    → (removal : IsRemovalOf ask held plan)
    → (plan.moves ≡ move_of held (Gone (arrival_of removal.item.message.id)) ∷ []) × (holds_arrival held (arrival_of removal.item.message.id) ≡ true)
removal_recorded ask held plan taken own removal =
    let id = removal.item.message.id in
    let of_space = among_id (λ id. (id.site ≡ held.site) × (id.space ≡ held.number)) removal.item held own removal.within in
    let same : id ≡ id_in held (arrival_of id) = λ i. record { site = of_space.0 i; space = of_space.1 i; epoch = id.epoch; number = id.number } in (
      removal.moves ∙ ap (λ (peek : Bool). if peek then [] else Remove id ∷ []) taken ∙ (λ i. Remove (same i) ∷ []),
      sym (λ i. list_any (indexed_holds (same i)) held.queues) ∙ removal.holds,
    )
