use Rattle.std.proofs.Common.{◌≡◌, ℕ, zero, suc, ◌||◌, Bool, true, false, cond, List, [], ◌∷◌, refl, sym, ap, ◌∙◌, subst, eq-eqb, Some}
use Rattle.std.specs.Prelude.{if◌then◌else◌}
use Rattle.std.specs.List.{find, list_any, insert, position_or_len}
use Rattle.tq_model.specs.declared.space.QueueDef.{QueueDef}
use Rattle.tq_model.specs.declared.space.SpaceMove.TheVariants.{PutQueue}
use Rattle.tq_model.specs.Space.{change_first}
use Rattle.tq_model.specs.Moves.{IndexedQueue, IndexedSpace, has_index, on_queue, moved, queue_of, queue_put, queue_added, comes_before}
use Rattle.tq_space.specs.Plain.{HasNoEntries, CanDrop}
use Rattle.tq_part_tests.proofs.spaces.put_and_drop.Goals as goal

find-insert : {X : Type 0} (p : X → Bool) (xs : List X) (n : ℕ) (x : X) → p x ≡ true → list_any p xs ≡ false → find p (insert xs n x) ≡ Some x
find-insert p [] zero x here none = ap (λ (b : Bool). cond b (Some x) (find p [])) here
find-insert p [] (suc n) x here none = ap (λ (b : Bool). cond b (Some x) (find p [])) here
find-insert p (y ∷ ys) zero x here none = ap (λ (b : Bool). cond b (Some x) (find p (y ∷ ys))) here
find-insert p (y ∷ ys) (suc n) x here none =
    elim (p y) as (λ b. b || list_any p ys ≡ false → cond b (Some y) (find p (insert ys n x)) ≡ Some x) [
      | true ↦ λ h. cc
      | false ↦ λ h. find-insert p ys n x here h
    ] none

-- a queue that is put where none was has no entries
none_yet : (index : ℕ) (d : QueueDef) (qs : List IndexedQueue) → list_any (has_index index) qs ≡ false → HasNoEntries (find (has_index index) (queue_put index d qs))
none_yet index d qs new =
    let q : IndexedQueue = record { index = index; queue = queue_of d [] } in
    let added : queue_put index d qs ≡ queue_added index d qs =
    ap (λ (b : Bool). if b then change_first (has_index index) (on_queue (λ queue. queue_of d queue.items)) qs else queue_added index d qs) new in
    let found : find (has_index index) (queue_put index d qs) ≡ Some q =
    ap (λ (l : List IndexedQueue). find (has_index index) l) added ∙ find-insert (has_index index) qs (position_or_len (comes_before d.name) qs) q (eq-eqb index index refl) new in
    subst HasNoEntries (sym found) refl

pub make-requires-2 : goal.make-requires-2
make-requires-2 g c =
    let put : CanDrop c.args.index (moved (PutQueue c.args.index c.args.def) c.args.space.now.held) = none_yet c.args.index c.args.def c.args.space.now.held.queues (cc c.holds_index-there.ensures) in
    subst (λ (s : IndexedSpace). CanDrop c.args.index s) (sym c.in_ok-make.ensures) put
