-- Numbers that are in their ranges.
use Rattle.std.proofs.Common.{ℕ, zero, suc, ◌+◌, ◌<◌, ◌^◌, List, [], ◌∷◌, length, take, get_or}
use Rattle.std.specs.List.{AllByRecursion}
use Rattle.std.proofs.lemmas.List.Elements.{All-more, All-from_recursion, recursion_from_All}
use Rattle.tq_slots.specs.declared.record.Set.{Set}
use Rattle.tq_slots.specs.declared.record.Set.TheVariants as sets
use Rattle.tq_slots.specs.RecordForm.{IsSet, AreSets, with_first, changed_at}

-- the items up to a place, and the one there
pub one-more : {X : Type 0} (P : X → Type 0) (xs : List X) (i : ℕ) (d : X) → i < length xs → AllByRecursion P (take i xs) → P (get_or xs i d)
    → AllByRecursion P (take (i + 1) xs)
one-more P xs i d lt before this =
    recursion_from_All P (take (i + 1) xs) (All-more P xs i d lt (All-from_recursion P (take i xs) before) this)

first-fits : (page : ℕ) (s : Set) → page < 256 ^ 4 → IsSet s → IsSet (with_first page s)
first-fits page (sets.Message index m) fits is =
    let f = is.1 in (is.0, (f.0, (f.1.0, (f.1.1.0, (f.1.1.1.0, (f.1.1.1.1.0, (f.1.1.1.1.1.0, (f.1.1.1.1.1.1.0, (f.1.1.1.1.1.1.1.0, (f.1.1.1.1.1.1.1.1.0, (fits, f.1.1.1.1.1.1.1.1.1.1)))))))))))
first-fits page (sets.Queue index q) fits is = is
first-fits page (sets.Branch index b) fits is = is

-- sets of which one gets another first page
pub changed-fit : (k page : ℕ) (xs : List Set) → page < 256 ^ 4 → AreSets xs → AreSets (changed_at k (with_first page) xs)
changed-fit k page [] fits are = tt
changed-fit zero page (s ∷ xs) fits are = (first-fits page s fits are.0, are.1)
changed-fit (suc k) page (s ∷ xs) fits are = (are.0, changed-fit k page xs fits are.1)
