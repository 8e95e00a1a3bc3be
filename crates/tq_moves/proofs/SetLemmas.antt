-- Reading sets one after another, as a loop does.
use Rattle.std.proofs.Common.{◌≡◌, ℕ, suc, ◌-◌, ◌+◌, ◌≤◌, ◌<◌, List, [], ◌∷◌, ◌++◌, length, Result, Ok, Err, refl, sym, ap, ◌∙◌, append_assoc, arith}
use Rattle.std.specs.Prelude.{IfOk}
use Rattle.std.proofs.lemmas.List.{append-nil}
use Rattle.tq_moves.specs.declared.fault.MoveError.{MoveError}
use Rattle.tq_moves.specs.declared.fault.MoveError.TheVariants.{BadRecord, NoMemory}
use Rattle.tq_moves.specs.Given.{Fails, Gives}
use Rattle.tq_field.specs.Digits.{AreBytes}
use Rattle.tq_slots.specs.declared.record.Rec.{Rec}
use Rattle.tq_slots.specs.declared.record.Set.{Set}
use Rattle.tq_slots.specs.RecordForm.{◌>>=◌, IsRecord, IsSpelling, record_view, record_in, set_in, sets_in, key_of}
use Rattle.tq_slots.proofs.RecordLemmas.{record-found}

-- what was read before, and what is still read
abbrev pub with_front : List Set → Result (List Set × List ℕ) ℕ → Result (List Set × List ℕ) ℕ
with_front front read = read >>= λ x. Ok (front ++ x.0, x.1)

nothing-front : (read : Result (List Set × List ℕ) ℕ) → with_front [] read ≡ read
nothing-front (Ok x) = refl
nothing-front (Err at) = refl

pub begins : (front : List Set) (count i least at next : ℕ) (bytes : List ℕ) → front ≡ [] → i ≡ 0 → next ≡ at
    → with_front front (sets_in (count - i) least next bytes) ≡ sets_in count least at bytes
begins front count i least at next bytes none first place =
    let all : count - i ≡ count = omega arith in
    (λ j. with_front (none j) (sets_in (all j) least (place j) bytes)) ∙ nothing-front (sets_in count least at bytes)

regroup : (front : List Set) (s : Set) (read : Result (List Set × List ℕ) ℕ)
    → with_front front (read >>= λ x. Ok (s ∷ x.0, x.1)) ≡ with_front (front ++ s ∷ []) read
regroup front s (Ok x) = ap (λ (sets : List Set). Ok (sets, x.1)) (simp append_assoc)
regroup front s (Err at) = refl

pub goes_on : (front : List Set) (count i least at next : ℕ) (bytes : List ℕ) (s : Set) (after : List ℕ) (total : Result (List Set × List ℕ) ℕ)
    → i < count → set_in least at bytes ≡ Ok (s, after) → next ≡ at + (length bytes - length after)
    → with_front front (sets_in (count - i) least at bytes) ≡ total → with_front (front ++ s ∷ []) (sets_in (count - (i + 1)) (key_of s + 1) next after) ≡ total
unfolding sets_in
goes_on front count i least at next bytes s after total lt h place so_far =
    let k : count - i ≡ suc (count - (i + 1)) = omega arith in
    let one : with_front front (sets_in (count - i) least at bytes) ≡ with_front (front ++ s ∷ []) (sets_in (count - (i + 1)) (key_of s + 1) next after) =
    rw (k, h, place) (regroup front s (sets_in (count - (i + 1)) (key_of s + 1) (at + (length bytes - length after)) after)) in
    sym one ∙ so_far

pub ends : (e : MoveError) (front : List Set) (count i least at : ℕ) (bytes : List ℕ) (total : Result (List Set × List ℕ) ℕ)
    → i < count → Fails e (set_in least at bytes)
    → with_front front (sets_in (count - i) least at bytes) ≡ total → Fails e total
unfolding sets_in
ends NoMemory front count i least at bytes total lt h so_far = tt
ends (BadRecord place) front count i least at bytes total lt h so_far =
    let k : count - i ≡ suc (count - (i + 1)) = omega arith in
    let one : with_front front (sets_in (count - i) least at bytes) ≡ Err place = rw (k, h) refl in
    sym so_far ∙ one

pub is_done : (front : List Set) (count i least at : ℕ) (bytes : List ℕ) (total : Result (List Set × List ℕ) ℕ)
    → count ≤ i → with_front front (sets_in (count - i) least at bytes) ≡ total → total ≡ Ok (front, bytes)
unfolding sets_in
is_done front count i least at bytes total le so_far =
    let k : count - i ≡ 0 = omega arith in
    let one : with_front front (sets_in (count - i) least at bytes) ≡ Ok (front, bytes) = rw k (ap (λ (sets : List Set). Ok (
      sets,
      bytes,
    )) (append-nil front)) in
    sym so_far ∙ one

-- a record that was read is spelt so
pub found-by : (bytes : List ℕ) (r : Result Rec MoveError) → AreBytes bytes → Gives record_view r (record_in bytes)
    → IfOk r (λ rec. IsRecord (record_view rec) × IsSpelling (record_view rec) bytes)
found-by bytes (Ok rec) are given = record-found bytes (record_view rec) are given
found-by bytes (Err e) are given = tt
