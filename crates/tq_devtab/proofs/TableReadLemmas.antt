-- The entries and the extents of a table, read one after another.
use Rattle.std.proofs.Common.{◌≡◌, ◌<◌, ◌≤◌, ℕ, zero, suc, ◌+◌, ◌-◌, ◌*◌, Bool, ◌&&◌, List, [], ◌∷◌, ◌++◌, length, get_or, take, drop, refl, sym, ap, ◌∙◌, arith, append_assoc}
use Rattle.std.specs.Prelude.{nat_le}
use Rattle.std.specs.List.{list_all, sum_by}
use Rattle.std.proofs.lemmas.List.{append-nil}
use Rattle.std.proofs.lemmas.List.Sums.{sum_by-cons}
use Rattle.tq_field.specs.Places.{run_at, number_at}
use Rattle.tq_model.specs.declared.answer.Extent.{Extent}
use Rattle.tq_model.specs.Site.{table_entries}
use Rattle.tq_model.specs.DeviceForm.{extents_at, extent_count, raw_entry, raw_entries, RawEntry}

-- a slice is a run
pub slice_run : (start n : ℕ) (base : List ℕ) → take (start + n - start) (drop start base) ≡ run_at start n base
slice_run start n base = let size : start + n - start ≡ n = omega arith in ap (λ k. take k (drop start base)) size

-- ---- extents

extents_at-next : (n i start : ℕ) (base : List ℕ) → i < n
    → extents_at (n - i) (start + 4 * i) base
    ≡ record { first = number_at (start + 4 * i) 2 base; count = number_at (start + 4 * i + 2) 2 base } ∷ extents_at (n - (i + 1)) (start + 4 * (i + 1)) base
unfolding extents_at
extents_at-next n i start base lt =
    let left : n - i ≡ suc (n - (i + 1)) = omega arith in
    let place : start + 4 * i + 4 ≡ start + 4 * (i + 1) = omega arith in
    let e : Extent = record { first = number_at (start + 4 * i) 2 base; count = number_at (start + 4 * i + 2) 2 base } in
    ap (λ k. extents_at k (start + 4 * i) base) left ∙ ap (λ k. e ∷ extents_at (n - (i + 1)) k base) place

-- one more is read
pub extents_at-more : (n i start first count : ℕ) (base : List ℕ) (read : List Extent) → i < n
    → first ≡ number_at (start + 4 * i) 2 base → count ≡ number_at (start + 4 * i + 2) 2 base
    → (read ++ record { first = first; count = count } ∷ []) ++ extents_at (n - (i + 1)) (start + 4 * (i + 1)) base ≡ read ++ extents_at (n - i) (start + 4 * i) base
extents_at-more n i start first count base read lt is_first is_count =
    let rest = extents_at (n - (i + 1)) (start + 4 * (i + 1)) base in
    append_assoc read (record { first = first; count = count } ∷ []) rest
    ∙ (λ j. read ++ record { first = is_first j; count = is_count j } ∷ rest)
    ∙ ap (λ (l : List Extent). read ++ l) (sym (extents_at-next n i start base lt))

-- all are read
pub extents_at-all : (n i start : ℕ) (base : List ℕ) (read : List Extent) → n ≤ i → read ++ extents_at (n - i) (start + 4 * i) base ≡ read
unfolding extents_at
extents_at-all n i start base read le =
    let left : n - i ≡ 0 = omega arith in
    ap (λ k. read ++ extents_at k (start + 4 * i) base) left ∙ append-nil read

pub length-extents_at : (n start : ℕ) (base : List ℕ) → length (extents_at n start base) ≡ n
unfolding extents_at
length-extents_at zero start base = refl
length-extents_at (suc n) start base = ap suc (length-extents_at n (start + 4) base)

-- ---- entries

-- the entries from this one on, whose extents begin at that place
abbrev pub entries_from : ℕ → ℕ → List ℕ → List RawEntry
entries_from i extents base = raw_entries (table_entries - i) (32 + 160 * i) extents base

pub entries_from-next : (i extents end : ℕ) (base : List ℕ) → i < 16 → end ≡ extents + 4 * extent_count (32 + 160 * i) base
    → entries_from i extents base ≡ raw_entry (32 + 160 * i) extents base ∷ entries_from (i + 1) end base
unfolding raw_entries
entries_from-next i extents end base lt is_end =
    let left : 16 - i ≡ suc (16 - (i + 1)) = omega arith in
    let place : 32 + 160 * i + 160 ≡ 32 + 160 * (i + 1) = omega arith in
    ap (λ k. raw_entries k (32 + 160 * i) extents base) left
    ∙ (λ j. raw_entry (32 + 160 * i) extents base ∷ raw_entries (16 - (i + 1)) (place j) (sym is_end j) base)

pub entries_from-none : (i extents : ℕ) (base : List ℕ) → 16 ≤ i → entries_from i extents base ≡ []
unfolding raw_entries
entries_from-none i extents base le = let left : 16 - i ≡ 0 = omega arith in ap (λ k. raw_entries k (32 + 160 * i) extents base) left

-- ---- what holds of the entries that are left

abbrev pub is_sound : RawEntry → Bool
is_sound e = nat_le e.used 1

abbrev pub count_in : RawEntry → ℕ
count_in e = length e.extents

pub sound-more : (i extents end : ℕ) (base : List ℕ) → i < 16 → end ≡ extents + 4 * extent_count (32 + 160 * i) base
    → list_all is_sound (entries_from i extents base) ≡ (nat_le (get_or base (32 + 160 * i) 0) 1 && list_all is_sound (entries_from (i + 1) end base))
sound-more i extents end base lt is_end = ap (λ (l : List RawEntry). list_all is_sound l) (entries_from-next i extents end base lt is_end)

pub counts-more : (i extents end : ℕ) (base : List ℕ) → i < 16 → end ≡ extents + 4 * extent_count (32 + 160 * i) base
    → extents + 4 * sum_by count_in (entries_from i extents base) ≡ end + 4 * sum_by count_in (entries_from (i + 1) end base)
counts-more i extents end base lt is_end =
    let e = raw_entry (32 + 160 * i) extents base in
    let rest = entries_from (i + 1) end base in
    let next = ap (λ (l : List RawEntry). sum_by count_in l) (entries_from-next i extents end base lt is_end) ∙ sum_by-cons count_in e rest in
    let count = length-extents_at (extent_count (32 + 160 * i) base) extents base in
    omega (arith, next, count)
