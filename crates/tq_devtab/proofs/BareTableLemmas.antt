-- A table of which no entry is used.
use Rattle.std.proofs.Common.{◌≡◌, ◌<◌, ◌≤◌, ℕ, zero, suc, ◌+◌, ◌*◌, ◌&&◌, Bool, true, false, List, [], ◌∷◌, length, get_or, Option, Some, None, refl, sym, ◌∙◌, ap, arith}
use Rattle.std.specs.Prelude.{◌==◌, nat_le, map, filter, cond, codes, replicate, if◌then◌else◌}
use Rattle.std.specs.List.{list_all, sum_by}
use Rattle.std.specs.Str.{bytes_eq}
use Rattle.std.proofs.lemmas.Bool.{and_parts, and_from, eq-eqb, eqb-true, eqb-false, le-leb, leb-true}
use Rattle.std.proofs.lemmas.List.Sums.{sum_by-cons}
use Rattle.tq_field.specs.Places.{run_at, number_at}
use Rattle.tq_model.specs.Site.{last_space, table_entries, present}
use Rattle.tq_model.specs.DeviceForm.{RawEntry, RawTable, raw_entry, raw_entries, raw_table, extents_at, extent_count, extents_start, table_bytes}
use Rattle.tq_model.specs.Reading.{NamedSpace, named_in, is_used, used_entries, table_tests, hold_all}

abbrev pub are_unused : List RawEntry → Bool
are_unused entries = list_all (λ (e : RawEntry). e.used == 0) entries

-- Entries and their first bytes

pub unused_from : (n at extents : ℕ) (image : List ℕ) → ((k : ℕ) → k < n → get_or image (at + 160 * k) 0 ≡ 0)
    → are_unused (raw_entries n at extents image) ≡ true
unfolding raw_entries
unused_from zero at extents image zeros = refl
unused_from (suc n) at extents image zeros =
    let more = extents + 4 * extent_count at image in
    let here : at ≡ at + 160 * 0 = omega arith in
    let first : get_or image at 0 ≡ 0 = ap (λ o. get_or image o 0) here ∙ zeros 0 (omega arith) in
    let rest = unused_from n (at + 160) more image (λ k lt.
    let next : at + 160 + 160 * k ≡ at + 160 * suc k = omega arith in
    ap (λ o. get_or image o 0) next ∙ zeros (suc k) (omega arith)) in
    and_from (get_or image at 0 == 0) (are_unused (raw_entries n (at + 160) more image)) (eq-eqb (get_or image at 0) 0 first) rest

pub unused_at : (n at extents : ℕ) (image : List ℕ) → are_unused (raw_entries n at extents image) ≡ true → (k : ℕ) → k < n → get_or image (at + 160 * k) 0 ≡ 0
unfolding raw_entries
unused_at zero at extents image unused k lt = absurd (omega arith)
unused_at (suc n) at extents image unused zero lt =
    let more = extents + 4 * extent_count at image in
    let parts = and_parts (get_or image at 0 == 0) (are_unused (raw_entries n (at + 160) more image)) unused in
    let here : at + 160 * 0 ≡ at = omega arith in
    ap (λ o. get_or image o 0) here ∙ eqb-true (get_or image at 0) 0 parts.0
unused_at (suc n) at extents image unused (suc k) lt =
    let more = extents + 4 * extent_count at image in
    let parts = and_parts (get_or image at 0 == 0) (are_unused (raw_entries n (at + 160) more image)) unused in
    let next : at + 160 * suc k ≡ at + 160 + 160 * k = omega arith in
    ap (λ o. get_or image o 0) next ∙ unused_at n (at + 160) more image parts.1 k (omega arith)

-- entries of which each is used or not, and that name no space
pub names_none : (entries : List RawEntry) → list_all (λ (e : RawEntry). nat_le e.used 1) entries ≡ true → present (map named_in entries) ≡ []
    → are_unused entries ≡ true
names_none [] few none = refl
names_none (e ∷ entries) few none =
    let parts = and_parts (nat_le e.used 1) (list_all (λ (e : RawEntry). nat_le e.used 1) entries) few in
    by_use (is_used e) refl (leb-true e.used 1 parts.0) (names_none entries parts.1)
  where
    by_use : (used : Bool) → is_used e ≡ used → e.used ≤ 1 → (present (map named_in entries) ≡ [] → are_unused entries ≡ true) → are_unused (e ∷ entries) ≡ true
    by_use true used most rest =
        let n : NamedSpace = record { name = e.name; ordinal = e.ordinal; pages = e.pages; extents = e.extents } in
        let some = ap (λ b. present ((if b then Some n else None) ∷ map named_in entries)) used in
        absurd (cc)
    by_use false used most rest =
        let n : NamedSpace = record { name = e.name; ordinal = e.ordinal; pages = e.pages; extents = e.extents } in
        let same = ap (λ b. present ((if b then Some n else None) ∷ map named_in entries)) used in
        let not_one = eqb-false e.used 1 used in
        and_from (e.used == 0) (are_unused entries) (eq-eqb e.used 0 (omega (arith, most, not_one))) (rest (sym same ∙ none))

-- What follows for the table

few_unused : (entries : List RawEntry) → are_unused entries ≡ true → list_all (λ (e : RawEntry). nat_le e.used 1) entries ≡ true
few_unused [] unused = refl
few_unused (e ∷ entries) unused =
    let parts = and_parts (e.used == 0) (are_unused entries) unused in
    let none = eqb-true e.used 0 parts.0 in
    and_from (nat_le e.used 1) (list_all (λ (e : RawEntry). nat_le e.used 1) entries) (le-leb e.used 1 (omega (arith, none))) (few_unused entries parts.1)

none_used : (entries : List RawEntry) → are_unused entries ≡ true → filter is_used entries ≡ []
none_used [] unused = refl
none_used (e ∷ entries) unused =
    let parts = and_parts (e.used == 0) (are_unused entries) unused in
    let none = eqb-true e.used 0 parts.0 in
    ap (λ u. cond (u == 1) (e ∷ filter is_used entries) (filter is_used entries)) none ∙ none_used entries parts.1

none_named : (n at extents : ℕ) (image : List ℕ) → are_unused (raw_entries n at extents image) ≡ true
    → map named_in (raw_entries n at extents image) ≡ replicate n None
unfolding raw_entries
none_named zero at extents image unused = refl
none_named (suc n) at extents image unused =
    let e = raw_entry at extents image in
    let more = extents + 4 * extent_count at image in
    let rest = raw_entries n (at + 160) more image in
    let parts = and_parts (e.used == 0) (are_unused rest) unused in
    let none = eqb-true e.used 0 parts.0 in
    let named : NamedSpace = record { name = e.name; ordinal = e.ordinal; pages = e.pages; extents = e.extents } in
    ap (λ u. (if u == 1 then Some named else None) ∷ map named_in rest) none
    ∙ ap (λ (l : List (Option NamedSpace)). None ∷ l) (none_named n (at + 160) more image parts.1)

length-extents_at : (n at : ℕ) (image : List ℕ) → length (extents_at n at image) ≡ n
unfolding extents_at
length-extents_at zero at image = refl
length-extents_at (suc n) at image = ap suc (length-extents_at n (at + 4) image)

no_extents : (n at extents : ℕ) (image : List ℕ) → are_unused (raw_entries n at extents image) ≡ true
    → sum_by (λ (e : RawEntry). length e.extents) (raw_entries n at extents image) ≡ 0
unfolding raw_entries
no_extents zero at extents image unused = refl
no_extents (suc n) at extents image unused =
    let e = raw_entry at extents image in
    let more = extents + 4 * extent_count at image in
    let rest = raw_entries n (at + 160) more image in
    let parts = and_parts (e.used == 0) (are_unused rest) unused in
    let none : length e.extents ≡ 0 =
    length-extents_at (extent_count at image) extents image ∙ ap (λ u. if u == 0 then 0 else number_at (at + 140) 4 image) (eqb-true e.used 0 parts.0) in
    let others = no_extents n (at + 160) more image parts.1 in
    omega (arith, none, others, sum_by-cons (λ (e : RawEntry). length e.extents) e rest)

pub record IsBare (t : RawTable) : Type 0 where
  pub tests : hold_all (table_tests t) ≡ true
  pub none : used_entries t ≡ []
  pub entries : map named_in t.entries ≡ replicate table_entries None

abbrev pub is_marked : ℕ → List ℕ → Bool
is_marked at image = bytes_eq (run_at at 4 image) (codes "TQTB")

abbrev pub is_next : ℕ → Bool
is_next next = nat_le 1 next && nat_le next last_space

pub bare : (at : ℕ) (image : List ℕ) → is_marked at image ≡ true → is_next (number_at (at + 4) 4 image) ≡ true → are_unused (raw_table at image).entries ≡ true
    → IsBare (raw_table at image)
bare at image mark next unused =
    let t = raw_table at image in
    let few = few_unused t.entries unused in
    let none = no_extents table_entries (at + 32) (at + extents_start) image unused in
    let within = le-leb (extents_start + 4 * sum_by (λ (e : RawEntry). length e.extents) t.entries) table_bytes (omega (arith, none)) in
    record {
      tests = λ i. mark i && (next i && (few i && (within i && true)));
      none = none_used t.entries unused;
      entries = none_named table_entries (at + 32) (at + extents_start) image unused;
    }

-- what its tests say, where it names no space
pub record IsBareBytes (at : ℕ) (image : List ℕ) : Type 0 where
  pub mark : is_marked at image ≡ true
  pub next : is_next (number_at (at + 4) 4 image) ≡ true
  pub unused : are_unused (raw_table at image).entries ≡ true

pub bare_bytes : (at : ℕ) (image : List ℕ) → hold_all (table_tests (raw_table at image)) ≡ true → present (map named_in (raw_table at image).entries) ≡ []
    → IsBareBytes at image
bare_bytes at image tests none =
    let t = raw_table at image in
    let few = list_all (λ (e : RawEntry). nat_le e.used 1) t.entries in
    let within = nat_le (extents_start + 4 * sum_by (λ (e : RawEntry). length e.extents) t.entries) table_bytes in
    let a = and_parts (is_marked at image) (is_next t.next && (few && (within && true))) tests in
    let b = and_parts (is_next t.next) (few && (within && true)) a.1 in
    let c = and_parts few (within && true) b.1 in
    record { mark = a.0; next = b.0; unused = names_none t.entries c.0 none }
