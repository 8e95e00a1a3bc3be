-- What is read of a table, spelt again, has the tests of the table.
use Rattle.std.proofs.Common.{◌≡◌, ◌≤◌, ◌&&◌, ℕ, zero, suc, ◌+◌, ◌*◌, Bool, true, cond, List, [], ◌∷◌, length, get_or, Option, Some, None, inl, inr, refl, sym, ap, ◌∙◌, arith}
use Rattle.std.specs.Prelude.{nat_le, ◌==◌, if◌then◌else◌, map, filter, codes}
use Rattle.std.specs.List.{list_all, sum_by}
use Rattle.std.specs.Str.{bytes_eq}
use Rattle.std.proofs.lemmas.Bool.{and_parts, cases_Bool, eqb-true, eqb-false, leb-true, le-leb}
use Rattle.std.proofs.lemmas.List.{length-map}
use Rattle.std.proofs.lemmas.List.Folds.{list_all-append}
use Rattle.std.proofs.lemmas.List.Sums.{sum_by-cons}
use Rattle.tq_field.specs.Places.{number_at}
use Rattle.tq_model.specs.Site.{table_entries, last_space}
use Rattle.tq_model.specs.DeviceForm.{RawEntry, raw_entry, raw_entries, raw_table, extent_count, extents_start, table_bytes}
use Rattle.tq_model.specs.Reading.{NamedSpace, named_in, is_used, used_entries, table_tests, entries_tests, hold_all}
use Rattle.tq_devtab.specs.Table.{raw_of, table_of, base_tests, IsTable}
use Rattle.tq_devtab.specs.TableParts.{is_headed, is_counted}
use Rattle.tq_devtab.proofs.EntryLemmas.{table_parts, total-extents}
use Rattle.tq_devtab.proofs.TableReadLemmas.{is_sound, count_in, length-extents_at}

-- an entry as it is spelt again
abbrev respelt : RawEntry → RawEntry
respelt e = raw_of (named_in e)

-- one that is not used has nothing
abbrev spelt_by : Bool → RawEntry → RawEntry
spelt_by used e = raw_of (if used then Some (record { name = e.name; ordinal = e.ordinal; pages = e.pages; extents = e.extents }) else None)

pub used-respelt : (entries : List RawEntry) → filter is_used (map raw_of (map named_in entries)) ≡ filter is_used entries
used-respelt [] = refl
used-respelt (e ∷ entries) =
    let rest = map raw_of (map named_in entries) in
    elim (cases_Bool (is_used e)) [
      | inl used ↦
          let one : e.used ≡ 1 = eqb-true e.used 1 used in
          ap (λ b. filter is_used (spelt_by b e ∷ rest)) used
          ∙ (λ i. record { used = sym one i; name = e.name; ordinal = e.ordinal; pages = e.pages; extents = e.extents } ∷ used-respelt entries i)
          ∙ sym (ap (λ b. cond b (e ∷ filter is_used entries) (filter is_used entries)) used)
      | inr unused ↦
          ap (λ b. filter is_used (spelt_by b e ∷ rest)) unused ∙ used-respelt entries ∙ sym (ap (λ b. cond b (e ∷ filter is_used entries) (filter is_used entries)) unused)
    ]

pub sound-spelt : (entries : List (Option NamedSpace)) → list_all is_sound (map raw_of entries) ≡ true
sound-spelt [] = refl
sound-spelt (None ∷ entries) = sound-spelt entries
sound-spelt (Some n ∷ entries) = sound-spelt entries

-- an unused entry has no extents, read or spelt again
count-respelt : (at extents : ℕ) (base : List ℕ) → get_or base at 0 ≤ 1 → count_in (respelt (raw_entry at extents base)) ≡ count_in (raw_entry at extents base)
count-respelt at extents base most =
    let e = raw_entry at extents base in
    elim (cases_Bool (is_used e)) [
      | inl used ↦ ap (λ b. count_in (spelt_by b e)) used
      | inr unused ↦
          let other = eqb-false e.used 1 unused in
          let none : get_or base at 0 ≡ 0 = omega arith in
          ap (λ b. count_in (spelt_by b e)) unused
          ∙ sym (length-extents_at (extent_count at base) extents base ∙ ap (λ u. if u == 0 then 0 else number_at (at + 140) 4 base) none)
    ]

pub counts-respelt : (n at extents : ℕ) (base : List ℕ) → list_all is_sound (raw_entries n at extents base) ≡ true
    → sum_by count_in (map raw_of (map named_in (raw_entries n at extents base))) ≡ sum_by count_in (raw_entries n at extents base)
unfolding raw_entries
counts-respelt zero at extents base sound = refl
counts-respelt (suc n) at extents base sound =
    let e = raw_entry at extents base in
    let end = extents + 4 * extent_count at base in
    let rest = raw_entries n (at + 160) end base in
    let parts = and_parts (is_sound e) (list_all is_sound rest) sound in
    let own = count-respelt at extents base (leb-true e.used 1 parts.0) in
    let more = counts-respelt n (at + 160) end base parts.1 in
    sum_by-cons count_in (respelt e) (map raw_of (map named_in rest)) ∙ (λ i. own i + more i) ∙ sym (sum_by-cons count_in e rest)

pub length-raw_entries : (n at extents : ℕ) (base : List ℕ) → length (raw_entries n at extents base) ≡ n
unfolding raw_entries
length-raw_entries zero at extents base = refl
length-raw_entries (suc n) at extents base = ap suc (length-raw_entries n (at + 160) (extents + 4 * extent_count at base) base)

-- what a table that stands at this byte says, spelt
pub spelt_at : (next clusters size at : ℕ) (image : List ℕ) (entries : List (Option NamedSpace)) → next ≡ (raw_table at image).next
    → map named_in (raw_table at image).entries ≡ entries → is_headed (raw_table at image) ≡ true → is_counted (raw_table at image) ≡ true
    → hold_all (entries_tests (raw_table at image).next clusters size (used_entries (raw_table at image))) ≡ true → IsTable next clusters size entries
spelt_at next clusters size at image entries is_next are headed counted holds =
    let t = raw_table at image in
    let head = and_parts (bytes_eq t.mark (codes "TQTB")) (nat_le 1 t.next && nat_le t.next last_space) headed in
    let counts = and_parts (list_all is_sound t.entries) (nat_le (extents_start + 4 * sum_by count_in t.entries) table_bytes) counted in
    let within : nat_le 1 next && nat_le next last_space ≡ true = (λ i. nat_le 1 (is_next i) && nat_le (is_next i) last_space) ∙ head.1 in
    let sound = sound-spelt entries in
    let sum : sum_by count_in (map raw_of entries) ≡ sum_by count_in t.entries =
    ap (λ (l : List (Option NamedSpace)). sum_by count_in (map raw_of l)) (sym are)
    ∙ counts-respelt table_entries (at + 32) (at + extents_start) image counts.0 in
    let fits : nat_le (extents_start + 4 * sum_by count_in (map raw_of entries)) table_bytes ≡ true =
    ap (λ n. nat_le (extents_start + 4 * n) table_bytes) sum ∙ counts.1 in
    let used : used_entries (table_of next entries) ≡ used_entries t =
    ap (λ (l : List (Option NamedSpace)). filter is_used (map raw_of l)) (sym are) ∙ used-respelt t.entries in
    record {
      count =
          ap (λ (l : List (Option NamedSpace)). length l) (sym are) ∙ length-map t.entries named_in
          ∙ length-raw_entries table_entries (at + 32) (at + extents_start) image;
      table = λ i. within i && (sound i && (fits i && true));
      each = (λ i. hold_all (entries_tests (is_next i) clusters size (used i))) ∙ holds;
    }

pub spelt_again : (next clusters size : ℕ) (base : List ℕ) (entries : List (Option NamedSpace)) → next ≡ (raw_table 0 base).next
    → map named_in (raw_table 0 base).entries ≡ entries → is_headed (raw_table 0 base) ≡ true → is_counted (raw_table 0 base) ≡ true
    → hold_all (base_tests clusters size base) ≡ true → IsTable next clusters size entries
spelt_again next clusters size base entries is_next are headed counted holds =
    let t = raw_table 0 base in
    spelt_at next clusters size 0 base entries is_next are headed counted
    (and_parts (hold_all (table_tests t)) (hold_all (entries_tests t.next clusters size (used_entries t)))
    (sym (list_all-append (λ test. test) (table_tests t) (entries_tests t.next clusters size (used_entries t))) ∙ holds)).1

-- the other way: bytes that say a table pass its tests
pub tests_hold : (next clusters size at : ℕ) (image : List ℕ) (entries : List (Option NamedSpace)) → next ≡ (raw_table at image).next
    → map named_in (raw_table at image).entries ≡ entries → is_headed (raw_table at image) ≡ true → list_all is_sound (raw_table at image).entries ≡ true
    → IsTable next clusters size entries
    → (hold_all (table_tests (raw_table at image)) ≡ true)
    × (hold_all (entries_tests (raw_table at image).next clusters size (used_entries (raw_table at image))) ≡ true)
tests_hold next clusters size at image entries is_next are headed sound table =
    let t = raw_table at image in
    let head = and_parts (bytes_eq t.mark (codes "TQTB")) (nat_le 1 t.next && nat_le t.next last_space) headed in
    let sum : sum_by count_in (map raw_of entries) ≡ sum_by count_in t.entries =
    ap (λ (l : List (Option NamedSpace)). sum_by count_in (map raw_of l)) (sym are) ∙ counts-respelt table_entries (at + 32) (at + extents_start) image sound in
    let total = total-extents entries in
    let ends = (table_parts next clusters size entries table).ends in
    let fits : nat_le (extents_start + 4 * sum_by count_in t.entries) table_bytes ≡ true =
    le-leb (extents_start + 4 * sum_by count_in t.entries) table_bytes (omega arith) in
    let used : used_entries (table_of next entries) ≡ used_entries t =
    ap (λ (l : List (Option NamedSpace)). filter is_used (map raw_of l)) (sym are) ∙ used-respelt t.entries in
    (λ i. head.0 i && (head.1 i && (sound i && (fits i && true))), sym (λ i. hold_all (entries_tests (is_next i) clusters size (used i))) ∙ table.each)
