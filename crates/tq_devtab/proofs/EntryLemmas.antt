-- What the tests of a table say of its spaces.
use Rattle.std.proofs.Common.{◌≡◌, ◌<◌, ◌≤◌, ℕ, ◌+◌, ◌*◌, ◌&&◌, Bool, true, not, List, [], ◌∷◌, length, map, Option, Some, None, refl, sym, ap, ◌∙◌, arith}
use Rattle.std.specs.Prelude.{◌==◌, nat_le, nat_lt, filter, codes}
use Rattle.std.specs.List.{list_all, sum_by}
use Rattle.std.specs.Str.{bytes_eq}
use Rattle.std.proofs.lemmas.Bool.{and_parts, leb-true, le-leb, ltb-true, lt-ltb, eqb-true, eq-eqb}
use Rattle.std.proofs.lemmas.List.{length-append}
use Rattle.std.proofs.lemmas.List.Folds.{list_all-map, flat_map-map}
use Rattle.std.proofs.lemmas.List.Sums.{sum_by-cons}
use Rattle.tq_model.specs.declared.answer.Extent.{Extent}
use Rattle.tq_model.specs.Names.{is_name}
use Rattle.tq_model.specs.Site.{present, most_pages, last_space, clusters_for, table_entries}
use Rattle.tq_model.specs.DeviceForm.{RawEntry, extents_start, table_bytes}
use Rattle.tq_model.specs.Reading.{NamedSpace, is_used, is_extent, entry_tests, entries_tests, used_entries, overlap, no_two, hold_all}
use Rattle.tq_devtab.specs.Table.{extents_of, raw_of, table_of, IsTable}
use Rattle.tq_devtab.specs.Spelling.{extent_total}

-- ---- a space

pub record IsEntry (next clusters size : ℕ) (n : NamedSpace) : Type 0 where
  pub name : is_name n.name ≡ true
  pub ordinal_least : 1 ≤ n.ordinal
  pub ordinal_below : n.ordinal < next
  pub pages_least : 1 ≤ n.pages
  pub pages_most : n.pages ≤ most_pages
  pub extents : list_all (is_extent clusters size) n.extents ≡ true
  pub count : sum_by (λ (x : Extent). x.count) n.extents ≡ clusters_for n.pages

abbrev pub entry_holds : ℕ → ℕ → ℕ → NamedSpace → Bool
entry_holds next clusters size n = hold_all (entry_tests next clusters size (raw_of (Some n)))

module _ (next clusters size : ℕ) (n : NamedSpace) where
  abbrev ordinal_test : Bool
  ordinal_test = nat_le 1 n.ordinal && nat_lt n.ordinal next

  abbrev pages_test : Bool
  pages_test = nat_le 1 n.pages && nat_le n.pages most_pages

  abbrev extents_test : Bool
  extents_test = list_all (is_extent clusters size) n.extents

  abbrev total : ℕ
  total = sum_by (λ (x : Extent). x.count) n.extents

  abbrev count_test : Bool
  count_test = total == clusters_for n.pages

  pub entry_parts : entry_holds next clusters size n ≡ true → IsEntry next clusters size n
  entry_parts holds =
      let a = and_parts (is_name n.name) (ordinal_test && (pages_test && (extents_test && (count_test && true)))) holds in
      let b = and_parts ordinal_test (pages_test && (extents_test && (count_test && true))) a.1 in
      let c = and_parts pages_test (extents_test && (count_test && true)) b.1 in
      let d = and_parts extents_test (count_test && true) c.1 in
      let ordinal = and_parts (nat_le 1 n.ordinal) (nat_lt n.ordinal next) b.0 in
      let pages = and_parts (nat_le 1 n.pages) (nat_le n.pages most_pages) c.0 in
      record {
        name = a.0;
        ordinal_least = leb-true 1 n.ordinal ordinal.0;
        ordinal_below = ltb-true n.ordinal next ordinal.1;
        pages_least = leb-true 1 n.pages pages.0;
        pages_most = leb-true n.pages most_pages pages.1;
        extents = d.0;
        count = eqb-true total (clusters_for n.pages) (and_parts count_test true d.1).0;
      }

  pub parts_entry : IsEntry next clusters size n → entry_holds next clusters size n ≡ true
  parts_entry is =
      let least = le-leb 1 n.ordinal is.ordinal_least in
      let below = lt-ltb n.ordinal next is.ordinal_below in
      let some = le-leb 1 n.pages is.pages_least in
      let most = le-leb n.pages most_pages is.pages_most in
      let count = eq-eqb total (clusters_for n.pages) is.count in
      λ i. is.name i && ((least i && below i) && ((some i && most i) && (is.extents i && (count i && true))))

-- ---- the used entries are those of the spaces

abbrev pub used_of : NamedSpace → RawEntry
used_of n = raw_of (Some n)

used-are : (entries : List (Option NamedSpace)) → filter is_used (map raw_of entries) ≡ map used_of (present entries)
used-are [] = refl
used-are (None ∷ entries) = used-are entries
used-are (Some n ∷ entries) = ap (λ (l : List RawEntry). used_of n ∷ l) (used-are entries)

no_two-map : {X Y : Type 0} (f : X → Y) (related : Y → Y → Bool) (xs : List X) → no_two related (map f xs) ≡ no_two (λ a b. related (f a) (f b)) xs
no_two-map f related [] = refl
no_two-map f related (x ∷ xs) = λ i. list_all-map (λ y. not (related (f x) y)) f xs i && no_two-map f related xs i

pub total-extents : (entries : List (Option NamedSpace)) → extent_total (map raw_of entries) ≡ length (extents_of entries)
total-extents [] = refl
total-extents (None ∷ entries) =
    let first = sum_by-cons (λ (e : RawEntry). length e.extents) (raw_of None) (map raw_of entries) in let rest = total-extents entries in omega arith
total-extents (Some n ∷ entries) =
    let first = sum_by-cons (λ (e : RawEntry). length e.extents) (raw_of (Some n)) (map raw_of entries) in
    let rest = total-extents entries in
    let both = length-append n.extents (extents_of entries) in
    omega arith

-- ---- a table

abbrev pub same_name : NamedSpace → NamedSpace → Bool
same_name a b = bytes_eq a.name b.name

abbrev pub same_ordinal : NamedSpace → NamedSpace → Bool
same_ordinal a b = a.ordinal == b.ordinal

-- what the tests of a table say
pub record Holds (next clusters size : ℕ) (entries : List (Option NamedSpace)) : Type 0 where
  pub count : length entries ≡ table_entries
  pub next_least : 1 ≤ next
  pub next_most : next ≤ last_space
  pub ends : extents_start + 4 * length (extents_of entries) ≤ table_bytes
  pub each : list_all (entry_holds next clusters size) (present entries) ≡ true
  pub names : no_two same_name (present entries) ≡ true
  pub ordinals : no_two same_ordinal (present entries) ≡ true
  pub apart : no_two overlap (extents_of entries) ≡ true

used-at_most_one : (entries : List (Option NamedSpace)) → list_all (λ (e : RawEntry). nat_le e.used 1) (map raw_of entries) ≡ true
used-at_most_one [] = refl
used-at_most_one (None ∷ entries) = used-at_most_one entries
used-at_most_one (Some n ∷ entries) = used-at_most_one entries

module _ (next clusters size : ℕ) (entries : List (Option NamedSpace)) where
  abbrev raw : List RawEntry
  raw = map raw_of entries

  abbrev spaces : List NamedSpace
  spaces = present entries

  abbrev next_fits : Bool
  next_fits = nat_le 1 next && nat_le next last_space

  abbrev ends_within : Bool
  ends_within = nat_le (extents_start + 4 * extent_total raw) table_bytes

  -- the tests of the used entries are tests of the spaces
  spaces-tests : hold_all (entries_tests next clusters size (used_entries (table_of next entries)))
      ≡ (list_all (entry_holds next clusters size) spaces && (no_two same_name spaces && (no_two same_ordinal spaces && (no_two overlap (extents_of entries) && true))))
  spaces-tests =
      ap (λ (l : List RawEntry). hold_all (entries_tests next clusters size l)) (used-are entries)
      ∙ (λ i. list_all-map (λ e. hold_all (entry_tests next clusters size e)) used_of spaces i
      && (no_two-map used_of (λ (a : RawEntry) (b : RawEntry). bytes_eq a.name b.name) spaces i
      && (no_two-map used_of (λ (a : RawEntry) (b : RawEntry). a.ordinal == b.ordinal) spaces i
      && (no_two overlap (flat_map-map (λ (e : RawEntry). e.extents) used_of spaces i) && true))))

  pub table_parts : IsTable next clusters size entries → Holds next clusters size entries
  table_parts is =
      let each = list_all (entry_holds next clusters size) spaces in
      let names = no_two same_name spaces in
      let ordinals = no_two same_ordinal spaces in
      let apart = no_two overlap (extents_of entries) in
      let used = list_all (λ (e : RawEntry). nat_le e.used 1) raw in
      let a = and_parts (bytes_eq (codes "TQTB") (codes "TQTB")) (next_fits && (used && (ends_within && true))) is.table in
      let b = and_parts next_fits (used && (ends_within && true)) a.1 in
      let fits = and_parts (nat_le 1 next) (nat_le next last_space) b.0 in
      let c = and_parts used (ends_within && true) b.1 in
      let ends = leb-true (extents_start + 4 * extent_total raw) table_bytes (and_parts ends_within true c.1).0 in
      let total = total-extents entries in
      let w = and_parts each (names && (ordinals && (apart && true))) (sym spaces-tests ∙ is.each) in
      let x = and_parts names (ordinals && (apart && true)) w.1 in
      let y = and_parts ordinals (apart && true) x.1 in
      record {
        count = is.count;
        next_least = leb-true 1 next fits.0;
        next_most = leb-true next last_space fits.1;
        ends = omega arith;
        each = w.0;
        names = x.0;
        ordinals = y.0;
        apart = (and_parts apart true y.1).0;
      }

  pub parts_table : Holds next clusters size entries → IsTable next clusters size entries
  parts_table holds =
      let least = le-leb 1 next holds.next_least in
      let most = le-leb next last_space holds.next_most in
      let total = total-extents entries in
      let room = holds.ends in
      let ends : ends_within ≡ true = le-leb (extents_start + 4 * extent_total raw) table_bytes (omega arith) in
      let used = used-at_most_one entries in
      record {
        count = holds.count;
        table = λ i. bytes_eq (codes "TQTB") (codes "TQTB") && ((least i && most i) && (used i && (ends i && true)));
        each = spaces-tests ∙ (λ i. holds.each i && (holds.names i && (holds.ordinals i && (holds.apart i && true))));
      }
