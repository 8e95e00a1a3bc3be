-- Two tables of the same bytes, wherever they stand, say the same.
use Rattle.std.proofs.Common.{◌≡◌, ◌<◌, ◌≤◌, inl, inr, ℕ, zero, suc, ◌+◌, ◌*◌, ◌&&◌, Bool, true, List, ◌∷◌, ◌++◌, length, get_or, drop, map, Option, Some, None, refl, sym, ap, ◌∙◌, arith}
use Rattle.std.specs.Prelude.{nat_le, ◌==◌, if◌then◌else◌, filter, codes}
use Rattle.std.specs.List.{list_all, sum_by}
use Rattle.std.specs.Str.{bytes_eq}
use Rattle.std.proofs.lemmas.Bool.{and_parts, cases_Bool, leb-true}
use Rattle.std.proofs.lemmas.List.{length-map, length-take, length-drop}
use Rattle.std.proofs.lemmas.List.Folds.{list_all-append}
use Rattle.std.proofs.lemmas.List.Sums.{sum_by-cons}
use Rattle.tq_field.specs.Places.{run_at, number_at}
use Rattle.tq_model.specs.Site.{table_entries, last_space}
use Rattle.tq_model.specs.DeviceForm.{RawEntry, RawTable, raw_entry, raw_entries, raw_table, extent_count, extents_at, extents_start, table_bytes}
use Rattle.tq_model.specs.Reading.{NamedSpace, named_in, is_used, used_entries, table_tests, entries_tests, hold_all}
use Rattle.tq_devtab.specs.Table.{raw_of, table_of, IsTable}
use Rattle.tq_devtab.specs.Spelling.{extent_total, IsSpellable}
use Rattle.tq_devtab.proofs.SameByteLemmas.{same_runs, same_numbers}
use Rattle.tq_devtab.proofs.SpeltTableLemmas.{used-respelt, sound-spelt, counts-respelt, length-raw_entries}
use Rattle.tq_devtab.proofs.TableLemmas.{named-raw}
use Rattle.tq_devtab.proofs.TableReadLemmas.{is_sound, count_in, length-extents_at}

-- ---- what a table says

-- a table that is read has a mark and says these entries
pub record SaysTable (next : ℕ) (entries : List (Option NamedSpace)) (t : RawTable) : Type 0 where
  pub mark : bytes_eq t.mark (codes "TQTB") ≡ true
  pub next_is : t.next ≡ next
  pub sound : list_all is_sound t.entries ≡ true
  pub named : map named_in t.entries ≡ entries
  pub counted : sum_by count_in t.entries ≡ extent_total (map raw_of entries)

module _ (next clusters size : ℕ) (entries : List (Option NamedSpace)) where
  -- all its tests hold where the entries are those of a table
  pub says_holds : (t : RawTable) → SaysTable next entries t → IsTable next clusters size entries
      → hold_all (table_tests t ++ entries_tests t.next clusters size (used_entries t)) ≡ true
  says_holds t says table =
      let used : used_entries t ≡ used_entries (table_of next entries) =
      sym (used-respelt t.entries) ∙ ap (λ (l : List (Option NamedSpace)). filter is_used (map raw_of l)) says.named in
      let within = nat_le 1 next && nat_le next last_space in
      let ends = nat_le (extents_start + 4 * extent_total (map raw_of entries)) table_bytes in
      let sound = list_all is_sound (map raw_of entries) in
      let a = and_parts (bytes_eq (codes "TQTB") (codes "TQTB")) (within && (sound && (ends && true))) table.table in
      let b = and_parts within (sound && (ends && true)) a.1 in
      let c = and_parts sound (ends && true) b.1 in
      let d = and_parts ends true c.1 in
      let next_fits : nat_le 1 t.next && nat_le t.next last_space ≡ true = (λ i. nat_le 1 (says.next_is i) && nat_le (says.next_is i) last_space) ∙ b.0 in
      let fits : nat_le (extents_start + 4 * sum_by count_in t.entries) table_bytes ≡ true = ap (λ n. nat_le (extents_start + 4 * n) table_bytes) says.counted ∙ d.0 in
      let head : hold_all (table_tests t) ≡ true = λ i. says.mark i && (next_fits i && (says.sound i && (fits i && true))) in
      let each : hold_all (entries_tests t.next clusters size (used_entries t)) ≡ true = (λ i. hold_all (entries_tests (says.next_is i) clusters size (used i))) ∙ table.each in
      list_all-append (λ test. test) (table_tests t) (entries_tests t.next clusters size (used_entries t)) ∙ (λ i. head i && each i)

-- a table whose tests hold says its entries, which are those of a table
pub holds_says : (at clusters size : ℕ) (image : List ℕ)
    → let t = raw_table at image in hold_all (table_tests t ++ entries_tests t.next clusters size (used_entries t)) ≡ true
    → SaysTable t.next (map named_in t.entries) t × IsTable t.next clusters size (map named_in t.entries)
holds_says at clusters size image holds =
    let t = raw_table at image in
    let entries = map named_in t.entries in
    let both =
    and_parts (hold_all (table_tests t)) (hold_all (entries_tests t.next clusters size (used_entries t)))
    (sym (list_all-append (λ test. test) (table_tests t) (entries_tests t.next clusters size (used_entries t))) ∙ holds) in
    let within = nat_le 1 t.next && nat_le t.next last_space in
    let ends = nat_le (extents_start + 4 * sum_by count_in t.entries) table_bytes in
    let sound = list_all is_sound t.entries in
    let a = and_parts (bytes_eq t.mark (codes "TQTB")) (within && (sound && (ends && true))) both.0 in
    let b = and_parts within (sound && (ends && true)) a.1 in
    let c = and_parts sound (ends && true) b.1 in
    let d = and_parts ends true c.1 in
    let sum = counts-respelt table_entries (at + 32) (at + extents_start) image c.0 in
    let spelt = sound-spelt entries in
    let fits : nat_le (extents_start + 4 * sum_by count_in (map raw_of entries)) table_bytes ≡ true = ap (λ n. nat_le (extents_start + 4 * n) table_bytes) sum ∙ d.0 in (
      record { mark = a.0; next_is = refl; sound = c.0; named = refl; counted = sym sum },
      record {
        count = length-map t.entries named_in ∙ length-raw_entries table_entries (at + 32) (at + extents_start) image;
        table = λ i. b.0 i && (spelt i && (fits i && true));
        each = ap (λ (l : List RawEntry). hold_all (entries_tests t.next clusters size l)) (used-respelt t.entries) ∙ both.1;
      },
    )

-- so does a base that is spelt
pub spelt_says : (next : ℕ) (entries : List (Option NamedSpace)) (t : RawTable) → t ≡ table_of next entries → SaysTable next entries t
spelt_says next entries t is = record {
  mark = ap (λ (r : RawTable). bytes_eq r.mark (codes "TQTB")) is;
  next_is = ap (λ (r : RawTable). r.next) is;
  sound = ap (λ (r : RawTable). list_all is_sound r.entries) is ∙ sound-spelt entries;
  named = ap (λ (r : RawTable). map named_in r.entries) is ∙ named-raw entries;
  counted = ap (λ (r : RawTable). sum_by count_in r.entries) is;
}

-- ---- the same bytes

-- whether a name has the bytes that an entry has for it
abbrev is_short_name : Option NamedSpace → Bool
is_short_name o = nat_le (length (raw_of o).name) 15

length-run : (at n m : ℕ) (bytes : List ℕ) → at + m < length bytes → length (run_at at n bytes) ≤ m → n ≤ m
length-run at n m bytes long short = omega (arith, length-take n (drop at bytes), length-drop at bytes, long, short)

-- the bytes of a table, from s on in one list and from t on in the other
module _ (s t : ℕ) (a b : List ℕ) (long_a : s + table_bytes ≤ length a) (long_b : t + table_bytes ≤ length b)
    (same : (x y : ℕ) → s ≤ x → x < s + table_bytes → x + t ≡ y + s → get_or a x 0 ≡ get_or b y 0) where
  run_same : (x y n : ℕ) → s ≤ x → x + n ≤ s + table_bytes → x + t ≡ y + s → run_at x n a ≡ run_at y n b
  run_same x y n from to is = same_runs x y n a b (omega arith) (omega arith) (λ j lt. same (x + j) (y + j) (omega arith) (omega arith) (omega arith))

  number_same : (x y n : ℕ) → s ≤ x → x + n ≤ s + table_bytes → x + t ≡ y + s → number_at x n a ≡ number_at y n b
  number_same x y n from to is = same_numbers x y n a b (omega arith) (omega arith) (λ j lt. same (x + j) (y + j) (omega arith) (omega arith) (omega arith))

  extents_same : (n x y : ℕ) → s ≤ x → x + 4 * n ≤ s + table_bytes → x + t ≡ y + s → extents_at n x a ≡ extents_at n y b
  unfolding extents_at
  extents_same zero x y from to is = refl
  extents_same (suc n) x y from to is =
      let first = number_same x y 2 from (omega arith) is in
      let count = number_same (x + 2) (y + 2) 2 (omega arith) (omega arith) (omega arith) in
      let rest = extents_same n (x + 4) (y + 4) (omega arith) (omega arith) (omega arith) in
      λ i. record { first = first i; count = count i } ∷ rest i

  count_same : (x y : ℕ) → s ≤ x → x + 160 ≤ s + table_bytes → x + t ≡ y + s → extent_count x a ≡ extent_count y b
  count_same x y from to is =
      let used = same x y from (omega arith) is in
      let count = number_same (x + 140) (y + 140) 4 (omega arith) (omega arith) (omega arith) in
      λ i. if used i == 0 then 0 else count i

  -- an entry whose name is short names the same space
  named_same : (x y u v : ℕ) → s ≤ x → x + 160 ≤ s + extents_start → x + t ≡ y + s → s ≤ u → u + 4 * extent_count x a ≤ s + table_bytes → u + t ≡ v + s
      → is_short_name (named_in (raw_entry x u a)) ≡ true → named_in (raw_entry x u a) ≡ named_in (raw_entry y v b)
  named_same x y u v from to is from_u to_u is_u short =
      let e = raw_entry x u a in
      let f = raw_entry y v b in
      let flag : is_used e ≡ is_used f = ap (λ n. n == 1) (same x y from (omega arith) is) in
      elim (cases_Bool (is_used e)) [
        | inl used ↦
            let few : nat_le (length e.name) 15 ≡ true =
            sym (ap (λ c. is_short_name (if c then Some (record { name = e.name; ordinal = e.ordinal; pages = e.pages; extents = e.extents }) else None)) used) ∙ short in
            let least = leb-true (length e.name) 15 few in
            let n = get_or a (x + 1) 0 in
            let size : n ≤ 15 = length-run (x + 2) n 15 a (omega arith) least in
            let size_same = same (x + 1) (y + 1) (omega arith) (omega arith) (omega arith) in
            let name : e.name ≡ f.name = run_same (x + 2) (y + 2) n (omega arith) (omega arith) (omega arith) ∙ ap (λ m. run_at (y + 2) m b) size_same in
            let ordinal = number_same (x + 132) (y + 132) 4 (omega arith) (omega arith) (omega arith) in
            let pages = number_same (x + 136) (y + 136) 4 (omega arith) (omega arith) (omega arith) in
            let extents : e.extents ≡ f.extents =
            extents_same (extent_count x a) u v from_u to_u is_u ∙ ap (λ m. extents_at m v b) (count_same x y from (omega arith) is) in
            λ i. if flag i then Some (record { name = name i; ordinal = ordinal i; pages = pages i; extents = extents i }) else None
        | inr unused ↦
            ap (λ c. if c then Some (record { name = e.name; ordinal = e.ordinal; pages = e.pages; extents = e.extents }) else None) unused
            ∙ sym (ap (λ c. if c then Some (record { name = f.name; ordinal = f.ordinal; pages = f.pages; extents = f.extents }) else None) (sym flag ∙ unused))
      ]

  record AreSameEntries (one other : List RawEntry) : Type 0 where
    named : map named_in one ≡ map named_in other
    sound : list_all is_sound one ≡ list_all is_sound other
    counted : sum_by count_in one ≡ sum_by count_in other

  entries_same : (n x y u v : ℕ) → s ≤ x → x + 160 * n ≤ s + extents_start → x + t ≡ y + s → s ≤ u
      → u + 4 * sum_by count_in (raw_entries n x u a) ≤ s + table_bytes → u + t ≡ v + s
      → list_all is_short_name (map named_in (raw_entries n x u a)) ≡ true
      → AreSameEntries (raw_entries n x u a) (raw_entries n y v b)
  unfolding raw_entries
  entries_same zero x y u v from to is from_u to_u is_u short = record { named = refl; sound = refl; counted = refl }
  entries_same (suc n) x y u v from to is from_u to_u is_u short =
      let e = raw_entry x u a in
      let f = raw_entry y v b in
      let end = u + 4 * extent_count x a in
      let rest_a = raw_entries n (x + 160) end a in
      let rest_b = raw_entries n (y + 160) (v + 4 * extent_count y b) b in
      let sum = sum_by-cons count_in e rest_a in
      let own = length-extents_at (extent_count x a) u a in
      let count = count_same x y from (omega arith) is in
      let parts = and_parts (is_short_name (named_in e)) (list_all is_short_name (map named_in rest_a)) short in
      let first = named_same x y u v from (omega arith) is from_u (omega arith) is_u parts.0 in
      let rest = entries_same n (x + 160) (y + 160) end (v + 4 * extent_count y b) (omega arith) (omega arith) (omega arith) (omega arith) (omega arith) (omega arith) parts.1 in
      let used = same x y from (omega arith) is in
      let other = length-extents_at (extent_count y b) v b in
      record {
        named = λ i. first i ∷ rest.named i;
        sound = λ i. nat_le (used i) 1 && rest.sound i;
        counted = sum ∙ (λ i. (own ∙ count ∙ sym other) i + rest.counted i) ∙ sym (sum_by-cons count_in f rest_b);
      }

  -- what a table says in one place it says in the other
  pub says_same : (next : ℕ) (entries : List (Option NamedSpace)) → IsSpellable entries → SaysTable next entries (raw_table s a) → SaysTable next entries (raw_table t b)
  says_same next entries spellable says =
      let mark = run_same s t 4 (omega arith) (omega arith) (omega arith) in
      let is_next = number_same (s + 4) (t + 4) 4 (omega arith) (omega arith) (omega arith) in
      let count = says.counted in
      let ends = spellable.ends in
      let each = entries_same table_entries (s + 32) (t + 32) (s + extents_start) (t + extents_start) (omega arith) (omega arith) (omega arith) (omega arith) (omega arith) (omega arith)
      (ap (list_all is_short_name) says.named ∙ spellable.names) in
      record {
        mark = sym (ap (λ (l : List ℕ). bytes_eq l (codes "TQTB")) mark) ∙ says.mark;
        next_is = sym is_next ∙ says.next_is;
        sound = sym each.sound ∙ says.sound;
        named = sym each.named ∙ says.named;
        counted = sym each.counted ∙ says.counted;
      }
