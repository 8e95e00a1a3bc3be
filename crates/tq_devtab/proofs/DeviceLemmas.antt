-- A device without spaces: what it says depends on the bytes before the last one of its header alone.
use Rattle.std.proofs.Common.{◌≡◌, ◌≤◌, ℕ, ◌+◌, ◌-◌, ◌*◌, ◌%◌, Bool, true, false, List, [], ◌∷◌, ◌++◌, length, get_or, None, sym, ◌∙◌, ap, arith}
use Rattle.std.specs.Prelude.{◌==◌, map, codes, if◌then◌else◌}
use Rattle.std.specs.Str.{bytes_eq}
use Rattle.std.proofs.lemmas.Bool.{and_parts, and_from}
use Rattle.std.proofs.lemmas.List.Folds.{list_all-append}
use Rattle.tq_model.specs.Site.{present, table_entries}
use Rattle.tq_model.specs.DeviceForm.{RawHeader, RawEntry, RawJournal, raw_header, raw_table, raw_journal, journal_read, chosen, header_bytes, extents_start, table_a, table_b, journal_a, journal_b}
use Rattle.tq_model.specs.Reading.{DevicePart, named_in, used_entries, header_tests, table_tests, entries_tests, journal_tests, has_no_decision, hold_all}
use Rattle.tq_devtab.specs.Device.{HasPart, HasNoSpace, IsSameBelow}
use Rattle.tq_devtab.proofs.SameByteLemmas.{run_kept, number_kept, header_kept, journal_kept}
use Rattle.tq_devtab.proofs.BareTableLemmas.{IsBare, IsBareBytes, is_next, bare, bare_bytes, unused_from, unused_at}

-- Tests and parts by a header

-- the tests of a journal, which device 0 alone has
abbrev pub own_journal_tests : ℕ → RawJournal → List Bool
own_journal_tests place j = if place == 0 then journal_tests j ++ has_no_decision j ∷ [] else []

abbrev tests_by : ℕ → RawHeader → List ℕ → List Bool
tests_by place h image =
    let t = raw_table h.table image in
    header_tests place h ++ table_tests t ++ entries_tests t.next h.clusters (length image) (used_entries t)
    ++ own_journal_tests place (raw_journal h.journal image)

abbrev pub part_by : ℕ → RawHeader → List ℕ → DevicePart
part_by place h image =
    let t = raw_table h.table image in
    record {
      site = h.site;
      clusters = h.clusters;
      next_space = t.next;
      journal = if place == 0 then journal_read (raw_journal h.journal image) else None;
      entries = map named_in t.entries;
    }

pub join : (xs ys : List Bool) → hold_all xs ≡ true → hold_all ys ≡ true → hold_all (xs ++ ys) ≡ true
join xs ys first second = list_all-append (λ test. test) xs ys ∙ and_from (hold_all xs) (hold_all ys) first second

pub split : (xs ys : List Bool) → hold_all (xs ++ ys) ≡ true → (hold_all xs ≡ true) × (hold_all ys ≡ true)
split xs ys both = and_parts (hold_all xs) (hold_all ys) (sym (list_all-append (λ test. test) xs ys) ∙ both)

-- the parts of a device without spaces pass their tests
pub record IsBareDevice (place : ℕ) (h : RawHeader) (image : List ℕ) : Type 0 where
  pub header : hold_all (header_tests place h) ≡ true
  pub table : IsBareBytes h.table image
  pub journal : hold_all (own_journal_tests place (raw_journal h.journal image)) ≡ true

pub bare_table : (place : ℕ) (h : RawHeader) (image : List ℕ) → IsBareDevice place h image → IsBare (raw_table h.table image)
bare_table place h image is = bare h.table image is.table.mark is.table.next is.table.unused

tests_from : (place : ℕ) (h : RawHeader) (image : List ℕ) → IsBareDevice place h image → hold_all (tests_by place h image) ≡ true
tests_from place h image is =
    let t = raw_table h.table image in
    let table = bare_table place h image is in
    let entries : List RawEntry → List Bool = λ used. entries_tests t.next h.clusters (length image) used in
    let a = join (header_tests place h) (table_tests t) is.header table.tests in
    let b = join (header_tests place h ++ table_tests t) (entries (used_entries t)) a (ap (λ used. hold_all (entries used)) table.none) in
    join (header_tests place h ++ table_tests t ++ entries (used_entries t)) (own_journal_tests place (raw_journal h.journal image)) b is.journal

tests_of : (place : ℕ) (h : RawHeader) (image : List ℕ) → hold_all (tests_by place h image) ≡ true → present (part_by place h image).entries ≡ []
    → IsBareDevice place h image
tests_of place h image all none =
    let t = raw_table h.table image in
    let entries = entries_tests t.next h.clusters (length image) (used_entries t) in
    let d = split (header_tests place h ++ table_tests t ++ entries) (own_journal_tests place (raw_journal h.journal image)) all in
    let b = split (header_tests place h ++ table_tests t) entries d.0 in
    let a = split (header_tests place h) (table_tests t) b.0 in
    record { header = a.0; table = bare_bytes h.table image a.1 none; journal = d.1 }

-- A device that has these parts

pub bare_stands : (place : ℕ) (h : RawHeader) (d : DevicePart) (image : List ℕ) → header_bytes ≤ length image → raw_header image ≡ h
    → IsBareDevice place h image → part_by place h image ≡ d → HasPart place d image
bare_stands place h d image long header is part = record {
  size = long;
  tests = ap (λ (h : RawHeader). hold_all (tests_by place h image)) header ∙ tests_from place h image is;
  part = ap (λ (h : RawHeader). part_by place h image) header ∙ part;
}

pub chosen_most : (s a b : ℕ) → a ≤ b → chosen s a b ≤ b
chosen_most s a b le = elim (s % 2 == 0) as (λ even. (if even then a else b) ≤ b) [ true ↦ le | false ↦ omega arith ]

-- a table without entries, in an image with the same bytes before this end
module _ (end at : ℕ) (a b : List ℕ) (same : IsSameBelow end a b) (long_a : end ≤ length a) (long_b : end ≤ length b) (within : at + extents_start ≤ end) where
  pub bare_next_kept : (raw_table at b).next ≡ (raw_table at a).next
  bare_next_kept = number_kept end a b same long_a long_b (at + 4) 4 (omega (arith, within))

  pub bare_bytes_kept : IsBareBytes at a → IsBareBytes at b
  bare_bytes_kept is = record {
    mark = ap (λ (m : List ℕ). bytes_eq m (codes "TQTB")) (run_kept end a b same long_a long_b at 4 (omega (arith, within))) ∙ is.mark;
    next = ap is_next bare_next_kept ∙ is.next;
    unused = unused_from table_entries (at + 32) (at + extents_start) b (λ k lt.
        same (at + 32 + 160 * k) (omega (arith, within, lt)) ∙ unused_at table_entries (at + 32) (at + extents_start) a is.unused k lt);
  }

-- Where the device has no space, its bytes before the last one of the header, and that it is not blank, say it all.
pub bare_kept : (place : ℕ) (d : DevicePart) (a b : List ℕ) → HasNoSpace d → HasPart place d a → header_bytes ≤ length b → IsSameBelow (header_bytes - 1) a b
    → HasPart place d b
bare_kept place d a b none has long same =
    let end = header_bytes - 1 in
    let h = raw_header a in
    let long_a : end ≤ length a = omega (arith, has.size) in
    let long_b : end ≤ length b = omega arith in
    let table = chosen_most (get_or a 512 0) table_a table_b (omega arith) in
    let journal = chosen_most (get_or a 513 0) journal_a journal_b (omega arith) in
    let is = tests_of place h a has.tests (ap (λ (d : DevicePart). present d.entries) has.part ∙ none) in
    let next = bare_next_kept end h.table a b same long_a long_b (omega (arith, table)) in
    let same_journal = journal_kept end a b same long_a long_b h.journal (omega (arith, journal)) in
    let kept : IsBareDevice place h b = record {
      header = is.header;
      table = bare_bytes_kept end h.table a b same long_a long_b (omega (arith, table)) is.table;
      journal = ap (λ (j : RawJournal). hold_all (own_journal_tests place j)) same_journal ∙ is.journal;
    } in
    let entries = (bare_table place h b kept).entries ∙ sym (bare_table place h a is).entries in
    bare_stands place h d b long (header_kept end a b same long_a long_b (omega arith)) kept
    ((λ i. record {
      site = h.site;
      clusters = h.clusters;
      next_space = next i;
      journal = if place == 0 then journal_read (same_journal i) else None;
      entries = entries i;
    }) ∙ has.part)
