-- What an erasing leaves of a device.
use Rattle.std.proofs.Common.{◌≡◌, inl, inr, ◌≤◌, ℕ, ◌-◌, Bool, true, List, [], ◌++◌, length, get_or, map, refl, sym, ◌∙◌, ap, arith}
use Rattle.tq_host.specs.Calls.{IsPulled}
use Rattle.tq_host.proofs.Bytes.{before_or_after}
use Rattle.tq_host.proofs.Steps.{IsSteps}
use Rattle.tq_model.specs.Site.{present}
use Rattle.tq_model.specs.DeviceForm.{RawHeader, RawEntry, raw_header, raw_table, header_bytes, table_a, table_b}
use Rattle.tq_model.specs.Reading.{named_in, used_entries, header_tests, table_tests, entries_tests, hold_all}
use Rattle.tq_devtab.specs.Device.{IsErasing, IsStillHeaded}
use Rattle.tq_devtab.specs.Volume.{TablePart, HasTable}
use Rattle.tq_devtab.proofs.SameByteLemmas.{header_kept}
use Rattle.tq_devtab.proofs.BareTableLemmas.{bare, bare_bytes}
use Rattle.tq_devtab.proofs.DeviceLemmas.{join, split, chosen_most, bare_bytes_kept, bare_next_kept}

pub erasing_steps : IsSteps IsErasing
erasing_steps = record { none = start; both = λ a b c first second. on a b c first second }
  where
    start : (c : List ℕ) → IsErasing c c
    start c = elim (before_or_after (length c) header_bytes) [
      | inl short ↦ inl short
      | inr long ↦ inr (record { was = long; size = long; bytes = λ i lt. refl })
    ]

    kept : (a b c : List ℕ) → IsErasing a b → IsStillHeaded b c → IsErasing a c
    kept a b c first more = elim first [
      | inl blank ↦ absurd (omega (arith, blank, more.was))
      | inr same ↦ inr (record { was = same.was; size = more.size; bytes = λ i lt. more.bytes i lt ∙ same.bytes i lt })
    ]

    on : (a b c : List ℕ) → IsErasing a b → IsErasing b c → IsErasing a c
    on a b c first second = elim second [ inl blank ↦ inl blank | inr more ↦ kept a b c first more ]

-- the length is set to one byte too few
pub pulled_erases : (b c : List ℕ) → IsPulled (header_bytes - 1) b c → IsErasing b c
pulled_erases b c pulled = elim (before_or_after (length c) header_bytes) [
  | inl short ↦ inl short
  | inr long ↦
      let was : header_bytes ≤ length b = omega (arith, long, pulled.no_longer) in
      inr (record { was = was; size = long; bytes = λ i lt. pulled.front i (omega (arith, lt, was)) })
]

-- The bytes that are left say all of a table without spaces.
pub bare_table_kept : (place : ℕ) (d : TablePart) (a b : List ℕ) → present d.entries ≡ [] → HasTable place d a → IsStillHeaded a b → HasTable place d b
bare_table_kept place d a b none has still =
    let end = header_bytes - 1 in
    let h = raw_header a in
    let long_a : end ≤ length a = omega (arith, has.size) in
    let long_b : end ≤ length b = omega (arith, still.size) in
    let area = chosen_most (get_or a 512 0) table_a table_b (omega arith) in
    let t = raw_table h.table a in
    let u = raw_table h.table b in
    let entries : ℕ → ℕ → List RawEntry → List Bool = λ next size used. entries_tests next h.clusters size used in
    let parts = split (header_tests place h ++ table_tests t) (entries t.next (length a) (used_entries t)) has.tests in
    let first = split (header_tests place h) (table_tests t) parts.0 in
    let was = bare_bytes h.table a first.1 (ap (λ (d : TablePart). present d.entries) has.part ∙ none) in
    let is = bare_bytes_kept end h.table a b still.bytes long_a long_b (omega (arith, area)) was in
    let old = bare h.table a was.mark was.next was.unused in
    let new = bare h.table b is.mark is.next is.unused in
    let header = header_kept end a b still.bytes long_a long_b (omega arith) in
    let next = bare_next_kept end h.table a b still.bytes long_a long_b (omega (arith, area)) in
    let tests : hold_all (header_tests place h ++ table_tests u ++ entries u.next (length b) (used_entries u)) ≡ true =
    join (header_tests place h ++ table_tests u) (entries u.next (length b) (used_entries u)) (join (header_tests place h) (table_tests u) first.0 new.tests)
    (ap (λ used. hold_all (entries u.next (length b) used)) new.none) in
    record {
      size = still.size;
      tests = ap (λ (h : RawHeader). hold_all (header_tests place h ++ table_tests (raw_table h.table b)
          ++ entries_tests (raw_table h.table b).next h.clusters (length b) (used_entries (raw_table h.table b)))) header ∙ tests;
      part = ap (λ (h : RawHeader).
          record { site = h.site; clusters = h.clusters; next_space = (raw_table h.table b).next; entries = map named_in (raw_table h.table b).entries }) header
          ∙ (λ i. record { site = h.site; clusters = h.clusters; next_space = next i; entries = (new.entries ∙ sym old.entries) i })
          ∙ has.part;
    }
