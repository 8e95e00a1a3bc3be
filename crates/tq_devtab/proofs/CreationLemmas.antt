-- What the pieces of a creation leave.
use Rattle.std.proofs.Common.{◌≡◌, inl, inr, ◌<◌, ◌≤◌, ℕ, zero, suc, ◌+◌, ◌-◌, ◌*◌, ◌&&◌, Bool, true, false, List, [], length, get_or, Some, None, refl, sym, ◌∙◌, ap, arith}
use Rattle.std.specs.Prelude.{◌==◌, nat_le, min, not, is_some, if◌then◌else◌, codes, option_map, unwrap_or}
use Rattle.std.specs.Option.{option_and_then}
use Rattle.std.specs.Str.{bytes_eq}
use Rattle.std.proofs.lemmas.List.{get_or_past}
use Rattle.std.proofs.lemmas.Bool.{le-leb, eq-eqb, eqb-true}
use Rattle.std.proofs.lemmas.Bool.Decides.{nat_tests}
use Rattle.tq_field.specs.Places.{run_at, number_at}
use Rattle.tq_field.specs.GatedLog.{reading_from}
use Rattle.tq_field.proofs.Runs.{get_or-run_at}
use Rattle.tq_host.specs.Calls.{IsPulled}
use Rattle.tq_host.proofs.Bytes.{before_or_after}
use Rattle.tq_model.specs.Site.{least_clusters, most_clusters, table_entries}
use Rattle.tq_model.specs.DeviceForm.{RawHeader, RawJournal, Journal, raw_header, raw_journal, journal_read, journal_base, journal_after, chosen, header_bytes, page_bytes, extents_start, journal_log_bytes, table_a, table_b, journal_a, journal_b}
use Rattle.tq_model.specs.Reading.{header_tests, hold_all, has_epochs}
use Rattle.tq_devtab.specs.Device.{HasPart, IsBlankOr, first_journal, new_part}
use Rattle.tq_devtab.specs.Made.{IsHeaderStart, IsBaseStart, IsJournalStart, made_byte, IsMadeTo, IsPaged, IsLaidOut}
use Rattle.tq_devtab.proofs.SameByteLemmas.{same_runs, same_numbers}
use Rattle.tq_devtab.proofs.BareTableLemmas.{IsBareBytes, is_next, unused_from}
use Rattle.tq_devtab.proofs.DeviceLemmas.{IsBareDevice, own_journal_tests, bare_table, bare_stands}

-- The header

abbrev new_header : ℕ → ℕ → ℕ → RawHeader
new_header place site clusters = record { mark = codes "TQDEV001"; device = place; site = site; clusters = clusters; table = table_a; journal = journal_a }

header_tested : (place site clusters : ℕ) → 1 ≤ site → least_clusters ≤ clusters → clusters ≤ most_clusters
    → hold_all (header_tests place (new_header place site clusters)) ≡ true
header_tested place site clusters one least most = λ i.
    eq-eqb place place refl i && (le-leb 1 site one i && ((le-leb least_clusters clusters least i && le-leb clusters most_clusters most i) && true))

header_made : (place site clusters : ℕ) (start image : List ℕ) → IsHeaderStart place site clusters start → page_bytes ≤ length image
    → ((i : ℕ) → i < page_bytes → get_or image i 0 ≡ get_or start i 0) → raw_header image ≡ new_header place site clusters
header_made place site clusters start image is long same =
    let size = is.size in
    let mark = same_runs 0 0 8 image start (omega arith) (omega arith) (λ j lt. same (0 + j) (omega arith)) ∙ is.mark in
    let device = same 8 (omega arith) ∙ is.device in
    let site_is = same_numbers 12 12 4 image start (omega arith) (omega arith) (λ j lt. same (12 + j) (omega arith)) ∙ is.site_is in
    let clusters_are = same_numbers 16 16 4 image start (omega arith) (omega arith) (λ j lt. same (16 + j) (omega arith)) ∙ is.clusters_are in
    let table = same 512 (omega arith) ∙ get_or_past start 512 0 (omega arith) in
    let journal = same 513 (omega arith) ∙ get_or_past start 513 0 (omega arith) in
    λ i. record {
      mark = mark i;
      device = device i;
      site = site_is i;
      clusters = clusters_are i;
      table = chosen (table i) table_a table_b;
      journal = chosen (journal i) journal_a journal_b;
    }

-- Bases

-- the bytes from this address on are a start, with zeros behind it
abbrev BeginsWith : ℕ → ℕ → List ℕ → List ℕ → Type 0
BeginsWith n at start image = (i : ℕ) → i < n → get_or image (at + i) 0 ≡ get_or start i 0

base_made : (n at number : ℕ) (mark start image : List ℕ) → IsBaseStart mark number start → 8 ≤ n → at + n ≤ length image → BeginsWith n at start image
    → (run_at at 4 image ≡ mark) × (number_at (at + 4) 4 image ≡ number)
base_made n at number mark start image is some long same =
    let size = is.size in (
      same_runs at 0 4 image start (omega arith) (omega arith) (λ j lt.
          let e : j ≡ 0 + j = omega arith in
          same j (omega arith) ∙ ap (λ k. get_or start k 0) e) ∙ is.mark_is,
      same_numbers (at + 4) 4 4 image start (omega arith) (omega arith) (λ j lt.
          let e : at + 4 + j ≡ at + (4 + j) = omega arith in
          ap (λ k. get_or image k 0) e ∙ same (4 + j) (omega arith)) ∙ is.number_is,
    )

-- a byte behind a start
behind : (n at i o : ℕ) (start image : List ℕ) → BeginsWith n at start image → o ≡ at + i → i < n → length start ≤ i → get_or image o 0 ≡ 0
behind n at i o start image same place lt past = ap (λ k. get_or image k 0) place ∙ same i lt ∙ get_or_past start i 0 past

table_made : (n at : ℕ) (start image : List ℕ) → IsBaseStart (codes "TQTB") 1 start → extents_start ≤ n → at + n ≤ length image → BeginsWith n at start image
    → IsBareBytes at image
table_made n at start image is some long same =
    let size = is.size in
    let made = base_made n at 1 (codes "TQTB") start image is (omega arith) long same in
    record {
      mark = ap (λ (m : List ℕ). bytes_eq m (codes "TQTB")) made.0;
      next = ap is_next made.1;
      unused = unused_from table_entries (at + 32) (at + extents_start) image (λ k lt.
          behind n at (32 + 160 * k) (at + 32 + 160 * k) start image same (omega arith) (omega arith) (omega arith));
    }

-- The journal

log_shut : (most : ℕ) (log : List ℕ) → get_or log 0 0 ≡ 0 → reading_from most 0 log ≡ Some []
unfolding reading_from
log_shut zero log shut = refl
log_shut (suc most) log shut = grind (arith, nat_tests)

journal_first : (j : RawJournal) → j.epoch ≡ 1 → j.decided ≡ 0 → get_or j.log 0 0 ≡ 0 → journal_read j ≡ Some first_journal
journal_first j epoch decided shut =
    ap (option_and_then (λ payloads. journal_after payloads (journal_base j))) (log_shut (length j.log) j.log shut)
    ∙ (λ i. Some (record { epoch = epoch i; decision = if decided i == 1 then Some j.decision else None }))

journal_tested : (j : RawJournal) → j.mark ≡ codes "TQSJ" → j.epoch ≡ 1 → j.decided ≡ 0 → get_or j.log 0 0 ≡ 0 → hold_all (own_journal_tests 0 j) ≡ true
journal_tested j mark epoch decided shut =
    let read = journal_first j epoch decided shut in
    λ i. bytes_eq (mark i) (codes "TQSJ")
    && (nat_le (decided i) 1
    && (unwrap_or (option_map has_epochs (read i)) false
    && (unwrap_or (option_map (λ (k : Journal). not (is_some k.decision)) (read i)) false && true)))

-- a new device has the journal, or none
record HasNewJournal (own : Bool) (j : RawJournal) : Type 0 where
  pub tests : hold_all (if own then own_journal_tests 0 j else []) ≡ true
  pub read : (if own then journal_read j else None) ≡ (if own then Some first_journal else None)

journal_made : (n place : ℕ) (start image : List ℕ) → IsJournalStart place start → page_bytes + journal_log_bytes ≤ n → journal_a + n ≤ length image
    → BeginsWith n journal_a start image → HasNewJournal (place == 0) (raw_journal journal_a image)
journal_made n place start image is some long same = by_place (place == 0) refl
  where
    by_place : (own : Bool) → (place == 0) ≡ own → HasNewJournal own (raw_journal journal_a image)
    by_place true own =
        let j = raw_journal journal_a image in
        let base = is.first (eqb-true place 0 own) in
        let size = is.size in
        let made = base_made n journal_a 1 (codes "TQSJ") start image base (omega arith) long same in
        let decided = behind n journal_a 8 (journal_a + 8) start image same (omega arith) (omega arith) (omega arith) in
        let shut = get_or-run_at (journal_a + page_bytes) journal_log_bytes image 0 0 (omega arith)
        ∙ behind n journal_a page_bytes (journal_a + page_bytes + 0) start image same (omega arith) (omega arith) (omega arith) in
        record { tests = journal_tested j made.0 made.1 decided shut; read = journal_first j made.1 decided shut }
    by_place false own = record { tests = refl; read = refl }

-- The pages so far

made_low : (h t j : List ℕ) (i : ℕ) → i < table_a → made_byte h t j i ≡ get_or h i 0
made_low h t j i lt = grind (arith, nat_tests)

made_middle : (h t j : List ℕ) (i : ℕ) → table_a + i < journal_a → made_byte h t j (table_a + i) ≡ get_or t i 0
made_middle h t j i lt = let k : table_a + i - table_a ≡ i = omega arith in grind (arith, nat_tests)

made_high : (h t j : List ℕ) (i : ℕ) → made_byte h t j (journal_a + i) ≡ get_or j i 0
made_high h t j i = let k : journal_a + i - journal_a ≡ i = omega arith in grind (arith, nat_tests)

-- one more page
pub made_more : (h t j start old new : List ℕ) (n : ℕ) → IsMadeTo h t j (min (1024 * n) 131071) old
    → ((i : ℕ) → i < 1024 → get_or start i 0 ≡ made_byte h t j (1024 * n + i)) → IsPaged n start old new → IsMadeTo h t j (min (1024 * (n + 1)) 131071) new
made_more h t j start old new n so_far bytes paged i lt = elim (before_or_after i (1024 * n)) [
  | inl before ↦ paged.before i before ∙ so_far i (omega arith)
  | inr after ↦
      let k = i - 1024 * n in
      let e : i ≡ 1024 * n + k = omega arith in
      ap (λ o. get_or new o 0) e ∙ paged.page k (omega arith) (omega arith) ∙ bytes k (omega arith) ∙ sym (ap (made_byte h t j) e)
]

-- All pages

module _ (place site clusters : ℕ) (h t j : List ℕ) (header : IsHeaderStart place site clusters h) (table : IsBaseStart (codes "TQTB") 1 t)
    (journal : IsJournalStart place j) (one : 1 ≤ site) (least : least_clusters ≤ clusters) (most : clusters ≤ most_clusters) where
  device_made : (image : List ℕ) → header_bytes ≤ length image → IsMadeTo h t j (header_bytes - 1) image → HasPart place (new_part place site clusters) image
  device_made image long made =
      let new = new_header place site clusters in
      let headed = header_made place site clusters h image header (omega arith) (λ i lt. made i (omega arith) ∙ made_low h t j i lt) in
      let middle : BeginsWith extents_start table_a t image = λ i lt. made (table_a + i) (omega arith) ∙ made_middle h t j i (omega arith) in
      let high : BeginsWith (page_bytes + journal_log_bytes) journal_a j image = λ i lt. made (journal_a + i) (omega arith) ∙ made_high h t j i in
      let own = journal_made (page_bytes + journal_log_bytes) place j image journal (omega arith) (omega arith) high in
      let bare : IsBareDevice place new image = record {
        header = header_tested place site clusters one least most;
        table = table_made extents_start table_a t image table (omega arith) (omega arith) middle;
        journal = own.tests;
      } in
      let next = (base_made extents_start table_a 1 (codes "TQTB") t image table (omega arith) (omega arith) middle).1 in
      bare_stands place new (new_part place site clusters) image long headed bare (λ i. record {
        site = site;
        clusters = clusters;
        next_space = next i;
        journal = own.read i;
        entries = (bare_table place new image bare).entries i;
      })

  pub laid_out : (image : List ℕ) → length image ≡ header_bytes - 1 → IsMadeTo h t j (header_bytes - 1) image → IsLaidOut place site clusters image
  laid_out image size made = record {
    size = size;
    part = λ c long same. device_made c long (λ i lt. same i lt ∙ made i lt);
    bare = λ later i from to.
        let k = i - journal_a in
        let e : i ≡ journal_a + k = omega arith in
        made i (omega arith) ∙ ap (made_byte h t j) e ∙ made_high h t j k ∙ journal.later later k;
    first = record {
      table = unsaid 512 (omega arith) (omega arith);
      journal = unsaid 513 (omega arith) (omega arith);
      shut = made (journal_a + page_bytes) (omega arith) ∙ made_high h t j page_bytes ∙ get_or_past j page_bytes 0 (omega (arith, journal.size));
    };
  }
    where
      unsaid : (i : ℕ) → 20 ≤ i → i < table_a → get_or image i 0 ≡ 0
      unsaid i from to = made i (omega arith) ∙ made_low h t j i to ∙ get_or_past h i 0 (omega (arith, header.size))

-- its last byte makes it a device, and a stop leaves that or a blank one
pub pulled_open : (place site clusters : ℕ) (b c : List ℕ) → IsLaidOut place site clusters b → IsPulled header_bytes b c
    → IsBlankOr place (new_part place site clusters) c
pulled_open place site clusters b c laid pulled = elim (before_or_after (length c) header_bytes) [
  | inl short ↦ inl short
  | inr long ↦ inr (laid.part c long (λ i lt. pulled.front i (omega (arith, lt, laid.size))))
]
