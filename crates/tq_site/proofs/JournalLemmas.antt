-- The journal in an image, by the content of its log.
use Rattle.std.proofs.Common.{◌≡◌, ◌<◌, ◌≤◌, ℕ, ◌+◌, ◌-◌, Bool, true, false, ◌&&◌, List, [], ◌∷◌, ◌++◌, length, take, drop, get_or, Option, None, Some, refl, sym, ◌∙◌, ap, subst, arith, leb-true, le-leb}
use Rattle.std.specs.Prelude.{nat_le, ◌==◌, codes, is_some, not, unwrap_or}
use Rattle.std.specs.Option.{option_map, option_and_then}
use Rattle.std.specs.Str.{bytes_eq}
use Rattle.std.proofs.lemmas.Bool.{and_parts, and_from, false_from_ne_true, eqb-false, not-true}
use Rattle.std.proofs.lemmas.Bool.Decides.{nat_tests}
use Rattle.std.proofs.lemmas.List.{drop-drop, drop-take, take-take}
use Rattle.std.proofs.lemmas.Option.{none-some}
use Rattle.tq_field.specs.Digits.{number_of}
use Rattle.tq_field.specs.Places.{run_at}
use Rattle.tq_field.specs.GatedLog.{log_reading}
use Rattle.tq_field.proofs.Runs.{length-run_at, get_or-run_at}
use Rattle.tq_extent.specs.Bytes.{owned_bytes, byte_address, reaches, ShareNone, OnBytes}
use Rattle.tq_extent.proofs.BytesLemmas.{header-owned, header_reached, length-owned, address_reached, others_kept}
use Rattle.tq_model.specs.Site.{header_clusters, numbers_from}
use Rattle.tq_model.specs.DeviceForm.{Journal, Decision, RawJournal, raw_header, raw_journal, journal_base, journal_after, journal_read, header_bytes, page_bytes, journal_log_bytes, chosen, journal_a, journal_b}
use Rattle.tq_model.specs.Reading.{journal_tests, has_no_decision, has_epochs, hold_all}
use Rattle.tq_gate.specs.declared.layout.Layout.{Layout}
use Rattle.tq_gate.specs.declared.log.GateLog.{GateLog}
use Rattle.tq_gate.specs.Layout.{bytes_in, clusters_of, first_area, layout_end}
use Rattle.tq_gate.specs.Reading.{Content, content, content_on, area_of, base_in, log_in}
use Rattle.tq_gate.specs.Log.{IsLog, IsSameBeside, layout_of}
use Rattle.tq_gate.proofs.Contents.{holds_of, content_in, fits_some}
use Rattle.tq_gate.proofs.Readings.{log_reading_is, reading_shut}
use Rattle.tq_gate.proofs.OutsideLemmas.{IsOf, content_beside, content_elsewhere}
use Rattle.tq_site.specs.Base.{SaysEpoch, journal_of}
use Rattle.tq_site.specs.Journal.{HasEpoch, has_empty_log, journal_layout, journal_in}

-- a run of a run
run_at-run_at : (k m at n : ℕ) (bytes : List ℕ) → k + m ≤ n → run_at k m (run_at at n bytes) ≡ run_at (at + k) m bytes
run_at-run_at k m at n bytes within =
    let e : n ≡ k + (n - k) = omega arith in
    ap (λ (j : ℕ). take m (drop k (take j (drop at bytes)))) e
    ∙ ap (take m) (drop-take k (n - k) (drop at bytes))
    ∙ take-take m (n - k) (drop k (drop at bytes)) (omega arith)
    ∙ ap (take m) (drop-drop k at bytes)

run_of : (k m at n p : ℕ) (bytes : List ℕ) → k + m ≤ n → at + k ≡ p → run_at k m (run_at at n bytes) ≡ run_at p m bytes
run_of k m at n p bytes within place = run_at-run_at k m at n bytes within ∙ ap (λ (q : ℕ). run_at q m bytes) place

either_area : (selector : ℕ) → chosen selector journal_a journal_b ≤ journal_b
either_area selector = grind (arith, nat_tests)

-- a page by itself
page_of : (at : ℕ) (image : List ℕ) → raw_journal at image ≡ record (raw_journal 0 (run_at at page_bytes image)) { log = run_at (at + page_bytes) journal_log_bytes image }
page_of at image =
    let start : at + 0 ≡ at = omega arith in
    let last : at + 16 ≡ at + 12 + 4 = omega arith in
    let mark = run_of 0 4 at page_bytes at image (omega arith) start in
    let epoch = run_at-run_at 4 4 at page_bytes image (omega arith) in
    let decided = get_or-run_at at page_bytes image 8 0 (omega arith) in
    let first = run_at-run_at 12 4 at page_bytes image (omega arith) in
    let second = run_of 16 4 at page_bytes (at + 12 + 4) image (omega arith) last in
    sym (λ i. record {
      mark = mark i;
      epoch = number_of (epoch i);
      decided = decided i;
      decision = record { epoch = number_of (first i); number = number_of (second i) };
      log = run_at (at + page_bytes) journal_log_bytes image;
    })

-- a content whose log has no reading
none_read : (base : List ℕ) (o : Option (List (List ℕ))) → ◌≡◌ {A = Option Content} (option_map (λ (payloads : List (List ℕ)). record { base = base; payloads = payloads }) o) None → o ≡ None
none_read base None is = refl
none_read base (Some ps) is = let found : Content = record { base = base; payloads = ps } in absurd (none-some found (sym is))

-- Where it lies

module _ (dev : ℕ) (image : List ℕ) (long : header_bytes ≤ length image) where
  abbrev layout : Layout
  layout = journal_layout dev

  abbrev bytes : List ℕ
  bytes = owned_bytes (numbers_from 0 header_clusters) image

  abbrev at_page : ℕ
  at_page = (raw_header image).journal

  selector_is : get_or bytes 513 0 ≡ get_or image 513 0
  selector_is = ap (λ (b : List ℕ). get_or b 513 0) (header-owned image) ∙ get_or-run_at 0 header_bytes image 513 0 (omega arith)

  area_is : area_of layout bytes ≡ at_page
  area_is = ap (λ (selector : ℕ). chosen selector journal_a journal_b) selector_is

  -- a part of it among the bytes of the header
  part_is : (p n : ℕ) → p + n ≤ 16384 → run_at (area_of layout bytes + p) n bytes ≡ run_at (at_page + p) n image
  part_is p n fits =
      let area = either_area (get_or image 513 0) in
      let start : 0 + (at_page + p) ≡ at_page + p = omega arith in
      ap (λ (area : ℕ). run_at (area + p) n bytes) area_is
      ∙ ap (run_at (at_page + p) n) (header-owned image)
      ∙ run_of (at_page + p) n 0 header_bytes (at_page + p) image (omega (arith, area)) start

  base_is : base_in layout (area_of layout bytes) bytes ≡ run_at at_page page_bytes image
  base_is =
      let here : area_of layout bytes + 0 ≡ area_of layout bytes = omega arith in
      let there : at_page + 0 ≡ at_page = omega arith in
      sym (ap (λ (p : ℕ). run_at p page_bytes bytes) here) ∙ part_is 0 page_bytes (omega arith) ∙ ap (λ (p : ℕ). run_at p page_bytes image) there

  log_is : log_in layout (area_of layout bytes) bytes ≡ run_at (at_page + page_bytes) journal_log_bytes image
  log_is = part_is page_bytes journal_log_bytes (omega arith)

  page_long : length (run_at at_page page_bytes image) ≡ page_bytes
  page_long = let area = either_area (get_or image 513 0) in length-run_at at_page page_bytes image (omega (arith, area))

  -- the content of its log
  base_read : (k : Content) → content_on layout image ≡ Some k → k.base ≡ run_at at_page page_bytes image
  base_read k is = sym (holds_of layout k bytes is).base ∙ base_is

  log_read : (k : Content) → content_on layout image ≡ Some k → log_reading (run_at (at_page + page_bytes) journal_log_bytes image) ≡ Some k.payloads
  log_read k is =
      let holds = holds_of layout k bytes is in
      subst (λ (log : List ℕ). log_reading log ≡ Some k.payloads) log_is (log_reading_is k.payloads (log_in layout (area_of layout bytes) bytes) holds.records holds.shut)

  log_unread : content_on layout image ≡ None → log_reading (run_at (at_page + page_bytes) journal_log_bytes image) ≡ None
  log_unread none =
      let size : length bytes ≡ header_bytes = length-owned (numbers_from 0 header_clusters) image (header_reached image long) in
      let base = base_in layout (area_of layout bytes) bytes in
      let whole = fits_some (layout_end layout) (length bytes) (content_in layout (area_of layout bytes) bytes) (omega (arith, size)) in
      subst (λ (log : List ℕ). log_reading log ≡ None) log_is (none_read base (log_reading (log_in layout (area_of layout bytes) bytes)) (sym whole ∙ none))

  pub first_area_is : get_or image 513 0 ≡ 0 → area_of layout bytes ≡ first_area layout
  first_area_is first = area_is ∙ ap (λ (selector : ℕ). chosen selector journal_a journal_b) first

  -- an empty log
  abbrev pub first_content : Content
  first_content = record { base = base_in layout (area_of layout bytes) bytes; payloads = [] }

  pub first_read : has_empty_log (journal_in image) ≡ true → content_on layout image ≡ Some first_content
  first_read empty =
      let log = run_at (at_page + page_bytes) journal_log_bytes image in
      let size : length bytes ≡ header_bytes = length-owned (numbers_from 0 header_clusters) image (header_reached image long) in
      let base = base_in layout (area_of layout bytes) bytes in
      let whole = fits_some (layout_end layout) (length bytes) (content_in layout (area_of layout bytes) bytes) (omega (arith, size)) in
      whole
      ∙ ap (λ (log : List ℕ). option_map (λ (payloads : List (List ℕ)). record { base = base; payloads = payloads }) (log_reading log)) log_is
      ∙ ap (option_map (λ (payloads : List (List ℕ)). record { base = base; payloads = payloads }))
      (reading_shut (length log) 0 log (eqb-false (get_or log 0 0) 79 (not-true (get_or log 0 0 == 79) empty)))

-- What a base and a log say

undecided_by : (epoch : ℕ) (d : Option Decision) → not (is_some d) ≡ true → (n : ℕ) × ◌≡◌ {A = Option Journal} (Some (record { epoch = epoch; decision = d })) (Some (record { epoch = n; decision = None }))
undecided_by epoch None is = (epoch, refl)
undecided_by epoch (Some d) is = absurd (cc)

undecided : (o : Option Journal) → unwrap_or (option_map (λ (k : Journal). not (is_some k.decision)) o) false ≡ true → (n : ℕ) × (o ≡ Some (record { epoch = n; decision = None }))
undecided None is = absurd (cc)
undecided (Some k) is = undecided_by k.epoch k.decision is

module _ (base log : List ℕ) where
  abbrev raw : RawJournal
  raw = record (raw_journal 0 base) { log = log }

  abbrev mark_holds : Bool
  mark_holds = bytes_eq raw.mark (codes "TQSJ")

  abbrev decided_holds : Bool
  decided_holds = nat_le raw.decided 1

  abbrev epochs_hold : Option Journal → Bool
  epochs_hold o = unwrap_or (option_map has_epochs o) false

  abbrev no_decision : Option Journal → Bool
  no_decision o = unwrap_or (option_map (λ (k : Journal). not (is_some k.decision)) o) false

  read_as : (ps : List (List ℕ)) → log_reading log ≡ Some ps → journal_read raw ≡ journal_of base ps
  read_as ps is = ap (option_and_then (λ payloads. journal_after payloads (journal_base raw))) is

  says_of : (epoch : ℕ) (ps : List (List ℕ)) → length base ≡ page_bytes → log_reading log ≡ Some ps → mark_holds ≡ true → decided_holds ≡ true → epochs_hold (journal_read raw) ≡ true
      → journal_read raw ≡ Some (record { epoch = epoch; decision = None }) → SaysEpoch epoch base ps
  says_of epoch ps size is mark decided epochs says =
      let least = and_parts (nat_le 1 epoch) true (sym (ap epochs_hold says) ∙ epochs) in
      record { is_base = record { size = size; mark = mark; decided = decided }; says = sym (read_as ps is) ∙ says; some = leb-true 1 epoch least.0 }

  says_parts : (epoch : ℕ) (ps : List (List ℕ)) → length base ≡ page_bytes → log_reading log ≡ Some ps → hold_all (journal_tests raw) ≡ true → journal_read raw ≡ Some (record { epoch = epoch; decision = None }) → SaysEpoch epoch base ps
  says_parts epoch ps size is tests says =
      let first = and_parts mark_holds (decided_holds && (epochs_hold (journal_read raw) && true)) tests in
      let second = and_parts decided_holds (epochs_hold (journal_read raw) && true) first.1 in
      let third = and_parts (epochs_hold (journal_read raw)) true second.1 in
      says_of epoch ps size is first.0 second.0 third.0 says

  tests_hold : (epoch : ℕ) (ps : List (List ℕ)) → log_reading log ≡ Some ps → SaysEpoch epoch base ps → (hold_all (journal_tests raw) ≡ true) × (journal_read raw ≡ Some (record { epoch = epoch; decision = None }))
  tests_hold epoch ps is says =
      let read = read_as ps is ∙ says.says in
      let epochs = ap epochs_hold read ∙ and_from (nat_le 1 epoch) true (le-leb 1 epoch says.some) refl in (
        and_from mark_holds (decided_holds && (epochs_hold (journal_read raw) && true)) says.is_base.mark
            (and_from decided_holds (epochs_hold (journal_read raw) && true) says.is_base.decided (and_from (epochs_hold (journal_read raw)) true epochs refl)),
        read,
      )

  -- of all tests
  abbrev all_hold : Bool
  all_hold = hold_all (journal_tests raw ++ has_no_decision raw ∷ [])

  all_parts : all_hold ≡ true → (mark_holds ≡ true) × (decided_holds ≡ true) × (epochs_hold (journal_read raw) ≡ true) × (no_decision (journal_read raw) ≡ true)
  all_parts holds =
      let first = and_parts mark_holds (decided_holds && (epochs_hold (journal_read raw) && (no_decision (journal_read raw) && true))) holds in
      let second = and_parts decided_holds (epochs_hold (journal_read raw) && (no_decision (journal_read raw) && true)) first.1 in
      let third = and_parts (epochs_hold (journal_read raw)) (no_decision (journal_read raw) && true) second.1 in
      let last = and_parts (no_decision (journal_read raw)) true third.1 in
      (first.0, second.0, third.0, last.0)

  says_none : (ps : List (List ℕ)) → length base ≡ page_bytes → log_reading log ≡ Some ps → ((epoch : ℕ) → SaysEpoch epoch base ps → ⊥) → all_hold ≡ false
  says_none ps size is none = false_from_ne_true all_hold (λ holds.
      let parts = all_parts holds in
      let read = undecided (journal_read raw) parts.3 in
      none read.0 (says_of read.0 ps size is parts.0 parts.1 parts.2 read.1))

  reads_none : log_reading log ≡ None → journal_read raw ≡ None
  reads_none is = ap (option_and_then (λ payloads. journal_after payloads (journal_base raw))) is

  says_nothing : log_reading log ≡ None → all_hold ≡ false
  says_nothing is = false_from_ne_true all_hold (λ holds.
      let epochs = (all_parts holds).2 in
      let no : false ≡ true = sym (ap epochs_hold (reads_none is)) ∙ epochs in
      absurd (cc))

-- What an image says

module _ (dev : ℕ) (image : List ℕ) where
  abbrev base_at : List ℕ
  base_at = run_at (raw_header image).journal page_bytes image

  abbrev log_at : List ℕ
  log_at = run_at ((raw_header image).journal + page_bytes) journal_log_bytes image

  journal_is : journal_in image ≡ raw base_at log_at
  journal_is = page_of (raw_header image).journal image

  pub says_epoch : (epoch : ℕ) (k : Content) → HasEpoch epoch image → content_on (journal_layout dev) image ≡ Some k → SaysEpoch epoch k.base k.payloads
  says_epoch epoch k has is =
      subst (λ (base : List ℕ). SaysEpoch epoch base k.payloads) (sym (base_read dev image has.size k is))
      (says_parts base_at log_at epoch k.payloads (page_long dev image has.size) (log_read dev image has.size k is)
      (subst (λ (r : RawJournal). hold_all (journal_tests r) ≡ true) journal_is has.tests)
      (subst (λ (r : RawJournal). journal_read r ≡ Some (record { epoch = epoch; decision = None })) journal_is has.says))

  module _ (long : header_bytes ≤ length image) where
    pub has_epoch : (epoch : ℕ) (k : Content) → content_on (journal_layout dev) image ≡ Some k → SaysEpoch epoch k.base k.payloads → HasEpoch epoch image
    has_epoch epoch k is says =
        let parts = tests_hold base_at log_at epoch k.payloads (log_read dev image long k is) (subst (λ (base : List ℕ). SaysEpoch epoch base k.payloads) (base_read dev image long k is) says) in
        record {
          size = long;
          tests = subst (λ (r : RawJournal). hold_all (journal_tests r) ≡ true) (sym journal_is) parts.0;
          says = subst (λ (r : RawJournal). journal_read r ≡ Some (record { epoch = epoch; decision = None })) (sym journal_is) parts.1;
        }

    pub has_none : (k : Content) → content_on (journal_layout dev) image ≡ Some k → ((epoch : ℕ) → SaysEpoch epoch k.base k.payloads → ⊥)
        → hold_all (journal_tests (journal_in image) ++ has_no_decision (journal_in image) ∷ []) ≡ false
    has_none k is none =
        subst (λ (r : RawJournal). hold_all (journal_tests r ++ has_no_decision r ∷ []) ≡ false) (sym journal_is)
        (says_none base_at log_at k.payloads (page_long dev image long) (log_read dev image long k is)
        (λ epoch says. none epoch (subst (λ (base : List ℕ). SaysEpoch epoch base k.payloads) (sym (base_read dev image long k is)) says)))

    pub has_no_reading : content_on (journal_layout dev) image ≡ None → hold_all (journal_tests (journal_in image) ++ has_no_decision (journal_in image) ∷ []) ≡ false
    has_no_reading none =
        subst (λ (r : RawJournal). hold_all (journal_tests r ++ has_no_decision r ∷ []) ≡ false) (sym journal_is) (says_nothing base_at log_at (log_unread dev image long none))

-- Images with the same content there

same_by : (dev epoch : ℕ) (o : Option Content) (old new : List ℕ) → header_bytes ≤ length new → content_on (journal_layout dev) old ≡ o → content_on (journal_layout dev) new ≡ o → HasEpoch epoch old → HasEpoch epoch new
same_by dev epoch None old new long was now has =
    let unread = reads_none (base_at dev old) (log_at dev old) (log_unread dev old has.size was) in
    absurd (none-some (record { epoch = epoch; decision = None }) (sym unread ∙ sym (ap journal_read (journal_is dev old)) ∙ has.says))
same_by dev epoch (Some k) old new long was now has = has_epoch dev new long epoch k now (says_epoch dev old epoch k has was)

pub same_epoch : (dev epoch : ℕ) (old new : List ℕ) → header_bytes ≤ length new → content_on (journal_layout dev) new ≡ content_on (journal_layout dev) old → HasEpoch epoch old → HasEpoch epoch new
same_epoch dev epoch old new long same has = same_by dev epoch (content_on (journal_layout dev) old) old new long refl same has

-- A step on the header's bytes, beside a log that shares none with the journal.
pub epoch_beside : (epoch : ℕ) (one : Layout) (old new : List ℕ) → ((i : ℕ) → IsOf one i → IsOf (journal_layout 0) i → ⊥) → OnBytes (numbers_from 0 header_clusters) (IsSameBeside one) old new → HasEpoch epoch old → HasEpoch epoch new
epoch_beside epoch one old new apart step has =
    same_epoch 0 epoch old new (omega (arith, has.size, step.size))
    (content_beside one (journal_layout 0) (bytes_in (journal_layout 0) old) (bytes_in (journal_layout 0) new) apart step.bytes) has

-- an image that has the same bytes in the header
pub same_header : (epoch : ℕ) (old new : List ℕ) → header_bytes ≤ length new → owned_bytes (numbers_from 0 header_clusters) new ≡ owned_bytes (numbers_from 0 header_clusters) old → HasEpoch epoch old → HasEpoch epoch new
same_header epoch old new long same has = same_epoch 0 epoch old new long (ap (content (journal_layout 0)) same) has

-- A step that leaves the bytes before the last one of the header.
pub same_below : (epoch : ℕ) (old new : List ℕ) → header_bytes ≤ length new
    → ((i : ℕ) → i < header_bytes - 1 → get_or new i 0 ≡ get_or old i 0) → HasEpoch epoch old → HasEpoch epoch new
same_below epoch old new long same has =
    let layout = journal_layout 0 in
    let kept : (i : ℕ) → i < header_bytes - 1 → get_or (bytes_in layout new) i 0 ≡ get_or (bytes_in layout old) i 0 =
    λ i lt. owned_byte new i (omega (arith, lt)) ∙ same i lt ∙ sym (owned_byte old i (omega (arith, lt))) in
    same_epoch 0 epoch old new long
    (content_elsewhere layout (bytes_in layout old) (bytes_in layout new) (owned_long new long ∙ sym (owned_long old has.size))
    (λ i from to. kept i (omega (arith, to))) (λ i selects. kept i (omega (arith, selects))))
    has
  where
    owned_long : (image : List ℕ) → header_bytes ≤ length image → length (bytes_in (journal_layout 0) image) ≡ header_bytes
    owned_long image long = length-owned (numbers_from 0 header_clusters) image (header_reached image long)

    owned_byte : (image : List ℕ) (i : ℕ) → i < header_bytes → get_or (bytes_in (journal_layout 0) image) i 0 ≡ get_or image i 0
    owned_byte image i lt =
        let start : 0 + i ≡ i = omega arith in
        ap (λ (b : List ℕ). get_or b i 0) (header-owned image) ∙ get_or-run_at 0 header_bytes image i 0 lt ∙ ap (λ (k : ℕ). get_or image k 0) start

-- A step on the bytes of another owner.
pub epoch_elsewhere : (epoch : ℕ) (clusters : List ℕ) (S : List ℕ → List ℕ → Type 0) (old new : List ℕ) → ShareNone (numbers_from 0 header_clusters) clusters → OnBytes clusters S old new → HasEpoch epoch old → HasEpoch epoch new
epoch_elsewhere epoch clusters S old new apart step has =
    same_header epoch old new (omega (arith, has.size, step.size)) (others_kept clusters (numbers_from 0 header_clusters) S old new step apart) has

-- The journal's log in memory

module _ (log : GateLog) (dev : ℕ) (there : layout_of log ≡ journal_layout dev) (k : Content) (image : List ℕ) (is : IsLog log k image) where
  pub log_content : content_on (journal_layout dev) image ≡ Some k
  log_content = subst (λ (layout : Layout). content_on layout image ≡ Some k) there is.is.reads

  pub log_reached : header_bytes ≤ length image
  log_reached =
      let reach = subst (λ (layout : Layout). reaches (clusters_of layout) image ≡ true) there is.reach in
      let last : byte_address (numbers_from 0 header_clusters) 131071 < length image = address_reached (numbers_from 0 header_clusters) image 131071 reach (omega arith) in
      omega arith
