-- Steps after which a device has the journal that it had.
use Rattle.std.proofs.Common.{◌≡◌, ◌≢◌, ◌<◌, ◌≤◌, inl, inr, ℕ, ◌+◌, List, length, get_or, sym, ◌∙◌, subst, true, arith}
use Rattle.std.specs.Prelude.{◌/◌}
use Rattle.tq_model.specs.Site.{header_clusters, numbers_from}
use Rattle.tq_model.specs.DeviceForm.{header_bytes, cluster_bytes, page_bytes, journal_log_bytes, journal_a, journal_b}
use Rattle.tq_extent.specs.Bytes.{reaches, ShareNone, OnBytes}
use Rattle.tq_extent.proofs.BytesLemmas.{header_byte, header_byte_at, header_reached, length-owned}
use Rattle.tq_extent.proofs.OwnerLemmas.{shared_alike}
use Rattle.tq_gate.specs.declared.layout.Layout.{Layout}
use Rattle.tq_gate.specs.Layout.{bytes_in, clusters_of, first_area, areas_end, IsSelector}
use Rattle.tq_gate.specs.Log.{IsSameBeside, layout_of}
use Rattle.tq_gate.proofs.OutsideLemmas.{IsOf, content_elsewhere, log_elsewhere}
use Rattle.tq_site.specs.declared.journal.SiteJournal.{SiteJournal}
use Rattle.tq_site.specs.InMemory.{IsJournalOf}
use Rattle.tq_site.specs.Journal.{HasEpoch, journal_layout}
use Rattle.tq_site.proofs.JournalLemmas.{same_epoch}

-- images, neither blank, that have the same bytes in the two areas of the journal and the same selector
pub record KeepsJournal (old new : List ℕ) : Type 0 where
  pub size : header_bytes ≤ length old
  pub long : header_bytes ≤ length new
  pub areas : (at : ℕ) → journal_a ≤ at → at < journal_b + (page_bytes + journal_log_bytes) → get_or new at 0 ≡ get_or old at 0
  pub selector : get_or new 513 0 ≡ get_or old 513 0

module _ (old new : List ℕ) (keeps : KeepsJournal old new) where
  journal_bytes : (dev i : ℕ) → IsOf (journal_layout dev) i
      → get_or (bytes_in (journal_layout dev) new) i 0 ≡ get_or (bytes_in (journal_layout dev) old) i 0
  journal_bytes dev i of = elim of [
    | inl within ↦
        let from = within.0 in
        let to = within.1 in
        header_byte_at i new (omega arith) ∙ keeps.areas i (omega arith) (omega arith) ∙ sym (header_byte_at i old (omega arith))
    | inr is ↦
        subst (λ k. get_or (bytes_in (journal_layout dev) new) k 0 ≡ get_or (bytes_in (journal_layout dev) old) k 0) is
        (header_byte_at 513 new (omega arith) ∙ keeps.selector ∙ sym (header_byte_at 513 old (omega arith)))
  ]

  pub epoch_kept : (epoch : ℕ) → HasEpoch epoch old → HasEpoch epoch new
  epoch_kept epoch has =
      let layout = journal_layout 0 in
      let size = length-owned (clusters_of layout) new (header_reached new keeps.long)
      ∙ sym (length-owned (clusters_of layout) old (header_reached old keeps.size)) in
      same_epoch 0 epoch old new keeps.long
      (content_elsewhere layout (bytes_in layout old) (bytes_in layout new) size (λ i from to. journal_bytes 0 i (inl (from, to)))
      (λ i selects. journal_bytes 0 i (inr selects))) has

  -- and the log in memory is that of the image
  pub journal_of_kept : (j : SiteJournal) → IsJournalOf j old → IsJournalOf j new
  journal_of_kept j is =
      let there = j.layout in
      record {
        has = epoch_kept j.epoch is.has;
        holds = is.holds;
        log = log_elsewhere j.log is.holds old new
            (subst (λ (l : Layout). reaches (clusters_of l) new ≡ true) (sym there) (header_reached new keeps.long))
            (λ i of. subst (λ (l : Layout). get_or (bytes_in l new) i 0 ≡ get_or (bytes_in l old) i 0) (sym there)
            (journal_bytes (layout_of j.log).dev i (subst (λ (l : Layout). IsOf l i) there of))) is.log;
      }

-- Steps that leave them

-- beside a log of the header that lies before the journal, but behind its selector: the device's table
pub keeps_beside : (layout : Layout) (old new : List ℕ) → header_bytes ≤ length old → 513 < first_area layout → areas_end layout ≤ journal_a
    → ((i : ℕ) → IsSelector layout.areas i → (i < journal_a) × (i ≢ 513))
    → OnBytes (numbers_from 0 header_clusters) (IsSameBeside layout) old new → KeepsJournal old new
keeps_beside layout old new long behind before selector step =
    let size = step.size in
    record {
      size = long;
      long = omega arith;
      areas = λ at from to.
          sym (header_byte_at at new (omega arith))
          ∙ step.bytes.outside at (inr (omega arith)) (λ selects. let below = (selector at selects).0 in omega arith) ∙ header_byte_at at old (omega arith);
      selector =
          sym (header_byte_at 513 new (omega arith)) ∙ step.bytes.outside 513 (inl behind) (λ selects. let other = (selector 513 selects).1 in omega arith)
          ∙ header_byte_at 513 old (omega arith);
    }

-- on the bytes of an owner other than the header
pub keeps_elsewhere : (clusters : List ℕ) (S : List ℕ → List ℕ → Type 0) (old new : List ℕ) → header_bytes ≤ length old
    → ShareNone clusters (numbers_from 0 header_clusters) → OnBytes clusters S old new → KeepsJournal old new
keeps_elsewhere clusters S old new long apart step =
    let size = step.size in
    let stays : (at : ℕ) → at < header_bytes → get_or new at 0 ≡ get_or old at 0 = λ at lt.
    step.elsewhere at (shared_alike clusters (numbers_from 0 header_clusters) apart (at / cluster_bytes) (header_byte at lt)) in
    record { size = long; long = omega arith; areas = λ at from to. stays at (omega arith); selector = stays 513 (omega arith) }

-- the same bytes, and maybe more behind them
pub keeps_longer : (old new : List ℕ) → header_bytes ≤ length old → length old ≤ length new
    → ((at : ℕ) → at < length old → get_or new at 0 ≡ get_or old at 0) → KeepsJournal old new
keeps_longer old new long longer same =
    record { size = long; long = omega arith; areas = λ at from to. same at (omega arith); selector = same 513 (omega arith) }
