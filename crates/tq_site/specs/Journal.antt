-- The journal of a site on device 0, in an image.
use Rattle.std.specs.Prelude.{◌==◌, not, Bool, ◌≡◌, ◌⊎◌, ℕ, ◌+◌, ◌≤◌, true, List, length, get_or, Some, None}
use Rattle.tq_extent.specs.Bytes.{OnBytes}
use Rattle.tq_gate.specs.declared.layout.Layout.{Layout}
use Rattle.tq_gate.specs.declared.layout.Areas.TheVariants.{Two}
use Rattle.tq_gate.specs.Log.{IsSameBeside}
use Rattle.tq_model.specs.Site.{header_clusters, numbers_from}
use Rattle.tq_model.specs.DeviceForm.{RawJournal, raw_header, raw_journal, journal_read, header_bytes, open_gate}
use Rattle.tq_model.specs.Reading.{journal_tests, hold_all}

-- the two areas of the journal on the pages of the header, chosen by one of its bytes
abbrev pub journal_layout : ℕ → Layout
journal_layout dev = record { dev = dev; map = numbers_from 0 header_clusters; areas = Two 513; first = 81; base_pages = 1; log_pages = 15 }

-- the journal that an image's selector chooses
abbrev pub journal_in : List ℕ → RawJournal
journal_in image = raw_journal (raw_header image).journal image

-- an image, not blank, has a journal of this epoch; for now it has no decision
pub record HasEpoch (epoch : ℕ) (image : List ℕ) : Type 0 where
  pub size : header_bytes ≤ length image
  pub tests : hold_all (journal_tests (journal_in image)) ≡ true
  pub says : journal_read (journal_in image) ≡ Some (record { epoch = epoch; decision = None })

-- its log has no payload
abbrev pub has_empty_log : RawJournal → Bool
has_empty_log j = not (get_or j.log 0 0 == open_gate)

-- an image has the journal of a site that was just made: of epoch 1, in area A, with an empty log
pub record HasFirstJournal (image : List ℕ) : Type 0 where
  pub has : HasEpoch 1 image
  pub selector : get_or image 513 0 ≡ 0
  pub empty : has_empty_log (journal_in image) ≡ true

-- an image is the same outside the journal: its two areas and its selector
abbrev pub IsSameButJournal : ℕ → List ℕ → List ℕ → Type 0
IsSameButJournal dev old new = OnBytes (numbers_from 0 header_clusters) (IsSameBeside (journal_layout dev)) old new

-- the epoch, or the next one and outside the journal all that was read
abbrev pub IsEpochOrNext : ℕ → ℕ → List ℕ → List ℕ → Type 0
IsEpochOrNext dev epoch read image = HasEpoch epoch image ⊎ (HasEpoch (epoch + 1) image × IsSameButJournal dev read image)
