-- The form in which a device stands: a header, a table of spaces, a site journal on device 0, and the clusters of the spaces.
use Rattle.std.specs.Prelude.{ℕ, zero, suc, ◌+◌, ◌*◌, ◌%◌, ◌==◌, ◌&&◌, if◌then◌else◌, List, [], ◌∷◌, length, get_or, Option, Some, None}
use Rattle.std.specs.List.{flat_map}
use Rattle.std.specs.Option.{option_and_then}
use Rattle.tq_field.specs.Places.{run_at, number_at}
use Rattle.tq_field.specs.GatedLog.{log_reading}
use Rattle.tq_model.specs.declared.answer.Extent.{Extent}
use Rattle.tq_model.specs.Site.{table_entries}

-- Sizes

abbrev pub page_bytes : ℕ
page_bytes = 1024

abbrev pub cluster_bytes : ℕ
cluster_bytes = 32768

-- the first clusters; a device with fewer bytes is blank
abbrev pub header_bytes : ℕ
header_bytes = 131072

-- of the device table: the byte at which its extents begin, and its end
abbrev pub extents_start : ℕ
extents_start = 2592

abbrev pub table_bytes : ℕ
table_bytes = 40960

-- the log of the site journal, behind its base page
abbrev pub journal_log_bytes : ℕ
journal_log_bytes = 15360

-- the byte of an open gate
abbrev pub open_gate : ℕ
open_gate = 79

-- Areas

-- an even selector chooses area A, an odd one area B
abbrev pub chosen : ℕ → ℕ → ℕ → ℕ
chosen selector a b = if selector % 2 == 0 then a else b

abbrev pub other : ℕ → ℕ → ℕ → ℕ
other selector a b = if selector % 2 == 0 then b else a

abbrev pub table_a : ℕ
table_a = 1024

abbrev pub table_b : ℕ
table_b = 41984

abbrev pub journal_a : ℕ
journal_a = 82944

abbrev pub journal_b : ℕ
journal_b = 99328

-- The header

pub record RawHeader : Type 0 where
  pub mark : List ℕ
  pub device : ℕ
  pub site : ℕ
  pub clusters : ℕ
  pub table : ℕ  -- the address of the table's base
  pub journal : ℕ  -- the address of the journal's base

abbrev pub raw_header : List ℕ → RawHeader
raw_header image = record {
  mark = run_at 0 8 image;
  device = get_or image 8 0;
  site = number_at 12 4 image;
  clusters = number_at 16 4 image;
  table = chosen (get_or image 512 0) table_a table_b;
  journal = chosen (get_or image 513 0) journal_a journal_b;
}

-- The table

pub record RawEntry : Type 0 where
  pub used : ℕ
  pub name : List ℕ
  pub ordinal : ℕ
  pub pages : ℕ
  pub extents : List Extent

-- so many extents, one after another from this byte on
unfoldable pub extents_at : ℕ → ℕ → List ℕ → List Extent
extents_at zero at image = []
extents_at (suc n) at image = record { first = number_at at 2 image; count = number_at (at + 2) 2 image } ∷ extents_at n (at + 4) image

-- how many extents the entry at this byte has; of an unused one nothing is read
abbrev pub extent_count : ℕ → List ℕ → ℕ
extent_count at image = if get_or image at 0 == 0 then 0 else number_at (at + 140) 4 image

-- the entry at this byte, whose extents begin at that one
abbrev pub raw_entry : ℕ → ℕ → List ℕ → RawEntry
raw_entry at extents image = record {
  used = get_or image at 0;
  name = run_at (at + 2) (get_or image (at + 1) 0) image;
  ordinal = number_at (at + 132) 4 image;
  pages = number_at (at + 136) 4 image;
  extents = extents_at (extent_count at image) extents image;
}

-- so many entries, one after another, and so are their extents
unfoldable pub raw_entries : ℕ → ℕ → ℕ → List ℕ → List RawEntry
raw_entries zero at extents image = []
raw_entries (suc n) at extents image = raw_entry at extents image ∷ raw_entries n (at + 160) (extents + 4 * extent_count at image) image

pub record RawTable : Type 0 where
  pub mark : List ℕ
  pub next : ℕ
  pub entries : List RawEntry

abbrev pub raw_table : ℕ → List ℕ → RawTable
raw_table at image = record {
  mark = run_at at 4 image;
  next = number_at (at + 4) 4 image;
  entries = raw_entries table_entries (at + 32) (at + extents_start) image;
}

-- The site journal

-- the decision of a commit over several spaces
pub record Decision : Type 0 where
  pub epoch : ℕ
  pub number : ℕ

pub record Journal : Type 0 where
  pub epoch : ℕ
  pub decision : Option Decision

pub record RawJournal : Type 0 where
  pub mark : List ℕ
  pub epoch : ℕ
  pub decided : ℕ
  pub decision : Decision  -- said where decided is 1
  pub log : List ℕ

abbrev pub decision_at : ℕ → List ℕ → Decision
decision_at at bytes = record { epoch = number_at at 4 bytes; number = number_at (at + 4) 4 bytes }

abbrev pub raw_journal : ℕ → List ℕ → RawJournal
raw_journal at image = record {
  mark = run_at at 4 image;
  epoch = number_at (at + 4) 4 image;
  decided = get_or image (at + 8) 0;
  decision = decision_at (at + 12) image;
  log = run_at (at + page_bytes) journal_log_bytes image;
}

-- what the journal's base says
abbrev pub journal_base : RawJournal → Journal
journal_base r = record { epoch = r.epoch; decision = if r.decided == 1 then Some r.decision else None }

-- The journal with one payload more, which raises the epoch, decides or forgets; none where it is not spelt.
abbrev pub journal_with : Journal → List ℕ → Option Journal
journal_with j [] = None
journal_with j (kind ∷ bytes) =
    if kind == 1 && length bytes == 4 then Some (record j { epoch = number_at 0 4 bytes })
    else (if kind == 2 && length bytes == 8 then Some (record j { decision = Some (decision_at 0 bytes) })
    else (if kind == 3 && length bytes == 0 then Some (record j { decision = None })
    else None))

abbrev pub journal_after : List (List ℕ) → Journal → Option Journal
journal_after [] j = Some j
journal_after (payload ∷ payloads) j = option_and_then (journal_after payloads) (journal_with j payload)

-- what the journal says after all payloads of its log; none where the log or a payload has no reading
abbrev pub journal_read : RawJournal → Option Journal
journal_read r = option_and_then (λ payloads. journal_after payloads (journal_base r)) (log_reading r.log)

-- Spaces

-- the logical bytes of a space: those of its clusters, one extent after another
abbrev pub bytes_of : List Extent → List ℕ → List ℕ
bytes_of extents image = flat_map (λ (e : Extent). run_at (cluster_bytes * e.first) (cluster_bytes * e.count) image) extents

abbrev pub first_page : List ℕ → List ℕ
first_page bytes = run_at 0 page_bytes bytes
