-- What the bytes of devices stand for. A device is blank where it is shorter than its header; else a list of tests says whether
-- it has a reading. The readings of all devices together give a site, or the first device that is damaged.
use Rattle.std.specs.Prelude.{ℕ, zero, suc, ◌+◌, ◌*◌, ◌==◌, ◌&&◌, ◌||◌, not, nat_lt, nat_le, Bool, true, false, if◌then◌else◌, List, [], ◌∷◌, ◌++◌, length, get_or, map, filter, take, drop, codes, Option, Some, None, option_map, unwrap_or, is_some}
use Rattle.std.specs.Option.{option_and_then}
use Rattle.std.specs.List.{list_all, list_any, find, flat_map, sum_by}
use Rattle.std.specs.Str.{bytes_eq}
use Rattle.tq_types.specs.declared.identifiers.Arrival.{Arrival}
use Rattle.tq_field.specs.Places.{run_at}
use Rattle.tq_field.specs.GatedLog.{log_reading, end_of}
use Rattle.tq_model.specs.declared.answer.Extent.{Extent}
use Rattle.tq_model.specs.declared.answer.Identity.{Identity}
use Rattle.tq_model.specs.Names.{is_name}
use Rattle.tq_model.specs.Space.{Entry, Queue, overhead_pages}
use Rattle.tq_model.specs.Moves.{IndexedSpace, space_of}
use Rattle.tq_model.specs.SpaceForm.{RawSpace, raw_space, shape_of, log_bytes, empty_space, replayed}
use Rattle.tq_model.specs.DeviceForm.{RawHeader, RawEntry, RawTable, RawJournal, Decision, Journal, raw_header, raw_table, raw_journal, journal_read, header_bytes, cluster_bytes, extents_start, table_bytes, open_gate, bytes_of, first_page}
use Rattle.tq_model.specs.Site.{Site, Volume, SpaceOnDevice, last_epoch, last_space, least_clusters, most_clusters, most_pages, most_queues, most_transactions, most_messages, most_memory, header_clusters, present, spaces_on, clusters_for}

-- the numbers from zero up to n
abbrev pub below : ℕ → List ℕ
below zero = []
below (suc n) = below n ++ n ∷ []

-- whether no two elements stand in this relation
abbrev pub no_two : {X : Type 0} → (X → X → Bool) → List X → Bool
no_two related [] = true
no_two related (x ∷ xs) = list_all (λ y. not (related x y)) xs && no_two related xs

-- The header, the table and the journal

abbrev pub hold_all : List Bool → Bool
hold_all tests = list_all (λ test. test) tests

-- the header of the device with this number
abbrev pub header_tests : ℕ → RawHeader → List Bool
header_tests place h =
    bytes_eq h.mark (codes "TQDEV001")
    ∷ (h.device == place)
    ∷ nat_le 1 h.site
    ∷ (nat_le least_clusters h.clusters && nat_le h.clusters most_clusters)
    ∷ []

-- the table, whose extents end within its base
abbrev pub table_tests : RawTable → List Bool
table_tests t =
    bytes_eq t.mark (codes "TQTB")
    ∷ (nat_le 1 t.next && nat_le t.next last_space)
    ∷ list_all (λ (e : RawEntry). nat_le e.used 1) t.entries
    ∷ nat_le (extents_start + 4 * sum_by (λ (e : RawEntry). length e.extents) t.entries) table_bytes
    ∷ []

abbrev pub is_used : RawEntry → Bool
is_used e = e.used == 1

abbrev pub used_entries : RawTable → List RawEntry
used_entries t = filter is_used t.entries

-- some clusters behind the header's, on a device of so many clusters and bytes
abbrev pub is_extent : ℕ → ℕ → Extent → Bool
is_extent clusters size e = nat_le 1 e.count && nat_le header_clusters e.first && (nat_le (e.first + e.count) clusters && nat_le (cluster_bytes * (e.first + e.count)) size)

abbrev pub entry_tests : ℕ → ℕ → ℕ → RawEntry → List Bool
entry_tests next clusters size e =
    is_name e.name
    ∷ (nat_le 1 e.ordinal && nat_lt e.ordinal next)
    ∷ (nat_le 1 e.pages && nat_le e.pages most_pages)
    ∷ list_all (is_extent clusters size) e.extents
    ∷ (sum_by (λ (x : Extent). x.count) e.extents == clusters_for e.pages)
    ∷ []

abbrev pub overlap : Extent → Extent → Bool
overlap a b = nat_lt a.first (b.first + b.count) && nat_lt b.first (a.first + a.count)

-- the used entries of a table, each by itself and all together
abbrev pub entries_tests : ℕ → ℕ → ℕ → List RawEntry → List Bool
entries_tests next clusters size entries =
    list_all (λ e. hold_all (entry_tests next clusters size e)) entries
    ∷ no_two (λ (a : RawEntry) (b : RawEntry). bytes_eq a.name b.name) entries
    ∷ no_two (λ (a : RawEntry) (b : RawEntry). a.ordinal == b.ordinal) entries
    ∷ no_two overlap (flat_map (λ (e : RawEntry). e.extents) entries)
    ∷ []

abbrev pub has_epochs : Journal → Bool
has_epochs j = nat_le 1 j.epoch && unwrap_or (option_map (λ (d : Decision). nat_le 1 d.epoch) j.decision) true

abbrev pub journal_tests : RawJournal → List Bool
journal_tests j =
    bytes_eq j.mark (codes "TQSJ")
    ∷ nat_le j.decided 1
    ∷ unwrap_or (option_map has_epochs (journal_read j)) false
    ∷ []

-- What the format has and no line makes yet gives no reading either. This test goes when it is built.

-- for now no commit is over several spaces
abbrev pub has_no_decision : RawJournal → Bool
has_no_decision j = unwrap_or (option_map (λ (k : Journal). not (is_some k.decision)) (journal_read j)) false

-- all tests of the device with this number but those of its spaces' own pages
abbrev pub device_tests : ℕ → List ℕ → List Bool
device_tests place image =
    let h = raw_header image in
    let t = raw_table h.table image in
    let j = raw_journal h.journal image in
    header_tests place h ++ table_tests t ++ entries_tests t.next h.clusters (length image) (used_entries t)
    ++ (if place == 0 then journal_tests j ++ has_no_decision j ∷ [] else [])

-- What a device says outside its spaces' own pages

-- a space as the table of its device names it
pub record NamedSpace : Type 0 where
  pub name : List ℕ
  pub ordinal : ℕ
  pub pages : ℕ
  pub extents : List Extent

pub record DevicePart : Type 0 where
  pub site : ℕ
  pub clusters : ℕ
  pub next_space : ℕ
  pub journal : Option Journal  -- the site journal, which device 0 alone has
  pub entries : List (Option NamedSpace)

abbrev pub named_in : RawEntry → Option NamedSpace
named_in e = if is_used e then Some (record { name = e.name; ordinal = e.ordinal; pages = e.pages; extents = e.extents }) else None

abbrev pub device_part : ℕ → List ℕ → DevicePart
device_part place image =
    let h = raw_header image in
    let t = raw_table h.table image in
    record {
      site = h.site;
      clusters = h.clusters;
      next_space = t.next;
      journal = if place == 0 then journal_read (raw_journal h.journal image) else None;
      entries = map named_in t.entries;
    }

-- The pages of a space

-- the first byte of the log among a space's own
abbrev pub log_start : ℕ
log_start = 2048

-- a space's page 0
abbrev pub page_tests : ℕ → RawSpace → List Bool
page_tests pages r =
    bytes_eq r.mark (codes "TQSPROV1")
    ∷ (r.version == 1)
    ∷ (nat_le 1 r.queues && nat_le r.queues most_queues)
    ∷ (nat_le 1 r.messages && nat_le r.messages most_messages)
    ∷ (nat_le 1 r.transactions && nat_le r.transactions most_transactions)
    ∷ nat_le r.memory most_memory
    ∷ (r.error_size == 0 || is_name r.error)
    ∷ nat_lt (overhead_pages (shape_of pages r)) pages
    ∷ []

-- what the log of a space says
pub record Replayed : Type 0 where
  pub payloads : List (List ℕ)
  pub space : IndexedSpace

-- the payloads of the log of a space with these logical bytes
abbrev pub payloads_in : ℕ → List ℕ → Option (List (List ℕ))
payloads_in pages bytes = log_reading (run_at log_start (log_bytes pages) bytes)

-- The space that the log makes, its epochs up to this one; none where the log or a payload has no reading.
abbrev pub space_in : ℕ → ℕ → ℕ → ℕ → List ℕ → Option Replayed
space_in site number epoch pages bytes =
    let space = empty_space (shape_of pages (raw_space (first_page bytes))) site number in
    option_and_then (λ payloads. option_map (λ s. record { payloads = payloads; space = s }) (replayed epoch payloads space)) (payloads_in pages bytes)

-- the epochs that records of a device may have by its own bytes: up to its journal's, where it has one
abbrev pub epoch_bound : DevicePart → ℕ
epoch_bound d = unwrap_or (option_map (λ (j : Journal). j.epoch) d.journal) last_epoch

abbrev pub replayed_in : ℕ → DevicePart → NamedSpace → List ℕ → Option Replayed
replayed_in place d n image = space_in d.site (8 * n.ordinal + place) (epoch_bound d) n.pages (bytes_of n.extents image)

abbrev pub space_tests : ℕ → DevicePart → List ℕ → NamedSpace → List Bool
space_tests place d image n = page_tests n.pages (raw_space (first_page (bytes_of n.extents image))) ++ is_some (replayed_in place d n image) ∷ []

-- The reading of one device

-- all tests of an image of the device with this number
abbrev pub all_tests : ℕ → List ℕ → List Bool
all_tests place image = let d = device_part place image in device_tests place image ++ flat_map (space_tests place d image) (present d.entries)

abbrev pub is_whole : ℕ → List ℕ → Bool
is_whole place image = hold_all (all_tests place image)

pub record Content : Type 0 where
  pub site : ℕ
  pub volume : Volume
  pub journal : Option Journal

-- a space in its place, with what its log says
abbrev pub placed_as : NamedSpace → Replayed → SpaceOnDevice
placed_as n r = record { name = n.name; pages = n.pages; extents = n.extents; logged = end_of r.payloads; space = space_of r.space }

abbrev pub content_with : DevicePart → List (Option SpaceOnDevice) → Content
content_with d entries = record { site = d.site; volume = record { clusters = d.clusters; next_space = d.next_space; entries = entries }; journal = d.journal }

abbrev pub placed_in : ℕ → DevicePart → List ℕ → Option NamedSpace → Option SpaceOnDevice
placed_in place d image named = option_and_then (λ (n : NamedSpace). option_map (placed_as n) (replayed_in place d n image)) named

abbrev pub content_of : ℕ → List ℕ → Content
content_of place image = let d = device_part place image in content_with d (map (placed_in place d image) d.entries)

pub data Reading : Type 0 where
  Blank : Reading
  Holds : Content → Reading
  Damaged : Reading

-- the reading of one device from its own bytes
abbrev pub reading : ℕ → List ℕ → Reading
reading place image = if nat_lt (length image) header_bytes then Blank else (if is_whole place image then Holds (content_of place image) else Damaged)

-- Combining the readings, one for each device word

abbrev pub content_read : Reading → Option Content
content_read (Holds c) = Some c
content_read Blank = None
content_read Damaged = None

abbrev pub journal_epoch : Content → ℕ
journal_epoch c = unwrap_or (option_map (λ (j : Journal). j.epoch) c.journal) 0

abbrev pub volume_read : Reading → Option Volume
volume_read r = option_map (λ (c : Content). c.volume) (content_read r)

-- the identity of the site, which device 0 gives
abbrev pub identity_read : Reading → Option Identity
identity_read r = option_map (λ (c : Content). record { site = c.site; epoch = journal_epoch c }) (content_read r)

-- the spaces of several devices
abbrev pub spaces_read : List Reading → List SpaceOnDevice
spaces_read readings = flat_map spaces_on (present (map volume_read readings))

abbrev pub upto : ℕ → Arrival → Bool
upto epoch a = nat_le a.epoch epoch

-- the identifier and the label of an entry have epochs up to this one
abbrev pub is_upto : ℕ → Entry → Bool
is_upto epoch e = nat_le e.message.id.epoch epoch && (upto epoch e.label.root.arrival && list_all (upto epoch) e.label.path)

abbrev pub are_upto : ℕ → List SpaceOnDevice → Bool
are_upto epoch spaces = list_all (λ (p : SpaceOnDevice). list_all (λ (q : Queue). list_all (is_upto epoch) q.items) p.space.queues) spaces

-- a space has the name of none of these
abbrev pub has_new_name : List SpaceOnDevice → SpaceOnDevice → Bool
has_new_name others p = not (list_any (λ (q : SpaceOnDevice). bytes_eq q.name p.name) others)

-- A device that is created goes with device 0, whose content is `own`, and with the lower devices: it is of the same site, its
-- spaces have names of their own, and its messages are of no later epoch than the site's.
abbrev pub goes_with : Option Content → List Reading → Content → Bool
goes_with None lower c = false
goes_with (Some own) lower c = c.site == own.site && (list_all (has_new_name (spaces_read lower)) (spaces_on c.volume) && are_upto (journal_epoch own) (spaces_on c.volume))

abbrev pub is_sound : Option Content → List Reading → Reading → Bool
is_sound own lower Damaged = false
is_sound own lower Blank = true
is_sound own lower (Holds c) = goes_with own lower c

-- the device with this number is damaged, of devices with these readings
abbrev pub is_damaged : List Reading → ℕ → Bool
is_damaged readings device = not (is_sound (content_read (get_or readings 0 Blank)) (take device readings) (get_or readings device Blank))

-- the durable site that readings give
abbrev pub site_read : List Reading → Site
site_read readings = record { identity = identity_read (get_or readings 0 Blank); next = 0; clock = 0; devices = map volume_read readings }

-- what readings give together: a site, or the number of the first device that is damaged
pub data Combined : Type 0 where
  Stands : Site → Combined
  FirstDamaged : ℕ → Combined

abbrev pub combined_by : List Reading → Option ℕ → Combined
combined_by readings None = Stands (site_read readings)
combined_by readings (Some device) = FirstDamaged device

abbrev pub combined : List Reading → Combined
combined readings = combined_by readings (find (is_damaged readings) (below (length readings)))

abbrev pub site_in : Combined → Option Site
site_in (Stands s) = Some s
site_in (FirstDamaged device) = None

-- the durable site for which images, one per device, stand
abbrev pub site_found : ℕ → (ℕ → List ℕ) → Option Site
site_found devices images = site_in (combined (map (λ d. reading d (images d)) (below devices)))
