-- What a device says outside the site journal and the pages of its spaces: its header, and the table of its spaces.
use Rattle.std.specs.Prelude.{◌≡◌, ℕ, ◌+◌, ◌*◌, ◌≤◌, ◌==◌, not, nat_le, Bool, true, if◌then◌else◌, List, [], ◌∷◌, ◌++◌, length, map, codes, Option, Some, None}
use Rattle.std.specs.List.{find, flat_map, list_all}
use Rattle.std.specs.Str.{bytes_eq}
use Rattle.tq_model.specs.declared.answer.Extent.{Extent}
use Rattle.tq_model.specs.Names.{is_name}
use Rattle.tq_model.specs.Site.{present, table_entries, most_pages, clusters_for}
use Rattle.tq_model.specs.DeviceForm.{RawEntry, RawTable, raw_table, table_bytes, cluster_bytes}
use Rattle.tq_model.specs.Reading.{NamedSpace, named_in, table_tests, entries_tests, used_entries, hold_all}
use Rattle.tq_extent.specs.Clusters.{clusters_of, new_clusters, with_mark, can_claim}
use Rattle.tq_devtab.specs.declared.entry.TableEntry.{TableEntry}

-- The table

-- a space as the table names it
abbrev pub entry_view : TableEntry → NamedSpace
entry_view e = record { name = e.name; ordinal = e.ordinal; pages = e.pages; extents = e.extents }

abbrev pub entries_view : List (Option TableEntry) → List (Option NamedSpace)
entries_view entries = map (option_view) entries
  where
    option_view : Option TableEntry → Option NamedSpace
    option_view None = None
    option_view (Some e) = Some (entry_view e)

-- the extents of all entries, in their order
abbrev pub extents_of : List (Option NamedSpace) → List Extent
extents_of entries = flat_map (λ (n : NamedSpace). n.extents) (present entries)

-- all tests of a table with this base, on a device of so many clusters and bytes
abbrev pub base_tests : ℕ → ℕ → List ℕ → List Bool
base_tests clusters size base = let t = raw_table 0 base in table_tests t ++ entries_tests t.next clusters size (used_entries t)

-- what the base of a table says
pub record IsBase (next : ℕ) (entries : List (Option NamedSpace)) (base : List ℕ) : Type 0 where
  pub size : length base ≡ table_bytes
  pub next_is : (raw_table 0 base).next ≡ next
  pub entries_are : map named_in (raw_table 0 base).entries ≡ entries

-- the clusters that have an owner, the entries being these
abbrev pub owned_by : ℕ → List (Option NamedSpace) → List Bool
owned_by clusters entries = with_mark true (clusters_of (extents_of entries)) (new_clusters clusters)

-- The entries of a table, spelt

-- an entry as it is spelt; of an unused one all is zero
abbrev pub raw_of : Option NamedSpace → RawEntry
raw_of None = record { used = 0; name = []; ordinal = 0; pages = 0; extents = [] }
raw_of (Some n) = record { used = 1; name = n.name; ordinal = n.ordinal; pages = n.pages; extents = n.extents }

abbrev pub table_of : ℕ → List (Option NamedSpace) → RawTable
table_of next entries = record { mark = codes "TQTB"; next = next; entries = map raw_of entries }

-- Entries of a table of a device with so many clusters and bytes: all tests of a table hold of them.
pub record IsTable (next clusters size : ℕ) (entries : List (Option NamedSpace)) : Type 0 where
  pub count : length entries ≡ table_entries
  pub table : hold_all (table_tests (table_of next entries)) ≡ true
  pub each : hold_all (entries_tests next clusters size (used_entries (table_of next entries))) ≡ true

-- A change of a table

-- the entries with one space more, in the lowest that is not used
abbrev pub with_entry : NamedSpace → List (Option NamedSpace) → List (Option NamedSpace)
with_entry n [] = []
with_entry n (None ∷ entries) = Some n ∷ entries
with_entry n (Some m ∷ entries) = Some m ∷ with_entry n entries

-- the space of an ordinal
abbrev pub entry_of : ℕ → List (Option NamedSpace) → Option NamedSpace
entry_of ordinal entries = find (λ (n : NamedSpace). n.ordinal == ordinal) (present entries)

-- the entries where that of an ordinal is changed
abbrev pub changed_entry : ℕ → (NamedSpace → Option NamedSpace) → List (Option NamedSpace) → List (Option NamedSpace)
changed_entry ordinal change [] = []
changed_entry ordinal change (None ∷ entries) = None ∷ changed_entry ordinal change entries
changed_entry ordinal change (Some n ∷ entries) = if n.ordinal == ordinal then change n ∷ entries else Some n ∷ changed_entry ordinal change entries

abbrev pub without_entry : ℕ → List (Option NamedSpace) → List (Option NamedSpace)
without_entry ordinal entries = changed_entry ordinal (λ n. None) entries

-- a device of so many bytes reaches to the end of these extents
abbrev pub AreReached : ℕ → List Extent → Type 0
AreReached size extents = list_all (λ (e : Extent). nat_le (cluster_bytes * (e.first + e.count)) size) extents ≡ true

abbrev pub no_extent : Extent
no_extent = record { first = 0; count = 0 }

-- two extents of which the one ends where the other begins
abbrev pub as_one : Extent → Extent → Extent
as_one e x = record { first = e.first; count = e.count + x.count }

-- extents with further ones behind them; where the last and the first further one are adjacent, the two are one
abbrev pub joined_extents : List Extent → List Extent → List Extent
joined_extents [] more = more
joined_extents (e ∷ []) [] = e ∷ []
joined_extents (e ∷ []) (x ∷ more) = if e.first + e.count == x.first then record { first = e.first; count = e.count + x.count } ∷ more else e ∷ x ∷ more
joined_extents (e ∷ d ∷ extents) more = e ∷ joined_extents (d ∷ extents) more

-- a space with so many pages, and further extents
abbrev pub longer_space : ℕ → List Extent → NamedSpace → NamedSpace
longer_space pages more n = record n { pages = pages; extents = joined_extents n.extents more }

abbrev pub with_longer : ℕ → ℕ → List Extent → List (Option NamedSpace) → List (Option NamedSpace)
with_longer ordinal pages more entries = changed_entry ordinal (λ n. Some (longer_space pages more n)) entries

-- extents of so many clusters that are free beside these entries, on a device of so many bytes
pub record AreFree (clusters size need : ℕ) (entries : List (Option NamedSpace)) (extents : List Extent) : Type 0 where
  pub some : list_all (λ (e : Extent). nat_le 1 e.count) extents ≡ true
  pub free : can_claim (clusters_of extents) (owned_by clusters entries) ≡ true
  pub count : length (clusters_of extents) ≡ need
  pub reached : list_all (λ (e : Extent). nat_le (cluster_bytes * (e.first + e.count)) size) extents ≡ true

-- a space that these entries may have beside theirs
pub record IsNewSpace (next clusters size : ℕ) (entries : List (Option NamedSpace)) (n : NamedSpace) : Type 0 where
  pub name : is_name n.name ≡ true
  pub alone : list_all (λ (m : NamedSpace). not (bytes_eq n.name m.name)) (present entries) ≡ true
  pub ordinal : n.ordinal ≡ next
  pub least : 1 ≤ n.pages
  pub most : n.pages ≤ most_pages
  pub extents : AreFree clusters size (clusters_for n.pages) entries n.extents
