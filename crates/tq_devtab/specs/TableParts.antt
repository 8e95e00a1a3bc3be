-- Parts of the tests of a table, as they are judged one after another.
use Rattle.std.specs.Prelude.{ℕ, ◌+◌, ◌*◌, ◌==◌, ◌&&◌, ◌||◌, nat_le, nat_lt, Bool, List, Option, length, codes}
use Rattle.std.specs.List.{list_all, sum_by}
use Rattle.std.specs.Str.{bytes_eq}
use Rattle.tq_model.specs.declared.answer.Extent.{Extent}
use Rattle.tq_model.specs.Site.{present, last_space, most_pages, clusters_for}
use Rattle.tq_model.specs.DeviceForm.{RawEntry, RawTable, extents_start, table_bytes}
use Rattle.tq_model.specs.Reading.{NamedSpace, is_extent, entry_tests, hold_all, no_two}
use Rattle.tq_extent.specs.Clusters.{clusters_of, new_clusters, can_claim}
use Rattle.tq_devtab.specs.Table.{entries_view, extents_of}
use Rattle.tq_devtab.specs.declared.entry.TableEntry.{TableEntry}

-- the mark and the next ordinal
abbrev pub is_headed : RawTable → Bool
is_headed t = bytes_eq t.mark (codes "TQTB") && (nat_le 1 t.next && nat_le t.next last_space)

-- each entry is used or not, and the extents of all end within the base
abbrev pub is_counted : RawTable → Bool
is_counted t =
    list_all (λ (e : RawEntry). nat_le e.used 1) t.entries
    && nat_le (extents_start + 4 * sum_by (λ (e : RawEntry). length e.extents) t.entries) table_bytes

-- the ordinal and the pages of a space
abbrev pub is_numbered : ℕ → ℕ → ℕ → Bool
is_numbered next ordinal pages = (nat_le 1 ordinal && nat_lt ordinal next) && (nat_le 1 pages && nat_le pages most_pages)

-- the clusters of a space of so many pages, on a device of so many clusters and bytes
abbrev pub has_clusters : ℕ → ℕ → ℕ → List Extent → Bool
has_clusters clusters size pages extents = list_all (is_extent clusters size) extents && sum_by (λ (e : Extent). e.count) extents == clusters_for pages

-- an entry by itself
abbrev pub entry_holds : ℕ → ℕ → ℕ → RawEntry → Bool
entry_holds next clusters size e = hold_all (entry_tests next clusters size e)

-- each of these entries by itself
abbrev pub each_holds : ℕ → ℕ → ℕ → List RawEntry → Bool
each_holds next clusters size entries = list_all (entry_holds next clusters size) entries

-- two spaces that have one name or one ordinal
abbrev pub are_alike : NamedSpace → NamedSpace → Bool
are_alike a b = bytes_eq a.name b.name || a.ordinal == b.ordinal

-- the spaces of a table, in the order of its entries
abbrev pub spaces_of : List (Option TableEntry) → List NamedSpace
spaces_of entries = present (entries_view entries)

-- no two of these spaces are alike, and each has its clusters for itself
abbrev pub go_together : ℕ → List (Option TableEntry) → Bool
go_together clusters entries = no_two are_alike (spaces_of entries) && can_claim (clusters_of (extents_of (entries_view entries))) (new_clusters clusters)
