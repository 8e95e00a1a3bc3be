-- A device's table in memory.
use Rattle.std.specs.Prelude.{◌≡◌, ℕ, List, length}
use Rattle.tq_host.specs.View.{View}
use Rattle.tq_gate.specs.Reading.{Content}
use Rattle.tq_gate.specs.Log.{IsLog, layout_of}
use Rattle.tq_devtab.specs.declared.table.DeviceTable.{DeviceTable}
use Rattle.tq_devtab.specs.Table.{entries_view, IsTable}
use Rattle.tq_devtab.specs.Volume.{TablePart, HasTable}

abbrev pub dev_of : DeviceTable → ℕ
dev_of t = (layout_of t.log).dev

-- what it says
abbrev pub part_of : DeviceTable → TablePart
part_of t = record { site = t.site; clusters = t.clusters; next_space = t.next; entries = entries_view t.entries.items }

-- the number in its device's header
abbrev pub place_of : DeviceTable → ℕ
place_of t = t.place

-- an image has the table, and the log in memory is that of the image
pub record IsTableOf (t : DeviceTable) (image : List ℕ) : Type 0 where
  pub has : HasTable t.place (part_of t) image
  pub holds : Content
  pub log : IsLog t.log holds image

-- so has each image that a stop may leave
abbrev pub AreTableOf : DeviceTable → View → Type 0
AreTableOf t v = (image : List ℕ) → v.may_leave (dev_of t) image → IsTableOf t image

-- Within a call

-- an image has another table, of the same device, and the entries in memory may be its next ones; the log in memory is that of the image
pub record IsChangeOf (d : TablePart) (t : DeviceTable) (image : List ℕ) : Type 0 where
  pub has : HasTable t.place d image
  pub site : d.site ≡ t.site
  pub clusters : d.clusters ≡ t.clusters
  pub fits : IsTable t.next t.clusters (length image) (entries_view t.entries.items)
  pub holds : Content
  pub log : IsLog t.log holds image

-- so has each image that a stop may leave
abbrev pub AreChangeOf : TablePart → DeviceTable → View → Type 0
AreChangeOf d t v = (image : List ℕ) → v.may_leave (dev_of t) image → IsChangeOf d t image
