use Rattle.std.proofs.Common.{◌≡◌, ◌+◌, ◌*◌, ◌<◌, ◌≤◌, ℕ, false, None, get_or, map, take}
use Rattle.tq_model.specs.DeviceForm.{raw_entries, extents_start, table_bytes}
use Rattle.tq_devtab.specs.Table.{entries_view, raw_of}
use Rattle.tq_devtab.specs.Spelling.{extent_total, names_byte}
use Rattle.tq_devtab.proofs.encoding.set_entries.Given as goal

abbrev pub invariant-loop-i : goal.invariant-loop-i
invariant-loop-i l = record {
  spelt : raw_entries l.i 32 extents_start l.base ≡ map raw_of (take l.i (entries_view l.entries));
  place : l.extents ≡ extents_start + 4 * extent_total (map raw_of (take l.i (entries_view l.entries)));
  zero : (k : ℕ) → 32 + 160 * l.i ≤ k → k < extents_start → get_or l.base k 0 ≡ 0;
  between : (i at : ℕ) → i < l.i → at < 160 → names_byte (get_or (entries_view l.entries) i None) at ≡ false → get_or l.base (32 + 160 * i + at) 0 ≡ 0;
  behind : (k : ℕ) → l.extents ≤ k → k < table_bytes → get_or l.base k 0 ≡ 0;
  before : (k : ℕ) → k < 32 → get_or l.base k 0 ≡ get_or l.fn.base k 0;
}
