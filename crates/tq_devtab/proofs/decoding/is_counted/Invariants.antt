use Rattle.std.proofs.Common.{◌≡◌, ◌≤◌, ◌+◌, ◌*◌, ◌^◌}
use Rattle.std.specs.List.{list_all, sum_by}
use Rattle.tq_model.specs.DeviceForm.{extents_start}
use Rattle.tq_devtab.proofs.TableReadLemmas.{entries_from, is_sound, count_in}
use Rattle.tq_devtab.proofs.decoding.is_counted.Given as goal

abbrev pub invariant-loop-index : goal.invariant-loop-index
invariant-loop-index l = record {
  sound : list_all is_sound (entries_from l.index l.end l.base) ≡ list_all is_sound (entries_from 0 extents_start l.base);
  counted : l.end + 4 * sum_by count_in (entries_from l.index l.end l.base) ≡ extents_start + 4 * sum_by count_in (entries_from 0 extents_start l.base);
  small : l.end ≤ extents_start + 2 ^ 34 * l.index;
}
