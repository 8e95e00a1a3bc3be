use Rattle.std.proofs.Common.{◌≡◌, ◌≤◌, ℕ, true, drop}
use Rattle.std.specs.List.{list_all}
use Rattle.tq_devtab.proofs.FreeLemmas.{ends_by}
use Rattle.tq_devtab.proofs.extents.end_of.Given as goal

-- a device that reaches to the end so far reaches to that of all extents where it does to those that are left
abbrev pub invariant-loop-extent : goal.invariant-loop-extent
invariant-loop-extent l = record {
  reach : (size : ℕ) → l.end ≤ size → list_all (ends_by size) (drop l.extent-index l.extents) ≡ true → list_all (ends_by size) l.extents ≡ true;
  least : (size : ℕ) → list_all (ends_by size) l.extents ≡ true → l.end ≤ size;
}
