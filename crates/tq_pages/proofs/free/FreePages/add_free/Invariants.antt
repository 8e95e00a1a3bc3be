use Rattle.std.proofs.Common.{◌≡◌, ◌≤◌, ◌-◌, ◌++◌, true, false, replicate}
use Rattle.tq_pages.proofs.free.FreePages.add_free.Given as goal

abbrev pub invariant-loop-left : goal.invariant-loop-left
invariant-loop-left l = record {
  left : l.left ≤ l.pages;
  free : l.self ≡ l.fn.self ++ (replicate l.left false ++ replicate (l.pages - l.left) true);
}

abbrev pub decreases-loop-left : goal.decreases-loop-left
decreases-loop-left l = l.left
