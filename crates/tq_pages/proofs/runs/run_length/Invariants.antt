use Rattle.std.proofs.Common.{◌≡◌, ◌<◌, ◌≤◌, ◌+◌, ◌-◌, ℕ}
use Rattle.tq_pages.specs.Store.{page_behind}
use Rattle.tq_pages.proofs.runs.run_length.Given as goal

abbrev pub invariant-loop-count : goal.invariant-loop-count
invariant-loop-count l = record {
  some : 1 ≤ l.count;
  most : l.count ≤ l.most;
  run : (k : ℕ) → k < l.count → page_behind l.next l.page k ≡ l.page + k;
}

abbrev pub decreases-loop-count : goal.decreases-loop-count
decreases-loop-count l = l.most - l.count
