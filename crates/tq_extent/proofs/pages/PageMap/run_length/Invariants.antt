use Rattle.std.proofs.Common.{◌-◌, ◌≡◌, ◌+◌, ◌≤◌, ℕ, ◌*◌, ◌/◌, get_or}
use Rattle.tq_model.specs.DeviceForm.{cluster_bytes}
use Rattle.tq_extent.proofs.pages.PageMap.run_length.Given as goal

abbrev pub invariant-loop-count : goal.invariant-loop-count
invariant-loop-count l =
    let first = l.at / cluster_bytes in
    record {
      from : first ≤ l.cluster;
      end : cluster_bytes * (l.cluster + 1) ≡ l.at + l.count;
      some : 1 ≤ l.count;
      run : (k : ℕ) → first + k ≤ l.cluster → get_or l.self (first + k) 0 ≡ get_or l.self first 0 + k;
    }

abbrev pub decreases-loop-count : goal.decreases-loop-count
decreases-loop-count l = l.most - l.count
