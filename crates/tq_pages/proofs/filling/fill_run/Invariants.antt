use Rattle.std.proofs.Common.{◌≡◌, ◌<◌, ◌*◌, ℕ, length}
use Rattle.tq_field.specs.Places.{run_at}
use Rattle.tq_host.specs.Calls.{HasBytesAt}
use Rattle.tq_pages.specs.Content.{payload_bytes, page_form, run_number}
use Rattle.tq_pages.proofs.filling.fill_run.Given as goal

abbrev pub invariant-loop-k : goal.invariant-loop-k
invariant-loop-k l = record {
  size : length l.pages ≡ length l.fn.pages;
  done : (j : ℕ) → j < l.k → HasBytesAt (1024 * j) (page_form (run_number l.first l.behind l.count j) (run_at (payload_bytes * j) payload_bytes l.bytes)) l.pages;
}
