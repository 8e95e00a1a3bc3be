use Rattle.std.proofs.Common.{◌≡◌, ◌<◌, ◌≤◌, ◌*◌, ◌-◌, ℕ, length}
use Rattle.tq_field.specs.Places.{run_at}
use Rattle.tq_host.specs.Calls.{HasBytesAt}
use Rattle.tq_host.specs.Within.{Within, KeepsRest}
use Rattle.tq_extent.specs.Bytes.{owned_bytes, OnBytes, IsAny, AllReach}
use Rattle.tq_pages.specs.Store.{page_behind}
use Rattle.tq_pages.specs.Content.{payload_bytes, page_form, number_behind, IsSameButPages}
use Rattle.tq_pages.proofs.writing.write_chain.Given as goal

abbrev pub invariant-loop-done : goal.invariant-loop-done
invariant-loop-done g l =
    let start = g.H.Host.view l.fn.host in
    let now = g.H.Host.view l.host in
    let told = g.H.Host.tells.reads in
    record {
      range : l.done ≤ l.all;
      room : length l.buffer ≡ 66560;
      page : l.page ≡ page_behind l.next l.first l.done;
      written : told → (j : ℕ) → j < l.done
          → HasBytesAt (1024 * page_behind l.next l.first j) (page_form (number_behind l.next l.first l.all j) (run_at (payload_bytes * j) payload_bytes l.bytes)) (owned_bytes l.map (now.reads l.dev));
      beside : told → OnBytes l.map (IsSameButPages l.next l.first l.all) (start.reads l.dev) (now.reads l.dev);
      stop : AllReach l.dev l.map start → Within l.dev (OnBytes l.map (IsSameButPages l.next l.first l.all)) IsAny start now;
      rest : KeepsRest l.dev start now;
      faults : now.faults ≡ start.faults;
    }

abbrev pub decreases-loop-done : goal.decreases-loop-done
decreases-loop-done g l = l.all - l.done
