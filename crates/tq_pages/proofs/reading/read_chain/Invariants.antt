use Rattle.std.proofs.Common.{◌≡◌, ◌<◌, ◌*◌, ℕ, length, get_or}
use Rattle.tq_extent.specs.Bytes.{owned_bytes, IsQuiet}
use Rattle.tq_pages.specs.Store.{page_behind}
use Rattle.tq_pages.specs.Content.{payload_place}
use Rattle.tq_pages.proofs.reading.read_chain.Given as goal

abbrev pub invariant-loop-k : goal.invariant-loop-k
invariant-loop-k g l =
    let start = g.H.Host.view l.fn.host in
    let now = g.H.Host.view l.host in
    record {
      size : length l.into ≡ length l.fn.into;
      page : l.page ≡ page_behind l.next l.first l.k;
      bytes : g.H.Host.tells.reads → (i : ℕ) → i < 1016 * l.k → i < length l.fn.into
          → get_or l.into i 0 ≡ get_or (owned_bytes l.map (start.reads l.dev)) (payload_place l.next l.first i) 0;
      quiet : IsQuiet l.dev start now;
      faults : now.faults ≡ start.faults;
    }
