use Rattle.std.proofs.Common.{◌≡◌, ◌<◌, ℕ, length, get_or, None}
use Rattle.tq_extent.specs.Bytes.{IsQuiet}
use Rattle.tq_devtab.specs.InMemory.{part_of}
use Rattle.tq_coord.specs.Manager.{IsFileAt}
use Rattle.tq_coord.specs.Together.{IsFileOf}
use Rattle.tq_coord.proofs.booting.load_files.Given as goal

abbrev pub invariant-loop-index : goal.invariant-loop-index
invariant-loop-index g l =
    let start = g.H.Host.view l.fn.host in
    let now = g.H.Host.view l.host in
    let t = part_of l.table in
    record {
      count : length l.files.items ≡ l.index;
      fit : (i : ℕ) → i < l.index → IsFileOf 0 t (get_or t.entries i None) (get_or l.files.items i None);
      loaded : g.H.Host.tells.reads → (i : ℕ) → i < l.index → IsFileAt t l.epoch (get_or t.entries i None) (get_or l.files.items i None) (start.reads 0);
      quiet : IsQuiet 0 start now;
      faults : now.faults ≡ start.faults;
    }
