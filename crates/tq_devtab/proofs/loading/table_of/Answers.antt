use Rattle.std.proofs.Common.{arith}
use Rattle.tq_devtab.specs.Table.{entries_view}
use Rattle.tq_devtab.specs.Volume.{most_bytes}
use Rattle.tq_devtab.proofs.TableLemmas.{table_reached}
use Rattle.tq_devtab.proofs.loading.table_of.Goals as goal

pub invariant_of-result : goal.invariant_of-result
invariant_of-result c =
    let h = c.args.header in
    let table = rw c.in-Some.is at c.in_ok-decoded.ensures.table in
    let most = h.most in
    record {
      number = h.number;
      layout = c.requires.layout;
      room = c.requires.base;
      some = h.some;
      least = h.least;
      most = h.most;
      table = table_reached c.in-Some.decoded.next h.clusters c.args.size most_bytes (entries_view c.in-Some.decoded.entries.items) (omega arith) table;
    }
