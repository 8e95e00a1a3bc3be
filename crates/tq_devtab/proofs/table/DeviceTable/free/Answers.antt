use Rattle.std.proofs.Common.{◌∙◌, ◌+◌, List, Option, sym, ap, arith}
use Rattle.std.specs.List.{list_all}
use Rattle.std.proofs.lemmas.List.{drop_all}
use Rattle.tq_devtab.specs.InMemory.{part_of}
use Rattle.tq_devtab.specs.Table.{entries_view}
use Rattle.tq_devtab.specs.TableParts.{spaces_of}
use Rattle.tq_devtab.specs.Volume.{free_of, most_bytes}
use Rattle.tq_devtab.specs.declared.entry.TableEntry.{TableEntry}
use Rattle.tq_devtab.proofs.FreeLemmas.{has_its_clusters, all_have_clusters, next_taken}
use Rattle.tq_devtab.proofs.OwnerLemmas.{free_count, taken_by}
use Rattle.tq_devtab.proofs.SpaceLemmas.{next-none}
use Rattle.tq_devtab.proofs.table.DeviceTable.free.Goals as goal

pub loop-entry-init : goal.loop-entry-init
loop-entry-init c =
    let t = c.args.self.now in
    let count = free_count t.next most_bytes (part_of t) (omega arith) t.table in
    let taken = ap (λ (l : List (Option TableEntry)). taken_by (spaces_of l)) c.as_slice-entries.ensures.value in
    record {
      free = omega (arith, taken, count.1);
      counted = ap (λ (l : List (Option TableEntry)). list_all has_its_clusters (spaces_of l)) c.as_slice-entries.ensures.value
          ∙ all_have_clusters t.next t.clusters most_bytes (entries_view t.entries.items) t.table;
    }

pub loop-entry-preserved-in_default : goal.loop-entry-preserved-in_default
loop-entry-preserved-in_default c =
    let own = c.loop-entry.invariant in
    let next = next-none c.as_slice-entries.result.now c.loop-entry.entry-index c.entry-item.result c.loop-entry-test.true c.entry-item.is c.in_default.is in
    record {
      free = own.free ∙ ap (λ (l : List (Option TableEntry)). taken_by (spaces_of l) + free_of (part_of c.args.self.now)) next;
      counted = sym (ap (λ (l : List (Option TableEntry)). list_all has_its_clusters (spaces_of l)) next) ∙ own.counted;
    }

pub overflow_sub-free-in-loop-entry : goal.overflow_sub-free-in-loop-entry
overflow_sub-free-in-loop-entry c =
    let own = c.loop-entry.invariant in
    let next = next_taken c.as_slice-entries.result.now c.loop-entry.entry-index c.entry-item.result c.in-Some.space c.loop-entry-test.true c.entry-item.is
    c.in-Some.is own.counted in
    omega (arith, own.free, next.0, c.clusters_for.ensures)

pub loop-entry-preserved : goal.loop-entry-preserved
loop-entry-preserved c =
    let own = c.loop-entry.invariant in
    let next = next_taken c.as_slice-entries.result.now c.loop-entry.entry-index c.entry-item.result c.in-Some.space c.loop-entry-test.true c.entry-item.is
    c.in-Some.is own.counted in
    record { free = omega (arith, own.free, next.0, c.clusters_for.ensures); counted = next.1 }

pub returns : goal.returns
returns c =
    let past = drop_all c.loop-entry.entry-index c.as_slice-entries.result.now c.loop-entry-test.false in
    let none = ap (λ (l : List (Option TableEntry)). taken_by (spaces_of l)) past in
    let own = c.loop-entry.invariant in
    omega (arith, own.free, none)
