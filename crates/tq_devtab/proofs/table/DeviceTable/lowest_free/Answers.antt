use Rattle.std.proofs.Common.{◌≡◌, ◌∙◌, List, Option, Bool, true, false, length, sym, ap, arith}
use Rattle.tq_extent.specs.Clusters.{free_in}
use Rattle.tq_devtab.specs.Errors.{error_of_take}
use Rattle.tq_devtab.specs.InMemory.{part_of}
use Rattle.tq_devtab.specs.Table.{entries_view, owned_by}
use Rattle.tq_devtab.specs.TableParts.{go_together}
use Rattle.tq_devtab.specs.Volume.{most_bytes}
use Rattle.tq_devtab.specs.declared.entry.TableEntry.{TableEntry}
use Rattle.tq_devtab.specs.declared.error.ReserveError.TheVariants as errors
use Rattle.tq_devtab.proofs.OwnerLemmas.{free_count}
use Rattle.tq_devtab.proofs.ReserveLemmas.{table_together, cause_memory, given_err}
use Rattle.tq_devtab.proofs.table.DeviceTable.lowest_free.Goals as goal

pub unreachable-requires : goal.unreachable-requires
unreachable-requires c =
    let t = c.args.self.now in
    let together = table_together t.next t.clusters most_bytes t.entries.items (omega arith) t.table in
    let holds = ap (go_together t.clusters) c.as_slice-entries.ensures.value ∙ together in
    let broken : go_together t.clusters c.as_slice-entries.result.now ≡ false = rw c.in_default.is at c.in_ok-owned.ensures.broken in
    let no : true ≡ false = sym holds ∙ broken in
    absurd (cc)

pub returns-in_err-take-clause-cause : goal.returns-in_err-take-clause-cause
returns-in_err-take-clause-cause c =
    let t = c.args.self.now in
    let owned : c.in-Some.owned ≡ owned_by t.clusters (entries_view c.as_slice-entries.result.now) = rw c.in-Some.is at c.in_ok-owned.ensures.owned in
    let free = free_count t.next most_bytes (part_of t) (omega arith) t.table in
    let same = owned ∙ ap (λ (l : List (Option TableEntry)). owned_by t.clusters (entries_view l)) c.as_slice-entries.ensures.value in
    let all = ap (λ (l : List Bool). length (free_in l)) same ∙ free.0 in
    let e = c.in_err-take.field-0.0 in
    given_err c.from_residual-in_err-take.result (error_of_take e) (λ x. x ≡ errors.NoMemory) c.from_residual-in_err-take.ensures.1
    (cause_memory c.args.count (length (free_in c.in-Some.owned)) e (omega (arith, all, c.requires.enough)) c.in_err-take.ensures.cause)
