use Rattle.std.proofs.Common.{◌≡◌, ℕ, List, Option, Result, Ok, Err, refl, sym, ◌∙◌, ap, subst, arith}
use Rattle.std.specs.Prelude.{IsErr, IsErrAnd}
use Rattle.tq_gate.specs.declared.layout.Layout.{Layout}
use Rattle.tq_gate.specs.Layout.{IsLaidOut}
use Rattle.tq_model.specs.Reading.{NamedSpace}
use Rattle.tq_devtab.specs.declared.error.CreationError.{CreationError}
use Rattle.tq_devtab.specs.declared.error.CreationError.TheVariants as error
use Rattle.tq_devtab.specs.InMemory.{IsTableOf}
use Rattle.tq_devtab.specs.Table.{IsTable, entries_view}
use Rattle.tq_devtab.specs.Volume.{TablePart, most_bytes, new_table, table_layout}
use Rattle.tq_devtab.proofs.NewTableLemmas.{new_is_table, table_laid_out, table_made}
use Rattle.tq_devtab.proofs.PictureLemmas.{settled_has}
use Rattle.tq_devtab.proofs.table.DeviceTable.create.Goals as goal

err_is : {T : Type 0} (r : Result T CreationError) (e : CreationError) → IsErr r → IsErrAnd r (λ x. x ≡ e) → r ≡ Err e
err_is (Ok t) e err is = absurd (cc)
err_is (Err x) e err is = ap (λ y. Err y) is

no_error : {T E : Type 0} (t : T) (e : E) → ◌≡◌ {A = Result T E} (Ok t) (Err e) → ⊥
no_error t e is = absurd (cc)

part_is : (site clusters : ℕ) (entries : List (Option NamedSpace)) → entries ≡ (new_table site clusters).entries
    → ◌≡◌ {A = TablePart} (record { site = site; clusters = clusters; next_space = 1; entries = entries }) (new_table site clusters)
part_is site clusters entries are = ap (λ (l : List (Option NamedSpace)). record { site = site; clusters = clusters; next_space = 1; entries = l }) are

pub returns-in_err-create-clause-cause : goal.returns-in_err-create-clause-cause
returns-in_err-create-clause-cause g c = record {
  later = c.create.ensures.cause.later;
  rose = λ failed. c.in_err-create.ensures.cause.failed;
  only = λ risen. err_is c.from_residual-in_err-create.result error.Device c.from_residual-in_err-create.ensures.0 c.from_residual-in_err-create.ensures.1;
}

pub empty-requires : goal.empty-requires
empty-requires g c = record { laid_out = subst (λ (l : Layout). IsLaidOut l) (sym c.table_layout.ensures) (table_laid_out c.args.dev c.requires.dev) }

pub invariant_of-result-clause-layout : goal.invariant_of-result-clause-layout
invariant_of-result-clause-layout g c =
    let there = c.empty.ensures.layout ∙ c.table_layout.ensures in
    there ∙ ap table_layout (sym (ap (λ (l : Layout). l.dev) there))

pub invariant_of-result-clause-table : goal.invariant_of-result-clause-table
invariant_of-result-clause-table g c =
    subst (λ (l : List (Option NamedSpace)). IsTable 1 c.args.clusters most_bytes l) (sym c.in_ok-entries.ensures) (new_is_table c.args.clusters)

pub returns-clause-table : goal.returns-clause-table
returns-clause-table g c = λ told.
    let made = part_is c.args.site c.args.clusters (entries_view c.in_ok-entries.entries.items) c.in_ok-entries.ensures in
    table_made c.table_layout.result c.empty.result c.args.dev c.args.site c.args.clusters c.table_layout.ensures c.empty.ensures.on _ _ refl refl made
    (c.in_ok-create.ensures.done told) (c.in_ok-create.ensures.first told)

pub returns-clause-images : goal.returns-clause-images
returns-clause-images g c = λ image may.
    let there = ap (λ (l : Layout). l.dev) (c.empty.ensures.layout ∙ c.table_layout.ensures) in
    settled_has (IsTableOf _) c.args.dev (g.H.Host.view c.create.new.host) (g.met.H.Host.lawful c.create.new.host) c.in_ok-create.ensures.settled
    (returns-clause-table g c) image
    (subst (λ d. (g.H.Host.view c.create.new.host).may_leave d image) there may)

pub returns-clause-cause : goal.returns-clause-cause
returns-clause-cause g c = record {
  later = c.create.ensures.cause.later;
  rose = λ failed. absurd (no_error _ error.Device failed);
  only = λ risen. absurd (omega (arith, risen, c.in_ok-create.ensures.cause.ok));
}
