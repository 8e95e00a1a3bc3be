use Rattle.std.proofs.Common.{◌≡◌, Option, Err, sym, ◌∙◌, subst, rules}
use Rattle.std.specs.Prelude.{IfSome}
use Rattle.tq_devtab.specs.declared.table.DeviceTable.{DeviceTable}
use Rattle.tq_devtab.specs.InMemory.{IsTableOf}
use Rattle.tq_coord.specs.declared.failure.BootFailure.TheVariants as boots
use Rattle.tq_coord.specs.Manager.{IsLoaded}
use Rattle.tq_coord.proofs.ImageLemmas.{same_found}
use Rattle.tq_coord.proofs.booting.find.Goals as goal

pub load_disk-requires-clause-holds : goal.load_disk-requires-clause-holds
load_disk-requires-clause-holds g c = λ told.
    let read = (g.H.Host.view c.args.host.now).reads 0 in
    let is = subst (λ (o : Option DeviceTable). IfSome o (λ t. g.H.Host.tells.reads → IsTableOf t read)) c.in-Some.is c.in_ok-look.ensures.table in
    subst (IsTableOf c.in-Some.table) (sym (c.look.ensures.quiet.still.reads 0)) (is told)

pub returns-in_err-load_disk-in-Some-clause-damaged : goal.returns-in_err-load_disk-in-Some-clause-damaged
returns-in_err-load_disk-in-Some-clause-damaged g c = λ e told.
    let start = (g.H.Host.view c.args.host.now).reads in
    let mid = (g.H.Host.view c.look.new.host).reads in
    let failed : c.load_disk.result ≡ Err boots.Damaged = search rules in
    same_found start mid (sym (c.look.ensures.quiet.still.reads 0)) ∙ c.load_disk.ensures.damaged failed told

pub returns-in_ok-load_disk-in-Some-clause-loaded : goal.returns-in_ok-load_disk-in-Some-clause-loaded
returns-in_ok-load_disk-in-Some-clause-loaded g c = λ told.
    subst (IsLoaded c.in_ok-load_disk-in-Some.field-0) (c.look.ensures.quiet.still.reads 0) (c.in_ok-load_disk-in-Some.ensures.loaded told)
