use Rattle.std.proofs.Common.{◌≡◌, None, Result, Ok, Err, refl, subst}
use Rattle.tq_host.proofs.Causes.{cause_of_same}
use Rattle.tq_gate.specs.declared.fault.GateError.TheVariants as gate
use Rattle.tq_gate.specs.declared.layout.Layout.{Layout}
use Rattle.tq_gate.specs.declared.loading.Loaded.{Loaded}
use Rattle.tq_gate.specs.Reading.{content_on}
use Rattle.tq_store.specs.declared.fault.FileError.{FileError}
use Rattle.tq_store.specs.declared.fault.FileError.TheVariants as file
use Rattle.tq_store.specs.Faults.{of_log}
use Rattle.tq_store.proofs.ReadingLemmas.{error_is, no_error, damaged_none}
use Rattle.tq_store.proofs.reading.load_log.Goals as goal

pub returns-in_err-loaded-clause-damaged : goal.returns-in_err-loaded-clause-damaged
returns-in_err-loaded-clause-damaged g c = λ is told.
    let e = c.in_err-loaded.field-0.0 in
    let before = g.H.Host.view c.args.host.now in
    let says = error_is c.from_residual.result (of_log e) file.Damaged c.from_residual.ensures.1 is in
    subst (λ (l : Layout). content_on l (before.reads l.dev) ≡ None) c.log_layout.ensures.layout (damaged_none c.log_layout.result _ e (c.in_err-loaded.ensures.refused told) says)

pub returns-clause-cause : goal.returns-clause-cause
returns-clause-cause g c =
    let done : Result Loaded FileError = Ok c.in_ok-loaded.loaded in
    cause_of_same (c.load.result ≡ Err gate.Device) (done ≡ Err file.Device) (g.H.Host.view c.args.host.now).faults (g.H.Host.view c.load.new.host).faults
    (λ is. absurd (no_error c.load.result c.in_ok-loaded.loaded gate.Device c.in_ok-loaded.was is))
    (λ is. absurd (no_error done c.in_ok-loaded.loaded file.Device refl is))
    c.load.ensures.cause
