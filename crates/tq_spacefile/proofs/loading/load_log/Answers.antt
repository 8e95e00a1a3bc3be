use Rattle.std.proofs.Common.{◌≡◌, ℕ, List, None, Result, Ok, Err, refl, subst}
use Rattle.std.specs.Result.{IsErrAnd}
use Rattle.tq_host.proofs.Causes.{cause_of_same}
use Rattle.tq_gate.specs.declared.fault.GateError.{GateError}
use Rattle.tq_gate.specs.declared.fault.GateError.TheVariants as gate
use Rattle.tq_gate.specs.declared.layout.Layout.{Layout}
use Rattle.tq_gate.specs.declared.loading.Loaded.{Loaded}
use Rattle.tq_gate.specs.Loading.{IsRefused}
use Rattle.tq_gate.specs.Reading.{content, content_on}
use Rattle.tq_spacefile.specs.declared.fault.FileError.{FileError}
use Rattle.tq_spacefile.specs.declared.fault.FileError.TheVariants as file
use Rattle.tq_spacefile.specs.Loading.{unread_log}
use Rattle.tq_spacefile.proofs.Loads.{error_is, no_error}
use Rattle.tq_spacefile.proofs.loading.load_log.Goals as goal

-- damage alone is read as damage
damaged_none : (layout : Layout) (bytes : List ℕ) (e : GateError) → IsRefused layout bytes e → file.Damaged ≡ unread_log e → content layout bytes ≡ None
damaged_none layout bytes (gate.Damaged at) refused is = refused.none
damaged_none layout bytes gate.Device refused is = let no : file.Damaged ≡ file.Device = is in absurd (cc)
damaged_none layout bytes gate.NoMemory refused is = let no : file.Damaged ≡ file.NoMemory = is in absurd (cc)

-- and a fault of the device alone as one
device_alone : (e : GateError) → file.Device ≡ unread_log e → e ≡ gate.Device
device_alone (gate.Damaged at) is = let no : file.Device ≡ file.Damaged = is in absurd (cc)
device_alone gate.Device is = refl
device_alone gate.NoMemory is = let no : file.Device ≡ file.NoMemory = is in absurd (cc)

device_on : {T : Type 0} (e : GateError) (s : Result T FileError) → e ≡ gate.Device → IsErrAnd s (λ x. x ≡ unread_log e) → s ≡ Err file.Device
device_on gate.Device (Err x) same has = let own : x ≡ file.Device = has in cc
device_on gate.Device (Ok v) same has = absurd has
device_on (gate.Damaged at) s same has = absurd (cc)
device_on gate.NoMemory s same has = absurd (cc)

same_of : {T : Type 0} (r : Result T GateError) (e x : GateError) → r ≡ Err e → r ≡ Err x → e ≡ x
same_of r e x was is = cc

pub returns-in_err-loaded-clause-damaged : goal.returns-in_err-loaded-clause-damaged
returns-in_err-loaded-clause-damaged g c = λ is told.
    let e = c.in_err-loaded.field-0.0 in
    let before = g.H.Host.view c.args.host.now in
    let says = error_is c.from_residual.result (unread_log e) file.Damaged c.from_residual.ensures.1 is in
    subst (λ (l : Layout). content_on l (before.reads l.dev) ≡ None) c.log_layout.ensures.layout (damaged_none c.log_layout.result _ e (c.in_err-loaded.ensures.refused told) says)

pub returns-in_err-loaded-clause-cause : goal.returns-in_err-loaded-clause-cause
returns-in_err-loaded-clause-cause g c =
    let e = c.in_err-loaded.field-0.0 in
    cause_of_same (c.load.result ≡ Err gate.Device) (c.from_residual.result ≡ Err file.Device) (g.H.Host.view c.args.host.now).faults (g.H.Host.view c.load.new.host).faults
    (λ is. device_on e c.from_residual.result (same_of c.load.result e gate.Device c.in_err-loaded.was is) c.from_residual.ensures.1)
    (λ is. let own : e ≡ gate.Device = device_alone e (error_is c.from_residual.result (unread_log e) file.Device c.from_residual.ensures.1 is) in let was = c.in_err-loaded.was in cc)
    c.load.ensures.cause

pub returns-clause-cause : goal.returns-clause-cause
returns-clause-cause g c =
    let done : Result Loaded FileError = Ok c.in_ok-loaded.loaded in
    cause_of_same (c.load.result ≡ Err gate.Device) (done ≡ Err file.Device) (g.H.Host.view c.args.host.now).faults (g.H.Host.view c.load.new.host).faults
    (λ is. absurd (no_error c.load.result c.in_ok-loaded.loaded gate.Device c.in_ok-loaded.was is))
    (λ is. absurd (no_error done c.in_ok-loaded.loaded file.Device refl is))
    c.load.ensures.cause
