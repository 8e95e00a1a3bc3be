use Rattle.std.proofs.Common.{inl, ◌-◌, arith}
use Rattle.tq_host.specs.Calls.{IsPulled}
use Rattle.tq_host.proofs.Within.{wider, in_a_row}
use Rattle.tq_model.specs.DeviceForm.{header_bytes}
use Rattle.tq_devtab.specs.Device.{IsBlank, IsErasing, IsAny}
use Rattle.tq_devtab.proofs.ErasingLemmas.{erasing_steps, pulled_erases}
use Rattle.tq_devtab.proofs.PictureLemmas.{settled_has, pulled_below}
use Rattle.tq_devtab.proofs.erasing.erase.Goals as goal

pub returns-in_err-resize-clause-stop : goal.returns-in_err-resize-clause-stop
returns-in_err-resize-clause-stop g c =
    wider c.args.dev (IsPulled (header_bytes - 1)) IsErasing IsAny IsAny _ _
    (λ b d may pulled any. (pulled_erases b d pulled, tt)) c.resize.ensures.stop

pub returns-clause-stop : goal.returns-clause-stop
returns-clause-stop g c =
    let dev = c.args.dev in
    let short = c.in_ok-resize.ensures in
    let first = wider dev (IsPulled (header_bytes - 1)) IsErasing IsAny IsAny _ _
    (λ b d may pulled any. (pulled_erases b d pulled, tt)) c.resize.ensures.stop in
    let blank = settled_has IsBlank dev _ (g.met.H.Host.lawful c.resize.new.host) short.settled (λ t. let is = short.done t in omega (arith, is.size)) in
    let second = wider dev (IsPulled 0) IsErasing IsAny IsAny _ _
    (λ b d may pulled any. (inl (pulled_below 0 b d (omega arith) (blank b may) pulled), tt)) c.resize-2.ensures.stop in
    in_a_row dev IsErasing erasing_steps IsAny _ _ _ first second
