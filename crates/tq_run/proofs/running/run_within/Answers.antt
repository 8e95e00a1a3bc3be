use Rattle.std.proofs.Common.{◌≡◌, Some, List, ℕ, ◌⊎◌, ◌∙◌, subst, sym, refl, Err, Result, [], ◌∷◌, ap}
use Rattle.std.specs.Option.{option_copied}
use Rattle.tq_host.specs.Calls.{HasCauseOf}
use Rattle.tq_host.proofs.RunLemmas.{ran_start}
use Rattle.tq_model.specs.declared.request.Request.TheVariants.{Boot}
use Rattle.tq_model.specs.Grammar.{script_requests}
use Rattle.tq_run.specs.declared.status.Status.{Status}
use Rattle.tq_run.specs.declared.status.Status.TheVariants as status
use Rattle.tq_run.specs.declared.status.RunEnd.{RunEnd}
use Rattle.tq_run.specs.declared.status.RunEnd.TheVariants.{Device}
use Rattle.tq_run.specs.Counts.{RoseDevice, HasRunCounts, itself}
use Rattle.tq_run.specs.Ending.{IsComplete, status_for}
use Rattle.tq_run.specs.Turns.{IsOfLines, RunsOver, none_failed, origin_of}
use Rattle.tq_run.proofs.Line0Lemmas.{calm_none}
use Rattle.tq_run.proofs.CountLemmas.{some_is, read_cause, write_cause}
use Rattle.tq_run.proofs.LineByLineLemmas.{on_none, is_safe}
use Rattle.tq_run.proofs.StatusLemmas.{blames_first, is_damaged_at, damaged_always, complete, done, is_device}
use Rattle.tq_run.proofs.TurnLemmas.{starts_answered}
use Rattle.tq_run.specs.Output.{TellsAttached}
use Rattle.tq_run.proofs.LeftAloneLemmas.{contradicts, is_left_alone, alone_start}
use Rattle.tq_run.proofs.AttachLemmas.{attached_none}
use Rattle.tq_run.proofs.running.run_within.Goals as goal

pub returns-in-None-clause-line_0 : goal.returns-in-None-clause-line_0
returns-in-None-clause-line_0 g c = λ t added is rose.
    let v = g.H.Host.view c.args.host.now in
    contradicts _ rose (calm_none v v refl refl added is)

pub returns-in-Some-clause-damaged : goal.returns-in-Some-clause-damaged
returns-in-Some-clause-damaged g c = λ d e.
    let is = is_damaged_at c.attend.result d (sym c.status_of.ensures ∙ e) in
    record { first = is.1 ∙ sym (blames_first (g.H.Host.view c.args.host.now).reads); cause = c.attend.ensures.damaged is.0; untouched = c.attend.ensures.untouched is.0 }

pub returns-in-Some-clause-damaged_always : goal.returns-in-Some-clause-damaged_always
returns-in-Some-clause-damaged_always g c = λ usage t none calm.
    subst (λ (s : Status). (s ≡ status.Damaged 0) ⊎ (s ≡ status.NoMemory)) (sym c.status_of.ensures) (damaged_always c.attend.result (g.H.Host.view c.args.host.now) (g.H.Host.view c.attend.new.host) g.H.Host.tells.reads c.attend.ensures.bootable c.attend.ensures.counts t none calm)

pub returns-in-Some-clause-read_fault : goal.returns-in-Some-clause-read_fault
returns-in-Some-clause-read_fault g c =
    let old = g.H.Host.view c.args.host.now in
    let new = g.H.Host.view c.attend.new.host in
    subst (λ (s : Status). HasCauseOf (s ≡ status.ReadFault) old.streams.input_faults new.streams.input_faults) (sym c.status_of.ensures) (read_cause c.attend.result old new c.attend.ensures.counts)

pub returns-in-Some-clause-write_fault : goal.returns-in-Some-clause-write_fault
returns-in-Some-clause-write_fault g c =
    let old = g.H.Host.view c.args.host.now in
    let new = g.H.Host.view c.attend.new.host in
    subst (λ (s : Status). HasCauseOf (s ≡ status.WriteFault) old.streams.output_faults new.streams.output_faults) (sym c.status_of.ensures) (write_cause c.attend.result old new c.attend.ensures.counts)

pub returns-in-Some-clause-device_fault : goal.returns-in-Some-clause-device_fault
returns-in-Some-clause-device_fault g c = λ is.
    let old = g.H.Host.view c.args.host.now in
    let new = g.H.Host.view c.attend.new.host in
    let failed : c.attend.result ≡ Err Device = is_device c.attend.result (sym c.status_of.ensures ∙ is) in
    let rose : RoseDevice old new = subst (λ (r : Result (Unit {0}) RunEnd). HasRunCounts itself r old new) failed c.attend.ensures.counts in
    (rose.device.rose, c.attend.ensures.silent failed)

pub returns-in-Some-clause-line_0 : goal.returns-in-Some-clause-line_0
returns-in-Some-clause-line_0 g c = λ t added is rose.
    let ended = c.attend.ensures.line_0 t added is rose in
    (c.status_of.ensures ∙ ap status_for ended.0, ended.1)

pub returns-in-Some-clause-done : goal.returns-in-Some-clause-done
returns-in-Some-clause-done g c = λ is. done c.attend.result _ c.attend.ensures.done (sym c.status_of.ensures ∙ is)

pub returns-in-Some-clause-complete : goal.returns-in-Some-clause-complete
returns-in-Some-clause-complete g c = λ usage t can calm.
    subst IsComplete (sym c.status_of.ensures) (complete c.attend.result (g.H.Host.view c.args.host.now) (g.H.Host.view c.attend.new.host) g.H.Host.tells.reads c.attend.ensures.damaged c.attend.ensures.counts t can calm)

pub returns-in-None-clause-stop : goal.returns-in-None-clause-stop
returns-in-None-clause-stop g c = λ t settled found is raisable.
    let v = g.H.Host.view c.args.host.now in
    let start = starts_answered v found in
    let over : RunsOver (origin_of v) found none_failed (Boot ∷ script_requests v.streams.script) v v = record {
      since = none_failed;
      on = on_none (origin_of v) v none_failed;
      added = start.added;
      stamps = start.stamps;
      failures = start.failures;
      ran = ran_start (IsOfLines (origin_of v) v found none_failed (Boot ∷ script_requests v.streams.script)) v;
    } in
    is_safe (g.met.H.Host.lawful c.args.host.now) found settled is over

pub returns-in-Some-clause-stop : goal.returns-in-Some-clause-stop
returns-in-Some-clause-stop g c = λ t settled found is raisable. is_safe (g.met.H.Host.lawful c.args.host.now) found settled is (c.attend.ensures.stop t settled found is raisable)

pub returns-in-None-clause-left_alone : goal.returns-in-None-clause-left_alone
returns-in-None-clause-left_alone g c = λ t none.
    let v = g.H.Host.view c.args.host.now in
    is_left_alone v v (g.met.H.Host.lawful c.args.host.now) (alone_start v)

pub returns-in-Some-clause-left_alone : goal.returns-in-Some-clause-left_alone
returns-in-Some-clause-left_alone g c = λ t none.
    is_left_alone (g.H.Host.view c.args.host.now) (g.H.Host.view c.attend.new.host) (g.met.H.Host.lawful c.args.host.now) (c.attend.ensures.left_alone t none)

pub returns-in-Some-clause-bootable : goal.returns-in-Some-clause-bootable
returns-in-Some-clause-bootable g c = λ usage damaged device memory t.
    c.attend.ensures.bootable (λ e. damaged 0 (c.status_of.ensures ∙ ap status_for e)) (λ e. device (c.status_of.ensures ∙ ap status_for e)) (λ e. memory (c.status_of.ensures ∙ ap status_for e)) t

pub returns-in-None-clause-attached : goal.returns-in-None-clause-attached
returns-in-None-clause-attached g c = λ t path is.
    let v = g.H.Host.view c.args.host.now in
    attached_none (path ∷ []) v v refl

pub returns-in-Some-clause-attached : goal.returns-in-Some-clause-attached
returns-in-Some-clause-attached g c = λ t path is.
    let word : Some c.in-Some.path.now ≡ Some path = ap option_copied (sym c.in-Some.is) ∙ c.device_path.ensures ∙ is in
    subst (λ (l : List ℕ). TellsAttached (l ∷ []) (g.H.Host.view c.args.host.now) (g.H.Host.view c.attend.new.host)) (some_is _ _ word) (c.attend.ensures.attached t)
