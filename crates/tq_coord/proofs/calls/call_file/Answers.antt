use Rattle.std.proofs.Common.{ℕ, ◌∙◌, subst, refl}
use Rattle.tq_host.specs.Within.{Within, KeepsRest}
use Rattle.tq_spacefile.specs.declared.place.SpacePlace.{SpacePlace}
use Rattle.tq_spacefile.specs.File.{clusters_in, held_in, place_in, IsSameButSpace}
use Rattle.tq_spacefile.specs.Commit.{AreReady}
use Rattle.tq_coord.specs.declared.planning.Planned.{Planned}
use Rattle.tq_coord.specs.declared.planning.Planned.TheVariants.{Granted}
use Rattle.tq_coord.specs.Calls.{IsPlanned, IsSameOrChanged, outcome_in, logged_outcome_in}
use Rattle.tq_coord.proofs.CallLemmas.{numbers_are, stops_same, stops_so, takes_some, called_refused, called_full, called_granted}
use Rattle.tq_coord.proofs.calls.call_file.Given.{Over}
use Rattle.tq_coord.proofs.calls.call_file.Goals as goal
use Rattle.tq_coord.proofs.calls.call_file.Goals.{After-commit}

-- the plan is one for the call
planned : (g : Over) (c : After-commit g) → IsPlanned (held_in c.args.file.now) c.args.next (outcome_in c.args.file.now c.args.call) (Granted c.in-Granted.plan c.in-Granted.answer)
planned g c = subst (λ (p : Planned). IsPlanned (held_in c.args.file.now) c.args.next (outcome_in c.args.file.now c.args.call) p) c.in-Granted.is c.in_ok-answer.ensures

-- each image is ready for the plan
ready : (g : Over) (c : After-commit g) → AreReady c.args.file.now c.args.next.epoch c.in-Granted.plan (g.H.Host.view c.args.host.now)
ready g c = λ image may. let b = c.requires.behind image may in (b.file, (planned g c).2.durable.follows b.some b.newer)

within : (g : Over) (c : After-commit g)
    → Within 0 (IsSameButSpace (clusters_in c.args.file.now)) (IsSameOrChanged c.args.file.now c.args.next (logged_outcome_in c.args.file.now (outcome_in c.args.file.now c.args.call))) (g.H.Host.view c.args.host.now) (g.H.Host.view c.commit.new.host)
within g c =
    let p = planned g c in
    stops_so c.args.file.now c.args.next (outcome_in c.args.file.now c.args.call) p.0 c.in-Granted.plan p.2 _ _ c.requires.dev (c.commit.ensures.stop c.args.next.epoch (ready g c))

pub returns-in_err-answer-clause-stop : goal.returns-in_err-answer-clause-stop
returns-in_err-answer-clause-stop g c = λ t. stops_same _ _ _ _ c.requires.dev c.requires.behind

pub returns-in-Refused-clause-called : goal.returns-in-Refused-clause-called
returns-in-Refused-clause-called g c =
    called_refused c.args.file.now c.args.next (outcome_in c.args.file.now c.args.call) c.args.file.now c.in-Refused.answer refl
    (subst (λ (p : Planned). IsPlanned (held_in c.args.file.now) c.args.next (outcome_in c.args.file.now c.args.call) p) c.in-Refused.is c.in_ok-answer.ensures)

pub returns-in-Refused-clause-on : goal.returns-in-Refused-clause-on
returns-in-Refused-clause-on g c = λ image may. (c.requires.behind image may).file

pub returns-in-Refused-clause-stop : goal.returns-in-Refused-clause-stop
returns-in-Refused-clause-stop g c = λ t. stops_same _ _ _ _ c.requires.dev c.requires.behind

pub commit-requires-clause-reach : goal.commit-requires-clause-reach
commit-requires-clause-reach g c = λ t. let lawful = g.met.H.Host.lawful c.args.host.now in (c.requires.behind _ (lawful.reads_an_image (lawful.stops_too t) (place_in c.args.file.now).dev)).file.has.reach

pub commit-requires-clause-loggable : goal.commit-requires-clause-loggable
commit-requires-clause-loggable g c =
    let f = c.args.file.now in
    let p = subst (λ (p : Planned). IsPlanned (held_in f) c.args.next (outcome_in f c.args.call) p) c.in-Granted.is c.in_ok-answer.ensures in
    p.2.durable.loggable

pub returns-in-Ok-clause-called : goal.returns-in-Ok-clause-called
returns-in-Ok-clause-called g c =
    let f = c.args.file.now in
    let p = planned g (goal.at.returns-in-Ok-clause-called g c).After-commit in
    called_granted f c.args.next (outcome_in f c.args.call) p.0 c.in-Granted.plan p.2 c.commit.new.self c.in-Granted.answer c.numbers-numbers.result p.1
    (c.numbers-numbers.ensures.numbers ∙ numbers_are c.args.call _)
    c.in-Ok.ensures.done.fits c.in-Ok.ensures.done.space c.in-Ok.ensures.done.logged

pub returns-in-Ok-clause-on : goal.returns-in-Ok-clause-on
returns-in-Ok-clause-on g c = c.in-Ok.ensures.done.images c.args.next.epoch (ready g (goal.at.returns-in-Ok-clause-on g c).After-commit)

pub returns-in-Ok-clause-stop : goal.returns-in-Ok-clause-stop
returns-in-Ok-clause-stop g c = λ t. within g (goal.at.returns-in-Ok-clause-stop g c).After-commit

pub returns-in-Err-LogFull-clause-called : goal.returns-in-Err-LogFull-clause-called
returns-in-Err-LogFull-clause-called g c =
    let f = c.args.file.now in
    let p = planned g (goal.at.returns-in-Err-LogFull-clause-called g c).After-commit in
    let failed = rw c.in-Err-LogFull.field-0-is at c.in-Err-LogFull.ensures.failed in
    called_full f c.args.next (outcome_in f c.args.call) p.0 c.in-Granted.plan p.2 c.commit.new.self c.in-Err-LogFull.room (failed.cause.0, failed.cause.1) failed.same.space failed.same.logged

pub returns-in-Err-LogFull-clause-on : goal.returns-in-Err-LogFull-clause-on
returns-in-Err-LogFull-clause-on g c = λ image may.
    let failed = rw c.in-Err-LogFull.field-0-is at c.in-Err-LogFull.ensures.failed in
    let before = rw failed.cause.2 at may in
    failed.same.kept c.args.next.epoch image (c.requires.behind image (subst (λ (place : SpacePlace). (g.H.Host.view c.args.host.now).may_leave place.dev image) failed.same.place before)).file

pub returns-in-Err-LogFull-clause-stop : goal.returns-in-Err-LogFull-clause-stop
returns-in-Err-LogFull-clause-stop g c = λ t. within g (goal.at.returns-in-Err-LogFull-clause-stop g c).After-commit

pub returns-in-Err-Device-clause-stop : goal.returns-in-Err-Device-clause-stop
returns-in-Err-Device-clause-stop g c = λ t. within g (goal.at.returns-in-Err-Device-clause-stop g c).After-commit

pub returns-clause-stop : goal.returns-clause-stop
returns-clause-stop g c = λ t. within g (goal.at.returns-clause-stop g c).After-commit

pub returns-in-Err-Device-clause-failed : goal.returns-in-Err-Device-clause-failed
returns-in-Err-Device-clause-failed g c =
    let failed = rw c.in-Err-Device.field-0-is at c.in-Err-Device.ensures.failed in
    record { count = record { later = failed.cause.0; rose = failed.cause.1 }; rest = subst (λ (k : ℕ). KeepsRest k (g.H.Host.view c.args.host.now) (g.H.Host.view c.commit.new.host)) c.requires.dev failed.rest }

pub returns-in-Ok-clause-idle : goal.returns-in-Ok-clause-idle
returns-in-Ok-clause-idle g c = λ same.
    let f = c.args.file.now in
    let p = planned g (goal.at.returns-in-Ok-clause-idle g c).After-commit in
    absurd (takes_some f c.args.next (outcome_in f c.args.call) p.0 c.in-Granted.plan p.2 c.in-Ok.ensures.done.fits same)

pub returns-in-Err-LogFull-clause-idle : goal.returns-in-Err-LogFull-clause-idle
returns-in-Err-LogFull-clause-idle g c = λ same. let failed = rw c.in-Err-LogFull.field-0-is at c.in-Err-LogFull.ensures.failed in failed.cause.2

pub returns-in-Err-Device-clause-idle : goal.returns-in-Err-Device-clause-idle
returns-in-Err-Device-clause-idle g c = λ same.
    let f = c.args.file.now in
    let p = planned g (goal.at.returns-in-Err-Device-clause-idle g c).After-commit in
    let failed = rw c.in-Err-Device.field-0-is at c.in-Err-Device.ensures.failed in
    absurd (takes_some f c.args.next (outcome_in f c.args.call) p.0 c.in-Granted.plan p.2 failed.cause.2 same)
