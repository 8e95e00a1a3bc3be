use Rattle.std.proofs.Common.{◌≡◌, ◌≢◌, ◌<◌, ℕ, List, Option, Result, None, Some, Ok, Err, refl, sym, ◌∙◌, ap, subst, length}
use Rattle.std.specs.Prelude.{IfNone, IfSome}
use Rattle.std.proofs.lemmas.Result.{IfOk-weaker}
use Rattle.tq_host.specs.View.{View, AreNow, IsSettled}
use Rattle.tq_host.specs.Within.{WithinAll}
use Rattle.tq_model.specs.DeviceForm.{header_bytes}
use Rattle.tq_coord.specs.declared.site.Disk.{Disk}
use Rattle.tq_coord.specs.declared.failure.BootFailure.{BootFailure}
use Rattle.tq_coord.specs.declared.failure.BootFailure.TheVariants as boots
use Rattle.tq_coord.specs.Manager.{IsLoaded}
use Rattle.tq_coord.proofs.FoundLemmas.{booted_blank, booted_raised, last_not_bootable}
use Rattle.tq_coord.proofs.ImageLemmas.{same_found}
use Rattle.tq_coord.proofs.BootStopLemmas.{all_loaded, still_old, then_raised}
use Rattle.tq_coord.proofs.FrameLemmas.{others_on, others_of_call}
use Rattle.tq_coord.proofs.LeftAloneLemmas.{left_alone, not_bootable}
use Rattle.tq_coord.proofs.site.Manager.boot.Goals as goal

not_failed : (r : Result (Option Disk) BootFailure) (o : Option Disk) → r ≡ Ok o → r ≢ Err boots.Device
not_failed r o is e = absurd (cc)

-- what was found
loaded_in : (told : Type 0) (o : Option Disk) (d : Disk) (image : List ℕ) → o ≡ Some d → IfSome o (λ x. told → IsLoaded x image) → told → IsLoaded d image
loaded_in told o d image is loaded = subst (λ (p : Option Disk). IfSome p (λ x. told → IsLoaded x image)) is loaded

short_in : (told : Type 0) (o : Option Disk) (image : List ℕ) → o ≡ None → IfNone o (told → length image < header_bytes) → told → length image < header_bytes
short_in told o image is short = subst (λ (p : Option Disk). IfNone p (told → length image < header_bytes)) is short

pub returns-in_err-find-clause-stop : goal.returns-in_err-find-clause-stop
returns-in_err-find-clause-stop g c = λ told sites stand found is. still_old sites found _ _ stand c.find.ensures.quiet

pub returns-in_err-find-clause-left_alone : goal.returns-in_err-find-clause-left_alone
returns-in_err-find-clause-left_alone g c = λ told none. left_alone _ _ c.find.ensures.quiet

pub raise-requires : goal.raise-requires
raise-requires g c = record {
  holds = λ told. subst (IsLoaded c.in-Some.disk) (sym (c.find.ensures.quiet.still.reads 0)) (loaded_in _ _ _ _ c.in-Some.is c.in_ok-find.ensures.loaded told);
}

pub returns-in-None-clause-booted : goal.returns-in-None-clause-booted
returns-in-None-clause-booted g c = λ told.
    booted_blank _ _ _ refl (λ short. short) (short_in _ _ _ c.in-None.is c.in_ok-find.ensures.blank told) (c.find.ensures.quiet.still.reads 0)

pub returns-in-None-clause-stop : goal.returns-in-None-clause-stop
returns-in-None-clause-stop g c = λ told sites stand found is. still_old sites found _ _ stand c.find.ensures.quiet

pub returns-in-Some-clause-booted : goal.returns-in-Some-clause-booted
returns-in-Some-clause-booted g c =
    let loaded = loaded_in _ _ _ _ c.in-Some.is c.in_ok-find.ensures.loaded in
    IfOk-weaker c.raise.result _ _ (λ m raised. λ told. booted_raised c.in-Some.disk m _ _ (loaded told) (raised told)) c.raise.ensures.raised

pub returns-in-Some-clause-damaged : goal.returns-in-Some-clause-damaged
returns-in-Some-clause-damaged g c = λ e told.
    let loaded = loaded_in _ _ _ _ c.in-Some.is c.in_ok-find.ensures.loaded in
    last_not_bootable (g.H.Host.view c.args.host.now).reads c.in-Some.disk (loaded told) (c.raise.ensures.damaged e)

pub returns-in-Some-clause-stop : goal.returns-in-Some-clause-stop
returns-in-Some-clause-stop g c = λ told sites stand found is.
    let d = c.in-Some.disk in
    let start = g.met.H.Host.lawful c.args.host.now in
    let settled = c.find.ensures.settled (not_failed _ _ c.in_ok-find.was) in
    let loaded = loaded_in _ _ _ _ c.in-Some.is c.in_ok-find.ensures.loaded in
    let all = all_loaded d _ _ c.find.ensures.quiet (g.met.H.Host.lawful c.find.new.host) settled loaded in
    then_raised sites found _ _ stand c.find.ensures.quiet d _ (start.reads_an_image (start.stops_too told)) is (loaded told) all c.raise.ensures.stop

pub returns-in-Some-clause-left_alone : goal.returns-in-Some-clause-left_alone
returns-in-Some-clause-left_alone g c = λ told none.
    let a = g.H.Host.view c.args.host.now in
    let loaded = loaded_in _ _ _ _ c.in-Some.is c.in_ok-find.ensures.loaded told in
    let same = c.raise.ensures.left_alone (not_bootable a.reads c.in-Some.disk loaded none) in
    subst (λ (v : View). WithinAll (AreNow a) a v) (ap g.H.Host.view (sym same)) (left_alone a _ c.find.ensures.quiet)

pub returns-in-Some-clause-on : goal.returns-in-Some-clause-on
returns-in-Some-clause-on g c =
    let settled = c.find.ensures.settled (not_failed _ _ c.in_ok-find.was) in
    let loaded = loaded_in _ _ _ _ c.in-Some.is c.in_ok-find.ensures.loaded in
    let all = all_loaded c.in-Some.disk _ _ c.find.ensures.quiet (g.met.H.Host.lawful c.find.new.host) settled loaded in
    IfOk-weaker c.raise.result _ _ (λ m on. on all) c.raise.ensures.on

pub returns-in-Some-clause-settled : goal.returns-in-Some-clause-settled
returns-in-Some-clause-settled g c = λ e told images may.
    let a = g.H.Host.view c.args.host.now in
    let settled = c.find.ensures.settled (not_failed _ _ c.in_ok-find.was) in
    let still = subst (λ (v : View). IsSettled 0 v) (ap g.H.Host.view (sym (c.raise.ensures.untouched e))) settled in
    let reads = ap (λ (v : View). v.reads 0) (ap g.H.Host.view (c.raise.ensures.untouched e)) in
    same_found images a.reads (still (images 0) (may 0) ∙ reads ∙ c.find.ensures.quiet.still.reads 0)

pub returns-in-Some-clause-others : goal.returns-in-Some-clause-others
returns-in-Some-clause-others g c =
    let quiet = c.find.ensures.quiet in
    let settled = c.find.ensures.settled (not_failed _ _ c.in_ok-find.was) in
    let loaded = loaded_in _ _ _ _ c.in-Some.is c.in_ok-find.ensures.loaded in
    let all = all_loaded c.in-Some.disk _ _ quiet (g.met.H.Host.lawful c.find.new.host) settled loaded in
    others_on _ _ _ (others_of_call _ _ _ _ quiet.stop quiet.rest) (c.raise.ensures.others all)
