-- What a served request promises, in memory and on the device.
use Rattle.std.specs.Prelude.{◌≡◌, ◌≤◌, ◌+◌, Result}
use Rattle.tq_host.specs.View.{View}
use Rattle.tq_host.specs.Within.{WithinAll, KeepsRest}
use Rattle.tq_model.specs.declared.answer.Answer.{Answer}
use Rattle.tq_model.specs.Step.{Outcome}
use Rattle.tq_coord.specs.declared.failure.Failure.{Failure}
use Rattle.tq_coord.specs.declared.site.Manager.{Manager}
use Rattle.tq_coord.specs.Manager.{site_of, next_of}
use Rattle.tq_coord.specs.Images.{ImagesMatch, AreEither}
use Rattle.tq_coord.specs.Counts.{CountsFailure}
use Rattle.tq_coord.specs.Frame.{LeavesOthers}

-- The answer and the site are those of the machine's step; each image that a stop may leave has the site.
pub record IsServed (o : Outcome) (m m' : Manager) (now : View) (a : Answer) : Type 0 where
  pub answer : a ≡ o.answer
  pub site : site_of m' ≡ o.site
  pub next : next_of m' ≤ next_of m + 1
  pub images : ImagesMatch m' now

-- In each picture the devices stand for the site before the step, or for the one after it; the rest of the outside is as it was,
-- the other devices too.
pub record ChangesOnce (o : Outcome) (m : Manager) (old new : View) : Type 0 where
  pub within : WithinAll (AreEither (site_of m) o.site) old new
  pub attached : new.attached ≡ old.attached
  pub others : LeavesOthers old new

-- whether the count rose, and what is left alone
pub record HasFailed {T : Type 0} (result : Result T Failure) (old new : View) : Type 0 where
  pub count : CountsFailure result old.faults new.faults
  pub rest : KeepsRest 0 old new
