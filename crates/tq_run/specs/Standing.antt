-- The state of a run in memory and on the device.
use Rattle.std.specs.Prelude.{◌≡◌, ◌≤◌, ℕ, ◌-◌, Bool, true, List, [], ◌∷◌, length}
use Rattle.tq_host.specs.View.{View, Images, AreNow, AreSettled}
use Rattle.tq_host.specs.Calls.{HasCauseOf, next_count}
use Rattle.tq_host.specs.Within.{WithinAll, Ran}
use Rattle.tq_model.specs.declared.answer.Answer.{Answer}
use Rattle.tq_model.specs.declared.request.Request.{Request}
use Rattle.tq_model.specs.declared.request.Request.TheVariants.{Boot}
use Rattle.tq_model.specs.Site.{Site}
use Rattle.tq_model.specs.MachineWithFaults.{Condition, Failures, Up, Down}
use Rattle.tq_coord.specs.declared.site.Manager.{Manager}
use Rattle.tq_run.specs.declared.state.State.{State}
use Rattle.tq_run.specs.declared.state.State.TheVariants as states
use Rattle.tq_coord.specs.Manager.{site_of, next_of}
use Rattle.tq_coord.specs.Images.{ImagesMatch}
use Rattle.tq_coord.specs.Frame.{device_count}
use Rattle.tq_run.specs.Idle.{IsIdle, AreIdleLines, AreWhole, clock_at}
use Rattle.tq_run.specs.Turns.{AreInCondition, AreBeforeOrAfter, turn_between, Origin, origin_of, IsAnswered, IsOfLines, GoesOn}

-- up with this site
pub record IsUp (m : Manager) (s : Site) (v : View) : Type 0 where
  pub site : site_of m ≡ s
  pub on : ImagesMatch m v

-- the state in memory has this condition, and so have all images that a stop may leave
abbrev pub StateMatches : State → Condition → View → Type 0
StateMatches (states.Up m) (Up s) v = IsUp m s v
StateMatches (states.Up m) (Down sites) v = ⊥
StateMatches states.Down (Up s) v = ⊥
StateMatches states.Down (Down sites) v = (images : Images) → AreNow v images → AreInCondition (Down sites) images

-- the number of the next message
abbrev pub next_in : State → ℕ
next_in (states.Up m) = next_of m
next_in states.Down = 0

-- each image that a stop may leave has what the state holds of it
abbrev pub StateImagesMatch : State → View → Type 0
StateImagesMatch (states.Up m) v = ImagesMatch m v
StateImagesMatch states.Down v = Unit {0}

-- What a line came to: the answer of the machine's turn from the state's condition, and a state with the condition after it;
-- in each picture of the line the devices stand for the condition before the turn, or after it. An idle line makes no call.
pub record HasTurned (state state' : State) (request : Request) (a : Answer) (old new : View) : Type 0 where
  pub failed : Bool
  pub cause : HasCauseOf (failed ≡ true) old.faults new.faults
  pub answer : (c : Condition) → StateMatches state c old → a ≡ (turn_between failed old.reads c request).answer
  pub then : (c : Condition) → StateMatches state c old → StateMatches state' (turn_between failed old.reads c request).condition new
  pub within : (c : Condition) → StateMatches state c old → WithinAll (AreBeforeOrAfter c (turn_between failed old.reads c request)) old new
  pub idle : (c : Condition) → StateMatches state c old → IsIdle c request → new.clock ≡ old.clock

-- the same of a line that came to no answer
pub record IsTurning (state : State) (request : Request) (old new : View) : Type 0 where
  pub failed : Bool
  pub cause : HasCauseOf (failed ≡ true) old.faults new.faults
  pub within : (c : Condition) → StateMatches state c old → WithinAll (AreBeforeOrAfter c (turn_between failed old.reads c request)) old new

-- so far is a run whose state is this one
pub record HasReached (o : Origin) (found : Site) (failed : Failures) (done : List Request) (state : State) (now : View) : Type 0 where
  pub condition : Condition
  pub answered : IsAnswered o now found failed done condition
  pub is : StateMatches state condition now
  pub some : 1 ≤ length done
  pub idle : AreIdleLines o now.faults answered.added failed found done
  pub whole : AreWhole o now.faults answered.added failed found done
  -- behind line 1 nothing was called since the last answer was given
  pub clock : 2 ≤ length done → now.clock ≡ next_count (clock_at answered.added (length answered.added - 1))

-- a part of a run at whose end these requests are answered, and its pictures
pub record HasRun (o : Origin) (found : Site) (failed : Failures) (done : List Request) (state : State) (old new : View) : Type 0 where
  pub since : Failures
  pub on : GoesOn o old failed since
  pub reached : HasReached o found since done state new
  pub ran : Ran (IsOfLines o new found since done) old new

-- The first line is answered. Its pictures are of it where nothing was pending when it began.
pub record HasStarted (found : Site) (state : State) (old new : View) : Type 0 where
  pub failed : Failures
  pub reached : HasReached (origin_of old) found failed (Boot ∷ []) state new
  pub ran : AreSettled device_count old → Ran (IsOfLines (origin_of old) new found failed (Boot ∷ [])) old new
