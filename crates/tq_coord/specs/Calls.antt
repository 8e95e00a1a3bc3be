-- Calls on the space in memory and on its log.
use Rattle.std.specs.Prelude.{◌≡◌, ◌≤◌, ◌⊎◌, ℕ, ◌+◌, List, None, Some}
use Rattle.tq_host.specs.View.{View}
use Rattle.tq_types.specs.declared.identifiers.Arrival.{Arrival}
use Rattle.tq_model.specs.Moves.{IndexedSpace, space_of}
use Rattle.tq_model.specs.Plain.{KeepsAllAtCrash, IsNewer}
use Rattle.tq_model.specs.Step.{SpaceOutcome, LoggedOutcome, through_log}
use Rattle.tq_space.specs.declared.plans.Plan.{Plan}
use Rattle.tq_space.specs.Applied.{plan_applied}
use Rattle.tq_space.specs.Loggable.{IsDurable}
use Rattle.tq_spacefile.specs.declared.file.SpaceFile.{SpaceFile}
use Rattle.tq_spacefile.specs.File.{place_in, clusters_in, held_in, logged_in, HasSpace, IsFile}
use Rattle.tq_coord.specs.SpaceCalls.{outcome_of}
use Rattle.tq_coord.specs.declared.planning.SpaceCall.{SpaceCall}
use Rattle.tq_coord.specs.declared.planning.Planned.{Planned}
use Rattle.tq_coord.specs.declared.planning.Planned.TheVariants as planned
use Rattle.tq_coord.specs.declared.calls.Reply.{Reply}

-- what the space of a file makes of a call, by itself and with its log
abbrev pub outcome_in : SpaceFile → SpaceCall → SpaceOutcome
outcome_in f call = outcome_of call (space_of (held_in f))

abbrev pub logged_outcome_in : SpaceFile → SpaceOutcome → LoggedOutcome
logged_outcome_in f c = through_log (place_in f).pages (logged_in f) (space_of (held_in f)) c

-- ---- Plans

-- a plan that makes the change of a call, and that the log of its space takes
pub record IsPlanFor (s : IndexedSpace) (next : Arrival) (c : SpaceOutcome) (plan : Plan) : Type 0 where
  pub space : space_of (plan_applied plan s) ≡ c.space
  pub durable : IsDurable next c.size c.numbers s plan

-- A plan, where the space refuses nothing; else its refusal, which leaves the space as it is.
abbrev pub IsPlanned : IndexedSpace → Arrival → SpaceOutcome → Planned → Type 0
IsPlanned s next c (planned.Refused a) = (c.refusal ≡ Some a) × (space_of s ≡ c.space)
IsPlanned s next c (planned.Granted plan a) = (c.refusal ≡ None) × (a ≡ c.answer) × IsPlanFor s next c plan

-- ---- Calls

-- The call came to this outcome; the next arrival stays newer than all of the space.
pub record IsCalled (f f' : SpaceFile) (next : Arrival) (o : LoggedOutcome) (r : Reply) : Type 0 where
  pub answer : r.answer ≡ o.answer
  pub numbers : r.numbers ≡ o.numbers
  pub space : space_of (held_in f') ≡ o.space
  pub logged : logged_in f' ≡ o.logged
  pub newer : IsNewer next.epoch next.number (held_in f) → IsNewer next.epoch (next.number + o.numbers) (held_in f')

-- an image has the space and the log of this outcome
pub record HasOutcome (f : SpaceFile) (epoch : ℕ) (o : LoggedOutcome) (image : List ℕ) : Type 0 where
  pub held : IndexedSpace
  pub space : space_of held ≡ o.space
  pub lasts : KeepsAllAtCrash held
  pub has : HasSpace (place_in f) (clusters_in f) epoch held o.logged image

-- an image has the space as it was, or as the call leaves it
abbrev pub IsSameOrChanged : SpaceFile → Arrival → LoggedOutcome → List ℕ → Type 0
IsSameOrChanged f next o image = HasSpace (place_in f) (clusters_in f) next.epoch (held_in f) (logged_in f) image ⊎ HasOutcome f next.epoch o image

-- an image has the file, and the arrival is newer than all of it
pub record IsBehind (f : SpaceFile) (next : Arrival) (image : List ℕ) : Type 0 where
  pub file : IsFile f next.epoch image
  pub some : 1 ≤ next.epoch
  pub newer : IsNewer next.epoch next.number (held_in f)

abbrev pub AreBehind : SpaceFile → Arrival → View → Type 0
AreBehind f next v = (image : List ℕ) → v.may_leave (place_in f).dev image → IsBehind f next image
