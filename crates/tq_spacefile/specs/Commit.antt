-- What a commit of a plan comes to.
use Rattle.std.specs.Prelude.{◌≡◌, ◌<◌, ◌≤◌, ◌⊎◌, ℕ, ◌+◌, List}
use Rattle.tq_host.specs.View.{Told, View}
use Rattle.tq_host.specs.Calls.{Rose}
use Rattle.tq_host.specs.Within.{KeepsRest}
use Rattle.tq_gate.specs.declared.log.GateLog.{GateLog}
use Rattle.tq_model.specs.SpaceForm.{log_bytes}
use Rattle.tq_space.specs.declared.plans.Plan.{Plan}
use Rattle.tq_space.specs.Applied.{plan_applied}
use Rattle.tq_space.specs.Loggable.{size_of, MayFollow}
use Rattle.tq_spacefile.specs.declared.file.SpaceFile.{SpaceFile}
use Rattle.tq_spacefile.specs.declared.fault.CommitError.{CommitError}
use Rattle.tq_spacefile.specs.declared.fault.CommitError.TheVariants.{LogFull, Device, NoMemory}
use Rattle.tq_spacefile.specs.File.{place_in, clusters_in, held_in, logged_in, HasSpace, IsFile, AreFile, room_for}
use Rattle.tq_spacefile.specs.Record.{LacksRoom}

-- an image has the file, and the plan may come next in its log
abbrev pub IsReady : SpaceFile → ℕ → Plan → List ℕ → Type 0
IsReady f epoch plan image = IsFile f epoch image × MayFollow epoch (held_in f) plan

-- so has each image that a stop may leave
abbrev pub AreReady : SpaceFile → ℕ → Plan → View → Type 0
AreReady f epoch plan v = (image : List ℕ) → v.may_leave (place_in f).dev image → IsReady f epoch plan image

-- the bytes of the log that are taken after the plan
abbrev pub logged_after : SpaceFile → Plan → ℕ
logged_after f plan = logged_in f + (5 + size_of plan)

-- The plan is done, in memory and in each image; its payload and a further gate had room.
pub record IsDone (tells : Told) (f f' : SpaceFile) (plan : Plan) (old new : View) : Type 0 where
  pub place : place_in f' ≡ place_in f
  pub clusters : clusters_in f' ≡ clusters_in f
  pub space : held_in f' ≡ plan_applied plan (held_in f)
  pub logged : logged_in f' ≡ logged_after f plan
  pub fits : logged_in f + (size_of plan + 6) ≤ log_bytes (place_in f).pages
  pub images : (epoch : ℕ) → AreReady f epoch plan old → AreFile f' epoch new
  pub read : tells.reads → (epoch : ℕ) → IsReady f epoch plan (old.reads (place_in f).dev) → IsFile f' epoch (new.reads (place_in f).dev)
  pub rest : KeepsRest (place_in f).dev old new
  pub count : new.faults ≡ old.faults

-- an image has the space before the plan, or after it
abbrev pub IsOldOrDone : SpaceFile → ℕ → Plan → List ℕ → Type 0
IsOldOrDone f epoch plan image = HasSpace (place_in f) (clusters_in f) epoch (held_in f) (logged_in f) image ⊎ HasSpace (place_in f) (clusters_in f) epoch (plan_applied plan (held_in f)) (logged_after f plan) image

-- the same space and log in memory
pub record IsSameFile (f f' : SpaceFile) : Type 0 where
  pub place : place_in f' ≡ place_in f
  pub clusters : clusters_in f' ≡ clusters_in f
  pub space : held_in f' ≡ held_in f
  pub logged : logged_in f' ≡ logged_in f
  pub kept : (epoch : ℕ) (image : List ℕ) → IsFile f epoch image → IsFile f' epoch image

-- Why a plan is not done: where the log has no room for it, or for want of memory, the outside is untouched; else there was room, and a device failed.
abbrev pub IsCause : SpaceFile → Plan → Type 0 → ℕ → ℕ → CommitError → Type 0
IsCause f plan untouched before now (LogFull room) =
    (log_bytes (place_in f).pages < logged_in f + (size_of plan + 6)) × (room ≡ room_for (place_in f).pages (logged_in f) (size_of plan)) × untouched
IsCause f plan untouched before now Device = (before ≤ now) × Rose before now × (logged_in f + (size_of plan + 6) ≤ log_bytes (place_in f).pages)
IsCause f plan untouched before now NoMemory = untouched

pub record HasFailed (f f' : SpaceFile) (plan : Plan) (untouched : Type 0) (old new : View) (e : CommitError) : Type 0 where
  pub cause : IsCause f plan untouched old.faults new.faults e
  pub same : IsSameFile f f'
  pub rest : KeepsRest (place_in f).dev old new

-- why a plan is not prepared whose payload has so many bytes
abbrev pub IsUnprepared : GateLog → ℕ → CommitError → Type 0
IsUnprepared log size (LogFull room) = LacksRoom log size room
IsUnprepared log size Device = ⊥
IsUnprepared log size NoMemory = Unit {0}
