-- A plan that the log takes, and the record that says it.
use Rattle.std.proofs.Common.{◌≡◌, ◌⊎◌, inl, ◌<◌, ◌≤◌, ℕ, ◌+◌, ◌-◌, arith, Result, Ok, Err, true, List, [], ◌∷◌, length, Option, None, Some, refl, sym, ap, subst, ◌∙◌}
use Rattle.std.specs.Prelude.{IfErr, IsErrAnd}
use Rattle.tq_host.specs.View.{View}
use Rattle.tq_host.specs.Within.{Within}
use Rattle.tq_host.proofs.Within.{starts}
use Rattle.tq_host.proofs.QuietLemmas.{rest_start}
use Rattle.tq_gate.specs.declared.layout.Layout.{Layout}
use Rattle.tq_gate.specs.Layout.{clusters_of, log_length}
use Rattle.tq_gate.specs.Log.{free_in, FitsIn, IsSameLog}
use Rattle.tq_model.specs.declared.record.SpaceRecord.{SpaceRecord}
use Rattle.tq_model.specs.declared.space.SpaceMove.{SpaceMove}
use Rattle.tq_model.specs.Moves.{IndexedSpace}
use Rattle.tq_model.specs.SpaceForm.{log_bytes, spelt, can_follow}
use Rattle.tq_model.specs.SpaceLog.{record_of, IsSaidBy, spelt_size, size_in_log, CanFollow, CanFollowBy}
use Rattle.tq_space.specs.declared.plans.Plan.{Plan}
use Rattle.tq_space.specs.Applied.{plan_applied}
use Rattle.tq_space.specs.Loggable.{IsLoggable, size_of, MayFollow}
use Rattle.tq_space.specs.Plain.{CanMove}
use Rattle.tq_spacefile.specs.declared.file.SpaceFile.{SpaceFile}
use Rattle.tq_spacefile.specs.declared.fault.CommitError.{CommitError}
use Rattle.tq_spacefile.specs.declared.fault.CommitError.TheVariants.{LogFull, Device, NoMemory}
use Rattle.tq_spacefile.specs.Record.{IsRecorded, with_record}
use Rattle.tq_spacefile.specs.File.{HasSpace, IsSameButSpace, IsFile, IsOldOrLogged, place_in, clusters_in, held_in, logged_in, room_for}
use Rattle.tq_spacefile.specs.Commit.{IsReady, AreReady, IsOldOrDone, IsCause, IsUnprepared, IsSameFile, HasFailed}
use Rattle.tq_spacefile.proofs.Files.{file_same}
use Rattle.tq_spacefile.proofs.Formats.{same_space_steps}
use Rattle.tq_spacefile.proofs.Commits.{recorded_applied}

-- the record that says a plan
pub record Said (s : IndexedSpace) (plan : Plan) : Type 0 where
  pub r : SpaceRecord
  pub is : IsRecorded s plan r
  pub size : size_of plan ≡ length (spelt r)
  pub follows : (epoch : ℕ) → MayFollow epoch s plan → can_follow epoch s r ≡ true

said_by : (s : IndexedSpace) (plan : Plan) (is : IsLoggable s plan) (o : Option SpaceRecord) → record_of is.move ≡ o → IsSaidBy s is.move o → Said s plan
said_by s plan is None same says = absurd says
said_by s plan is (Some r) same says = record {
  r = r;
  is = record { purge = is.purge; moves = is.moves ∙ ap (λ (move : SpaceMove). move ∷ []) says.0; can = subst (λ (move : SpaceMove). CanMove move s) says.0 is.can; short = says.1 };
  size = ap size_in_log is.moves ∙ ap spelt_size same;
  follows = λ epoch may. subst (CanFollow epoch s) same (subst (CanFollowBy epoch s) is.moves may);
}

pub said : (s : IndexedSpace) (plan : Plan) → IsLoggable s plan → Said s plan
said s plan is = said_by s plan is (record_of is.move) refl is.said

module _ (f : SpaceFile) (plan : Plan) (is : Said (held_in f) plan) where
  pub said_applied : with_record is.r (held_in f) ≡ plan_applied plan (held_in f)
  said_applied = sym (recorded_applied (held_in f) plan is.r is.is)

  -- an image that is ready for the plan is ready for the record
  pub ready_for : (epoch : ℕ) (image : List ℕ) → IsReady f epoch plan image → IsFile f epoch image × (can_follow epoch (held_in f) is.r ≡ true)
  ready_for epoch image at = (at.0, is.follows epoch at.1)

  -- a call that leaves the space before the record, or with it
  abbrev left : ℕ → IndexedSpace → ℕ → List ℕ → Type 0
  left epoch s size image = HasSpace (place_in f) (clusters_in f) epoch (held_in f) (logged_in f) image ⊎ HasSpace (place_in f) (clusters_in f) epoch s (logged_in f + (5 + size)) image

  abbrev Beside : List ℕ → List ℕ → Type 0
  Beside old new = IsSameButSpace (clusters_in f) old new

  pub leaves_done : (epoch : ℕ) (old new : View)
      → Within (place_in f).dev Beside (IsOldOrLogged (place_in f) (clusters_in f) epoch (held_in f) (logged_in f) is.r) old new
      → Within (place_in f).dev Beside (IsOldOrDone f epoch plan) old new
  leaves_done epoch old new within =
      subst (λ (n : ℕ). Within (place_in f).dev Beside (left epoch (plan_applied plan (held_in f)) n) old new) (sym is.size)
      (subst (λ (s : IndexedSpace). Within (place_in f).dev Beside (left epoch s (length (spelt is.r))) old new) said_applied within)

  -- before the first call
  pub not_begun : (epoch : ℕ) (v : View) → AreReady f epoch plan v → Within (place_in f).dev Beside (IsOldOrDone f epoch plan) v v
  not_begun epoch v at = starts (place_in f).dev Beside (same_space_steps (clusters_in f)) (IsOldOrDone f epoch plan) v (λ image may. inl (at image may).0.has)

  own_length : log_length f.log.layout ≡ log_bytes f.place.pages
  own_length = ap (λ (l : Layout). log_length l) f.layout

  -- the payload has room in the log
  pub has_room : (size : ℕ) → FitsIn f.log size → size_of plan ≡ size → logged_in f + (size_of plan + 6) ≤ log_bytes (place_in f).pages
  has_room size fits same = omega (arith, own_length, fits, same)

  -- a payload that was not prepared
  unprepared : (untouched : Type 0) → untouched → (faults : ℕ) (e : CommitError) → IsUnprepared f.log (length (spelt is.r)) e
      → IsCause f plan untouched faults faults e
  unprepared untouched still faults (LogFull room) lacks =
      let past : log_bytes f.place.pages < logged_in f + (size_of plan + 6) = omega (arith, own_length, is.size, lacks.past) in
      let free : free_in f.log ≡ log_bytes f.place.pages - logged_in f = omega (arith, own_length) in
      let same : room ≡ room_for f.place.pages (logged_in f) (size_of plan) = lacks.room_is ∙ λ i. record { need = sym is.size i + 6; free = free i } in
      (past, same, still)
  unprepared untouched still faults Device never = absurd never
  unprepared untouched still faults NoMemory none = still

  pub not_prepared : (g : SpaceFile) (untouched : Type 0) → untouched → (v : View) (e : CommitError) → IsSameFile f g
      → IsUnprepared f.log (length (spelt is.r)) e → HasFailed f g plan untouched v v e
  not_prepared g untouched still v e same why = record { cause = unprepared untouched still v.faults e why; same = same; rest = rest_start (place_in f).dev v }

-- the same log and space in memory
pub same_file : (f g : SpaceFile) → place_in g ≡ place_in f → held_in g ≡ held_in f → IsSameLog f.log g.log → IsSameFile f g
same_file f g place held log = record {
  place = place;
  clusters = ap (λ (l : Layout). clusters_of l) log.layout;
  space = held;
  logged = λ i. log_bytes (place i).pages - (log_length (log.layout i) - log.end i);
  kept = λ epoch image is. file_same f g epoch image place held log is;
}

-- an error that is known
pub at_error : {T E : Type 0} (r : Result T E) (e : E) (P : E → Type 0) → IsErrAnd r (λ x. x ≡ e) → P e → IfErr r P
at_error (Ok v) e P is p = tt
at_error (Err x) e P is p = subst P (sym is) p
