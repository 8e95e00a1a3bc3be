-- A line that is done while there is a site, and one while there is none.
use Rattle.std.proofs.Common.{◌≡◌, ◌≢◌, inl, inr, ⊎_elim, List, [], ◌∷◌, Option, Bool, true, false, refl, sym, ◌∙◌, ap, subst, arith}
use Rattle.tq_host.specs.View.{View, Images, AreNow}
use Rattle.tq_host.specs.Within.{WithinAll}
use Rattle.tq_host.proofs.AllDevices.{starts_all, weaker_all}
use Rattle.tq_model.specs.declared.answer.Answer.{Answer}
use Rattle.tq_model.specs.declared.answer.Answer.TheVariants as answers
use Rattle.tq_model.specs.declared.request.Request.{Request}
use Rattle.tq_model.specs.declared.request.Request.TheVariants.{Nothing, Boot, Bad, TooLong, Device, Space, Call}
use Rattle.tq_model.specs.Site.{Site, durable}
use Rattle.tq_model.specs.Step.{step}
use Rattle.tq_model.specs.Reading.{site_found}
use Rattle.tq_model.specs.MachineWithFaults.{Condition, Up, Down, Turn, down_answer, steady_turn, turn_at}
use Rattle.tq_coord.specs.declared.site.Manager.{Manager}
use Rattle.tq_run.specs.declared.state.State.{State}
use Rattle.tq_run.specs.declared.state.State.TheVariants as states
use Rattle.tq_coord.specs.Serving.{IsServed, ChangesOnce}
use Rattle.tq_coord.specs.Counts.{Rises}
use Rattle.tq_coord.specs.Manager.{site_of}
use Rattle.tq_run.specs.Idle.{IsIdle}
use Rattle.tq_coord.specs.Images.{ImagesMatch, AreEither, HasNoNewImage}
use Rattle.tq_run.specs.Turns.{AreInCondition, turn_between, AreBeforeOrAfter}
use Rattle.tq_run.specs.Standing.{StateMatches, StateImagesMatch, HasTurned, IsTurning}
use Rattle.tq_coord.specs.Frame.{device_count}
use Rattle.tq_run.proofs.CountLemmas.{steady_cause, risen_cause}
use Rattle.tq_coord.proofs.ForCallers.{stands_for}
use Rattle.tq_coord.proofs.ImageLemmas.{found_have}

-- What holds of the site, or of any sites, holds of each condition that the state matches.
pub of_up : (m : Manager) (v : View) (P : Condition → Type 0) → (ImagesMatch m v → P (Up (site_of m))) → (c : Condition) → StateMatches (states.Up m) c v → P c
of_up m v P holds (Up s) is = subst (λ (x : Site). P (Up x)) is.site (holds is.on)
of_up m v P holds (Down sites) is = absurd is

of_down : (v : View) (P : Condition → Type 0) → ((sites : List Site) → ((images : Images) → AreNow v images → AreInCondition (Down sites) images) → P (Down sites)) → (c : Condition) → StateMatches states.Down c v → P c
of_down v P holds (Up s) is = absurd is
of_down v P holds (Down sites) is = holds sites is

-- the images stand for the condition
pub images_in : (state : State) (c : Condition) (v : View) → StateMatches state c v → (images : Images) → AreNow v images → AreInCondition c images
images_in (states.Up m) c v is images may = of_up m v (λ (x : Condition). AreInCondition x images) (λ on. stands_for m images (on (images 0) (may 0))) c is
images_in states.Down c v is images may = of_down v (λ (x : Condition). AreInCondition x images) (λ sites have. have images may) c is

-- where no image is new
pub still_in : (state : State) (c : Condition) (a b : View) → HasNoNewImage a b → StateMatches state c a → StateMatches state c b
still_in (states.Up m) c a b none is = of_up m a (λ (x : Condition). StateMatches (states.Up m) x b) (λ on. record { site = refl; on = λ image may. on image (none 0 image may) }) c is
still_in states.Down c a b none is = of_down a (λ (x : Condition). StateMatches states.Down x b) (λ sites have images may. have images (λ d. none d (images d) (may d))) c is

pub still_match : (state : State) (a b : View) → HasNoNewImage a b → StateImagesMatch state a → StateImagesMatch state b
still_match (states.Up m) a b none on = λ image may. on image (none 0 image may)
still_match states.Down a b none on = tt

-- the pictures of a line that has an answer
pub turning : {state state' : State} {request : Request} {a : Answer} {old new : View} → HasTurned state state' request a old new → IsTurning state request old new
turning is = record { failed = is.failed; cause = is.cause; within = is.within }

-- Turns of other lines than a boot

steady_is : (s : Site) (request : Request) → request ≢ Boot → steady_turn s request ≡ record { condition = Up (step s request).site; answer = (step s request).answer }
steady_is s Nothing ne = refl
steady_is s Boot ne = absurd (ne refl)
steady_is s (Bad column) ne = refl
steady_is s TooLong ne = refl
steady_is s (Device request) ne = refl
steady_is s (Space request) ne = refl
steady_is s (Call request) ne = refl

down_is : (rose : Bool) (found : Option Site) (sites : List Site) (r : Request) → r ≢ Boot → turn_at rose found (Down sites) r ≡ record { condition = Down sites; answer = down_answer r }
down_is rose found sites Nothing ne = refl
down_is rose found sites Boot ne = absurd (ne refl)
down_is rose found sites (Bad column) ne = refl
down_is rose found sites TooLong ne = refl
down_is rose found sites (Device request) ne = refl
down_is rose found sites (Space request) ne = refl
down_is rose found sites (Call request) ne = refl

-- images that stand for one of two sites stand for one of a list of both
one_of_two : (s t : Site) (images : Images) → AreEither s t images → AreInCondition (Down (durable s ∷ durable t ∷ [])) images
one_of_two s t images = ⊎_elim (λ old. (0, durable s, omega arith, refl, found_have images (durable s) old)) (λ new. (1, durable t, omega arith, refl, found_have images (durable t) new))

-- What a line that is served came to

module _ (m : Manager) (request : Request) (a b : View) (ne : request ≢ Boot) (stop : ChangesOnce (step (site_of m) request) m a b) where
  steady : turn_between false a.reads (Up (site_of m)) request ≡ record { condition = Up (step (site_of m) request).site; answer = (step (site_of m) request).answer }
  steady = steady_is (site_of m) request ne

  -- the pictures where no device failed, and where one did
  within_up : (c : Condition) → StateMatches (states.Up m) c a → WithinAll (AreBeforeOrAfter c (turn_between false a.reads c request)) a b
  within_up = of_up m a (λ (c : Condition). WithinAll (AreBeforeOrAfter c (turn_between false a.reads c request)) a b)
      (λ on. subst (λ (t : Turn). WithinAll (AreBeforeOrAfter (Up (site_of m)) t) a b) (sym steady) stop.within)

  within_down : (c : Condition) → StateMatches (states.Up m) c a → WithinAll (AreBeforeOrAfter c (turn_between true a.reads c request)) a b
  within_down = of_up m a (λ (c : Condition). WithinAll (AreBeforeOrAfter c (turn_between true a.reads c request)) a b)
      (λ on. weaker_all _ _ a b (λ images either. inr (one_of_two (site_of m) (step (site_of m) request).site images either)) stop.within)

  pub serving : b.faults ≡ a.faults → IsTurning (states.Up m) request a b
  serving same = record { failed = false; cause = steady_cause same (λ e. cc); within = within_up }

  module _ (still : durable (step (site_of m) request).site ≡ durable (site_of m) → b.clock ≡ a.clock) where
    idles : (c : Condition) → StateMatches (states.Up m) c a → IsIdle c request → b.clock ≡ a.clock
    idles = of_up m a (λ (c : Condition). IsIdle c request → b.clock ≡ a.clock) (λ on idle. still idle.1)

    -- done, and no device failed
    pub served : (m' : Manager) (answer : Answer) → b.faults ≡ a.faults → IsServed (step (site_of m) request) m m' b answer → HasTurned (states.Up m) (states.Up m') request answer a b
    served m' answer same is_served = record {
      failed = false;
      cause = steady_cause same (λ e. cc);
      answer = of_up m a (λ (c : Condition). answer ≡ (turn_between false a.reads c request).answer) (λ on. is_served.answer ∙ ap (λ (t : Turn). t.answer) (sym steady));
      then = of_up m a (λ (c : Condition). StateMatches (states.Up m') (turn_between false a.reads c request).condition b)
          (λ on. subst (λ (t : Turn). StateMatches (states.Up m') t.condition b) (sym steady) (record { site = is_served.site; on = is_served.images }));
      within = within_up;
      idle = idles;
    }

    -- a device failed
    pub failed : Rises a.faults b.faults → HasTurned (states.Up m) states.Down request answers.SystemError a b
    failed rises = record {
      failed = true;
      cause = risen_cause rises refl;
      answer = of_up m a (λ (c : Condition). answers.SystemError ≡ (turn_between true a.reads c request).answer) (λ on. refl);
      then = of_up m a (λ (c : Condition). StateMatches states.Down (turn_between true a.reads c request).condition b)
          (λ on images may. one_of_two (site_of m) (step (site_of m) request).site images (stop.within.images images may));
      within = within_down;
      idle = idles;
    }

-- and one while there is no site
down_within : (request : Request) (a : View) (c : Condition) → StateMatches states.Down c a → WithinAll (AreBeforeOrAfter c (turn_between false a.reads c request)) a a
down_within request a c is = starts_all (AreBeforeOrAfter c (turn_between false a.reads c request)) a (λ images may. inl (images_in states.Down c a is images may))

pub refused : (request : Request) (a : View) → request ≢ Boot → HasTurned states.Down states.Down request (down_answer request) a a
refused request a ne = record {
  failed = false;
  cause = steady_cause refl (λ e. cc);
  answer = of_down a (λ (c : Condition). down_answer request ≡ (turn_between false a.reads c request).answer) (λ sites have. ap (λ (t : Turn). t.answer) (sym (down_is false (site_found device_count a.reads) sites request ne)));
  then = of_down a (λ (c : Condition). StateMatches states.Down (turn_between false a.reads c request).condition a)
      (λ sites have. subst (λ (t : Turn). StateMatches states.Down t.condition a) (sym (down_is false (site_found device_count a.reads) sites request ne)) have);
  within = down_within request a;
  idle = λ c is idle. refl;
}
