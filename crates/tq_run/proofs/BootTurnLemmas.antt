-- What a boot within a run leaves, and what it is answered.
use Rattle.std.proofs.Common.{◌≡◌, ◌⊎◌, inl, inr, ⊎_elim, zero, suc, List, [], ◌∷◌, ◌++◌, Option, Some, Bool, true, false, cond, refl, sym, ◌∙◌, ap, subst, arith}
use Rattle.std.specs.Prelude.{Any, filter, map, option_map}
use Rattle.tq_host.specs.View.{Told, TellsAll, View, Images, AreNow, IsLawful}
use Rattle.tq_host.specs.Within.{WithinAll}
use Rattle.tq_host.proofs.AllDevices.{weaker_all}
use Rattle.tq_model.specs.declared.answer.Answer.TheVariants as answers
use Rattle.tq_model.specs.declared.request.Request.TheVariants.{Boot}
use Rattle.tq_model.specs.Site.{Site, durable}
use Rattle.tq_model.specs.Step.{Outcome, can_boot, booted, boot, ready, with_next_epoch}
use Rattle.tq_model.specs.Reading.{site_found}
use Rattle.tq_model.specs.MachineWithFaults.{Condition, Up, Down, Turn, boot_turn, reboot_turn, HaveSite, turn_at}
use Rattle.tq_model.proofs.Images.{found_durable}
use Rattle.tq_coord.specs.declared.site.Manager.{Manager}
use Rattle.tq_run.specs.declared.state.State.{State}
use Rattle.tq_run.specs.declared.state.State.TheVariants as states
use Rattle.tq_coord.specs.Counts.{Rises}
use Rattle.tq_run.specs.Idle.{IsIdle}
use Rattle.tq_coord.specs.Manager.{site_of, is_bootable, IsBooted}
use Rattle.tq_coord.specs.Images.{ImagesHave, ImagesHaveAny, AreOldOrBooted, ImagesMatch}
use Rattle.tq_run.specs.Turns.{AreInCondition, turn_between, AreBeforeOrAfter}
use Rattle.tq_run.specs.Standing.{StateMatches, HasTurned, IsTurning}
use Rattle.tq_coord.specs.Frame.{device_count}
use Rattle.tq_run.proofs.CountLemmas.{some_is, steady_cause, risen_cause}
use Rattle.tq_coord.proofs.ImageLemmas.{found_have}
use Rattle.tq_run.proofs.RespondLemmas.{images_in}

-- Some element of a list

module _ {X : Type 0} (P : X → Type 0) where
  any_first : (x : X) (xs : List X) → P x → Any P (x ∷ xs)
  any_first x xs p = (0, x, omega arith, refl, p)

  any_later : (x : X) (xs : List X) → Any P xs → Any P (x ∷ xs)
  any_later x xs (k, y, below, at, p) = (suc k, y, omega (arith, below), at, p)

  any_split : (x : X) (xs : List X) → Any P (x ∷ xs) → P x ⊎ Any P xs
  any_split x xs (zero, y, below, at, p) = inl (subst P (sym at) p)
  any_split x xs (suc k, y, below, at, p) = inr (k, y, omega (arith, below), at, p)

  any_none : Any P [] → ⊥
  any_none (k, y, below, at, p) = omega (arith, below)

  any_ahead : (xs ys : List X) → Any P xs → Any P (xs ++ ys)
  any_ahead [] ys any = absurd (any_none any)
  any_ahead (x ∷ xs) ys any = ⊎_elim (λ p. any_first x (xs ++ ys) p) (λ more. any_later x (xs ++ ys) (any_ahead xs ys more)) (any_split x xs any)

  any_behind : (xs ys : List X) → Any P ys → Any P (xs ++ ys)
  any_behind [] ys any = any
  any_behind (x ∷ xs) ys any = any_later x (xs ++ ys) (any_behind xs ys any)

-- what is made of those that pass
any_made : {X Y : Type 0} (f : X → Y) (test : X → Bool) (P : X → Type 0) (Q : Y → Type 0) (xs : List X) → ((x : X) → P x → (test x ≡ true) × Q (f x)) → Any P xs → Any Q (map f (filter test xs))
any_made f test P Q [] to any = absurd (any_none P any)
any_made f test P Q (x ∷ xs) to any = ⊎_elim (λ p. here (to x p)) (λ more. later (test x) (any_made f test P Q xs to more)) (any_split P x xs any)
  where
    here : (test x ≡ true) × Q (f x) → Any Q (map f (filter test (x ∷ xs)))
    here (passes, q) = subst (λ (b : Bool). Any Q (map f (cond b (x ∷ filter test xs) (filter test xs)))) (sym passes) (any_first Q (f x) (map f (filter test xs)) q)

    later : (b : Bool) → Any Q (map f (filter test xs)) → Any Q (map f (cond b (x ∷ filter test xs) (filter test xs)))
    later true more = any_later Q (f x) (map f (filter test xs)) more
    later false more = more

-- Conditions

-- the sites for which the devices may stand
abbrev pub sites_in : Condition → List Site
sites_in (Up s) = s ∷ []
sites_in (Down sites) = sites

pub stand_in : (c : Condition) (images : Images) → AreInCondition c images → ImagesHaveAny (sites_in c) images
stand_in (Up s) images stands = any_first (HaveSite device_count images) s [] stands
stand_in (Down sites) images any = any

pub stand_for : (c : Condition) (images : Images) → ImagesHaveAny (sites_in c) images → AreInCondition c images
stand_for (Up s) images any = ⊎_elim (λ stands. stands) (λ none. absurd (any_none (HaveSite device_count images) none)) (any_split (HaveSite device_count images) s [] any)
stand_for (Down sites) images any = any

-- Boots of one site

abbrev raised : Site → Site
raised d = record d { identity = option_map with_next_epoch d.identity }

abbrev outcome_from : Bool → Site → Outcome
outcome_from raisable d = cond raisable (record { site = raised d; answer = ready (raised d) }) (record { site = d; answer = answers.Damaged 0 })

abbrev turn_from : Bool → Site → Turn
turn_from raisable d = let outcome = outcome_from raisable d in record { condition = cond raisable (Up outcome.site) (Down (outcome.site ∷ [])); answer = outcome.answer }

abbrev pub up_turn : Site → Turn
up_turn s = record { condition = Up (booted s); answer = ready (booted s) }

abbrev damaged_turn : Site → Turn
damaged_turn s = record { condition = Down (durable s ∷ []); answer = answers.Damaged 0 }

pub turn_up : (s : Site) → can_boot s ≡ true → boot_turn s ≡ up_turn s
turn_up s raisable = ap (λ (b : Bool). turn_from b (durable s)) raisable

turn_damaged : (s : Site) → can_boot s ≡ false → boot_turn s ≡ damaged_turn s
turn_damaged s lost = ap (λ (b : Bool). turn_from b (durable s)) lost

pub site_up : (s : Site) → can_boot s ≡ true → (boot s).site ≡ booted s
site_up s raisable = ap (λ (b : Bool). (outcome_from b (durable s)).site) raisable

-- images stand for a site, which is found there without what a crash takes
module _ (images : Images) (found s : Site) (is : site_found device_count images ≡ Some found) (stands : ImagesHave s images) where
  same : found ≡ durable s
  same = some_is found (durable s) (sym is ∙ stands)

  same_durable : durable found ≡ durable s
  same_durable = found_durable device_count images found is ∙ same

  same_raisable : can_boot found ≡ can_boot s
  same_raisable = ap can_boot same

  same_booted : booted found ≡ booted s
  same_booted = ap raised same_durable

  same_turn : boot_turn found ≡ boot_turn s
  same_turn = ap (λ (b : Bool). turn_from b (durable found)) same_raisable ∙ ap (λ (d : Site). turn_from (can_boot s) d) same_durable

-- Turns

-- no device failed
quiet_turn : (c : Condition) (images : Images) (found : Site) → site_found device_count images ≡ Some found → AreInCondition c images → turn_between false images c Boot ≡ boot_turn found
quiet_turn (Up s) images found is stands = sym (same_turn images found s is stands)
quiet_turn (Down sites) images found is stands = ap (λ (o : Option Site). reboot_turn false o sites) is

-- one did
rose_answer : (c : Condition) (found : Option Site) → (turn_at true found c Boot).answer ≡ answers.SystemError
rose_answer (Up s) found = refl
rose_answer (Down sites) found = refl

-- images after that, by what was read before
rose_images : (c : Condition) (reads : Images) (found : Site) (o : Option Site) (images : Images) → site_found device_count reads ≡ Some found → AreInCondition c reads → AreOldOrBooted (sites_in c) found images → AreInCondition (turn_at true o c Boot).condition images
rose_images (Up s) reads found o images is stands =
    ⊎_elim
    (λ old. any_first (HaveSite device_count images) (durable s) (durable (boot s).site ∷ []) (found_have images (durable s) (stand_for (Up s) images old)))
    (λ (raisable, new).
    let made : booted found ≡ (boot s).site = same_booted reads found s is stands ∙ sym (site_up s (sym (same_raisable reads found s is stands) ∙ raisable)) in
    let on : ImagesHave (boot s).site images = subst (λ (x : Site). ImagesHave x images) made new in
    any_later (HaveSite device_count images) (durable s) (durable (boot s).site ∷ []) (any_first (HaveSite device_count images) (durable (boot s).site) [] (found_have images (durable (boot s).site) on)))
rose_images (Down sites) reads found o images is stands =
    ⊎_elim
    (any_ahead (HaveSite device_count images) sites (map booted (filter can_boot sites)))
    (λ (raisable, new). any_behind (HaveSite device_count images) sites (map booted (filter can_boot sites))
    (any_made booted can_boot (HaveSite device_count reads) (HaveSite device_count images) sites
    (λ s on. (sym (same_raisable reads found s is on) ∙ raisable, subst (λ (x : Site). ImagesHave x images) (same_booted reads found s is on) new)) stands))

-- and the state in memory is down
rose_in : (c : Condition) (o : Option Site) (v : View) → ((images : Images) → AreNow v images → AreInCondition (turn_at true o c Boot).condition images) → StateMatches states.Down (turn_at true o c Boot).condition v
rose_in (Up s) o v are = are
rose_in (Down sites) o v are = are

-- a boot is no idle line
not_idle : (c : Condition) {A : Type 0} → IsIdle c Boot → A
not_idle (Up s) idle = absurd (idle.0 refl)
not_idle (Down sites) idle = absurd (idle refl)

-- A boot

module _ {tells : Told} (t : TellsAll tells) (old new : View) (lawful : IsLawful tells old) (state : State) where
  module _ (c : Condition) (is : StateMatches state c old) where
    read_is : AreInCondition c old.reads
    read_is = images_in state c old is old.reads (lawful.reads_an_image t.stops)

    -- what is read stands for one of the sites
    found_is : (s : Site) × ImagesHave s old.reads
    found_is = let (k, s, below, at, on) = stand_in c old.reads read_is in (s, on)

    found : Site
    found = durable found_is.0

    is_found : site_found device_count old.reads ≡ Some found
    unfolding found
    is_found = found_is.1

    turn_is : turn_between false old.reads c Boot ≡ boot_turn found
    turn_is = quiet_turn c old.reads found is_found read_is

    -- the site is in memory
    is_up : (m : Manager) → IsBooted m old new → turn_between false old.reads c Boot ≡ record { condition = Up (site_of m); answer = ready (site_of m) }
    is_up m boot =
        let same : boot.found ≡ found = some_is boot.found found (sym boot.stood ∙ is_found) in
        turn_is ∙ turn_up found (ap can_boot (sym same) ∙ boot.raisable) ∙ ap (λ (s : Site). record { condition = Up s; answer = ready s }) (ap booted (sym same) ∙ sym boot.site)

    -- the last epoch stands
    is_damaged : is_bootable (site_found device_count old.reads) ≡ false → turn_between false old.reads c Boot ≡ damaged_turn found
    is_damaged lost = turn_is ∙ turn_damaged found (ap is_bootable (sym is_found) ∙ lost)

    damaged_in : is_bootable (site_found device_count old.reads) ≡ false → ((images : Images) → AreNow new images → site_found device_count images ≡ site_found device_count old.reads)
        → StateMatches states.Down (turn_between false old.reads c Boot).condition new
    damaged_in lost settled =
        subst (λ (u : Turn). StateMatches states.Down u.condition new) (sym (is_damaged lost))
        (λ images may. any_first (HaveSite device_count images) (durable found) [] (found_have images (durable found) (found_have images found (settled images may ∙ is_found))))

    failed_images : (images : Images) → AreOldOrBooted (sites_in c) found images → AreInCondition (turn_between true old.reads c Boot).condition images
    failed_images images = rose_images c old.reads found (site_found device_count old.reads) images is_found read_is

  module _ (boots : (sites : List Site) → ((images : Images) → AreNow old images → ImagesHaveAny sites images) → (s : Site) → site_found device_count old.reads ≡ Some s → WithinAll (AreOldOrBooted sites s) old new) where
    within : (c : Condition) (is : StateMatches state c old) → WithinAll (AreOldOrBooted (sites_in c) (found c is)) old new
    within c is = boots (sites_in c) (λ images may. stand_in c images (images_in state c old is images may)) (found c is) (is_found c is)

    -- the pictures where no device failed
    quiet_within : (c : Condition) → StateMatches state c old → WithinAll (AreBeforeOrAfter c (turn_between false old.reads c Boot)) old new
    quiet_within c is =
        weaker_all (AreOldOrBooted (sites_in c) (found c is)) (AreBeforeOrAfter c (turn_between false old.reads c Boot)) old new (λ images. ⊎_elim
        (λ before. inl (stand_for c images before))
        (λ (raisable, on). inr (subst (λ (u : Turn). AreInCondition u.condition images) (sym (turn_is c is ∙ turn_up (found c is) raisable)) on))) (within c is)

    -- and where one did
    failed_within : (c : Condition) → StateMatches state c old → WithinAll (AreBeforeOrAfter c (turn_between true old.reads c Boot)) old new
    failed_within c is =
        weaker_all (AreOldOrBooted (sites_in c) (found c is)) (AreBeforeOrAfter c (turn_between true old.reads c Boot)) old new (λ images has. inr (failed_images c is images has)) (within c is)

    pub quiet_stop : new.faults ≡ old.faults → IsTurning state Boot old new
    quiet_stop quiet = record { failed = false; cause = steady_cause quiet (λ e. cc); within = quiet_within }

    -- up again
    pub booted_turn : new.faults ≡ old.faults → (m : Manager) → IsBooted m old new → ImagesMatch m new → HasTurned state (states.Up m) Boot (ready (site_of m)) old new
    booted_turn quiet m boot on = record {
      failed = false;
      cause = steady_cause quiet (λ e. cc);
      answer = λ c is. sym (ap (λ (u : Turn). u.answer) (is_up c is m boot));
      then = λ c is. subst (λ (u : Turn). StateMatches (states.Up m) u.condition new) (sym (is_up c is m boot)) (record { site = refl; on = on });
      within = quiet_within;
      idle = λ c is. not_idle c;
    }

    -- down at the last epoch
    pub damaged_turned : new.faults ≡ old.faults → is_bootable (site_found device_count old.reads) ≡ false → ((images : Images) → AreNow new images → site_found device_count images ≡ site_found device_count old.reads)
        → HasTurned state states.Down Boot (answers.Damaged 0) old new
    damaged_turned quiet lost settled = record {
      failed = false;
      cause = steady_cause quiet (λ e. cc);
      answer = λ c is. sym (ap (λ (u : Turn). u.answer) (is_damaged c is lost));
      then = λ c is. damaged_in c is lost settled;
      within = quiet_within;
      idle = λ c is. not_idle c;
    }

    -- the device failed
    pub failed_turn : Rises old.faults new.faults → HasTurned state states.Down Boot answers.SystemError old new
    failed_turn rises = record {
      failed = true;
      cause = risen_cause rises refl;
      answer = λ c is. sym (rose_answer c (site_found device_count old.reads));
      then = λ c is. rose_in c (site_found device_count old.reads) new (λ images may. failed_images c is images ((within c is).images images may));
      within = failed_within;
      idle = λ c is. not_idle c;
    }
