use Rattle.std.proofs.Common.{refl, sym, subst, arith}
use Rattle.tq_model.specs.declared.answer.Answer.TheVariants as answers
use Rattle.tq_model.specs.declared.answer.SpaceAnswer.TheVariants as space_answers
use Rattle.tq_model.specs.declared.answer.ClusterRoom.{ClusterRoom}
use Rattle.tq_model.specs.Step.{create_space}
use Rattle.tq_coord.specs.Manager.{site_of}
use Rattle.tq_coord.specs.Serving.{IsServed}
use Rattle.tq_devtab.specs.Errors.{IsRefusal}
use Rattle.tq_devtab.specs.InMemory.{part_of}
use Rattle.tq_devtab.specs.Reserved.{space_of}
use Rattle.tq_coord.proofs.MatchLemmas.{stays}
use Rattle.tq_coord.proofs.NewSiteLemmas.{place_in_table, space_answer, space_differs}
use Rattle.tq_coord.proofs.SpaceRefusalLemmas.{allowed_on, not_taken, full_served, lack_served}
use Rattle.tq_coord.proofs.site.Manager.create_space.Goals as goal

pub returns-in-Some-clause-stop : goal.returns-in-Some-clause-stop
returns-in-Some-clause-stop g c = stays _ _ _ c.requires.on

pub returns-in-Err-Taken-clause-served : goal.returns-in-Err-Taken-clause-served
returns-in-Err-Taken-clause-served g c =
    let creation = c.args.creation.now in
    let d = c.in-Some-disk.disk in
    let a = allowed_on creation c.args.self.now c.in_default.ensures.allowed d c.in-Some-disk.is in
    absurd (not_taken creation c.args.self.now a creation.name creation.pages refl refl
    (subst (IsRefusal (part_of d.table) creation.name creation.pages) c.in-Err-Taken.field-0-is c.in-Err-Taken.ensures.refused))

pub returns-in-Err-Taken-clause-stop : goal.returns-in-Err-Taken-clause-stop
returns-in-Err-Taken-clause-stop g c = stays _ _ _ c.requires.on

pub returns-in-Err-TableFull-clause-served : goal.returns-in-Err-TableFull-clause-served
returns-in-Err-TableFull-clause-served g c =
    let creation = c.args.creation.now in
    let d = c.in-Some-disk.disk in
    let a = allowed_on creation c.args.self.now c.in_default.ensures.allowed d c.in-Some-disk.is in
    full_served creation c.args.self.now a creation.name creation.pages refl refl
    (subst (IsRefusal (part_of d.table) creation.name creation.pages) c.in-Err-TableFull.field-0-is c.in-Err-TableFull.ensures.refused) _ c.requires.on

pub returns-in-Err-TableFull-clause-stop : goal.returns-in-Err-TableFull-clause-stop
returns-in-Err-TableFull-clause-stop g c = stays _ _ _ c.requires.on

pub returns-in-Err-Lack-clause-served : goal.returns-in-Err-Lack-clause-served
returns-in-Err-Lack-clause-served g c =
    let creation = c.args.creation.now in
    let m = c.args.self.now in
    let d = c.in-Some-disk.disk in
    let a = allowed_on creation c.args.self.now c.in_default.ensures.allowed d c.in-Some-disk.is in
    subst (λ (r : ClusterRoom). IsServed (create_space creation (site_of m)) m m (g.H.Host.view c.args.host.now) (answers.Space (space_answers.Lack r)))
    (sym c.in-Err-Lack.room-is)
    (lack_served creation c.args.self.now a creation.name creation.pages refl refl c.in-Err-Lack.room
    (subst (IsRefusal (part_of d.table) creation.name creation.pages) c.in-Err-Lack.field-0-is c.in-Err-Lack.ensures.refused) _ c.requires.on)

pub returns-in-Err-Lack-clause-stop : goal.returns-in-Err-Lack-clause-stop
returns-in-Err-Lack-clause-stop g c = stays _ _ _ c.requires.on

pub returns-in-Err-NoMemory-clause-stop : goal.returns-in-Err-NoMemory-clause-stop
returns-in-Err-NoMemory-clause-stop g c = stays _ _ _ c.requires.on

pub returns-in_err-map-clause-stop : goal.returns-in_err-map-clause-stop
returns-in_err-map-clause-stop g c = stays _ _ _ c.requires.on

pub enter_space-requires-clause-place : goal.enter_space-requires-clause-place
enter_space-requires-clause-place g c =
    let a = c.in_default.ensures.allowed in
    let r = c.in-Ok.ensures in
    place_in_table c.args.creation.now c.args.self.now a c.in-Some-disk.disk c.in-Some-disk.is (space_of c.in-Ok.reserved) r.reserved r.name r.pages

-- a space that is made does not leave alone what lasts
pub returns-in_err-enter_space-clause-idle : goal.returns-in_err-enter_space-clause-idle
returns-in_err-enter_space-clause-idle g c = λ same.
    let m = c.args.self.now in
    let n = space_of c.in-Ok.reserved in
    let r = c.in-Ok.ensures in
    let place = place_in_table c.args.creation.now m c.in_default.ensures.allowed c.in-Some-disk.disk c.in-Some-disk.is n r.reserved r.name r.pages in
    absurd (space_differs c.args.creation.now m n place same)

pub returns-clause-served : goal.returns-clause-served
returns-clause-served g c =
    let m = c.args.self.now in
    let n = space_of c.in-Ok.reserved in
    let r = c.in-Ok.ensures in
    let place = place_in_table c.args.creation.now m c.in_default.ensures.allowed c.in-Some-disk.disk c.in-Some-disk.is n r.reserved r.name r.pages in
    record {
      answer = space_answer c.args.creation.now m n place c.ordinal-number.result c.ordinal-number.ensures c.pages_of-pages.result c.pages_of-pages.ensures;
      site = c.in_ok-enter_space.ensures.site;
      next = omega (arith, c.in_ok-enter_space.ensures.next);
      images = c.in_ok-enter_space.ensures.images;
    }

pub returns-clause-idle : goal.returns-clause-idle
returns-clause-idle g c = λ same.
    let m = c.args.self.now in
    let n = space_of c.in-Ok.reserved in
    let r = c.in-Ok.ensures in
    let place = place_in_table c.args.creation.now m c.in_default.ensures.allowed c.in-Some-disk.disk c.in-Some-disk.is n r.reserved r.name r.pages in
    absurd (space_differs c.args.creation.now m n place same)
