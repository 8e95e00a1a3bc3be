use Rattle.std.proofs.Common.{◌≡◌, Some, None, get_or, set, refl, sym, ◌∙◌, subst}
use Rattle.tq_model.specs.Reading.{NamedSpace}
use Rattle.tq_devtab.specs.InMemory.{part_of}
use Rattle.tq_devtab.specs.Volume.{TablePart}
use Rattle.tq_coord.specs.Manager.{site_of, files_of}
use Rattle.tq_coord.specs.Serving.{ChangesOnce}
use Rattle.tq_coord.specs.Spaces.{entry_dropped}
use Rattle.tq_coord.specs.Together.{IsTogether}
use Rattle.tq_coord.proofs.MatchLemmas.{tables_on}
use Rattle.tq_coord.proofs.DroppedEntryLemmas.{entry_on, entry_there, together_less, dropping, dropped}
use Rattle.tq_coord.proofs.site.Manager.drop_entry.Given.{Over}
use Rattle.tq_coord.proofs.site.Manager.drop_entry.Goals as goal
use Rattle.tq_coord.proofs.site.Manager.drop_entry.Goals.{In-Some, After-drop_space}

entry : (g : Over) (c : In-Some g) → (n : NamedSpace) × ((get_or (part_of c.in-Some.disk.table).entries c.args.index None ≡ Some n) ×
    (n.ordinal ≡ c.args.ordinal))
entry g c = entry_on c.args.self.now c.args.index c.args.ordinal c.in-Some.disk c.requires.there (sym c.take.ensures.value ∙ c.in-Some.is)

pub drop_space-requires-clause-there : goal.drop_space-requires-clause-there
drop_space-requires-clause-there g c =
    let n = entry g (goal.at.drop_space-requires-clause-there g c).In-Some in
    entry_there c.in-Some.disk c.args.index c.args.ordinal n.0 n.1.0 n.1.1

stops : (g : Over) (c : After-drop_space g)
    → ChangesOnce (entry_dropped c.args.index (site_of c.args.self.now)) c.args.self.now (g.H.Host.view c.args.host.now) (g.H.Host.view c.drop_space.new.host)
stops g c =
    let m = c.args.self.now in
    let d = c.in-Some.disk in
    let there = sym c.take.ensures.value ∙ c.in-Some.is in
    let old = g.H.Host.view c.args.host.now in
    let n = entry g (goal.at.After-drop_space g c).In-Some in
    dropping d c.args.index c.args.ordinal n.0 n.1.0 n.1.1 m there old (g.H.Host.view c.drop_space.new.host) c.requires.on c.drop_space.ensures.rest
    (c.drop_space.ensures.stop (tables_on m d there old c.requires.on))

pub returns-in_err-drop_space-clause-stop : goal.returns-in_err-drop_space-clause-stop
returns-in_err-drop_space-clause-stop g c = stops g (goal.at.returns-in_err-drop_space-clause-stop g c).After-drop_space

pub invariant_of-t-29-clause-fit : goal.invariant_of-t-29-clause-fit
invariant_of-t-29-clause-fit g c =
    let n = entry g (goal.at.invariant_of-t-29-clause-fit g c).In-Some in
    let d = c.in-Some.disk in
    subst (λ (t : TablePart). IsTogether 0 t (set (files_of d) c.args.index None)) (sym c.in_ok-drop_space.ensures.part)
    (together_less d c.args.index c.args.ordinal n.0 n.1.0 n.1.1)

pub returns-clause-dropped : goal.returns-clause-dropped
returns-clause-dropped g c =
    let m = c.args.self.now in
    let d = c.in-Some.disk in
    let there = sym c.take.ensures.value ∙ c.in-Some.is in
    let old = g.H.Host.view c.args.host.now in
    let tables = tables_on m d there old c.requires.on in
    let n = entry g (goal.at.returns-clause-dropped g c).In-Some in
    dropped d c.args.index c.args.ordinal n.0 n.1.0 n.1.1 m there _ c.in_ok-drop_space.ensures.part refl refl _ refl refl old
    (g.H.Host.view c.drop_space.new.host) c.requires.on
    (c.drop_space.ensures.stop tables) c.drop_space.ensures.dev (c.in_ok-drop_space.ensures.images tables)

pub returns-clause-stop : goal.returns-clause-stop
returns-clause-stop g c = stops g (goal.at.returns-clause-stop g c).After-drop_space
