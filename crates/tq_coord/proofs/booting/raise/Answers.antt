use Rattle.std.proofs.Common.{◌<◌, ℕ, inl, refl, subst, rules}
use Rattle.tq_host.specs.View.{IsSettled}
use Rattle.tq_host.specs.Within.{KeepsRest}
use Rattle.tq_host.proofs.AllDevices.{starts_all}
use Rattle.tq_model.specs.Site.{last_epoch}
use Rattle.tq_devtab.proofs.PictureLemmas.{settled_has}
use Rattle.tq_site.specs.InMemory.{IsJournalOf}
use Rattle.tq_site.specs.Journal.{IsSameButJournal}
use Rattle.tq_coord.specs.Manager.{epoch_of}
use Rattle.tq_coord.proofs.FoundLemmas.{loaded_have}
use Rattle.tq_coord.proofs.FrameLemmas.{others_of_call}
use Rattle.tq_coord.proofs.RaisedEpochLemmas.{IsNextOf, booted_next, found_or_booted, raised_has, raising}
use Rattle.tq_coord.proofs.booting.raise.Goals as goal

pub returns-then-epoch-clause-stop : goal.returns-then-epoch-clause-stop
returns-then-epoch-clause-stop g c = λ loaded. starts_all _ _ (λ images may. inl (loaded_have c.args.disk images (loaded (images 0) (may 0))))

pub returns-in_err-raise_epoch-clause-stop : goal.returns-in_err-raise_epoch-clause-stop
returns-in_err-raise_epoch-clause-stop g c = λ loaded. found_or_booted c.args.disk _ _ loaded c.raise_epoch.ensures.stop (search rules)

pub returns-in_err-raise_epoch-clause-others : goal.returns-in_err-raise_epoch-clause-others
returns-in_err-raise_epoch-clause-others g c = λ loaded.
    let a = g.H.Host.view c.args.host.now in
    let b = g.H.Host.view c.raise_epoch.new.host in
    let d = c.args.disk in
    others_of_call _ _ _ _ (raising d _ _ loaded c.raise_epoch.ensures.stop) (subst (λ (dev : ℕ). KeepsRest dev a b) d.journal_dev c.raise_epoch.ensures.rest)

pub returns-clause-raised : goal.returns-clause-raised
returns-clause-raised g c = λ told.
    let a = g.H.Host.view c.args.host.now in
    let b = g.H.Host.view c.raise_epoch.new.host in
    let d = c.args.disk in
    let loaded = c.requires.holds told in
    let below : epoch_of d < last_epoch = search rules in
    let next : IsNextOf d _ = record { table = refl; files = refl; epoch = c.in_ok-raise_epoch.ensures.epoch } in
    let beside = subst (λ (dev : ℕ). IsSameButJournal dev (a.reads dev) (b.reads dev)) d.journal_dev (c.in_ok-raise_epoch.ensures.outside told) in
    let journal =
    subst (λ (dev : ℕ). IsJournalOf d.journal (a.reads dev) → IsJournalOf c.raise_epoch.new.self (b.reads dev)) d.journal_dev
    (c.in_ok-raise_epoch.ensures.raised told) loaded.journal in
    record { below = below; site = booted_next d _ (a.reads 0) next loaded; stands = raised_has d _ (a.reads 0) (b.reads 0) next loaded beside journal }

pub returns-clause-stop : goal.returns-clause-stop
returns-clause-stop g c = λ loaded. found_or_booted c.args.disk _ _ loaded c.raise_epoch.ensures.stop (search rules)

pub returns-clause-on : goal.returns-clause-on
returns-clause-on g c = λ loaded.
    let b = g.H.Host.view c.raise_epoch.new.host in
    let settled = subst (λ (dev : ℕ). IsSettled dev b) c.args.disk.journal_dev c.in_ok-raise_epoch.ensures.settled in
    settled_has _ 0 b (g.met.H.Host.lawful c.raise_epoch.new.host) settled (λ told. (returns-clause-raised g c told).stands)

pub returns-clause-others : goal.returns-clause-others
returns-clause-others g c = λ loaded.
    let a = g.H.Host.view c.args.host.now in
    let b = g.H.Host.view c.raise_epoch.new.host in
    let d = c.args.disk in
    others_of_call _ _ _ _ (raising d _ _ loaded c.raise_epoch.ensures.stop) (subst (λ (dev : ℕ). KeepsRest dev a b) d.journal_dev c.raise_epoch.ensures.rest)
