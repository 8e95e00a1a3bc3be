use Rattle.std.proofs.Common.{◌≡◌, ◌∙◌, ℕ, Result, Err, refl, sym, ap, subst, rules}
use Rattle.std.specs.Result.{IsErrAnd}
use Rattle.tq_extent.proofs.ReadOnlyLemmas.{quiet_on}
use Rattle.tq_devtab.specs.InMemory.{part_of, IsTableOf}
use Rattle.tq_site.specs.Journal.{HasEpoch}
use Rattle.tq_site.specs.declared.error.JournalError.{JournalError}
use Rattle.tq_site.specs.declared.error.JournalError.TheVariants as journals
use Rattle.tq_coord.specs.declared.failure.BootFailure.{BootFailure}
use Rattle.tq_coord.specs.declared.failure.BootFailure.TheVariants as boots
use Rattle.tq_coord.specs.declared.site.Disk.{Disk}
use Rattle.tq_coord.specs.Counts.{boot_failure_of_journal}
use Rattle.tq_coord.specs.Manager.{AreFilesAt}
use Rattle.tq_coord.proofs.FoundLemmas.{damaged_journal}
use Rattle.tq_coord.proofs.ImageLemmas.{same_found}
use Rattle.tq_coord.proofs.booting.load_disk.Goals as goal

damaged_error : (e : JournalError) → boot_failure_of_journal e ≡ boots.Damaged → e ≡ journals.Damaged
damaged_error journals.Damaged is = refl
damaged_error journals.NoMemory is = absurd (cc)
damaged_error journals.Device is = absurd (cc)

pub load-requires-clause-size : goal.load-requires-clause-size
load-requires-clause-size g c = λ told. (c.requires.holds told).has.size

pub returns-in_err-journal-clause-damaged : goal.returns-in_err-journal-clause-damaged
returns-in_err-journal-clause-damaged g c = λ e told.
    let error = c.in_err-journal.field-0.0 in
    let gave : boots.Damaged ≡ boot_failure_of_journal error = subst (λ (r : Result Disk BootFailure). IsErrAnd r (λ x. x ≡ boot_failure_of_journal error)) e c.from_residual.ensures.1 in
    let failed : c.load.result ≡ Err journals.Damaged = c.in_err-journal.was ∙ ap (λ (x : JournalError). Err x) (damaged_error error (sym gave)) in
    damaged_journal (g.H.Host.view c.args.host.now).reads (c.requires.holds told).has.size (c.load.ensures.damaged failed told)

pub load_files-requires-clause-holds : goal.load_files-requires-clause-holds
load_files-requires-clause-holds g c = λ told. subst (IsTableOf c.args.table) (sym (c.load.ensures.quiet.still.reads 0)) (c.requires.holds told)

pub returns-in_err-files-clause-damaged : goal.returns-in_err-files-clause-damaged
returns-in_err-files-clause-damaged g c = λ e told.
    let start = (g.H.Host.view c.args.host.now).reads in
    let mid = (g.H.Host.view c.load.new.host).reads in
    let failed : c.load_files.result ≡ Err boots.Damaged = search rules in
    same_found start mid (sym (c.load.ensures.quiet.still.reads 0)) ∙ c.load_files.ensures.damaged failed told

pub returns-in_err-files-clause-quiet : goal.returns-in_err-files-clause-quiet
returns-in_err-files-clause-quiet g c = quiet_on 0 (g.H.Host.view c.args.host.now) (g.H.Host.view c.load.new.host) (g.H.Host.view c.load_files.new.host) c.load.ensures.quiet c.load_files.ensures.quiet

pub returns-clause-quiet : goal.returns-clause-quiet
returns-clause-quiet g c = quiet_on 0 (g.H.Host.view c.args.host.now) (g.H.Host.view c.load.new.host) (g.H.Host.view c.load_files.new.host) c.load.ensures.quiet c.load_files.ensures.quiet

pub load_files-requires-clause-epoch : goal.load_files-requires-clause-epoch
load_files-requires-clause-epoch g c = λ told.
    let read = (g.H.Host.view c.args.host.now).reads 0 in
    subst (HasEpoch c.epoch.result) (sym (c.load.ensures.quiet.still.reads 0))
    (subst (λ (n : ℕ). HasEpoch n read) (sym c.epoch.ensures.epoch) (c.in_ok-journal.ensures.loaded told).has)

pub returns-clause-loaded : goal.returns-clause-loaded
returns-clause-loaded g c = λ told.
    let t = part_of c.args.table in
    let files = c.in_ok-files.files.items in
    let read = (g.H.Host.view c.args.host.now).reads 0 in
    record {
      table = c.requires.holds told;
      journal = c.in_ok-journal.ensures.loaded told;
      files = subst (λ (n : ℕ). AreFilesAt t n files read) c.epoch.ensures.epoch
          (subst (AreFilesAt t c.epoch.result files) (c.load.ensures.quiet.still.reads 0) (c.in_ok-files.ensures.loaded told));
    }
