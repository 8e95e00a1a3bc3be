use Rattle.std.proofs.Common.{◌≡◌, ◌∙◌, ◌++◌, ◌∷◌, [], ℕ, List, Option, None, Err, get_or, sym, subst, arith, rules}
use Rattle.tq_extent.proofs.ReadOnlyLemmas.{quiet_on}
use Rattle.tq_devtab.specs.InMemory.{part_of, IsTableOf}
use Rattle.tq_site.specs.Journal.{HasEpoch}
use Rattle.tq_spacefile.specs.declared.file.SpaceFile.{SpaceFile}
use Rattle.tq_coord.specs.declared.failure.BootFailure.TheVariants as boots
use Rattle.tq_coord.specs.Manager.{IsFileAt}
use Rattle.tq_coord.specs.Together.{IsFileOf}
use Rattle.tq_coord.proofs.EntryLemmas.{each_more, each_entry}
use Rattle.tq_coord.proofs.ImageLemmas.{same_found}
use Rattle.tq_coord.proofs.booting.load_files.Goals as goal

pub load_entry-requires-clause-holds : goal.load_entry-requires-clause-holds
load_entry-requires-clause-holds g c = λ told. subst (IsTableOf c.args.table.now) (sym (c.loop-index.invariant.quiet.still.reads 0)) (c.requires.holds told)

pub load_entry-requires-clause-epoch : goal.load_entry-requires-clause-epoch
load_entry-requires-clause-epoch g c = λ told. subst (HasEpoch c.args.epoch) (sym (c.loop-index.invariant.quiet.still.reads 0)) (c.requires.epoch told)

pub returns-in_err-file-clause-damaged : goal.returns-in_err-file-clause-damaged
returns-in_err-file-clause-damaged g c = λ e told.
    let start = (g.H.Host.view c.args.host.now).reads in
    let mid = (g.H.Host.view c.loop-index.host).reads in
    let failed : c.load_entry.result ≡ Err boots.Damaged = search rules in
    same_found start mid (sym (c.loop-index.invariant.quiet.still.reads 0)) ∙ c.load_entry.ensures.damaged failed told

pub returns-in_err-file-clause-quiet : goal.returns-in_err-file-clause-quiet
returns-in_err-file-clause-quiet g c = quiet_on 0 (g.H.Host.view c.args.host.now) (g.H.Host.view c.loop-index.host) (g.H.Host.view c.load_entry.new.host) c.loop-index.invariant.quiet c.load_entry.ensures.quiet

pub returns-then-is_err-clause-quiet : goal.returns-then-is_err-clause-quiet
returns-then-is_err-clause-quiet g c = quiet_on 0 (g.H.Host.view c.args.host.now) (g.H.Host.view c.loop-index.host) (g.H.Host.view c.load_entry.new.host) c.loop-index.invariant.quiet c.load_entry.ensures.quiet

pub loop-index-preserved : goal.loop-index-preserved
loop-index-preserved g c =
    let inv = c.loop-index.invariant in
    let t = part_of c.args.table.now in
    let files = c.loop-index.files.items in
    let file = c.in_ok-file.file in
    let i = c.loop-index.index in
    let start = g.H.Host.view c.args.host.now in
    let mid = g.H.Host.view c.loop-index.host in
    let pushed : c.push.new.self.items ≡ files ++ file ∷ [] = search rules in
    record {
      count = search rules;
      fit = λ k lt. subst (λ (l : List (Option SpaceFile)). IsFileOf 0 t (get_or t.entries k None) (get_or l k None)) (sym pushed)
          (each_more (λ j f. IsFileOf 0 t (get_or t.entries j None) f) files i file inv.count inv.fit c.in_ok-file.ensures.fit k lt);
      loaded = λ told k lt. subst (λ (l : List (Option SpaceFile)). IsFileAt t c.args.epoch (get_or t.entries k None) (get_or l k None) (start.reads 0)) (sym pushed)
          (each_more (λ j f. IsFileAt t c.args.epoch (get_or t.entries j None) f (start.reads 0)) files i file inv.count (inv.loaded told)
          (subst (λ (l : List ℕ). IsFileAt t c.args.epoch (get_or t.entries i None) file l) (inv.quiet.still.reads 0) (c.in_ok-file.ensures.loaded told)) k lt);
      quiet = quiet_on 0 start mid (g.H.Host.view c.load_entry.new.host) inv.quiet c.load_entry.ensures.quiet;
      faults = search rules;
    }

pub returns-clause-loaded : goal.returns-clause-loaded
returns-clause-loaded g c = λ told.
    let t = c.args.table.now in
    let image = (g.H.Host.view c.args.host.now).reads 0 in
    let inv = c.loop-index.invariant in
    each_entry (λ n f. IsFileAt (part_of t) c.args.epoch n f image) t c.loop-index.files.items c.loop-index.index tt inv.count (omega (arith, c.loop-index-test.false)) (inv.loaded told)
