use Rattle.std.proofs.Common.{◌≡◌, ◌≤◌, inl, inr, ◌∙◌, List, ℕ, Option, Result, Some, Err, true, false, refl, subst, ap, sym, arith}
use Rattle.std.specs.Result.{IsErrAnd}
use Rattle.std.proofs.lemmas.Bool.{cases_lt}
use Rattle.std.proofs.lemmas.Result.{err_from_is_err_and}
use Rattle.tq_host.specs.Calls.{HasCauseOf}
use Rattle.tq_extent.specs.Bytes.{reaches}
use Rattle.tq_extent.specs.Clusters.{clusters_of}
use Rattle.tq_extent.specs.Pages.{page_count, AreMappable}
use Rattle.tq_model.specs.Site.{most_pages}
use Rattle.tq_model.specs.Reading.{NamedSpace}
use Rattle.tq_devtab.specs.Table.{entry_view}
use Rattle.tq_devtab.specs.InMemory.{part_of}
use Rattle.tq_devtab.specs.Volume.{HasTable}
use Rattle.tq_spacefile.specs.declared.place.SpacePlace.{SpacePlace}
use Rattle.tq_spacefile.specs.declared.file.SpaceFile.{SpaceFile}
use Rattle.tq_spacefile.specs.declared.fault.FileError.{FileError}
use Rattle.tq_spacefile.specs.declared.fault.FileError.TheVariants as files
use Rattle.tq_spacefile.specs.File.{has_space, IsFile}
use Rattle.tq_coord.specs.declared.failure.BootFailure.{BootFailure}
use Rattle.tq_coord.specs.declared.failure.BootFailure.TheVariants as boots
use Rattle.tq_coord.specs.Counts.{boot_failure_of, CountsBoot}
use Rattle.tq_coord.specs.Manager.{IsFileAt}
use Rattle.tq_coord.proofs.FoundLemmas.{damaged_space}
use Rattle.tq_coord.proofs.EntryLemmas.{entry_at, entry_is, ordinal_most, entry_mappable, entry_enough, entry_reached}
use Rattle.tq_coord.proofs.booting.load_entry.Goals as goal

damaged_file : (e : FileError) → boot_failure_of e ≡ boots.Damaged → e ≡ files.Damaged
damaged_file files.Damaged is = refl
damaged_file files.NoMemory is = absurd (cc)
damaged_file files.Device is = absurd (cc)

counts_file : (r : Result SpaceFile FileError) (e : FileError) (before now : ℕ) → r ≡ Err e → HasCauseOf (r ≡ Err files.Device) before now
    → CountsBoot {T = Option SpaceFile} (Err (boot_failure_of e)) before now
counts_file r files.Device before now is cause = record { later = cause.later; rose = cause.rose is }
counts_file r files.Damaged before now is cause = elim (cases_lt before now) [ inl lt ↦ absurd (let e = cause.only lt in cc) | inr le ↦ omega (arith, cause.later) ]
counts_file r files.NoMemory before now is cause = elim (cases_lt before now) [ inl lt ↦ absurd (let e = cause.only lt in cc) | inr le ↦ omega (arith, cause.later) ]

pub place_of-place-requires : goal.place_of-place-requires
place_of-place-requires g c =
    let t = c.args.table.now in
    let at = entry_at c.entries.result.now (part_of t).entries c.args.index c.index-entries-index.result c.in-Some.entry c.entries.ensures c.requires.within c.index-entries-index.is c.in-Some.is in
    ordinal_most t c.args.index (entry_view c.in-Some.entry) at

pub of-requires : goal.of-requires
of-requires g c =
    let t = c.args.table.now in
    let at = entry_at c.entries.result.now (part_of t).entries c.args.index c.index-entries-index.result c.in-Some.entry c.entries.ensures c.requires.within c.index-entries-index.is c.in-Some.is in
    subst AreMappable (sym c.as_slice.ensures) (entry_mappable t c.args.index (entry_view c.in-Some.entry) at)

pub load-requires-clause-least : goal.load-requires-clause-least
load-requires-clause-least g c =
    let t = c.args.table.now in
    let at = entry_at c.entries.result.now (part_of t).entries c.args.index c.index-entries-index.result c.in-Some.entry c.entries.ensures c.requires.within c.index-entries-index.is c.in-Some.is in
    subst (λ (p : SpacePlace). 1 ≤ p.pages) (sym c.place_of-place.ensures) (entry_is t c.args.index (entry_view c.in-Some.entry) at).pages_least

pub load-requires-clause-most : goal.load-requires-clause-most
load-requires-clause-most g c =
    let t = c.args.table.now in
    let at = entry_at c.entries.result.now (part_of t).entries c.args.index c.index-entries-index.result c.in-Some.entry c.entries.ensures c.requires.within c.index-entries-index.is c.in-Some.is in
    subst (λ (p : SpacePlace). p.pages ≤ most_pages) (sym c.place_of-place.ensures) (entry_is t c.args.index (entry_view c.in-Some.entry) at).pages_most

pub load-requires-clause-enough : goal.load-requires-clause-enough
load-requires-clause-enough g c =
    let t = c.args.table.now in
    let at = entry_at c.entries.result.now (part_of t).entries c.args.index c.index-entries-index.result c.in-Some.entry c.entries.ensures c.requires.within c.index-entries-index.is c.in-Some.is in
    let map = c.in_ok-map-in-Some.ensures ∙ ap clusters_of c.as_slice.ensures in
    subst (λ (p : SpacePlace). p.pages ≤ page_count c.in_ok-map-in-Some.map) (sym c.place_of-place.ensures)
    (subst (λ (l : List ℕ). c.in-Some.entry.pages ≤ page_count l) (sym map) (entry_enough t c.args.index (entry_view c.in-Some.entry) at))

pub load-requires-clause-reach : goal.load-requires-clause-reach
load-requires-clause-reach g c = λ told.
    let t = c.args.table.now in
    let read = (g.H.Host.view c.args.host.now).reads in
    let at = entry_at c.entries.result.now (part_of t).entries c.args.index c.index-entries-index.result c.in-Some.entry c.entries.ensures c.requires.within c.index-entries-index.is c.in-Some.is in
    let map = c.in_ok-map-in-Some.ensures ∙ ap clusters_of c.as_slice.ensures in
    subst (λ (p : SpacePlace). reaches c.in_ok-map-in-Some.map (read p.dev) ≡ true) (sym c.place_of-place.ensures)
    (subst (λ (l : List ℕ). reaches l (read 0) ≡ true) (sym map) (entry_reached t c.args.index (entry_view c.in-Some.entry) at (read 0) (c.requires.holds told)))

pub returns-in_err-file-in-Some-clause-damaged : goal.returns-in_err-file-in-Some-clause-damaged
returns-in_err-file-in-Some-clause-damaged g c = λ e told.
    let t = c.args.table.now in
    let n = entry_view c.in-Some.entry in
    let read = (g.H.Host.view c.args.host.now).reads in
    let at = entry_at c.entries.result.now (part_of t).entries c.args.index c.index-entries-index.result c.in-Some.entry c.entries.ensures c.requires.within c.index-entries-index.is c.in-Some.is in
    let map = c.in_ok-map-in-Some.ensures ∙ ap clusters_of c.as_slice.ensures in
    let error = c.in_err-file-in-Some.field-0.0 in
    let gave : boots.Damaged ≡ boot_failure_of error = subst (λ (r : Result (Option SpaceFile) BootFailure). IsErrAnd r (λ x. x ≡ boot_failure_of error)) e c.from_residual-in_err-file-in-Some.ensures.1 in
    let failed : c.load.result ≡ Err files.Damaged = c.in_err-file-in-Some.was ∙ ap (λ (x : FileError). Err x) (damaged_file error (sym gave)) in
    let table : HasTable 0 (part_of t) (read 0) = subst (λ (place : ℕ). HasTable place (part_of t) (read 0)) c.requires.number (c.requires.holds told).has in
    damaged_space (part_of t) c.args.epoch read table (c.requires.epoch told) c.args.index n at
    (subst (λ (p : SpacePlace). has_space p (clusters_of n.extents) c.args.epoch (read p.dev) ≡ false) c.place_of-place.ensures
    (subst (λ (l : List ℕ). has_space c.place_of-place.result l c.args.epoch (read c.place_of-place.result.dev) ≡ false) map (c.load.ensures.damaged failed told)))

pub returns-in_err-file-in-Some-clause-failed : goal.returns-in_err-file-in-Some-clause-failed
returns-in_err-file-in-Some-clause-failed g c =
    let e = c.in_err-file-in-Some.field-0.0 in
    let before = (g.H.Host.view c.args.host.now).faults in
    let now = (g.H.Host.view c.load.new.host).faults in
    let gave = err_from_is_err_and {Q = λ x. x ≡ boot_failure_of e} c.from_residual-in_err-file-in-Some.result c.from_residual-in_err-file-in-Some.ensures.1 in
    let is = gave.1 ∙ ap (λ (x : BootFailure). Err x) gave.2 in
    subst (λ (r : Result (Option SpaceFile) BootFailure). CountsBoot r before now) (sym is) (counts_file c.load.result e before now c.in_err-file-in-Some.was c.load.ensures.cause)

pub returns-in_ok-file-in-Some-clause-loaded : goal.returns-in_ok-file-in-Some-clause-loaded
returns-in_ok-file-in-Some-clause-loaded g c = λ told.
    let t = c.args.table.now in
    let file = c.in_ok-file-in-Some.file in
    let read = (g.H.Host.view c.args.host.now).reads in
    let at = entry_at c.entries.result.now (part_of t).entries c.args.index c.index-entries-index.result c.in-Some.entry c.entries.ensures c.requires.within c.index-entries-index.is c.in-Some.is in
    let does = c.in_ok-file-in-Some.ensures in
    subst (λ (o : Option NamedSpace). IsFileAt (part_of t) c.args.epoch o (Some file) (read 0)) (sym at) (
      record { is = does.place ∙ c.place_of-place.ensures; clusters = does.clusters ∙ c.in_ok-map-in-Some.ensures ∙ ap clusters_of c.as_slice.ensures },
      subst (λ (p : SpacePlace). IsFile file c.args.epoch (read p.dev)) c.place_of-place.ensures (does.loaded told),
    )
