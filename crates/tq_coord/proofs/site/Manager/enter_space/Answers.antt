use Rattle.std.proofs.Common.{◌≡◌, ◌<◌, ℕ, List, length, get_or, Option, None, true, ◌∙◌, sym, subst}
use Rattle.std.specs.Prelude.{is_some}
use Rattle.tq_host.specs.Within.{Within}
use Rattle.tq_model.specs.declared.space.Shape.{Shape}
use Rattle.tq_model.specs.Step.{shape_asked}
use Rattle.tq_devtab.specs.InMemory.{part_of, IsTableOf}
use Rattle.tq_devtab.specs.Reserved.{space_of}
use Rattle.tq_spacefile.specs.declared.file.SpaceFile.{SpaceFile}
use Rattle.tq_coord.specs.Manager.{HasDisk}
use Rattle.tq_coord.specs.Spaces.{IsShape, HasNewPages, IsLaidOut, IsWithoutOrWith}
use Rattle.tq_coord.proofs.MatchLemmas.{disk_on, tables_on}
use Rattle.tq_coord.proofs.NewSiteLemmas.{place_on, no_entry, is_shape, making, new_file, new_together, new_site_is, new_files, new_journal}
use Rattle.tq_coord.proofs.OneEntryLemmas.{IsLowest}
use Rattle.tq_coord.proofs.SettledLemmas.{read_image}
use Rattle.tq_coord.proofs.site.Manager.enter_space.Goals as goal

-- the entry that is taken is the lowest one
lowest_of : (files shown : List (Option SpaceFile)) (at : ℕ) → shown ≡ files
    → (at < length shown) × (get_or shown at None ≡ None) × ((i : ℕ) → i < at → is_some (get_or shown i None) ≡ true) → IsLowest files at
lowest_of files shown at same is = subst (λ l. IsLowest l at) same (record { within = is.0; unused = is.1; before = is.2 })

pub unreachable-requires-in_default-lowest_unused : goal.unreachable-requires-in_default-lowest_unused
unreachable-requires-in_default-lowest_unused g c =
    let d = c.in-Some.disk in
    let p = place_on c.args.creation.now c.args.self.now (space_of c.args.reserved) c.requires.place d (sym c.take.ensures.value ∙ c.in-Some.is) in
    no_entry d c.deref.result.now c.deref.ensures.value p.reserved.room c.in_default-lowest_unused.ensures.none

pub lay_out-requires-clause-shape : goal.lay_out-requires-clause-shape
lay_out-requires-clause-shape g c =
    let a = c.requires.place.allowed in
    subst IsShape (sym c.shape_of-shape.ensures) (is_shape c.args.creation.now a.fields a.large)

pub lay_out-requires-clause-holds : goal.lay_out-requires-clause-holds
lay_out-requires-clause-holds g c = λ told.
    let m = c.args.self.now in
    let d = c.in-Some.disk in
    let old = g.H.Host.view c.args.host.now in
    let on = disk_on m d (sym c.take.ensures.value ∙ c.in-Some.is) old c.requires.on in
    (read_image 0 (HasDisk d m.next) old (g.met.H.Host.lawful c.args.host.now) told on).table

pub returns-in_err-lay_out-clause-stop : goal.returns-in_err-lay_out-clause-stop
returns-in_err-lay_out-clause-stop g c =
    let creation = c.args.creation.now in
    let m = c.args.self.now in
    let n = space_of c.args.reserved in
    let d = c.in-Some.disk in
    let there = sym c.take.ensures.value ∙ c.in-Some.is in
    let p = place_on creation m n c.requires.place d there in
    let low = lowest_of d.files.items c.deref.result.now c.in-Some-lowest_unused.index c.deref.ensures.value c.in-Some-lowest_unused.ensures.some in
    let old = g.H.Host.view c.args.host.now in
    let now = g.H.Host.view c.lay_out.new.host in
    making creation m n p c.in-Some-lowest_unused.index low old now c.requires.on c.lay_out.ensures.rest
    (subst (λ (s : Shape). Within 0 (IsLaidOut n) (IsWithoutOrWith (part_of d.table) n s) old now) c.shape_of-shape.ensures
    (c.lay_out.ensures.stop (tables_on m d there old c.requires.on)))

pub invariant_of-disk-clause-fit : goal.invariant_of-disk-clause-fit
invariant_of-disk-clause-fit g c =
    let creation = c.args.creation.now in
    let m = c.args.self.now in
    let n = space_of c.args.reserved in
    let d = c.in-Some.disk in
    let there = sym c.take.ensures.value ∙ c.in-Some.is in
    let p = place_on creation m n c.requires.place d there in
    let low = lowest_of d.files.items c.deref.result.now c.in-Some-lowest_unused.index c.deref.ensures.value c.in-Some-lowest_unused.ensures.some in
    let made = c.new.ensures in
    let new = new_file c.shape_of-shape.result (shape_asked creation) c.args.map c.site.result c.ordinal.result (part_of d.table) n c.new.result
    c.shape_of-shape.ensures p.pages c.requires.map c.site.ensures.site c.ordinal.ensures (made.place, made.clusters, made.held, made.logged, made.on) in
    new_together creation m n p c.in-Some-lowest_unused.index low c.new.result new (part_of c.lay_out.new.table) c.in_ok-lay_out.ensures.part

pub returns-clause-site : goal.returns-clause-site
returns-clause-site g c =
    let creation = c.args.creation.now in
    let m = c.args.self.now in
    let n = space_of c.args.reserved in
    let d = c.in-Some.disk in
    let there = sym c.take.ensures.value ∙ c.in-Some.is in
    let p = place_on creation m n c.requires.place d there in
    let low = lowest_of d.files.items c.deref.result.now c.in-Some-lowest_unused.index c.deref.ensures.value c.in-Some-lowest_unused.ensures.some in
    let made = c.new.ensures in
    let new = new_file c.shape_of-shape.result (shape_asked creation) c.args.map c.site.result c.ordinal.result (part_of d.table) n c.new.result
    c.shape_of-shape.ensures p.pages c.requires.map c.site.ensures.site c.ordinal.ensures (made.place, made.clusters, made.held, made.logged, made.on) in
    new_site_is creation m n p c.in-Some-lowest_unused.index low c.new.result new (part_of c.lay_out.new.table) c.in_ok-lay_out.ensures.part

pub returns-clause-images : goal.returns-clause-images
returns-clause-images g c = λ image may.
    let creation = c.args.creation.now in
    let m = c.args.self.now in
    let n = space_of c.args.reserved in
    let d = c.in-Some.disk in
    let there = sym c.take.ensures.value ∙ c.in-Some.is in
    let p = place_on creation m n c.requires.place d there in
    let low = lowest_of d.files.items c.deref.result.now c.in-Some-lowest_unused.index c.deref.ensures.value c.in-Some-lowest_unused.ensures.some in
    let made = c.new.ensures in
    let new = new_file c.shape_of-shape.result (shape_asked creation) c.args.map c.site.result c.ordinal.result (part_of d.table) n c.new.result
    c.shape_of-shape.ensures p.pages c.requires.map c.site.ensures.site c.ordinal.ensures (made.place, made.clusters, made.held, made.logged, made.on) in
    let old = g.H.Host.view c.args.host.now in
    let now = g.H.Host.view c.lay_out.new.host in
    let lawful = g.met.H.Host.lawful c.lay_out.new.host in
    let told = lawful.reads_told (lawful.stops_told 0 image may) in
    let read = c.in_ok-lay_out.ensures.settled image may in
    let came = (c.lay_out.ensures.stop (tables_on m d there old c.requires.on)).own image may in
    let had = disk_on m d there old c.requires.on came.image came.was in
    let pages = subst (λ (s : Shape). HasNewPages n s (now.reads 0)) c.shape_of-shape.ensures (c.in_ok-lay_out.ensures.pages told) in
    record {
      table = subst (IsTableOf c.lay_out.new.table) (sym read) (c.in_ok-lay_out.ensures.table told);
      journal = new_journal creation m n p c.in-Some-lowest_unused.index low c.new.result new came.image image had came.step;
      files = new_files creation m n p c.in-Some-lowest_unused.index low c.new.result new came.image image had came.step
          (part_of c.lay_out.new.table) c.in_ok-lay_out.ensures.part (subst (HasNewPages n (shape_asked creation)) (sym read) pages);
    }

pub returns-clause-stop : goal.returns-clause-stop
returns-clause-stop g c =
    let creation = c.args.creation.now in
    let m = c.args.self.now in
    let n = space_of c.args.reserved in
    let d = c.in-Some.disk in
    let there = sym c.take.ensures.value ∙ c.in-Some.is in
    let p = place_on creation m n c.requires.place d there in
    let low = lowest_of d.files.items c.deref.result.now c.in-Some-lowest_unused.index c.deref.ensures.value c.in-Some-lowest_unused.ensures.some in
    let old = g.H.Host.view c.args.host.now in
    let now = g.H.Host.view c.lay_out.new.host in
    making creation m n p c.in-Some-lowest_unused.index low old now c.requires.on c.lay_out.ensures.rest
    (subst (λ (s : Shape). Within 0 (IsLaidOut n) (IsWithoutOrWith (part_of d.table) n s) old now) c.shape_of-shape.ensures
    (c.lay_out.ensures.stop (tables_on m d there old c.requires.on)))
