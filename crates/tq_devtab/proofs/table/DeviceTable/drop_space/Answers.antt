use Rattle.std.proofs.Common.{◌≡◌, ℕ, List, Option, None, Some, length, set, refl, sym, ap, ◌∙◌, subst}
use Rattle.tq_host.specs.Within.{Within}
use Rattle.tq_model.specs.Reading.{NamedSpace}
use Rattle.tq_devtab.specs.declared.table.DeviceTable.{DeviceTable}
use Rattle.tq_devtab.specs.declared.entry.TableEntry.{TableEntry}
use Rattle.tq_devtab.specs.Table.{IsTable, entries_view, entry_of, changed_entry, without_entry}
use Rattle.tq_devtab.specs.Volume.{IsSameButTable, IsTableOrNext, most_bytes}
use Rattle.tq_devtab.specs.InMemory.{dev_of, part_of, place_of}
use Rattle.tq_devtab.proofs.PictureLemmas.{at_ok, on_ok}
use Rattle.tq_devtab.proofs.StoreLemmas.{both_ok, view-set, table_images, space_there, dropped_in, dropped}
use Rattle.tq_devtab.proofs.table.DeviceTable.drop_space.Goals as goal

-- the entries without the space
less : (t : DeviceTable) (ordinal i : ℕ) (entries : List (Option TableEntry)) → entries ≡ t.entries.items → (n : NamedSpace) → entry_of ordinal (entries_view t.entries.items) ≡ Some n
    → ((change : NamedSpace → Option NamedSpace) (m : NamedSpace) → entry_of ordinal (entries_view entries) ≡ Some m
    → changed_entry ordinal change (entries_view entries) ≡ set (entries_view entries) i (change m))
    → entries_view (set t.entries.items i None) ≡ without_entry ordinal (entries_view t.entries.items)
less t ordinal i entries are n found change =
    let views = entries_view t.entries.items in
    let set_is = change (λ m. None) n (ap (λ (l : List (Option TableEntry)). entry_of ordinal (entries_view l)) are ∙ found) in
    view-set t.entries.items i None ∙ ap (λ (l : List (Option TableEntry)). set (entries_view l) i None) (sym are) ∙ sym set_is
    ∙ ap (λ (l : List (Option TableEntry)). without_entry ordinal (entries_view l)) are

pub invariant_of-self : goal.invariant_of-self
invariant_of-self g c =
    let t = c.args.self.now in
    let n = space_there t c.args.ordinal c.requires.there in
    let is = less t c.args.ordinal c.space_at-index.result c.as_slice.result.now c.as_slice.ensures.value n.0 n.1 c.space_at-index.ensures.change in
    record {
      number = t.number;
      layout = t.layout;
      room = t.room;
      some = t.some;
      least = t.least;
      most = t.most;
      table = subst (IsTable t.next t.clusters most_bytes) (sym is) (dropped t c.args.ordinal c.requires.there);
    }

pub returns-clause-stop : goal.returns-clause-stop
returns-clause-stop g c = λ are.
    let t = c.args.self.now in
    let old = g.H.Host.view c.args.host.now in
    let n = space_there t c.args.ordinal c.requires.there in
    let is = less t c.args.ordinal c.space_at-index.result c.as_slice.result.now c.as_slice.ensures.value n.0 n.1 c.space_at-index.ensures.change in
    subst (λ (l : List (Option NamedSpace)). Within (dev_of t) (IsSameButTable (dev_of t))
    (IsTableOrNext (dev_of t) (place_of t) (part_of t) (record (part_of t) { entries = l }) (old.reads (dev_of t))) old (g.H.Host.view c.store.new.host)) is
    (c.store.ensures.stop (part_of t) (λ image may.
    let was = are image may in
    record {
      has = was.has;
      site = refl;
      clusters = refl;
      fits = subst (IsTable t.next t.clusters (length image)) (sym is) (dropped_in t c.args.ordinal c.requires.there image was);
      holds = was.holds;
      log = was.log;
    }))

pub returns-clause-part : goal.returns-clause-part
returns-clause-part g c =
    let t = c.args.self.now in
    let n = space_there t c.args.ordinal c.requires.there in
    let is = less t c.args.ordinal c.space_at-index.result c.as_slice.result.now c.as_slice.ensures.value n.0 n.1 c.space_at-index.ensures.change in
    at_ok c.store.result (c.store.ensures.part ∙ ap (λ (l : List (Option NamedSpace)). record (part_of t) { entries = l }) is)

pub returns-clause-dropped : goal.returns-clause-dropped
returns-clause-dropped g c =
    let t = c.args.self.now in
    let read = (g.H.Host.view c.args.host.now).reads (dev_of t) in
    let n = space_there t c.args.ordinal c.requires.there in
    let is = less t c.args.ordinal c.space_at-index.result c.as_slice.result.now c.as_slice.ensures.value n.0 n.1 c.space_at-index.ensures.change in
    on_ok c.store.result c.store.ensures.stored (λ stored told was. stored told (part_of t) (record {
      has = was.has;
      site = refl;
      clusters = refl;
      fits = subst (IsTable t.next t.clusters (length read)) (sym is) (dropped_in t c.args.ordinal c.requires.there read was);
      holds = was.holds;
      log = was.log;
    }))

pub returns-clause-images : goal.returns-clause-images
returns-clause-images g c =
    let t = c.args.self.now in
    both_ok c.store.result c.store.ensures.settled (returns-clause-dropped g c) (λ settled now.
    table_images t c.store.new.self (g.H.Host.view c.args.host.now) (g.H.Host.view c.store.new.host) (g.met.H.Host.lawful c.args.host.now) (g.met.H.Host.lawful c.store.new.host)
    c.store.ensures.dev settled now)
