use Rattle.std.proofs.Common.{◌≡◌, ℕ, ◌+◌, List, Option, Some, length, set, refl, sym, ap, ◌∙◌, subst}
use Rattle.tq_host.specs.Within.{Within}
use Rattle.tq_model.specs.Reading.{NamedSpace}
use Rattle.tq_devtab.specs.declared.table.DeviceTable.{DeviceTable}
use Rattle.tq_devtab.specs.declared.entry.TableEntry.{TableEntry}
use Rattle.tq_devtab.specs.Table.{IsTable, entry_view, entries_view, with_entry}
use Rattle.tq_devtab.specs.Volume.{IsSameButTable, IsTableOrNext, most_bytes}
use Rattle.tq_devtab.specs.InMemory.{dev_of, part_of, place_of}
use Rattle.tq_devtab.proofs.StoreLemmas.{view-set, table_images, entered_in, entered}
use Rattle.tq_devtab.proofs.table.DeviceTable.enter.Goals as goal

-- the entries with the space
more : (t : DeviceTable) (e : TableEntry) (i : ℕ) (entries : List (Option TableEntry)) → entries ≡ t.entries.items
    → ((n : NamedSpace) → with_entry n (entries_view entries) ≡ set (entries_view entries) i (Some n))
    → entries_view (set t.entries.items i (Some e)) ≡ with_entry (entry_view e) (entries_view t.entries.items)
more t e i entries are lowest =
    view-set t.entries.items i (Some e) ∙ ap (λ (l : List (Option TableEntry)). set (entries_view l) i (Some (entry_view e))) (sym are) ∙ sym (lowest (entry_view e))
    ∙ ap (λ (l : List (Option TableEntry)). with_entry (entry_view e) (entries_view l)) are

pub invariant_of-self : goal.invariant_of-self
invariant_of-self g c =
    let t = c.args.self.now in
    let e = c.args.reserved.entry in
    let is = more t e c.lowest_unused-index.result c.as_slice.result.now c.as_slice.ensures.value c.lowest_unused-index.ensures.lowest in
    record {
      number = t.number;
      layout = t.layout;
      room = t.room;
      some = t.some;
      least = t.least;
      most = t.most;
      table = subst (IsTable (t.next + 1) t.clusters most_bytes) (sym is) (entered t (entry_view e) c.requires.reserved);
    }

pub returns-in_err-store-clause-stop : goal.returns-in_err-store-clause-stop
returns-in_err-store-clause-stop g c = λ are reach.
    let t = c.args.self.now in
    let e = c.args.reserved.entry in
    let old = g.H.Host.view c.args.host.now in
    let is = more t e c.lowest_unused-index.result c.as_slice.result.now c.as_slice.ensures.value c.lowest_unused-index.ensures.lowest in
    subst (λ (l : List (Option NamedSpace)). Within (dev_of t) (IsSameButTable (dev_of t))
    (IsTableOrNext (dev_of t) (place_of t) (part_of t) (record (part_of t) { next_space = t.next + 1; entries = l }) (old.reads (dev_of t))) old (g.H.Host.view c.store.new.host)) is
    (c.store.ensures.stop (part_of t) (λ image may.
    let was = are image may in
    record {
      has = was.has;
      site = refl;
      clusters = refl;
      fits = subst (IsTable (t.next + 1) t.clusters (length image)) (sym is) (entered_in t (entry_view e) image c.requires.reserved (reach image may) was);
      holds = was.holds;
      log = was.log;
    }))

pub returns-clause-stop : goal.returns-clause-stop
returns-clause-stop g c = λ are reach.
    let t = c.args.self.now in
    let e = c.args.reserved.entry in
    let old = g.H.Host.view c.args.host.now in
    let is = more t e c.lowest_unused-index.result c.as_slice.result.now c.as_slice.ensures.value c.lowest_unused-index.ensures.lowest in
    subst (λ (l : List (Option NamedSpace)). Within (dev_of t) (IsSameButTable (dev_of t))
    (IsTableOrNext (dev_of t) (place_of t) (part_of t) (record (part_of t) { next_space = t.next + 1; entries = l }) (old.reads (dev_of t))) old (g.H.Host.view c.store.new.host)) is
    (c.store.ensures.stop (part_of t) (λ image may.
    let was = are image may in
    record {
      has = was.has;
      site = refl;
      clusters = refl;
      fits = subst (IsTable (t.next + 1) t.clusters (length image)) (sym is) (entered_in t (entry_view e) image c.requires.reserved (reach image may) was);
      holds = was.holds;
      log = was.log;
    }))

pub returns-clause-part : goal.returns-clause-part
returns-clause-part g c =
    let t = c.args.self.now in
    let is = more t c.args.reserved.entry c.lowest_unused-index.result c.as_slice.result.now c.as_slice.ensures.value c.lowest_unused-index.ensures.lowest in
    c.store.ensures.part ∙ ap (λ (l : List (Option NamedSpace)). record (part_of t) { next_space = t.next + 1; entries = l }) is

pub returns-clause-entered : goal.returns-clause-entered
returns-clause-entered g c = λ told was.
    let t = c.args.self.now in
    let e = c.args.reserved.entry in
    let read = (g.H.Host.view c.args.host.now).reads (dev_of t) in
    let is = more t e c.lowest_unused-index.result c.as_slice.result.now c.as_slice.ensures.value c.lowest_unused-index.ensures.lowest in
    c.in_ok-store.ensures.stored told (part_of t) (record {
      has = was.has;
      site = refl;
      clusters = refl;
      fits = subst (IsTable (t.next + 1) t.clusters (length read)) (sym is) (entered_in t (entry_view e) read c.requires.reserved (c.requires.reach told) was);
      holds = was.holds;
      log = was.log;
    })

pub returns-clause-images : goal.returns-clause-images
returns-clause-images g c = λ are reach.
    table_images c.args.self.now c.store.new.self (g.H.Host.view c.args.host.now) (g.H.Host.view c.store.new.host) (g.met.H.Host.lawful c.args.host.now) (g.met.H.Host.lawful c.store.new.host)
    c.store.ensures.dev c.in_ok-store.ensures.settled (returns-clause-entered g c) are
