use Rattle.std.proofs.Common.{◌≡◌, ℕ, List, length, Option, Some, ap, ◌∙◌, subst, arith}
use Rattle.std.proofs.lemmas.List.{with_items_is}
use Rattle.std.specs.Vec.{with_items}
use Rattle.tq_host.proofs.Within.{wider}
use Rattle.tq_model.specs.DeviceForm.{raw_table, table_bytes}
use Rattle.tq_gate.specs.declared.layout.Layout.{Layout}
use Rattle.tq_gate.specs.Reading.{content_on}
use Rattle.tq_gate.specs.Log.{IsSameButAreas, IsOldOrReplaced, replaced}
use Rattle.tq_devtab.specs.declared.table.DeviceTable.{DeviceTable}
use Rattle.tq_devtab.specs.declared.entry.TableEntry.{TableEntry}
use Rattle.tq_devtab.specs.Table.{entries_view, table_of}
use Rattle.tq_devtab.specs.Volume.{IsSameButTable, IsTableOrNext}
use Rattle.tq_devtab.specs.InMemory.{dev_of, part_of, place_of}
use Rattle.tq_devtab.proofs.PictureLemmas.{on_ok}
use Rattle.tq_devtab.proofs.StoreLemmas.{beside_table, next_table, has_log, old_or_next}
use Rattle.tq_devtab.proofs.table.DeviceTable.store.Goals as goal

-- the base that was written into the room
base_spelt : (t : DeviceTable) (bytes base : List ℕ) (entries : List (Option TableEntry)) → base ≡ (with_items t.base bytes).items → length bytes ≡ table_bytes
    → entries ≡ t.entries.items → raw_table 0 bytes ≡ table_of t.next (entries_view entries) → raw_table 0 base ≡ table_of t.next (entries_view t.entries.items)
base_spelt t bytes base entries stored size are spelt =
    ap (raw_table 0) (stored ∙ with_items_is t.base bytes (omega (arith, size, t.room, t.base.ok))) ∙ spelt ∙ ap (λ (l : List (Option TableEntry)). table_of t.next (entries_view l)) are

pub returns-clause-stop : goal.returns-clause-stop
returns-clause-stop g c = λ d are.
    let t = c.args.self.now in
    let old = g.H.Host.view c.args.host.now in
    let base = c.deref.result.now in
    let spelt = base_spelt t c.encode_table.new.base base c.as_slice.result.now c.deref.ensures.value c.encode_table.ensures.size c.as_slice.ensures.value c.encode_table.ensures.spelt in
    wider (dev_of t) (IsSameButAreas t.log) (IsSameButTable (dev_of t)) (IsOldOrReplaced t.log old base)
    (IsTableOrNext (dev_of t) (place_of t) d (part_of t) (old.reads (dev_of t))) old (g.H.Host.view c.replace.new.host)
    (old_or_next t d base spelt old are) (c.replace.ensures.stop (has_log t d base spelt old are))

pub returns-clause-outside : goal.returns-clause-outside
returns-clause-outside g c = λ told.
    let t = c.args.self.now in
    beside_table t ((g.H.Host.view c.args.host.now).reads (dev_of t)) ((g.H.Host.view c.replace.new.host).reads (dev_of t)) (c.replace.ensures.outside told)

pub returns-clause-stored : goal.returns-clause-stored
returns-clause-stored g c =
    let t = c.args.self.now in
    let base = c.deref.result.now in
    let new = (g.H.Host.view c.replace.new.host).reads (dev_of t) in
    let old = (g.H.Host.view c.args.host.now).reads (dev_of t) in
    let spelt = base_spelt t c.encode_table.new.base base c.as_slice.result.now c.deref.ensures.value c.encode_table.ensures.size c.as_slice.ensures.value c.encode_table.ensures.spelt in
    on_ok c.replace.result c.replace.ensures.replaced (λ is told d change.
    let log = is told change.holds change.log in
    record {
      has = next_table t d base spelt old new change (returns-clause-outside g c told)
          (subst (λ (l : Layout). content_on l new ≡ Some (replaced base)) (c.replace.ensures.layout ∙ t.layout) log.is.reads);
      holds = replaced base;
      log = log;
    })
