use Rattle.std.proofs.Common.{◌∙◌, ◌+◌, List, Option, sym, ap, arith, rules, length}
use Rattle.std.specs.Prelude.{option_to_list}
use Rattle.std.proofs.lemmas.List.{take_all}
use Rattle.tq_model.specs.Site.{present}
use Rattle.tq_devtab.specs.declared.entry.TableEntry.{TableEntry}
use Rattle.tq_devtab.specs.InMemory.{part_of}
use Rattle.tq_devtab.proofs.SpellingLemmas.{length-views}
use Rattle.tq_coord.specs.Manager.{files_of}
use Rattle.tq_coord.proofs.PlacedLemmas.{count-more, placed-count-of, some-one, none-zero}
use Rattle.tq_coord.proofs.site.Disk.space_count.Goals.{then-is_some, else-is_some}
use Rattle.tq_coord.proofs.site.Disk.space_count.Goals as goal

pub loop-entry-init : goal.loop-entry-init
loop-entry-init c = search rules

pub overflow_add-count : goal.overflow_add-count
overflow_add-count c =
    let long = sym (length-views c.entries-entry-items.result.now) ∙ ap length c.entries-entry-items.ensures ∙ c.args.self.now.table.table.count in
    omega (arith, long, c.loop-entry.invariant.1, c.loop-entry-test.true)

pub loop-entry-preserved : goal.loop-entry-preserved
loop-entry-preserved c =
    let e = c.entry-item.result in
    let more = count-more c.loop-entry.count c.entries-entry-items.result.now c.loop-entry.entry-index e c.loop-entry-test.true c.loop-entry.invariant.0
    ∙ ap (λ (o : Option TableEntry). c.loop-entry.count + length (option_to_list o)) (sym c.entry-item.is) in
    elim c.if-is_some.branch [
      | then-is_some w ↦
          let one = some-one e (sym c.is_some.ensures ∙ w.if-is_some.true) in
          (omega (arith, more, one, w.count-is), omega (arith, w.count-is, c.loop-entry.invariant.1))
      | else-is_some w ↦
          let none = none-zero e (sym c.is_some.ensures ∙ w.if-is_some.false) in
          (omega (arith, more, none, w.count-is), omega (arith, w.count-is, c.loop-entry.invariant.1))
    ]

pub returns : goal.returns
returns c =
    let d = c.args.self.now in
    c.loop-entry.invariant.0
    ∙ ap (λ (l : List (Option TableEntry)). length (present l)) (take_all c.loop-entry.entry-index c.entries-entry-items.result.now c.loop-entry-test.false)
    ∙ sym (placed-count-of 0 (part_of d.table) c.entries-entry-items.result.now (part_of d.table).entries (files_of d) c.entries-entry-items.ensures d.fit.each)
