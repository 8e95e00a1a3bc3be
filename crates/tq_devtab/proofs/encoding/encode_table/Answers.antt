use Rattle.std.proofs.Common.{◌≡◌, inl, inr, length, map, refl, sym, ap, ◌∙◌, arith}
use Rattle.std.specs.Prelude.{codes}
use Rattle.tq_field.specs.Places.{run_at}
use Rattle.tq_model.specs.Site.{table_entries}
use Rattle.tq_model.specs.DeviceForm.{raw_entries, extents_start}
use Rattle.tq_devtab.specs.Table.{entries_view, raw_of}
use Rattle.tq_devtab.proofs.SpellingLemmas.{length-views, run_stands, same_number, same_run, spellable}
use Rattle.tq_devtab.proofs.encoding.encode_table.Goals as goal

pub set_entries-requires-clause-entries : goal.set_entries-requires-clause-entries
set_entries-requires-clause-entries c =
    let table = c.requires.table in
    spellable c.args.next table.0 table.1 (entries_view c.args.entries.now) table.2 table.3

pub returns-clause-spelt : goal.returns-clause-spelt
returns-clause-spelt c =
    let views = entries_view c.args.entries.now in
    let new = c.set_entries.new.base in
    let size = c.requires.base in
    let mark : run_at 0 4 new ≡ codes "TQTB" =
    same_run 0 4 c.set_run.new.bytes new (omega arith)
    (λ i from to. c.set_entries.ensures.before i (omega arith) ∙ c.set_number.ensures.outside i (inl (omega arith)))
    ∙ run_stands 0 (codes "TQTB") c.set_run.new.bytes (omega arith) c.set_run.ensures.stands in
    let next =
    same_number 4 4 c.set_number.new.bytes new (omega arith) (λ i from to. c.set_entries.ensures.before i (omega arith)) ∙ c.set_number.ensures.number in
    let count : table_entries ≡ length c.args.entries.now = sym (sym (length-views c.args.entries.now) ∙ c.requires.table.3.count) in
    let entries : raw_entries table_entries 32 extents_start new ≡ map raw_of views =
    ap (λ n. raw_entries n 32 extents_start new) count ∙ c.set_entries.ensures.spelt in
    λ i. record { mark = mark i; next = next i; entries = entries i }

pub returns-clause-zero : goal.returns-clause-zero
returns-clause-zero c =
    record {
      head = λ i from to.
          c.set_entries.ensures.before i (omega arith) ∙ c.set_number.ensures.outside i (inr (omega arith))
          ∙ c.set_run.ensures.outside i (inr (omega arith)) ∙ c.fill.ensures.clones i 0 (omega (arith, c.requires.base)) refl;
      between = c.set_entries.ensures.between;
      behind = c.set_entries.ensures.behind;
    }
