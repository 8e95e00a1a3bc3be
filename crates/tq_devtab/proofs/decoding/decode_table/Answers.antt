use Rattle.std.proofs.Common.{◌∙◌, sym, ap, arith}
use Rattle.tq_devtab.specs.Table.{entries_view}
use Rattle.tq_devtab.specs.TableParts.{go_together}
use Rattle.tq_devtab.proofs.TableTestLemmas.{base_judged}
use Rattle.tq_devtab.proofs.SpeltTableLemmas.{spelt_again}
use Rattle.tq_devtab.proofs.decoding.decode_table.Goals as goal

pub returns-in_default-2-clause-damaged : goal.returns-in_default-2-clause-damaged
returns-in_default-2-clause-damaged c =
    let named = rw c.in-Some.is at c.in_ok-entries.ensures.entries in
    let each = rw c.in-Some.is at c.in_ok-entries.ensures.holds in
    let broken = rw c.in_default-2.is at c.in_ok-_owned.ensures.broken in
    base_judged c.number-next.result c.args.clusters c.args.size c.args.base.now c.in-Some.entries.items (omega arith) c.number-next.ensures
    (sym c.is_headed.ensures ∙ c.if-not-is_headed.false) (sym c.is_counted.ensures ∙ c.if-not-is_counted.false) each named
    ∙ ap (go_together c.args.clusters) (sym c.as_slice.ensures.value) ∙ broken

pub returns-clause-holds : goal.returns-clause-holds
returns-clause-holds c =
    let named = rw c.in-Some.is at c.in_ok-entries.ensures.entries in
    let each = rw c.in-Some.is at c.in_ok-entries.ensures.holds in
    let holds = rw c.in-Some-2.is at c.in_ok-_owned.ensures.holds in
    base_judged c.number-next.result c.args.clusters c.args.size c.args.base.now c.in-Some.entries.items (omega arith) c.number-next.ensures
    (sym c.is_headed.ensures ∙ c.if-not-is_headed.false) (sym c.is_counted.ensures ∙ c.if-not-is_counted.false) each named
    ∙ ap (go_together c.args.clusters) (sym c.as_slice.ensures.value) ∙ holds

pub returns-clause-table : goal.returns-clause-table
returns-clause-table c =
    let named = rw c.in-Some.is at c.in_ok-entries.ensures.entries in
    spelt_again c.number-next.result c.args.clusters c.args.size c.args.base.now (entries_view c.in-Some.entries.items) c.number-next.ensures named
    (sym c.is_headed.ensures ∙ c.if-not-is_headed.false) (sym c.is_counted.ensures ∙ c.if-not-is_counted.false) (returns-clause-holds c)
