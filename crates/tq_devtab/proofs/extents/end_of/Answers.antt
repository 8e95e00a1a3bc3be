use Rattle.std.proofs.Common.{◌∙◌, ap, arith}
use Rattle.std.specs.List.{list_all}
use Rattle.std.specs.Ordering.{nat_cmp, ord_max}
use Rattle.std.proofs.lemmas.List.{drop_all}
use Rattle.tq_model.specs.declared.answer.Extent.{Extent}
use Rattle.tq_devtab.proofs.FreeLemmas.{ends_by, ends_more, end_least}
use Rattle.tq_devtab.proofs.extents.end_of.Goals as goal

pub loop-extent-init : goal.loop-extent-init
loop-extent-init c = record { reach = λ size le all. all; least = λ size all. omega arith }

pub loop-extent-preserved : goal.loop-extent-preserved
loop-extent-preserved c =
    let extents = c.args.extents.now in
    let i = c.loop-extent.extent-index in
    let d : Extent = record { first = 0; count = 0 } in
    let own = c.loop-extent.invariant in
    let end = c.max-end.ensures ∙ ap (ord_max nat_cmp c.loop-extent.end) c.extent_end.ensures in
    record {
      reach = λ size le rest. ends_more extents i c.loop-extent.end d c.loop-extent-test.true own.reach size (omega (arith, end, le)) rest;
      least = λ size all. let least = end_least extents i c.loop-extent.end size d c.loop-extent-test.true (own.least size all) all in omega (arith, end, least);
    }

pub returns-clause-reach : goal.returns-clause-reach
returns-clause-reach c = λ size le.
    let extents = c.args.extents.now in
    c.loop-extent.invariant.reach size le (ap (list_all (ends_by size)) (drop_all c.loop-extent.extent-index extents c.loop-extent-test.false))

pub returns-clause-least : goal.returns-clause-least
returns-clause-least c = c.loop-extent.invariant.least
