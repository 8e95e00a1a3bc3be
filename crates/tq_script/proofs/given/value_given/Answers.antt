use Rattle.std.proofs.Common.{refl, sym, ap, ◌∙◌, Some}
use Rattle.tq_script.specs.declared.given.Given.{Given}
use Rattle.tq_script.proofs.KeyedValues.{value_given-none, value_given-at}
use Rattle.tq_script.proofs.given.value_given.Goals as goal

pub returns-in_err-at : goal.returns-in_err-at
returns-in_err-at c = rw (c.from_residual.ensures, value_given-none c.args.key c.args.given.now c.in_err-at.ensures) refl

pub returns : goal.returns
returns c =
    ap (λ (each : Given). Some each.value) (sym c.index-given-at.is)
    ∙ sym (value_given-at c.args.key c.args.given.now c.in_ok-at.at c.index-given-at.result c.in_ok-at.ensures c.index-given-at.is)
