use Rattle.std.proofs.Common.{sym, refl}
use Rattle.tq_script.proofs.KeyedValues.{value_given-none, value_given-at, value_given-others}
use Rattle.tq_script.proofs.given.take_given.Goals as goal

pub returns-in_err-at-clause-value : goal.returns-in_err-at-clause-value
returns-in_err-at-clause-value c =
    rw (c.from_residual.ensures, value_given-none c.args.key c.args.given.now.items (rw c.deref.ensures.value at c.in_err-at.ensures)) refl

pub returns-clause-value : goal.returns-clause-value
returns-clause-value c =
    sym (value_given-at c.args.key c.args.given.now.items c.in_ok-at.at c.remove.result (rw c.deref.ensures.value at c.in_ok-at.ensures) c.remove.ensures.value)

pub returns-clause-others : goal.returns-clause-others
returns-clause-others c = λ other differ.
    rw c.remove.ensures.items (value_given-others c.args.key c.args.given.now.items c.in_ok-at.at other (rw c.deref.ensures.value at c.in_ok-at.ensures) differ)
