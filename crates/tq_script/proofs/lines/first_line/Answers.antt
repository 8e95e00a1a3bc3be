use Rattle.std.proofs.Common.{ℕ, ◌+◌, ◌≤◌, ◌==◌, sym, ◌∙◌, arith, add-one, length}
use Rattle.std.proofs.lemmas.Bool.{eqb-false}
use Rattle.std.proofs.lemmas.List.{take_rest}
use Rattle.tq_script.proofs.Positions.{position-some, position-none}
use Rattle.tq_script.proofs.LineEnds.{script_lines-ended, script_lines-unended}
use Rattle.tq_script.proofs.lines.first_line.Goals as goal

pub returns-in-Some-clause-lines : goal.returns-in-Some-clause-lines
returns-in-Some-clause-lines c =
    let script = c.args.script.now in
    let is = position-some (λ (b : ℕ). b == 10) script c.in-Some.end c.in-Some.ensures in
    rw (take_rest script (c.in-Some.end + 1), add-one, is.0) (script_lines-ended script is.1)

pub returns-in-None-clause-lines : goal.returns-in-None-clause-lines
returns-in-None-clause-lines c =
    let script = c.args.script.now in
    let some : 1 ≤ length script = omega (arith, eqb-false _ _ (sym c.is_empty.ensures ∙ c.if-is_empty.false)) in
    script_lines-unended script some (position-none (λ (b : ℕ). b == 10) script c.in-None.ensures)
