use Rattle.std.proofs.Common.{◌∙◌, sym}
use Rattle.tq_machine.proofs.Tables.{entered-at, entered-nowhere}
use Rattle.tq_machine.proofs.device.enter.Goals as goal

pub returns-in-Some : goal.returns-in-Some
returns-in-Some c = entered-at c.args.placed c.args.entries.now c.in-Some.at (sym c.place_unused.ensures ∙ c.in-Some.is)

pub returns-in_default : goal.returns-in_default
returns-in_default c = sym (entered-nowhere c.args.placed c.args.entries.now (sym c.place_unused.ensures ∙ c.in_default.is))
