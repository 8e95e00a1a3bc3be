use Rattle.std.proofs.Common.{arith}
use Rattle.std.proofs.lemmas.Grind.{common_steps}
use Rattle.tq_print.proofs.Extents.{extents_text_first}
use Rattle.tq_print.proofs.listings.push_extents.Goals as goal

pub returns : goal.returns
returns c = grind (arith, common_steps, extents_text_first c.in-Some.first.now c.in-Some.more.now, c.in-Some.ensures.cases)
