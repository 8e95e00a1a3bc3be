use Rattle.std.proofs.Common.{arith}
use Rattle.tq_model.specs.declared.grammar.Key.TheVariants.{Dev}
use Rattle.tq_script.proofs.RequestLemmas.{device_number}
use Rattle.tq_script.proofs.requests.space_creation.Goals as goal

pub overflow_cast-result : goal.overflow_cast-result
overflow_cast-result c = omega (arith, device_number _ c.in_ok-number_given.field-0 (c.requires Dev) c.in_ok-number_given.ensures)
