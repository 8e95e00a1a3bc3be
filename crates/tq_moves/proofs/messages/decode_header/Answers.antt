use Rattle.std.proofs.Common.{◌∙◌}
use Rattle.tq_slots.specs.MessageForm.{header_read}
use Rattle.tq_slots.proofs.HeaderLemmas.{header-again}
use Rattle.tq_moves.proofs.messages.decode_header.Goals as goal

pub returns-clause-again : goal.returns-clause-again
returns-clause-again c = λ h body is joined spelt.
    c.header.ensures ∙ (λ i. header_read (joined i) (spelt i)) ∙ header-again h body is
