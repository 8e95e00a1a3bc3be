use Rattle.std.proofs.Common.{◌≡◌, map, drop}
use Rattle.tq_model.specs.DeviceForm.{journal_after}
use Rattle.tq_site.specs.Payloads.{journal_view}
use Rattle.tq_site.proofs.payloads.journal_after.Given as goal

-- the payloads that are left say of what was read so far what all say of the start
abbrev pub invariant-loop-payload : goal.invariant-loop-payload
invariant-loop-payload l = journal_after (map (λ v. v.items) (drop l.payload-index l.payloads)) (journal_view l.journal) ≡ journal_after (map (λ v. v.items) l.payloads) (journal_view l.fn.journal)
