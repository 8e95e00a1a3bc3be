use Rattle.tq_slots.proofs.BranchFormLemmas.{branch-again, branch-read}
use Rattle.tq_slots.proofs.branch.branches_have_slots.Goals as goal

pub returns-clause-made : goal.returns-clause-made
returns-clause-made c = branch-again

pub returns-clause-read : goal.returns-clause-read
returns-clause-read c = branch-read
