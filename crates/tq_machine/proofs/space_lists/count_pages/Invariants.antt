use Rattle.std.proofs.Common.{◌≡◌, take}
use Rattle.std.specs.List.{sum_by}
use Rattle.tq_model.specs.Room.{queue_pages}
use Rattle.tq_machine.proofs.space_lists.count_pages.Given as goal

abbrev pub invariant-loop-queue : goal.invariant-loop-queue
invariant-loop-queue l = l.pages ≡ sum_by queue_pages (take l.queue-index l.queues)
