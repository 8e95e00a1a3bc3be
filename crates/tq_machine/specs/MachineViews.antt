-- What the plain program of the machine keeps: the views of its structs, and what always holds of them.
use Rattle.std.specs.Prelude.{◌≤◌}
use Rattle.tq_machine.specs.declared.space_lists.SpaceLimits.{SpaceLimits}
use Rattle.tq_machine.specs.declared.space_lists.SpaceLists.TheInside.{Inside as InsideSpace}
use Rattle.tq_model.specs.Space.{Limits, Space}
use Rattle.tq_model.specs.Room.{messages_held, pages_held}

abbrev pub limits_view : SpaceLimits → Limits
limits_view l = record { pages = l.pages; queues = l.queues; messages = l.messages; transactions = l.transactions; memory = l.memory }

abbrev pub space_view : InsideSpace → Space
space_view s = record { site = s.site; number = s.number; limits = limits_view s.limits; error = s.error; queues = s.queues.items }

-- no more messages and pages are held than the limits say
pub record IsWithinLimits (s : Space) : Type 0 where
  pub messages : messages_held s ≤ s.limits.messages
  pub pages : pages_held s ≤ s.limits.pages
