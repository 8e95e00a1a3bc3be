-- What the outside in memory keeps.
use Rattle.tq_host.specs.declared.outside.Outside.{Outside}
use Rattle.tq_host.specs.Account.{Account}
use Rattle.tq_host.specs.Events.{State, blank, replay, events_of}

abbrev pub account_of : Outside → Account
account_of o = record { script = o.script.items; events = events_of o.calls.items; counts = o.counts }

-- what its calls lead to
abbrev pub state_of : Outside → State
state_of o = replay blank (events_of o.calls.items)
