-- What a journal says, in memory.
use Rattle.std.specs.Prelude.{Option, option_map}
use Rattle.tq_model.specs.DeviceForm as form
use Rattle.tq_site.specs.declared.payloads.Decision.{Decision}
use Rattle.tq_site.specs.declared.payloads.Journal.{Journal}

abbrev pub decision_view : Decision → form.Decision
decision_view d = record { epoch = d.epoch; number = d.number }

abbrev pub journal_view : Journal → form.Journal
journal_view j = record { epoch = j.epoch; decision = option_map decision_view j.decision }

abbrev pub option_view : Option Journal → Option form.Journal
option_view o = option_map journal_view o
