-- The flags of calls.
use Rattle.std.specs.Prelude.{Bool, true, false, List}
use Rattle.std.specs.List.{list_any}
use Rattle.tq_model.specs.declared.calls.Flag.{Flag}
use Rattle.tq_model.specs.declared.calls.Flag.TheVariants.{NoFlags, MessageId}

abbrev pub is_message_id : Flag → Bool
is_message_id MessageId = true
is_message_id NoFlags = false

-- whether the identifier of the message is asked for
abbrev pub wants_id : List Flag → Bool
wants_id flags = list_any is_message_id flags
