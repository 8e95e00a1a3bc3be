-- The entries that the plain program of the machine keeps in lists.
use Rattle.tq_types.specs.declared.messages.Entry.{Entry}
use Rattle.tq_types.specs.declared.messages.Mark.TheVariants as marks

-- an entry that no transaction holds
abbrev pub free_entry : Entry → Entry
free_entry e = record e { mark = marks.Free }
