-- The rows of the table and what was given, as the grammar has them.
use Rattle.std.specs.Prelude.{Bool}
use Rattle.tq_model.specs.Grammar as grammar
use Rattle.tq_script.specs.declared.given.Given.{Given}
use Rattle.tq_script.specs.declared.table.KeyRow.{KeyRow}

abbrev pub key_row_of : KeyRow → grammar.KeyRow
key_row_of row = record { key = row.key; kind = row.kind; required = row.required }

abbrev pub given_of : Given → grammar.Given
given_of given = record { key = given.key; value = given.value }

abbrev pub is_required : KeyRow → Bool
is_required row = row.required
