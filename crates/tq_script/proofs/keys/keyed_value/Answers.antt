use Rattle.std.proofs.Common.{map}
use Rattle.std.proofs.lemmas.List.{take_rest}
use Rattle.tq_script.specs.Rows.{key_row_of}
use Rattle.tq_script.proofs.Scans.{keyed_value-key}
use Rattle.tq_script.proofs.keys.keyed_value.Goals as goal

pub returns-in-Some-key_among : goal.returns-in-Some-key_among
returns-in-Some-key_among c =
    rw (keyed_value-key (map key_row_of c.args.rows.now) c.args.word.now c.in-Some.equals (key_row_of c.in-Some-key_among.row) c.in-Some.ensures c.in-Some-key_among.ensures)
    (rw take_rest at c.given_with.ensures)
