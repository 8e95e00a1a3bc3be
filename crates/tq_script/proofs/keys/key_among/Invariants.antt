use Rattle.std.proofs.Common.{◌≡◌, drop, map}
use Rattle.tq_model.specs.Grammar.{key_among}
use Rattle.tq_script.specs.Rows.{key_row_of}
use Rattle.tq_script.proofs.keys.key_among.Given as goal

abbrev pub invariant-loop-row : goal.invariant-loop-row
invariant-loop-row l = key_among (map key_row_of l.rows) l.name ≡ key_among (map key_row_of (drop l.row-index l.rows)) l.name
