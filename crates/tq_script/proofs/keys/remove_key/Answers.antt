use Rattle.std.proofs.Common.{not, map, ap, ◌∙◌, rules, tests}
use Rattle.std.proofs.lemmas.Fn.{filter_same}
use Rattle.tq_model.specs.Grammar.{is_same_key}
use Rattle.tq_script.proofs.Scans.{rows_without-filter}
use Rattle.tq_script.specs.declared.table.KeyRow.{KeyRow}
use Rattle.tq_script.specs.Rows.{key_row_of}
use Rattle.tq_script.proofs.keys.remove_key.Goals as goal

pub returns : goal.returns
returns c =
    let kept = filter_same _ (λ (row : KeyRow). not (is_same_key c.args.key row.key)) _ (λ x b q k. search (rules, tests)) _ _ c.retain.ensures.filtered in
    ap (map key_row_of) kept ∙ rows_without-filter c.args.key c.args.rows.now.items
