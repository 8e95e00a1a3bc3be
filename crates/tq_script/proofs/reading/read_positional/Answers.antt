use Rattle.std.proofs.Common.{◌+◌, List, [], drop, ap, ◌∙◌}
use Rattle.std.proofs.lemmas.List.{at_drop_more}
use Rattle.std.proofs.lemmas.Result.{err_from_is_err_and}
use Rattle.tq_model.specs.declared.grammar.Kind.{Kind}
use Rattle.tq_model.specs.Grammar.{scan}
use Rattle.tq_script.proofs.Scans.{ReadsAs-behind}
use Rattle.tq_script.specs.Cutting.{words_of}
use Rattle.tq_script.specs.Reads.{with_read}
use Rattle.tq_script.proofs.reading.read_positional.Goals as goal

pub returns-in_err-value : goal.returns-in_err-value
returns-in_err-value c = λ rows.
    let kinds = c.args.kinds.now in
    let at = c.loop-kind.kind-index in
    let words = words_of c.loop-kind.words.column c.loop-kind.words.rest.now in
    let p = err_from_is_err_and c.from_residual.result c.from_residual.ensures.1 in
    let later = c.in_err-value.ensures (drop (at + 1) kinds) rows in
    rw (p.1, p.2) (ReadsAs-behind _ c.loop-kind.values.items _ _ _ _
    (c.loop-kind.invariant rows ∙ ap (with_read c.loop-kind.values.items []) (at_drop_more (λ (ks : List Kind). scan ks rows words) kinds at _ c.loop-kind-test.true))
    later)
