use Rattle.std.proofs.Common.{sym, ◌∙◌}
use Rattle.tq_model.specs.Grammar.{verbs}
use Rattle.tq_script.proofs.Scans.{verb_among-more}
use Rattle.tq_script.proofs.table.verb_named.Goals as goal

pub loop-verb-preserved : goal.loop-verb-preserved
loop-verb-preserved c =
    c.loop-verb.invariant ∙ verb_among-more verbs c.args.word.now c.loop-verb.verb-index _ c.loop-verb-test.true (rw c.verb_word.ensures at (sym c.eq.ensures ∙ c.if-eq.false))
