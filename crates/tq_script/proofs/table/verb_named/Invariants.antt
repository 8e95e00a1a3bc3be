use Rattle.std.proofs.Common.{◌≡◌, drop}
use Rattle.tq_model.specs.Grammar.{verbs, verb_among}
use Rattle.tq_script.proofs.table.verb_named.Given as goal

abbrev pub invariant-loop-verb : goal.invariant-loop-verb
invariant-loop-verb l = verb_among verbs l.word ≡ verb_among (drop l.verb-index l.verb-items) l.word
