use Rattle.std.proofs.Common.{◌≡◌, drop}
use Rattle.tq_model.specs.Grammar.{flag_among, known_flags}
use Rattle.tq_script.proofs.flags.flag_named.Given as goal

abbrev pub invariant-loop-flag : goal.invariant-loop-flag
invariant-loop-flag l = flag_among known_flags l.name ≡ flag_among (drop l.flag-index l.flag-items) l.name
