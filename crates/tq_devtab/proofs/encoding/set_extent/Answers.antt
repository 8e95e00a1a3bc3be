use Rattle.std.proofs.Common.{inl, ◌+◌, ◌∙◌, arith}
use Rattle.tq_devtab.proofs.SpellingLemmas.{kept_number}
use Rattle.tq_devtab.proofs.encoding.set_extent.Goals as goal

pub returns-clause-first : goal.returns-clause-first
returns-clause-first c =
    kept_number (c.args.at + 2) 2 c.args.at 2 c.set_short.new.bytes c.set_short-2.new.bytes (omega arith) c.set_short-2.ensures.outside (inl (omega arith))
    ∙ c.set_short.ensures.number
