use Rattle.std.proofs.Common.{ℕ, ◌==◌, not}
use Rattle.tq_script.proofs.Positions.{position-none}
use Rattle.tq_script.proofs.Words.{words_of-none, words_of-split, words_of-shorter}
use Rattle.tq_script.proofs.cutting.Words.split_first.Goals as goal

pub returns-in_err-word_start-clause-words : goal.returns-in_err-word_start-clause-words
returns-in_err-word_start-clause-words c =
    let bytes = c.args.self.rest.now in
    let all = position-none (λ (b : ℕ). not (b == 32)) bytes c.in_err-word_start.ensures in
    rw c.from_residual.ensures (words_of-none c.args.self.column bytes all)

pub returns-clause-words : goal.returns-clause-words
returns-clause-words c = words_of-split c.args.self.column c.args.self.rest.now _ _ _ _
    c.in_ok-word_start.ensures c.skip-words.ensures.rest c.word_length-length.ensures.cut c.skip.ensures.rest
    _ _ c.skip-words.ensures.column c.skip.ensures.column

pub returns-clause-shorter : goal.returns-clause-shorter
returns-clause-shorter c = words_of-shorter c.args.self.column c.args.self.rest.now _ _ _ _
    c.in_ok-word_start.ensures c.skip-words.ensures.rest c.word_length-length.ensures.cut c.skip.ensures.rest
