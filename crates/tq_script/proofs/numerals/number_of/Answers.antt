use Rattle.std.proofs.Common.{◌≡◌, true, sym, ◌∙◌}
use Rattle.tq_model.specs.Grammar.{is_numeral}
use Rattle.tq_script.proofs.Digits.{IsUtf8-numeral, number_of-read}
use Rattle.tq_script.proofs.numerals.number_of.Goals as goal

pub returns-in_default : goal.returns-in_default
returns-in_default c =
    let numeral : is_numeral c.args.word.now ≡ true = sym c.is_numeral.ensures ∙ c.if-not-is_numeral.false in
    absurd (c.in_default.ensures.cases.0 (IsUtf8-numeral c.args.word.now numeral))

pub returns : goal.returns
returns c =
    let numeral : is_numeral c.args.word.now ≡ true = sym c.is_numeral.ensures ∙ c.if-not-is_numeral.false in
    c.ok.ensures.value ∙ number_of-read c.args.word.now c.parse.result numeral (rw c.in-Ok.ensures.cases.0 at c.parse.ensures.value.0)
