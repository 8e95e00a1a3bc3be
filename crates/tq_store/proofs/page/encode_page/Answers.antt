use Rattle.std.proofs.Common.{◌≡◌, length, arith}
use Rattle.tq_store.specs.Page.{IsZeroPadded, numbers_spelt, page_spelt}
use Rattle.tq_store.proofs.PageLemmas.{length-numbers_spelt, page_spelt_most, shape_in-spelt}
use Rattle.tq_store.proofs.page.encode_page.Goals as goal

pub returns-clause-spelt : goal.returns-clause-spelt
returns-clause-spelt c =
    let s = c.args.shape.now in
    c.spell_error.ensures.spelt (numbers_spelt s) (length-numbers_spelt s) (c.spell_numbers.ensures c.zeros-page.ensures)

pub returns-clause-back : goal.returns-clause-back
returns-clause-back c = λ within.
    let s = c.args.shape.now in
    let page = c.spell_error.new.page in
    let long : length page ≡ 1024 = omega arith in
    let begins : IsZeroPadded (page_spelt s) page = c.spell_error.ensures.spelt (numbers_spelt s) (length-numbers_spelt s) (c.spell_numbers.ensures c.zeros-page.ensures) in
    shape_in-spelt s within page begins (omega (arith, long, page_spelt_most s within))
