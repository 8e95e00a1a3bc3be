use Rattle.std.proofs.Common.{◌≡◌, [], length, refl, arith, rules}
use Rattle.tq_store.proofs.formatting.put_first.Goals as goal

pub returns : goal.returns
returns c = λ zeros.
    let page = c.encode_page.result in
    let long : length page ≡ 1024 = omega arith in
    record {
      size = search rules;
      page = page;
      page_size = long;
      page_is = c.encode_page.ensures.spelt;
      base = c.put_behind-2.ensures page long (c.put_behind.ensures [] refl zeros);
      error = c.encode_page.ensures.error;
    }
