use Rattle.std.proofs.Common.{◌≡◌, Some, None, sym, ◌∙◌, rules}
use Rattle.std.specs.Prelude.{if◌then◌else◌}
use Rattle.tq_model.specs.SpaceForm.{raw_space, shape_of}
use Rattle.tq_store.proofs.PageLemmas.{is_first_page, shape_in_is}
use Rattle.tq_store.proofs.page.decode_page.Goals as goal

pub returns-clause-shape : goal.returns-clause-shape
returns-clause-shape c =
    let pages = c.args.pages in
    let page = c.args.page.now in
    let read : c.then_some.result ≡ (if is_first_page pages (raw_space page) then Some (shape_of pages (raw_space page)) else None) = search rules in
    read ∙ sym (shape_in_is pages page)
