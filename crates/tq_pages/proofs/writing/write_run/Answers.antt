use Rattle.std.proofs.Common.{◌≡◌, ◌+◌, ◌*◌, length, get_or, drop, ap, ◌∙◌, subst, arith}
use Rattle.std.proofs.lemmas.List.{length-take}
use Rattle.tq_field.specs.Places.{run_at}
use Rattle.tq_host.specs.Calls.{IsSameBut}
use Rattle.tq_extent.specs.Bytes.{owned_bytes, OnBytes}
use Rattle.tq_pages.specs.Store.{chain_pages}
use Rattle.tq_pages.specs.Content.{payload_bytes, run_number}
use Rattle.tq_pages.proofs.PageLemmas.{length-page_form}
use Rattle.tq_pages.proofs.writing.write_run.Goals as goal

pub returns-clause-written : goal.returns-clause-written
returns-clause-written g c = λ told k lt i below.
    let page = c.args.page in
    let bytes = c.args.bytes.now in
    let count = chain_pages (length bytes) in
    let part = run_at (payload_bytes * k) payload_bytes bytes in
    let next = run_number page c.args.behind count k in
    let owned = owned_bytes c.args.map.now ((g.H.Host.view c.write_at.new.host).reads c.args.dev) in
    let few = length-page_form next part (omega (arith, length-take payload_bytes (drop (payload_bytes * k) bytes))) in
    let place : 1024 * page + 1024 * k + i ≡ 1024 * page + (1024 * k + i) = omega arith in
    ap (λ j. get_or owned j 0) place
    ∙ (c.in_ok-write_at.ensures.written told).bytes.stands (1024 * k + i) (omega (arith, c.fill_run.ensures.size, c.requires.pages)) ∙ c.fill_run.ensures.pages k lt i below

pub returns-in_err-write_at-clause-outside : goal.returns-in_err-write_at-clause-outside
returns-in_err-write_at-clause-outside g c = λ told.
    let dev = c.args.dev in
    subst (λ n. OnBytes c.args.map.now (IsSameBut (1024 * c.args.page) n) ((g.H.Host.view c.args.host.now).reads dev)
    ((g.H.Host.view c.write_at.new.host).reads dev))
    c.fill_run.ensures.size (c.write_at.ensures.outside told)

pub returns-clause-outside : goal.returns-clause-outside
returns-clause-outside g c = λ told.
    let dev = c.args.dev in
    subst (λ n. OnBytes c.args.map.now (IsSameBut (1024 * c.args.page) n) ((g.H.Host.view c.args.host.now).reads dev)
    ((g.H.Host.view c.write_at.new.host).reads dev))
    c.fill_run.ensures.size (c.write_at.ensures.outside told)
