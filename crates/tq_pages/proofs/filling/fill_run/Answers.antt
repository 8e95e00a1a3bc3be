use Rattle.std.proofs.Common.{◌≡◌, ◌≤◌, ◌+◌, ◌-◌, ◌*◌, ◌/◌, ℕ, List, length, drop, min, ap, ◌∙◌, arith}
use Rattle.std.proofs.lemmas.List.{length-take}
use Rattle.tq_field.specs.Places.{run_at}
use Rattle.tq_extent.proofs.RunLemmas.{length-filled}
use Rattle.tq_pages.specs.Content.{payload_bytes, page_form, run_number}
use Rattle.tq_pages.proofs.PageLemmas.{length-page_form, fill_more, used_run}
use Rattle.tq_pages.proofs.filling.fill_run.Goals as goal

pub loop-k-preserved : goal.loop-k-preserved
loop-k-preserved c =
    let inv = c.loop-k.invariant in
    let k = c.loop-k.k in
    let bytes = c.args.bytes.now in
    let count = length c.args.pages.now / 1024 in
    let forms : ℕ → List ℕ = λ j. page_form (run_number c.args.first c.args.behind count j) (run_at (payload_bytes * j) payload_bytes bytes) in
    let sizes : (j : ℕ) → length (forms j) ≡ 1024 = λ j.
    length-page_form (run_number c.args.first c.args.behind count j) (run_at (payload_bytes * j) payload_bytes bytes)
    (omega (arith, length-take payload_bytes (drop (payload_bytes * j) bytes))) in
    let within : 1016 * k ≤ length bytes = omega (arith, c.requires.pages, c.loop-k-test.true) in
    let used : c.min-used.result ≡ min (length bytes - 1016 * k) 1016 = omega (arith, c.min-used.ensures) in
    let room : 1024 * k + 1024 ≤ length c.loop-k.pages = omega (arith, inv.size, c.loop-k-test.true) in
    let new : c.fill_page.new.page ≡ forms k =
    c.fill_page.ensures ∙ (λ i. page_form (c.number_after-next.ensures i) (used_run (1016 * k) c.min-used.result bytes within used i)) in
    let size = ap (λ (l : List ℕ). length l) new ∙ sizes k in
    record {
      size = length-filled (1024 * k) 1024 c.loop-k.pages c.fill_page.new.page size room ∙ inv.size;
      done = fill_more forms k c.loop-k.pages c.fill_page.new.page sizes new room inv.done;
    }
