use Rattle.std.proofs.Common.{◌≡◌, ◌≤◌, ◌+◌, ◌-◌, ℕ, List, length, replicate, refl, ap, ◌∙◌, arith}
use Rattle.std.proofs.lemmas.List.{length-replicate}
use borrow.Rule.Slice.PartMut.{put_mid}
use Rattle.tq_field.specs.Places.{with_number}
use Rattle.tq_field.proofs.Runs.{length-with_number}
use Rattle.tq_extent.proofs.RunLemmas.{filled}
use Rattle.tq_pages.proofs.PageLemmas.{form_written}
use Rattle.tq_pages.proofs.filling.fill_page.Goals as goal

pub returns : goal.returns
returns c =
    let bytes = c.args.payload.now in
    let n = length bytes in
    let page = c.set_short.new.bytes in
    let made : page ≡ with_number 4 2 n (with_number 0 4 c.args.next (replicate 1024 0)) =
    c.set_short.ensures ∙ ap (with_number 4 2 n) (c.set_number.ensures ∙ ap (with_number 0 4 c.args.next) c.copy_from_slice.ensures.after) in
    let zeros : List ℕ = replicate 1024 0 in
    let size = length-replicate {A = ℕ} 1024 0 in
    let one = length-with_number 0 4 c.args.next zeros (omega arith) in
    let two = length-with_number 4 2 n (with_number 0 4 c.args.next zeros) (omega arith) in
    let all = ap (λ (l : List ℕ). length l) made in
    let within : 8 + n ≤ length page = omega (arith, c.requires.payload) in
    ap (λ (l : List ℕ). put_mid 8 (8 + n - 8) page l) c.copy_from_slice-2.ensures.after ∙ filled 8 n page bytes refl within ∙ form_written c.args.next bytes page c.requires.payload made
