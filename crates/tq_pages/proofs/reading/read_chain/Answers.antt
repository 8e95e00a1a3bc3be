use Rattle.std.proofs.Common.{◌≡◌, inl, inr, ◌<◌, ◌≤◌, ◌+◌, ◌-◌, ◌*◌, ◌/◌, ◌%◌, ℕ, suc, List, length, get_or, min, sym, ap, ◌∙◌, subst, arith}
use Rattle.std.proofs.lemmas.Bool.{cases_lt}
use borrow.Rule.Slice.PartMut.{put_mid}
use Rattle.tq_host.specs.Calls.{HasBytesAt}
use Rattle.tq_extent.specs.Bytes.{owned_bytes}
use Rattle.tq_extent.proofs.ReadOnlyLemmas.{quiet_on}
use Rattle.tq_extent.proofs.RunLemmas.{length-part, length-filled, filled_before, filled_within}
use Rattle.tq_pages.specs.Store.{page_behind}
use Rattle.tq_pages.specs.Content.{payload_place}
use Rattle.tq_pages.proofs.reading.read_chain.Goals as goal

pub loop-k-preserved : goal.loop-k-preserved
loop-k-preserved g c =
    let inv = c.loop-k.invariant in
    let dev = c.args.dev in
    let next = c.args.next.now in
    let first = c.args.first in
    let k = c.loop-k.k in
    let into = c.loop-k.into in
    let used = c.min-used.result in
    let at = 1016 * k in
    let run = c.read_at.new.into in
    let start = g.H.Host.view c.args.host.now in
    let mid = g.H.Host.view c.loop-k.host in
    let lt = c.loop-k-test.true in
    let used_is : used ≡ min (length into - 1016 * k) 1016 = omega (arith, c.min-used.ensures) in
    let within : at + used ≤ length into = omega (arith, inv.size) in
    let long : length run ≡ used = c.read_at.ensures.size ∙ length-part at used into within in
    let kept = length-filled at used into run long within in
    let more : k + 1 ≡ suc k = omega arith in
    record {
      size = kept ∙ inv.size;
      page = ap (λ p. get_or next p 0) inv.page ∙ sym (ap (page_behind next first) more);
      bytes = λ told i below inside.
          let owned = owned_bytes c.args.map.now (start.reads dev) in
          let read : HasBytesAt (1024 * c.loop-k.page + 8) run owned =
          subst (λ (l : List ℕ). HasBytesAt (1024 * c.loop-k.page + 8) run (owned_bytes c.args.map.now l)) (inv.quiet.still.reads dev) (c.in_ok-read_at.ensures.bytes told) in
          elim (cases_lt i at) [
            | inl before ↦ filled_before at used into run long within i before ∙ inv.bytes told i (omega arith) inside
            | inr from ↦
                let j = i - at in
                let place : at + j ≡ i = omega arith in
                let short : j < used = omega (arith, inv.size) in
                let div : i / 1016 ≡ k = omega arith in
                let rest : i % 1016 ≡ j = omega arith in
                let here : 1024 * c.loop-k.page + 8 + j ≡ payload_place next first i =
                (λ x. 1024 * inv.page x + 8 + sym rest x) ∙ ap (λ d. 1024 * page_behind next first d + 8 + i % 1016) (sym div) in
                ap (λ n. get_or (put_mid at (at + used - at) into run) n 0) (sym place) ∙ filled_within at used into run long within j short
                ∙ sym (read j (omega arith)) ∙ ap (λ n. get_or owned n 0) here
          ];
      quiet = quiet_on dev start mid (g.H.Host.view c.read_at.new.host) inv.quiet c.read_at.ensures.quiet;
      faults = c.in_ok-read_at.ensures.cause.ok ∙ inv.faults;
    }
