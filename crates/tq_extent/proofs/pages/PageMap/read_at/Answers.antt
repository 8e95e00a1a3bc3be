use Rattle.std.proofs.Common.{◌≡◌, ◌≤◌, ◌+◌, ◌-◌, ◌∙◌, List, ℕ, length, sym, ap, subst, arith}
use borrow.Rule.Slice.PartMut.{put_mid}
use Rattle.tq_host.specs.Calls.{HasBytesAt}
use Rattle.tq_extent.specs.Bytes.{owned_bytes, byte_address}
use Rattle.tq_extent.proofs.ReadOnlyLemmas.{quiet_call, quiet_on}
use Rattle.tq_extent.proofs.RunLemmas.{row_reached, row_stands, first_more, length-part, length-filled, filled_before, filled_within}
use Rattle.tq_extent.proofs.pages.PageMap.read_at.Goals as goal

pub read_at-requires-clause-within : goal.read_at-requires-clause-within
read_at-requires-clause-within g c = λ told.
    let inv = c.loop-done.invariant in
    let count = c.run_length-count.result in
    let image = (g.H.Host.view c.args.host.now).reads c.args.dev in
    let part = length-part c.loop-done.done count c.loop-done.into (omega arith) in
    let end = row_reached c.args.self.now c.loop-done.place count (omega arith) c.run_length-count.ensures.run image c.run_length-count.ensures.some
    (c.requires.reach told) in
    let same = ap (λ (l : List ℕ). length l) (inv.quiet.still.reads c.args.dev) in
    omega arith

pub loop-done-preserved : goal.loop-done-preserved
loop-done-preserved g c =
    let inv = c.loop-done.invariant in
    let clusters = c.args.self.now in
    let dev = c.args.dev in
    let done = c.loop-done.done in
    let place = c.loop-done.place in
    let count = c.run_length-count.result in
    let into = c.loop-done.into in
    let run = c.read_at.new.into in
    let start = g.H.Host.view c.args.host.now in
    let mid = g.H.Host.view c.loop-done.host in
    let within : done + count ≤ length into = omega arith in
    let long : length run ≡ count = c.read_at.auto.into ∙ length-part done count into within in
    let kept = length-filled done count into run long within in
    record {
      range = omega (arith, kept);
      kept = kept ∙ inv.kept;
      place = omega arith;
      bytes = λ told.
          let owned = owned_bytes clusters (start.reads dev) in
          let read : HasBytesAt (byte_address clusters place) run (start.reads dev) =
          subst (λ k. HasBytesAt k run (start.reads dev)) c.byte_address.ensures.address
          (subst (λ (l : List ℕ). HasBytesAt c.byte_address.result run l) (inv.quiet.still.reads dev) (c.in_ok-read_at.ensures.bytes told)) in
          let stands = row_stands clusters place count (omega arith) c.run_length-count.ensures.run run (start.reads dev) long (c.requires.reach told) read in
          first_more c.args.at done count (put_mid done (done + count - done) into run) run owned
          (λ i lt. inv.bytes told i lt ∙ sym (filled_before done count into run long within i lt)) long
          (λ i lt. sym (filled_within done count into run long within i lt))
          (subst (λ k. HasBytesAt k run owned) inv.place stands);
      quiet = quiet_on dev start mid (g.H.Host.view c.read_at.new.self) inv.quiet
          (quiet_call dev mid (g.H.Host.view c.read_at.new.self) c.read_at.result c.read_at.ensures.call c.read_at.ensures.still);
      faults = c.in_ok-read_at.ensures.call.cause.ok ∙ inv.faults;
    }
