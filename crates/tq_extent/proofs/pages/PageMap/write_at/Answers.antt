use Rattle.std.proofs.Common.{◌≡◌, ◌≤◌, ◌+◌, ◌-◌, ◌∙◌, inl, true, length, take, drop, subst, arith}
use Rattle.tq_host.specs.Calls.{HasBytesAt, IsSameBut, IsWritten}
use Rattle.tq_host.proofs.Bytes.{same_but_steps}
use Rattle.tq_host.proofs.QuietLemmas.{rest_on, rest_changes}
use Rattle.tq_host.proofs.Within.{weaker}
use Rattle.tq_extent.specs.Bytes.{byte_count, owned_bytes, byte_address, reaches, OnBytes, IsAny}
use Rattle.tq_extent.proofs.BytesLemmas.{reaches_same, on_bytes_steps}
use Rattle.tq_extent.proofs.RunLemmas.{HasReach, row_below, row_stands, row_torn, row_behind, row_stop, first_more, all_written, length-part, get_or-part}
use Rattle.tq_extent.proofs.pages.PageMap.write_at.Goals as goal

pub write_at-requires-clause-end : goal.write_at-requires-clause-end
write_at-requires-clause-end g c =
    let done = c.loop-done.done in
    let count = c.run_length-count.result in
    let part = length-part done count c.args.from.now (omega arith) in
    let end = row_below c.args.self.now c.loop-done.place count
    (omega arith) c.run_length-count.ensures.run c.run_length-count.ensures.some c.byte_address.ensures.pages in
    omega arith

pub returns-in_err-write_at-clause-stop : goal.returns-in_err-write_at-clause-stop
returns-in_err-write_at-clause-stop g c = λ reach.
    let clusters = c.args.self.now in
    let dev = c.args.dev in
    let count = c.run_length-count.result in
    let all = length c.args.from.now in
    let start = g.H.Host.view c.args.host.now in
    let new = g.H.Host.view c.write_at.new.self in
    weaker dev (OnBytes clusters (IsSameBut c.args.at all)) (on_bytes_steps clusters (IsSameBut c.args.at all) (same_but_steps c.args.at all))
    (HasReach clusters) IsAny start new (λ b d may has. tt)
    (row_stop clusters c.loop-done.place count (omega arith) c.run_length-count.ensures.run dev c.args.at all _ _ start
    (g.H.Host.view c.loop-done.host) new c.write_at.result
    c.run_length-count.ensures.some (omega arith) (omega arith) c.byte_address.ensures.pages.distinct c.byte_address.ensures.address
    (length-part c.loop-done.done count c.args.from.now (omega arith))
    (c.loop-done.invariant.stop reach) c.write_at.ensures.call c.write_at.ensures.change)

-- what the write of a run did to what is read
pub returns-in_err-write_at-clause-outside : goal.returns-in_err-write_at-clause-outside
returns-in_err-write_at-clause-outside g c = λ told.
    let clusters = c.args.self.now in
    let dev = c.args.dev in
    let inv = c.loop-done.invariant in
    let count = c.run_length-count.result in
    let place = c.loop-done.place in
    let row = c.run_length-count.ensures.run in
    let mid = (g.H.Host.view c.loop-done.host).reads dev in
    let start = (g.H.Host.view c.args.host.now).reads dev in
    let new = (g.H.Host.view c.write_at.new.self).reads dev in
    let here : place + count ≤ byte_count clusters = omega arith in
    row_behind clusters place count here row c.args.at (length c.args.from.now) start mid new (omega arith) (omega arith) (inv.beside told)
    (row_torn clusters place count here row _ _ mid new c.run_length-count.ensures.some c.byte_address.ensures.pages.distinct
    c.byte_address.ensures.address (length-part c.loop-done.done count c.args.from.now (omega arith))
    (reaches_same clusters start mid (inv.beside told).size ∙ c.requires.reach told) c.write_at.ensures.change.own_read)

pub loop-done-preserved : goal.loop-done-preserved
loop-done-preserved g c =
    let inv = c.loop-done.invariant in
    let clusters = c.args.self.now in
    let dev = c.args.dev in
    let at = c.args.at in
    let from = c.args.from.now in
    let done = c.loop-done.done in
    let place = c.loop-done.place in
    let count = c.run_length-count.result in
    let start = g.H.Host.view c.args.host.now in
    let mid = g.H.Host.view c.loop-done.host in
    let new = g.H.Host.view c.write_at.new.self in
    let run = take (done + count - done) (drop done from) in
    let within : done + count ≤ length from = omega arith in
    let here : place + count ≤ byte_count clusters = omega arith in
    let row = c.run_length-count.ensures.run in
    let some = c.run_length-count.ensures.some in
    let distinct = c.byte_address.ensures.pages.distinct in
    let long : length run ≡ count = length-part done count from within in
    let reach : g.H.Host.tells.reads → reaches clusters (mid.reads dev) ≡ true = λ told.
    reaches_same clusters (start.reads dev) (mid.reads dev) (inv.beside told).size ∙ c.requires.reach told in
    let address = byte_address clusters place in
    let write : g.H.Host.tells.reads → IsWritten address run (mid.reads dev) (new.reads dev) = λ told.
    subst (λ k. IsWritten k run (mid.reads dev) (new.reads dev)) c.byte_address.ensures.address (c.in_ok-write_at.ensures.written told) in
    let step : g.H.Host.tells.reads → OnBytes clusters (IsSameBut place count) (mid.reads dev) (new.reads dev) = λ told.
    row_torn clusters place count here row _ _ (mid.reads dev) (new.reads dev) some distinct c.byte_address.ensures.address long (reach told)
    c.write_at.ensures.change.own_read in
    record {
      range = within;
      place = omega arith;
      bytes = λ told.
          let owned = owned_bytes clusters (new.reads dev) in
          let changed = step told in
          let reach_new : reaches clusters (new.reads dev) ≡ true = reaches_same clusters (mid.reads dev) (new.reads dev) changed.size ∙ reach told in
          let stands = row_stands clusters place count here row run (new.reads dev) long reach_new (write told).stands in
          first_more at done count from run owned (λ i lt. changed.bytes.outside (at + i) (inl (omega arith)) ∙ inv.bytes told i lt) long
          (get_or-part done count from within)
          (subst (λ k. HasBytesAt k run owned) inv.place stands);
      beside = λ told. row_behind clusters place count here row at (length from) (start.reads dev) (mid.reads dev) (new.reads dev) (omega arith) (omega arith)
          (inv.beside told) (step told);
      stop = λ reached.
          row_stop clusters place count here row dev at (length from) _ _ start mid new c.write_at.result some (omega arith)
          (omega arith) distinct c.byte_address.ensures.address long
          (inv.stop reached) c.write_at.ensures.call c.write_at.ensures.change;
      rest = rest_on dev start mid new inv.rest (rest_changes dev _ mid new c.write_at.result c.write_at.ensures.call c.write_at.ensures.change);
      faults = c.in_ok-write_at.ensures.call.cause.ok ∙ inv.faults;
    }

pub returns-clause-written : goal.returns-clause-written
returns-clause-written g c = λ told.
    let inv = c.loop-done.invariant in
    all_written c.args.self.now c.args.at c.loop-done.done c.args.from.now _ _ (c.requires.reach told) c.requires.within (omega arith) (inv.bytes told)
    (inv.beside told)
