use Rattle.std.proofs.Common.{◌≡◌, ◌<◌, ◌≤◌, ◌+◌, ◌-◌, ◌*◌, ℕ, length, take, drop, min, refl, sym, ap, ◌∙◌, subst, arith}
use Rattle.std.proofs.lemmas.List.{length-take, length-drop, length-append}
use Rattle.tq_host.specs.Calls.{HasBytesAt, IsSameBut}
use Rattle.tq_host.proofs.QuietLemmas.{rest_on}
use Rattle.tq_host.specs.Within.{Within}
use Rattle.tq_extent.specs.Bytes.{owned_bytes, OnBytes, IsAny}
use Rattle.tq_extent.proofs.BytesLemmas.{reaches_same, on_bytes_steps, on_bytes_as}
use Rattle.tq_extent.proofs.RunLemmas.{length-part}
use Rattle.tq_field.specs.Places.{run_at}
use Rattle.tq_pages.specs.Store.{page_behind, chain_pages}
use Rattle.tq_pages.specs.Content.{payload_bytes, page_form, run_number, ArePages, IsSameButPages}
use Rattle.tq_pages.proofs.ChainLemmas.{behind_add, pages_steps, run_within, run_mapped, run_behind, run_in_chain, written_more, stop_more}
use Rattle.tq_pages.proofs.writing.write_chain.Goals as goal

pub run_length-count-requires-clause-within : goal.run_length-count-requires-clause-within
run_length-count-requires-clause-within g c = λ k lt.
    let inv = c.loop-done.invariant in
    let next = c.args.next.now in
    let first = c.args.first in
    let done = c.loop-done.done in
    let same = behind_add next first done k in
    let here = ap (λ p. page_behind next p k) inv.page in
    let within = c.requires.pages.within (done + k) (omega (arith, c.chain_pages-all.ensures, c.min-most.ensures)) in
    omega arith

pub overflow_add-page : goal.overflow_add-page
overflow_add-page g c =
    let inv = c.loop-done.invariant in
    let clusters = c.args.map.now in
    let next = c.args.next.now in
    let first = c.args.first in
    let bytes = c.args.bytes.now in
    let all = c.chain_pages-all.result in
    let done = c.loop-done.done in
    let page = c.loop-done.page in
    let count = c.run_length-count.result in
    let are = subst (λ n. ArePages clusters next first n) (sym c.chain_pages-all.ensures) c.requires.pages in
    let range : done + count ≤ all = omega (arith, inv.range, c.run_length-count.ensures.most, c.min-most.ensures) in
    let some = c.run_length-count.ensures.some in
    let run = c.run_length-count.ensures.run in
    let within = run_within clusters next first all done page count are inv.page range some run in
    let mapped = run_mapped clusters next first all done page count are inv.page range some run in
    omega (arith, are.few)

pub behind_last-behind-requires : goal.behind_last-behind-requires
behind_last-behind-requires g c =
    let inv = c.loop-done.invariant in
    let clusters = c.args.map.now in
    let next = c.args.next.now in
    let first = c.args.first in
    let bytes = c.args.bytes.now in
    let all = c.chain_pages-all.result in
    let done = c.loop-done.done in
    let page = c.loop-done.page in
    let count = c.run_length-count.result in
    let are = subst (λ n. ArePages clusters next first n) (sym c.chain_pages-all.ensures) c.requires.pages in
    let range : done + count ≤ all = omega (arith, inv.range, c.run_length-count.ensures.most, c.min-most.ensures) in
    let some = c.run_length-count.ensures.some in
    let run = c.run_length-count.ensures.run in
    let within = run_within clusters next first all done page count are inv.page range some run in
    let mapped = run_mapped clusters next first all done page count are inv.page range some run in
    omega arith

pub write_run-requires-clause-few : goal.write_run-requires-clause-few
write_run-requires-clause-few g c =
    let inv = c.loop-done.invariant in
    let clusters = c.args.map.now in
    let next = c.args.next.now in
    let first = c.args.first in
    let bytes = c.args.bytes.now in
    let all = c.chain_pages-all.result in
    let done = c.loop-done.done in
    let page = c.loop-done.page in
    let count = c.run_length-count.result in
    let are = subst (λ n. ArePages clusters next first n) (sym c.chain_pages-all.ensures) c.requires.pages in
    let range : done + count ≤ all = omega (arith, inv.range, c.run_length-count.ensures.most, c.min-most.ensures) in
    let some = c.run_length-count.ensures.some in
    let run = c.run_length-count.ensures.run in
    let within = run_within clusters next first all done page count are inv.page range some run in
    let mapped = run_mapped clusters next first all done page count are inv.page range some run in
    let used : c.min-used.result ≡ min (length bytes - 1016 * done) (1016 * count) = omega (arith, c.min-used.ensures) in
    let long = length-part (1016 * done) c.min-used.result bytes (omega (arith, c.chain_pages-all.ensures)) in
    omega (arith, are.few, c.chain_pages-all.ensures)

pub write_run-requires-clause-within : goal.write_run-requires-clause-within
write_run-requires-clause-within g c =
    let inv = c.loop-done.invariant in
    let clusters = c.args.map.now in
    let next = c.args.next.now in
    let first = c.args.first in
    let bytes = c.args.bytes.now in
    let all = c.chain_pages-all.result in
    let done = c.loop-done.done in
    let page = c.loop-done.page in
    let count = c.run_length-count.result in
    let are = subst (λ n. ArePages clusters next first n) (sym c.chain_pages-all.ensures) c.requires.pages in
    let range : done + count ≤ all = omega (arith, inv.range, c.run_length-count.ensures.most, c.min-most.ensures) in
    let some = c.run_length-count.ensures.some in
    let run = c.run_length-count.ensures.run in
    let within = run_within clusters next first all done page count are inv.page range some run in
    let mapped = run_mapped clusters next first all done page count are inv.page range some run in
    omega (arith, length-take (1024 * count) c.loop-done.buffer, inv.room)

pub write_run-requires-clause-reach : goal.write_run-requires-clause-reach
write_run-requires-clause-reach g c = λ told.
    reaches_same c.args.map.now _ _ (c.loop-done.invariant.beside told).size ∙ c.requires.reach told

pub returns-in_err-write_run-clause-stop : goal.returns-in_err-write_run-clause-stop
returns-in_err-write_run-clause-stop g c = λ reach.
    let inv = c.loop-done.invariant in
    let clusters = c.args.map.now in
    let next = c.args.next.now in
    let first = c.args.first in
    let bytes = c.args.bytes.now in
    let all = c.chain_pages-all.result in
    let done = c.loop-done.done in
    let page = c.loop-done.page in
    let count = c.run_length-count.result in
    let are = subst (λ n. ArePages clusters next first n) (sym c.chain_pages-all.ensures) c.requires.pages in
    let range : done + count ≤ all = omega (arith, inv.range, c.run_length-count.ensures.most, c.min-most.ensures) in
    let some = c.run_length-count.ensures.some in
    let run = c.run_length-count.ensures.run in
    let within = run_within clusters next first all done page count are inv.page range some run in
    let mapped = run_mapped clusters next first all done page count are inv.page range some run in
    let dev = c.args.dev in
    let start = g.H.Host.view c.args.host.now in
    let mid = g.H.Host.view c.loop-done.host in
    let new = g.H.Host.view c.write_run.new.host in
    let size : length (take (1024 * count) c.loop-done.buffer) ≡ 1024 * count = omega (arith, length-take (1024 * count) c.loop-done.buffer, inv.room, c.min-most.ensures) in
    let inside = run_in_chain clusters next first all done page count are inv.page range some run in
    subst (λ n. Within dev (OnBytes clusters (IsSameButPages next first n)) IsAny start new) c.chain_pages-all.ensures
    (stop_more dev clusters next first all (1024 * page) (1024 * count) start mid new reach inside (inv.stop reach)
    (λ r. subst (λ n. Within dev (OnBytes clusters (IsSameBut (1024 * page) n)) IsAny mid new) size (c.write_run.ensures.stop r)))

pub returns-in_err-write_run-clause-outside : goal.returns-in_err-write_run-clause-outside
returns-in_err-write_run-clause-outside g c = λ told.
    let inv = c.loop-done.invariant in
    let clusters = c.args.map.now in
    let next = c.args.next.now in
    let first = c.args.first in
    let bytes = c.args.bytes.now in
    let all = c.chain_pages-all.result in
    let done = c.loop-done.done in
    let page = c.loop-done.page in
    let count = c.run_length-count.result in
    let are = subst (λ n. ArePages clusters next first n) (sym c.chain_pages-all.ensures) c.requires.pages in
    let range : done + count ≤ all = omega (arith, inv.range, c.run_length-count.ensures.most, c.min-most.ensures) in
    let some = c.run_length-count.ensures.some in
    let run = c.run_length-count.ensures.run in
    let within = run_within clusters next first all done page count are inv.page range some run in
    let mapped = run_mapped clusters next first all done page count are inv.page range some run in
    let dev = c.args.dev in
    let start = g.H.Host.view c.args.host.now in
    let mid = g.H.Host.view c.loop-done.host in
    let new = g.H.Host.view c.write_run.new.host in
    let size : length (take (1024 * count) c.loop-done.buffer) ≡ 1024 * count = omega (arith, length-take (1024 * count) c.loop-done.buffer, inv.room, c.min-most.ensures) in
    let inside = run_in_chain clusters next first all done page count are inv.page range some run in
    let step = subst (λ n. OnBytes clusters (IsSameBut (1024 * page) n) (mid.reads dev) (new.reads dev)) size (c.write_run.ensures.outside told) in
    subst (λ n. OnBytes clusters (IsSameButPages next first n) (start.reads dev) (new.reads dev)) c.chain_pages-all.ensures
    ((on_bytes_steps clusters (IsSameButPages next first all) (pages_steps next first all)).both (start.reads dev) (mid.reads dev) (new.reads dev)
    (inv.beside told)
    (on_bytes_as clusters (IsSameBut (1024 * page) (1024 * count)) (IsSameButPages next first all) (mid.reads dev) (new.reads dev)
    (inside (owned_bytes clusters (mid.reads dev)) (owned_bytes clusters (new.reads dev))) step))

pub overflow_add-page-in-loop-done : goal.overflow_add-page-in-loop-done
overflow_add-page-in-loop-done g c =
    let inv = c.loop-done.invariant in
    let clusters = c.args.map.now in
    let next = c.args.next.now in
    let first = c.args.first in
    let bytes = c.args.bytes.now in
    let all = c.chain_pages-all.result in
    let done = c.loop-done.done in
    let page = c.loop-done.page in
    let count = c.run_length-count.result in
    let are = subst (λ n. ArePages clusters next first n) (sym c.chain_pages-all.ensures) c.requires.pages in
    let range : done + count ≤ all = omega (arith, inv.range, c.run_length-count.ensures.most, c.min-most.ensures) in
    let some = c.run_length-count.ensures.some in
    let run = c.run_length-count.ensures.run in
    let within = run_within clusters next first all done page count are inv.page range some run in
    let mapped = run_mapped clusters next first all done page count are inv.page range some run in
    omega (arith, are.few)

pub bounds-next-page : goal.bounds-next-page
bounds-next-page g c =
    let inv = c.loop-done.invariant in
    let clusters = c.args.map.now in
    let next = c.args.next.now in
    let first = c.args.first in
    let bytes = c.args.bytes.now in
    let all = c.chain_pages-all.result in
    let done = c.loop-done.done in
    let page = c.loop-done.page in
    let count = c.run_length-count.result in
    let are = subst (λ n. ArePages clusters next first n) (sym c.chain_pages-all.ensures) c.requires.pages in
    let range : done + count ≤ all = omega (arith, inv.range, c.run_length-count.ensures.most, c.min-most.ensures) in
    let some = c.run_length-count.ensures.some in
    let run = c.run_length-count.ensures.run in
    let within = run_within clusters next first all done page count are inv.page range some run in
    let mapped = run_mapped clusters next first all done page count are inv.page range some run in
    omega arith

pub loop-done-preserved : goal.loop-done-preserved
loop-done-preserved g c =
    let inv = c.loop-done.invariant in
    let clusters = c.args.map.now in
    let next = c.args.next.now in
    let first = c.args.first in
    let bytes = c.args.bytes.now in
    let all = c.chain_pages-all.result in
    let done = c.loop-done.done in
    let page = c.loop-done.page in
    let count = c.run_length-count.result in
    let are = subst (λ n. ArePages clusters next first n) (sym c.chain_pages-all.ensures) c.requires.pages in
    let range : done + count ≤ all = omega (arith, inv.range, c.run_length-count.ensures.most, c.min-most.ensures) in
    let some = c.run_length-count.ensures.some in
    let run = c.run_length-count.ensures.run in
    let within = run_within clusters next first all done page count are inv.page range some run in
    let mapped = run_mapped clusters next first all done page count are inv.page range some run in
    let dev = c.args.dev in
    let start = g.H.Host.view c.args.host.now in
    let mid = g.H.Host.view c.loop-done.host in
    let new = g.H.Host.view c.write_run.new.host in
    let at = 1016 * done in
    let used = c.min-used.result in
    let used_is : used ≡ min (length bytes - at) (1016 * count) = omega (arith, c.min-used.ensures) in
    let before : at ≤ length bytes = omega (arith, c.chain_pages-all.ensures) in
    let part = take (at + used - at) (drop at bytes) in
    let long = length-part at used bytes (omega arith) in
    let count_is : chain_pages (length part) ≡ count = omega (arith, c.chain_pages-all.ensures) in
    let size : length (take (1024 * count) c.loop-done.buffer) ≡ 1024 * count = omega (arith, length-take (1024 * count) c.loop-done.buffer, inv.room, c.min-most.ensures) in
    let inside = run_in_chain clusters next first all done page count are inv.page range some run in
    let step : g.H.Host.tells.reads → OnBytes clusters (IsSameBut (1024 * page) (1024 * count)) (mid.reads dev) (new.reads dev) = λ told.
    subst (λ n. OnBytes clusters (IsSameBut (1024 * page) n) (mid.reads dev) (new.reads dev)) size (c.write_run.ensures.outside told) in
    let P = IsSameButPages next first all in
    record {
      range = range;
      room = omega (arith, length-append c.write_run.new.pages (drop (1024 * count) c.loop-done.buffer), length-drop (1024 * count) c.loop-done.buffer, c.write_run.ensures.pages, size, inv.room);
      page = run_behind clusters next first all done page count are inv.page range some run;
      written = λ told. written_more clusters next first all done page count are inv.page range some run c.behind_last-behind.result at used bytes
          (owned_bytes clusters (mid.reads dev)) (owned_bytes clusters (new.reads dev)) c.behind_last-behind.ensures refl before used_is (inv.written told) (step told).bytes
          (subst (λ n. (k : ℕ) → k < n → HasBytesAt (1024 * page + 1024 * k)
          (page_form (run_number page c.behind_last-behind.result n k) (run_at (payload_bytes * k) payload_bytes part)) (owned_bytes clusters (new.reads dev))) count_is
          (c.in_ok-write_run.ensures.written told));
      beside = λ told. (on_bytes_steps clusters P (pages_steps next first all)).both (start.reads dev) (mid.reads dev) (new.reads dev) (inv.beside told)
          (on_bytes_as clusters (IsSameBut (1024 * page) (1024 * count)) P (mid.reads dev) (new.reads dev)
          (inside (owned_bytes clusters (mid.reads dev)) (owned_bytes clusters (new.reads dev))) (step told));
      stop = λ reach. stop_more dev clusters next first all (1024 * page) (1024 * count) start mid new reach inside (inv.stop reach)
          (λ r. subst (λ n. Within dev (OnBytes clusters (IsSameBut (1024 * page) n)) IsAny mid new) size (c.write_run.ensures.stop r));
      rest = rest_on dev start mid new inv.rest c.write_run.ensures.rest;
      faults = c.in_ok-write_run.ensures.cause.ok ∙ inv.faults;
    }
