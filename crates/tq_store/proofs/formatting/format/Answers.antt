use Rattle.std.proofs.Common.{ℕ, List, length, sym, subst, ◌∙◌, rules}
use Rattle.tq_host.specs.Calls.{IsSameBut}
use Rattle.tq_extent.specs.Bytes.{owned_bytes}
use Rattle.tq_extent.proofs.BytesLemmas.{reaches_same}
use Rattle.tq_store.specs.New.{AreFirst, IsFormatted}
use Rattle.tq_store.proofs.NewPageLemmas.{creation_from, formatted, space_synced}
use Rattle.tq_store.proofs.formatting.format.Goals as goal

pub returns-in_err-sync-clause-stop : goal.returns-in_err-sync-clause-stop
returns-in_err-sync-clause-stop g c = λ long.
    space_synced c.args.dev c.args.map.now (IsSameBut 0 (length c.deref.result.now)) (g.H.Host.view c.args.host.now) (g.H.Host.view c.write_at.new.host)
    (c.write_at.ensures.stop long) (g.H.Host.view c.sync.new.self) c.sync.result c.sync.ensures.call c.sync.ensures.still

pub returns-clause-done : goal.returns-clause-done
returns-clause-done g c = λ told.
    let s = c.args.shape.now in
    let map = c.args.map.now in
    let bytes = c.deref.result.now in
    let old = (g.H.Host.view c.args.host.now).reads c.args.dev in
    let mid = (g.H.Host.view c.write_at.new.host).reads c.args.dev in
    let asked = c.requires in
    let first : AreFirst s bytes = search rules in
    let within = creation_from s asked.queues asked.messages asked.transactions asked.memory asked.pages.0 first.error in
    let step = c.in_ok-write_at.ensures.written told in
    subst (λ (image : List ℕ). IsFormatted s map image) (sym (c.sync.ensures.still.reads c.args.dev))
    (formatted s map bytes (owned_bytes map old) mid first asked.enough (reaches_same map old mid step.size ∙ asked.reach told) step.bytes within asked.pages.0)
