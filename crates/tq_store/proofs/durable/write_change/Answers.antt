use Rattle.std.proofs.Common.{refl, sym, ap, subst, ◌∙◌}
use Rattle.tq_host.specs.View.{IsSettled}
use Rattle.tq_gate.specs.declared.log.GateLog.{GateLog}
use Rattle.tq_gate.specs.Frame.{payload_in}
use Rattle.tq_gate.specs.Log.{layout_of}
use Rattle.tq_store.specs.Change.{changed, with_log}
use Rattle.tq_store.proofs.ChangeLemmas.{are_after, change_with, on_owner, put_read, reach_after, reach_owner, sound_with, stops_second, stops_third}
use Rattle.tq_store.proofs.FileStepLemmas.{all_settled, have_log, own_dev, read_added, stops_added}
use Rattle.tq_store.proofs.durable.write_change.Goals as goal

pub append-requires-clause-fits : goal.append-requires-clause-fits
append-requires-clause-fits g c = c.in_ok-renew.ensures.room _ c.requires.empty c.requires.fits

pub append-requires-clause-reach : goal.append-requires-clause-reach
append-requires-clause-reach g c = λ told.
    let store = c.args.store.now in
    let layout = layout_of c.args.log.now in
    let v0 = g.H.Host.view c.args.host.now in
    let v1 = g.H.Host.view c.renew.new.host in
    let v2 = g.H.Host.view c.put_message.new.host in
    let one = reach_after store.clusters _ _ (on_owner layout store.clusters store.dev c.requires.dev c.requires.owner v0 v1 (c.renew.ensures.outside told))
    (c.requires.reach told) in
    let two = reach_after store.clusters _ _ (c.put_message.ensures.outside told) one in
    reach_owner layout store.clusters store.dev c.requires.dev c.requires.owner (layout_of c.renew.new.log) v2 c.renew.ensures.layout two

pub returns-in_err-put_message-clause-stop : goal.returns-in_err-put_message-clause-stop
returns-in_err-put_message-clause-stop g c = λ f s raw base_is change are.
    let log = c.renew.new.log in
    let layout = c.renew.ensures.layout ∙ ap (λ (l : GateLog). layout_of l) (sym base_is.log_is) in
    stops_second f base_is.sound s (g.H.Host.view c.args.host.now) (g.H.Host.view c.renew.new.host) (c.renew.ensures.stop f base_is are) log layout
    (g.H.Host.view c.put_message.new.host)
    (c.put_message.ensures.stop (with_log f log) (sound_with f log base_is.sound layout) change.chain (c.in_ok-renew.ensures.images f base_is are))

pub returns-in_err-append-clause-stop : goal.returns-in_err-append-clause-stop
returns-in_err-append-clause-stop g c = λ f s raw base_is change are.
    let log = c.renew.new.log in
    let store = c.args.store.now in
    let message = c.args.message.now in
    let payload = payload_in c.args.frame.now in
    let layout = c.renew.ensures.layout ∙ ap (λ (l : GateLog). layout_of l) (sym base_is.log_is) in
    let v0 = g.H.Host.view c.args.host.now in
    let v1 = g.H.Host.view c.renew.new.host in
    let v2 = g.H.Host.view c.put_message.new.host in
    let v3 = g.H.Host.view c.append.new.host in
    let sound = sound_with f log base_is.sound layout in
    let one = c.renew.ensures.stop f base_is are in
    let two = c.put_message.ensures.stop (with_log f log) sound change.chain (c.in_ok-renew.ensures.images f base_is are) in
    let are_two = are_after f base_is.sound s v0 v1 one log layout v2 two in
    stops_third f base_is.sound s v0 v1 one log layout v2 two v3
    (stops_added (with_log f log) sound log refl s raw store c.args.first message payload v2 v3 (g.met.H.Host.lawful c.put_message.new.host)
    (change_with f s raw store c.args.first message payload log change layout)
    (λ told. put_read f s raw store c.put_message.new.store c.args.first message payload v2 change c.put_message.ensures.store (c.in_ok-put_message.ensures.put told))
    are_two (c.append.ensures.stop (have_log (with_log f log) sound log refl v2 are_two)))

pub returns-clause-read : goal.returns-clause-read
returns-clause-read g c = λ told f s raw base_is change is.
    let log = c.renew.new.log in
    let store = c.args.store.now in
    let message = c.args.message.now in
    let payload = payload_in c.args.frame.now in
    let layout = c.renew.ensures.layout ∙ ap (λ (l : GateLog). layout_of l) (sym base_is.log_is) in
    let v2 = g.H.Host.view c.put_message.new.host in
    let sound = sound_with f log base_is.sound layout in
    let two = c.put_message.ensures.read told (with_log f log) sound change.chain (c.in_ok-renew.ensures.read told f base_is is) in
    read_added (with_log f log) sound log refl c.append.new.self s raw store c.args.first message payload v2 (g.H.Host.view c.append.new.host)
    (change_with f s raw store c.args.first message payload log change layout)
    (put_read f s raw store c.put_message.new.store c.args.first message payload v2 change c.put_message.ensures.store (c.in_ok-put_message.ensures.put told))
    c.append.ensures.layout (c.append.ensures.outside told) (c.in_ok-append.ensures.added told) two

pub returns-clause-images : goal.returns-clause-images
returns-clause-images g c = λ f s raw base_is change are.
    let log = c.renew.new.log in
    let store = c.args.store.now in
    let message = c.args.message.now in
    let payload = payload_in c.args.frame.now in
    let layout = c.renew.ensures.layout ∙ ap (λ (l : GateLog). layout_of l) (sym base_is.log_is) in
    let v0 = g.H.Host.view c.args.host.now in
    let v1 = g.H.Host.view c.renew.new.host in
    let v2 = g.H.Host.view c.put_message.new.host in
    let v3 = g.H.Host.view c.append.new.host in
    let sound = sound_with f log base_is.sound layout in
    let two = c.put_message.ensures.stop (with_log f log) sound change.chain (c.in_ok-renew.ensures.images f base_is are) in
    let are_two = are_after f base_is.sound s v0 v1 (c.renew.ensures.stop f base_is are) log layout v2 two in
    all_settled (with_log f log) (with_log (changed f s raw store) c.append.new.self) v2 v3 (g.met.H.Host.lawful c.put_message.new.host)
    (g.met.H.Host.lawful c.append.new.host) refl (subst (λ d. IsSettled d v3) (own_dev (with_log f log) sound log refl) c.in_ok-append.ensures.settled)
    (λ told is.
    read_added (with_log f log) sound log refl c.append.new.self s raw store c.args.first message payload v2 v3
    (change_with f s raw store c.args.first message payload log change layout)
    (put_read f s raw store c.put_message.new.store c.args.first message payload v2 change c.put_message.ensures.store (c.in_ok-put_message.ensures.put told))
    c.append.ensures.layout (c.append.ensures.outside told) (c.in_ok-append.ensures.added told) is) are_two

pub returns-clause-stop : goal.returns-clause-stop
returns-clause-stop g c = λ f s raw base_is change are.
    let log = c.renew.new.log in
    let store = c.args.store.now in
    let message = c.args.message.now in
    let payload = payload_in c.args.frame.now in
    let layout = c.renew.ensures.layout ∙ ap (λ (l : GateLog). layout_of l) (sym base_is.log_is) in
    let v0 = g.H.Host.view c.args.host.now in
    let v1 = g.H.Host.view c.renew.new.host in
    let v2 = g.H.Host.view c.put_message.new.host in
    let v3 = g.H.Host.view c.append.new.host in
    let sound = sound_with f log base_is.sound layout in
    let one = c.renew.ensures.stop f base_is are in
    let two = c.put_message.ensures.stop (with_log f log) sound change.chain (c.in_ok-renew.ensures.images f base_is are) in
    let are_two = are_after f base_is.sound s v0 v1 one log layout v2 two in
    stops_third f base_is.sound s v0 v1 one log layout v2 two v3
    (stops_added (with_log f log) sound log refl s raw store c.args.first message payload v2 v3 (g.met.H.Host.lawful c.put_message.new.host)
    (change_with f s raw store c.args.first message payload log change layout)
    (λ told. put_read f s raw store c.put_message.new.store c.args.first message payload v2 change c.put_message.ensures.store (c.in_ok-put_message.ensures.put told))
    are_two (c.append.ensures.stop (have_log (with_log f log) sound log refl v2 are_two)))
