use Rattle.std.proofs.Common.{◌≡◌, false, length}
use Rattle.std.specs.Prelude.{◌==◌}
use Rattle.tq_store.proofs.ChangeLemmas.{read_put, some_of, stops_put}
use Rattle.tq_store.proofs.durable.put_message.Goals as goal

pub returns-in_err-put-clause-read : goal.returns-in_err-put-clause-read
returns-in_err-put-clause-read g c = λ told f sound chain is.
    let long : (length c.args.message.now == 0) ≡ false = cc in
    let some = some_of c.args.message.now long in
    read_put f sound c.args.store.now c.args.first c.args.message.now some chain (g.H.Host.view c.args.host.now) (g.H.Host.view c.put.new.host)
    (c.put.ensures.outside told) is

pub returns-in_err-put-clause-stop : goal.returns-in_err-put-clause-stop
returns-in_err-put-clause-stop g c = λ f sound chain are.
    let long : (length c.args.message.now == 0) ≡ false = cc in
    let some = some_of c.args.message.now long in
    stops_put f sound c.args.store.now c.args.first c.args.message.now some chain (g.H.Host.view c.args.host.now) (g.H.Host.view c.put.new.host) are
    c.put.ensures.stop

pub returns-in_ok-put-clause-read : goal.returns-in_ok-put-clause-read
returns-in_ok-put-clause-read g c = λ told f sound chain is.
    let long : (length c.args.message.now == 0) ≡ false = cc in
    let some = some_of c.args.message.now long in
    read_put f sound c.args.store.now c.args.first c.args.message.now some chain (g.H.Host.view c.args.host.now) (g.H.Host.view c.put.new.host)
    (c.put.ensures.outside told) is

pub returns-in_ok-put-clause-stop : goal.returns-in_ok-put-clause-stop
returns-in_ok-put-clause-stop g c = λ f sound chain are.
    let long : (length c.args.message.now == 0) ≡ false = cc in
    let some = some_of c.args.message.now long in
    stops_put f sound c.args.store.now c.args.first c.args.message.now some chain (g.H.Host.view c.args.host.now) (g.H.Host.view c.put.new.host) are
    c.put.ensures.stop
