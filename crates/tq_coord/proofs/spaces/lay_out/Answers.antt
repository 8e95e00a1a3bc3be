use Rattle.std.proofs.Common.{◌≡◌, ◌≤◌, length, sym, subst, arith}
use Rattle.std.specs.Prelude.{true}
use Rattle.tq_host.specs.Within.{KeepsRest}
use Rattle.tq_host.proofs.QuietLemmas.{rest_on}
use Rattle.tq_extent.specs.Bytes.{reaches}
use Rattle.tq_extent.specs.Clusters.{clusters_of}
use Rattle.tq_model.specs.DeviceForm.{header_bytes}
use Rattle.tq_devtab.specs.InMemory.{IsTableOf}
use Rattle.tq_devtab.specs.Reserved.{space_of}
use Rattle.tq_coord.proofs.NewSpaceLemmas.{map_reached, new_pages, table_there, pages_stay, stop_grown, stop_paged, stop_entered}
use Rattle.tq_coord.proofs.spaces.lay_out.Goals as goal

pub returns-in_err-grow-clause-stop : goal.returns-in_err-grow-clause-stop
returns-in_err-grow-clause-stop g c = λ have.
    stop_grown c.args.table.now c.requires.dev c.requires.number (space_of c.args.reserved) c.args.shape.now c.requires.reserved c.end.result
    _ _ have c.grow.ensures.stop

pub format-requires-clause-reach : goal.format-requires-clause-reach
format-requires-clause-reach g c =
    let t = c.args.table.now in
    let n = space_of c.args.reserved in
    let shape = c.args.shape.now in
    let old = g.H.Host.view c.args.host.now in
    let grown = g.H.Host.view c.grow.new.host in
    map_reached t c.requires.dev c.requires.number n shape c.requires.reserved c.end.result old grown
    g.H.Host.tells c.args.map.now c.requires.map c.end.ensures.reach c.in_ok-grow.ensures.done grown

pub returns-in_err-format-clause-stop : goal.returns-in_err-format-clause-stop
returns-in_err-format-clause-stop g c = λ have.
    let t = c.args.table.now in
    let n = space_of c.args.reserved in
    let shape = c.args.shape.now in
    let old = g.H.Host.view c.args.host.now in
    let grown = g.H.Host.view c.grow.new.host in
    let formatted = g.H.Host.view c.format.new.host in
    stop_paged t c.requires.dev c.requires.number n shape c.requires.reserved c.end.result old grown
    g.H.Host.tells c.args.map.now c.requires.map c.end.ensures.reach c.in_ok-grow.ensures.done formatted
    (g.met.H.Host.lawful c.grow.new.host) c.in_ok-grow.ensures.settled have c.grow.ensures.stop c.format.ensures.stop

pub enter-requires-clause-size : goal.enter-requires-clause-size
enter-requires-clause-size g c = λ told.
    let formatted = g.H.Host.view c.format.new.host in
    subst (λ d. header_bytes ≤ length (formatted.reads d)) (sym c.requires.dev)
    (omega (arith, (c.requires.holds told).has.size, (c.in_ok-grow.ensures.done told).0.longer, (c.in_ok-format.ensures.outside told).size))

pub enter-requires-clause-reach : goal.enter-requires-clause-reach
enter-requires-clause-reach g c = λ told.
    let t = c.args.table.now in
    let n = space_of c.args.reserved in
    let shape = c.args.shape.now in
    let old = g.H.Host.view c.args.host.now in
    let grown = g.H.Host.view c.grow.new.host in
    let formatted = g.H.Host.view c.format.new.host in
    subst (λ d. reaches (clusters_of n.extents) (formatted.reads d) ≡ true) (sym c.requires.dev)
    (new_pages t c.requires.dev c.requires.number n shape c.requires.reserved c.end.result old grown
    g.H.Host.tells c.args.map.now c.requires.map c.end.ensures.reach c.in_ok-grow.ensures.done formatted
    c.in_ok-format.ensures.outside c.in_ok-format.ensures.done told).reach

pub returns-in_err-enter-clause-stop : goal.returns-in_err-enter-clause-stop
returns-in_err-enter-clause-stop g c = λ have.
    let t = c.args.table.now in
    let n = space_of c.args.reserved in
    let shape = c.args.shape.now in
    let old = g.H.Host.view c.args.host.now in
    let grown = g.H.Host.view c.grow.new.host in
    let formatted = g.H.Host.view c.format.new.host in
    let pages = new_pages t c.requires.dev c.requires.number n shape c.requires.reserved c.end.result old grown
    g.H.Host.tells c.args.map.now c.requires.map c.end.ensures.reach c.in_ok-grow.ensures.done formatted
    c.in_ok-format.ensures.outside c.in_ok-format.ensures.done in
    stop_entered t c.requires.dev c.requires.number n shape c.requires.reserved c.end.result old grown
    g.H.Host.tells c.args.map.now c.requires.map c.end.ensures.reach c.in_ok-grow.ensures.done formatted
    (g.met.H.Host.lawful c.grow.new.host) c.in_ok-grow.ensures.settled have c.grow.ensures.stop c.format.ensures.stop
    (g.H.Host.view c.enter.new.host) (g.met.H.Host.lawful c.format.new.host) c.in_ok-format.ensures.settled pages c.enter.ensures.stop

pub returns-in_err-enter-clause-rest : goal.returns-in_err-enter-clause-rest
returns-in_err-enter-clause-rest g c =
    let old = g.H.Host.view c.args.host.now in
    let formatted = g.H.Host.view c.format.new.host in
    let new = g.H.Host.view c.enter.new.host in
    rest_on 0 old formatted new (rest_on 0 old (g.H.Host.view c.grow.new.host) formatted c.grow.ensures.rest c.format.ensures.rest)
    (subst (λ d. KeepsRest d formatted new) c.requires.dev c.enter.ensures.rest)

pub returns-clause-table : goal.returns-clause-table
returns-clause-table g c = λ told.
    let t = c.args.table.now in
    let n = space_of c.args.reserved in
    let shape = c.args.shape.now in
    let old = g.H.Host.view c.args.host.now in
    let grown = g.H.Host.view c.grow.new.host in
    let formatted = g.H.Host.view c.format.new.host in
    let new = g.H.Host.view c.enter.new.host in
    let has = table_there t c.requires.dev c.requires.number n shape c.requires.reserved c.end.result old grown
    g.H.Host.tells c.args.map.now c.requires.map c.end.ensures.reach c.in_ok-grow.ensures.done formatted
    c.in_ok-format.ensures.outside c.in_ok-format.ensures.done told (c.requires.holds told) in
    subst (λ d. IsTableOf c.enter.new.self (new.reads d)) c.requires.dev
    (c.in_ok-enter.ensures.entered told (subst (λ d. IsTableOf t (formatted.reads d)) (sym c.requires.dev) has))

pub returns-clause-pages : goal.returns-clause-pages
returns-clause-pages g c = λ told.
    let t = c.args.table.now in
    let n = space_of c.args.reserved in
    let shape = c.args.shape.now in
    let old = g.H.Host.view c.args.host.now in
    let grown = g.H.Host.view c.grow.new.host in
    let formatted = g.H.Host.view c.format.new.host in
    pages_stay t c.requires.dev c.requires.number n shape c.requires.reserved c.end.result old grown
    g.H.Host.tells c.args.map.now c.requires.map c.end.ensures.reach c.in_ok-grow.ensures.done formatted
    c.in_ok-format.ensures.outside c.in_ok-format.ensures.done (g.H.Host.view c.enter.new.host) (c.in_ok-enter.ensures.outside told) told

pub returns-clause-stop : goal.returns-clause-stop
returns-clause-stop g c = λ have.
    let t = c.args.table.now in
    let n = space_of c.args.reserved in
    let shape = c.args.shape.now in
    let old = g.H.Host.view c.args.host.now in
    let grown = g.H.Host.view c.grow.new.host in
    let formatted = g.H.Host.view c.format.new.host in
    let pages = new_pages t c.requires.dev c.requires.number n shape c.requires.reserved c.end.result old grown
    g.H.Host.tells c.args.map.now c.requires.map c.end.ensures.reach c.in_ok-grow.ensures.done formatted
    c.in_ok-format.ensures.outside c.in_ok-format.ensures.done in
    stop_entered t c.requires.dev c.requires.number n shape c.requires.reserved c.end.result old grown
    g.H.Host.tells c.args.map.now c.requires.map c.end.ensures.reach c.in_ok-grow.ensures.done formatted
    (g.met.H.Host.lawful c.grow.new.host) c.in_ok-grow.ensures.settled have c.grow.ensures.stop c.format.ensures.stop
    (g.H.Host.view c.enter.new.host) (g.met.H.Host.lawful c.format.new.host) c.in_ok-format.ensures.settled pages c.enter.ensures.stop

pub returns-clause-rest : goal.returns-clause-rest
returns-clause-rest g c =
    let old = g.H.Host.view c.args.host.now in
    let formatted = g.H.Host.view c.format.new.host in
    let new = g.H.Host.view c.enter.new.host in
    rest_on 0 old formatted new (rest_on 0 old (g.H.Host.view c.grow.new.host) formatted c.grow.ensures.rest c.format.ensures.rest)
    (subst (λ d. KeepsRest d formatted new) c.requires.dev c.enter.ensures.rest)
