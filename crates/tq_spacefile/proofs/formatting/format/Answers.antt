use Rattle.std.proofs.Common.{◌≡◌, ℕ, List, length, sym, subst, ◌∙◌, arith}
use Rattle.tq_host.specs.Calls.{IsSameBut}
use Rattle.tq_extent.specs.Bytes.{owned_bytes}
use Rattle.tq_extent.proofs.BytesLemmas.{reaches_same}
use Rattle.tq_spacefile.specs.File.{IsFormatted, IsSameButSpace}
use Rattle.tq_spacefile.proofs.Formats.{creation_from, formatted, space_step, space_within, space_synced}
use Rattle.tq_spacefile.proofs.formatting.format.Goals as goal

pub returns-in_err-write_at-clause-stop : goal.returns-in_err-write_at-clause-stop
returns-in_err-write_at-clause-stop g c = λ long.
    space_within c.args.dev c.args.map.now (IsSameBut 0 (length c.encode_page.result)) (g.H.Host.view c.args.host.now) (g.H.Host.view c.write_at.new.host)
    (c.write_at.ensures.stop long)

pub returns-in_err-sync-clause-stop : goal.returns-in_err-sync-clause-stop
returns-in_err-sync-clause-stop g c = λ long.
    space_synced c.args.dev c.args.map.now (IsSameBut 0 (length c.encode_page.result)) (g.H.Host.view c.args.host.now) (g.H.Host.view c.write_at.new.host)
    (c.write_at.ensures.stop long) (g.H.Host.view c.sync.new.self) c.sync.result c.sync.ensures.call c.sync.ensures.still

pub returns-clause-stop : goal.returns-clause-stop
returns-clause-stop g c = λ long.
    space_synced c.args.dev c.args.map.now (IsSameBut 0 (length c.encode_page.result)) (g.H.Host.view c.args.host.now) (g.H.Host.view c.write_at.new.host)
    (c.write_at.ensures.stop long) (g.H.Host.view c.sync.new.self) c.sync.result c.sync.ensures.call c.sync.ensures.still

pub returns-clause-done : goal.returns-clause-done
returns-clause-done g c = λ told.
    let s = c.args.shape.now in
    let map = c.args.map.now in
    let page = c.encode_page.result in
    let size : length page ≡ 2049 = omega arith in
    let old = (g.H.Host.view c.args.host.now).reads c.args.dev in
    let mid = (g.H.Host.view c.write_at.new.host).reads c.args.dev in
    let asked = c.requires in
    let within = creation_from s asked.queues asked.messages asked.transactions asked.memory asked.pages.0 c.encode_page.ensures.error in
    let step = c.in_ok-write_at.ensures.written told in
    subst (λ (image : List ℕ). IsFormatted s map image) (sym (c.sync.ensures.still.reads c.args.dev))
    (formatted s map page (owned_bytes map old) mid size asked.enough (reaches_same map old mid step.size ∙ asked.reach told) step.bytes within asked.pages.0 c.encode_page.ensures.spelt)

pub returns-in_err-write_at-clause-outside : goal.returns-in_err-write_at-clause-outside
returns-in_err-write_at-clause-outside g c = λ told.
    space_step c.args.map.now (IsSameBut 0 (length c.encode_page.result)) _ _ (c.write_at.ensures.outside told)

pub returns-in_err-sync-clause-outside : goal.returns-in_err-sync-clause-outside
returns-in_err-sync-clause-outside g c = λ told.
    let map = c.args.map.now in
    let old = (g.H.Host.view c.args.host.now).reads c.args.dev in
    subst (λ (image : List ℕ). IsSameButSpace map old image) (sym (c.sync.ensures.still.reads c.args.dev))
    (space_step map (IsSameBut 0 (length c.encode_page.result)) old _ (c.write_at.ensures.outside told))

pub returns-clause-outside : goal.returns-clause-outside
returns-clause-outside g c = λ told.
    let map = c.args.map.now in
    let old = (g.H.Host.view c.args.host.now).reads c.args.dev in
    subst (λ (image : List ℕ). IsSameButSpace map old image) (sym (c.sync.ensures.still.reads c.args.dev))
    (space_step map (IsSameBut 0 (length c.encode_page.result)) old _ (c.write_at.ensures.outside told))
