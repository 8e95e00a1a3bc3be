use Rattle.std.proofs.Common.{◌≡◌, ℕ, List, refl, ◌∙◌, subst}
use Rattle.tq_model.specs.Reading.{NamedSpace}
use Rattle.tq_model.specs.Site.{durable}
use Rattle.tq_model.specs.Step.{on_space}
use Rattle.tq_coord.specs.Manager.{site_of}
use Rattle.tq_coord.specs.Serving.{ChangesOnce}
use Rattle.tq_coord.specs.SpaceCalls.{space_name, outcome_of}
use Rattle.tq_coord.proofs.MatchLemmas.{stays}
use Rattle.tq_coord.proofs.NamedEntryLemmas.{IsNamedAt, IsFoundAt, file_read, no_file, named_at}
use Rattle.tq_coord.proofs.CallStepLemmas.{behind, dev_is, takes_nothing, calling, after_call}
use Rattle.tq_coord.proofs.site.Manager.call_space.Given.{Over}
use Rattle.tq_coord.proofs.site.Manager.call_space.Goals as goal
use Rattle.tq_coord.proofs.site.Manager.call_space.Goals.{In-Some-entry_named, In-Some-index_mut, After-call_file}

pub returns-in_default-entry_named-clause-stop : goal.returns-in_default-entry_named-clause-stop
returns-in_default-entry_named-clause-stop g c = stays (on_space (space_name c.args.call) (outcome_of c.args.call)
    (site_of c.args.self.now)) c.args.self.now _ c.requires.on

-- the entry that is found has the name of the call
found : (g : Over) (c : In-Some-entry_named g) → IsFoundAt c.in-Some.disk (space_name c.args.call) c.in-Some-entry_named.index
found g c = subst (λ (name : List ℕ). IsFoundAt c.in-Some.disk name c.in-Some-entry_named.index) c.space-name.ensures c.in-Some-entry_named.ensures.some

pub unreachable-requires : goal.unreachable-requires
unreachable-requires g c =
    let at = goal.at.unreachable-requires g c in
    let is = found g at.In-Some-entry_named in
    no_file c.in-Some.disk (space_name c.args.call) c.in-Some-entry_named.index is
    (file_read c.in-Some.disk c.in-Some-entry_named.index c.index_mut.result.now is.0 c.index_mut.ensures.value ∙ c.in_default-index_mut.is)

named : (g : Over) (c : In-Some-index_mut g) → (n : NamedSpace) × IsNamedAt c.in-Some.disk
    (space_name c.args.call) c.in-Some-entry_named.index n c.in-Some-index_mut.file
named g c =
    let is = found g (goal.at.In-Some-index_mut g c).In-Some-entry_named in
    named_at c.in-Some.disk (space_name c.args.call) c.in-Some-entry_named.index is c.in-Some-index_mut.file
    (file_read c.in-Some.disk c.in-Some-entry_named.index c.index_mut.result.now is.0 c.index_mut.ensures.value ∙ c.in-Some-index_mut.is)

pub call_file-requires-clause-dev : goal.call_file-requires-clause-dev
call_file-requires-clause-dev g c =
    let n = named g (goal.at.call_file-requires-clause-dev g c).In-Some-index_mut in
    dev_is c.args.self.now c.in-Some.disk c.in-Some.is c.args.call c.in-Some-entry_named.index n.0 c.in-Some-index_mut.file n.1 c.next_arrival-next.result c.next_arrival-next.ensures

pub call_file-requires-clause-behind : goal.call_file-requires-clause-behind
call_file-requires-clause-behind g c =
    let n = named g (goal.at.call_file-requires-clause-behind g c).In-Some-index_mut in
    behind c.args.self.now c.in-Some.disk c.in-Some.is c.args.call c.in-Some-entry_named.index n.0 c.in-Some-index_mut.file n.1 c.next_arrival-next.result c.next_arrival-next.ensures
    (g.H.Host.view c.args.host.now) c.requires.on

stops : (g : Over) (c : After-call_file g)
    → ChangesOnce (on_space (space_name c.args.call) (outcome_of c.args.call) (site_of c.args.self.now)) c.args.self.now (g.H.Host.view c.args.host.now)
    (g.H.Host.view c.call_file.new.host)
stops g c =
    let n = named g (goal.at.After-call_file g c).In-Some-index_mut in
    calling c.args.self.now c.in-Some.disk c.in-Some.is c.args.call c.in-Some-entry_named.index n.0 c.in-Some-index_mut.file n.1 c.next_arrival-next.result c.next_arrival-next.ensures
    _ _ (g.met.H.Host.lawful c.call_file.new.host) c.requires.on c.call_file.ensures.failed.rest c.call_file.ensures.stop

idle : (g : Over) (c : After-call_file g) → durable (on_space (space_name c.args.call) (outcome_of c.args.call) (site_of c.args.self.now)).site ≡ durable
    (site_of c.args.self.now)
    → c.call_file.new.host ≡ c.args.host.now
idle g c same =
    let n = named g (goal.at.After-call_file g c).In-Some-index_mut in
    c.call_file.ensures.idle (takes_nothing c.args.self.now c.in-Some.disk c.in-Some.is c.args.call c.in-Some-entry_named.index n.0 c.in-Some-index_mut.file n.1
    c.next_arrival-next.result c.next_arrival-next.ensures same)

pub returns-in_err-reply-clause-stop : goal.returns-in_err-reply-clause-stop
returns-in_err-reply-clause-stop g c = stops g (goal.at.returns-in_err-reply-clause-stop g c).After-call_file

pub returns-in_err-reply-clause-idle : goal.returns-in_err-reply-clause-idle
returns-in_err-reply-clause-idle g c = λ same. idle g (goal.at.returns-in_err-reply-clause-idle g c).After-call_file same

pub returns-clause-served : goal.returns-clause-served
returns-clause-served g c =
    let lawful = g.met.H.Host.lawful c.call_file.new.host in
    let n = named g (goal.at.returns-clause-served g c).In-Some-index_mut in
    after_call c.args.self.now c.in-Some.disk c.in-Some.is c.args.call c.in-Some-entry_named.index n.0 c.in-Some-index_mut.file n.1 c.next_arrival-next.result c.next_arrival-next.ensures
    c.call_file.new.file c.in_ok-reply.reply c.in_ok-reply.ensures.called c.call_file.ensures.place c.call_file.ensures.clusters c.in_ok-reply.ensures.most
    _ (record { table = refl; journal = refl; files = refl }) _ refl refl
    (g.H.Host.view c.args.host.now) (g.H.Host.view c.call_file.new.host) c.requires.on
    (λ image may. c.call_file.ensures.stop (lawful.stops_told 0 image may)) c.in_ok-reply.ensures.on

pub returns-clause-stop : goal.returns-clause-stop
returns-clause-stop g c = stops g (goal.at.returns-clause-stop g c).After-call_file

pub returns-clause-idle : goal.returns-clause-idle
returns-clause-idle g c = λ same. idle g (goal.at.returns-clause-idle g c).After-call_file same
