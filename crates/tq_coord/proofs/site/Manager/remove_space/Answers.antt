use Rattle.std.proofs.Common.{◌≡◌, true, false, not, None, get_or, refl, sym, ◌∙◌, ap, subst, arith}
use Rattle.std.specs.Prelude.{nat_lt, ◌&&◌}
use Rattle.tq_model.specs.declared.answer.Answer.TheVariants as answers
use Rattle.tq_model.specs.declared.answer.SpaceAnswer.TheVariants as space_answers
use Rattle.tq_model.specs.Reading.{NamedSpace}
use Rattle.tq_model.specs.Room.{messages_held}
use Rattle.tq_model.specs.Moves.{space_of, IndexedSpace}
use Rattle.tq_model.specs.Site.{durable}
use Rattle.tq_model.specs.Step.{Outcome, remove_space}
use Rattle.tq_devtab.specs.Table.{entry_view}
use Rattle.tq_devtab.specs.InMemory.{part_of}
use Rattle.tq_spacefile.specs.File.{held_in}
use Rattle.tq_coord.specs.Manager.{site_of, volume_in}
use Rattle.tq_coord.specs.Serving.{IsServed, ChangesOnce}
use Rattle.tq_coord.specs.Spaces.{entry_dropped}
use Rattle.tq_coord.proofs.EntryLemmas.{entry_at}
use Rattle.tq_coord.proofs.MatchLemmas.{stays}
use Rattle.tq_coord.proofs.NamedEntryLemmas.{IsNamedAt, file_read, no_file, named_at, nothing_some}
use Rattle.tq_coord.proofs.PlacedLemmas.{entry-unused}
use Rattle.tq_coord.proofs.RemovalLemmas.{held_against, none_against, removal_refused, removal_granted, removal_lasts}
use Rattle.tq_coord.proofs.site.Manager.remove_space.Given.{Over}
use Rattle.tq_coord.proofs.site.Manager.remove_space.Goals as goal
use Rattle.tq_coord.proofs.site.Manager.remove_space.Goals.{In-Some-index, After-drop_entry, After-message_count-messages}

pub returns-in_default-entry_named-clause-stop : goal.returns-in_default-entry_named-clause-stop
returns-in_default-entry_named-clause-stop g c = stays (remove_space c.args.removal.now (site_of c.args.self.now)) c.args.self.now
    (g.H.Host.view c.args.host.now) c.requires.on

pub unreachable-requires : goal.unreachable-requires
unreachable-requires g c =
    let d = c.in-Some.disk in
    let at = c.in-Some-entry_named.index in
    let is = c.in-Some-entry_named.ensures.some in
    no_file d c.args.removal.now.space at is (file_read d at c.index.result.now is.0 c.index.ensures ∙ c.in_default-index.is)

named : (g : Over) (c : In-Some-index g) → (n : NamedSpace)
    × IsNamedAt c.in-Some.disk c.args.removal.now.space c.in-Some-entry_named.index n c.in-Some-index.file
named g c =
    let d = c.in-Some.disk in
    let at = c.in-Some-entry_named.index in
    let is = c.in-Some-entry_named.ensures.some in
    named_at d c.args.removal.now.space at is c.in-Some-index.file (file_read d at c.index.result.now is.0 c.index.ensures ∙ c.in-Some-index.is)

-- the messages that are counted are those of the space
count_is : (g : Over) (c : After-message_count-messages g) → c.message_count-messages.result ≡ messages_held (space_of (held_in c.in-Some-index.file))
count_is g c = c.message_count-messages.ensures ∙ ap (λ (held : IndexedSpace). messages_held (space_of held)) c.space.ensures

pub returns-then-messages-gt0-clause-served : goal.returns-then-messages-gt0-clause-served
returns-then-messages-gt0-clause-served g c =
    let m = c.args.self.now in
    let r = c.args.removal.now in
    let v = g.H.Host.view c.args.host.now in
    let at = goal.at.returns-then-messages-gt0-clause-served g c in
    let n = named g at.In-Some-index in
    let count = count_is g at.After-message_count-messages in
    let held = held_against r.force c.message_count-messages.result c.if-not-removal.true c.if-messages-gt0.true in
    let outcome = removal_refused r m c.in-Some.disk c.in-Some.is c.in-Some-entry_named.index n.0 c.in-Some-index.file n.1
    (subst (λ k. (not r.force && nat_lt 0 k) ≡ true) count held) in
    let answer = answers.Space (space_answers.NotEmpty c.message_count-messages.result) in
    subst (λ (o : Outcome). IsServed o m m v answer) (sym outcome)
    (record { answer = ap (λ k. answers.Space (space_answers.NotEmpty k)) count; site = refl; next = omega arith; images = c.requires.on })

pub returns-then-messages-gt0-clause-stop : goal.returns-then-messages-gt0-clause-stop
returns-then-messages-gt0-clause-stop g c = stays (remove_space c.args.removal.now (site_of c.args.self.now)) c.args.self.now
    (g.H.Host.view c.args.host.now) c.requires.on

pub unreachable-requires-in_default-entries : goal.unreachable-requires-in_default-entries
unreachable-requires-in_default-entries g c =
    let d = c.in-Some.disk in
    let at = c.in-Some-entry_named.index in
    let is = c.in-Some-entry_named.ensures.some in
    nothing_some (get_or (volume_in d).entries at None)
    (entry-unused d at c.entries.result.now c.index-entries-index.result c.entries.ensures is.0 c.index-entries-index.is c.in_default-entries.is) is.2

pub drop_entry-requires-clause-there : goal.drop_entry-requires-clause-there
drop_entry-requires-clause-there g c =
    let d = c.in-Some.disk in
    let at = c.in-Some-entry_named.index in
    let is = c.in-Some-entry_named.ensures.some in
    record {
      disk = d;
      there = c.in-Some.is;
      space = entry_view c.in-Some-entries.entry;
      named = entry_at c.entries.result.now (part_of d.table).entries at c.index-entries-index.result c.in-Some-entries.entry c.entries.ensures
          (omega (arith, is.0, d.table.table.count)) c.index-entries-index.is c.in-Some-entries.is;
      ordinal_is = refl;
    }

-- nothing is against it
outcome : (g : Over) (c : After-drop_entry g) → remove_space c.args.removal.now (site_of c.args.self.now) ≡ entry_dropped c.in-Some-entry_named.index
    (site_of c.args.self.now)
outcome g c =
    let r = c.args.removal.now in
    let at = goal.at.After-drop_entry g c in
    let n = named g at.In-Some-index in
    removal_granted r c.args.self.now c.in-Some.disk c.in-Some.is c.in-Some-entry_named.index n.0 c.in-Some-index.file n.1
    (subst (λ k. (not r.force && nat_lt 0 k) ≡ false) (count_is g at.After-message_count-messages)
    (none_against r.force c.message_count-messages.result c.else-not-removal.either))

stops : (g : Over) (c : After-drop_entry g)
    → ChangesOnce (remove_space c.args.removal.now (site_of c.args.self.now)) c.args.self.now (g.H.Host.view c.args.host.now)
    (g.H.Host.view c.drop_entry.new.host)
stops g c = subst (λ (o : Outcome). ChangesOnce o c.args.self.now (g.H.Host.view c.args.host.now) (g.H.Host.view c.drop_entry.new.host))
    (sym (outcome g c)) c.drop_entry.ensures.stop

lasts : (g : Over) (c : After-drop_entry g) → durable (remove_space c.args.removal.now (site_of c.args.self.now)).site ≡ durable (site_of c.args.self.now) → ⊥
lasts g c same =
    let n = named g (goal.at.After-drop_entry g c).In-Some-index in
    removal_lasts c.args.removal.now c.args.self.now c.in-Some.disk c.in-Some.is c.in-Some-entry_named.index n.0 c.in-Some-index.file n.1
    (subst (λ (o : Outcome). durable o.site ≡ durable (site_of c.args.self.now)) (outcome g c) same)

pub returns-in_err-drop_entry-clause-stop : goal.returns-in_err-drop_entry-clause-stop
returns-in_err-drop_entry-clause-stop g c = stops g (goal.at.returns-in_err-drop_entry-clause-stop g c).After-drop_entry

pub returns-in_err-drop_entry-clause-idle : goal.returns-in_err-drop_entry-clause-idle
returns-in_err-drop_entry-clause-idle g c = λ same. absurd (lasts g (goal.at.returns-in_err-drop_entry-clause-idle g c).After-drop_entry same)

pub returns-clause-served : goal.returns-clause-served
returns-clause-served g c =
    subst (λ (o : Outcome). IsServed o c.args.self.now c.drop_entry.new.self (g.H.Host.view c.drop_entry.new.host) answers.Done)
    (sym (outcome g (goal.at.returns-clause-served g c).After-drop_entry)) c.in_ok-drop_entry.ensures.dropped

pub returns-clause-stop : goal.returns-clause-stop
returns-clause-stop g c = stops g (goal.at.returns-clause-stop g c).After-drop_entry

pub returns-clause-idle : goal.returns-clause-idle
returns-clause-idle g c = λ same. absurd (lasts g (goal.at.returns-clause-idle g c).After-drop_entry same)
