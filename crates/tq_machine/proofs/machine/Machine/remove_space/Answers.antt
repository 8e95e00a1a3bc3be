use Rattle.std.proofs.Common.{◌≡◌, ◌∙◌, ap, sym, subst, arith, List, map, get_or, Option, None, option_map}
use Rattle.std.specs.Prelude.{MatchOption}
use Rattle.std.proofs.lemmas.List.{with_items_is}
use Rattle.tq_model.specs.declared.answer.Answer.{Answer}
use Rattle.tq_model.specs.Site.{Site, SpaceOnDevice, Volume, without_space}
use Rattle.tq_model.specs.Step.{Outcome, unless, removal_refusal}
use Rattle.tq_machine.specs.Tables.{AreSound, entry_of, without_named}
use Rattle.tq_machine.proofs.Removals.{removal-is, with_removed}
use Rattle.tq_machine.proofs.Sites.{sound-without}
use Rattle.tq_machine.proofs.machine.Machine.remove_space.Goals as goal

pub invariant_of-self : goal.invariant_of-self
invariant_of-self c =
    let name = c.args.removal.now.space in
    let devices = with_items_is c.self.inside.devices c.remove_all.new.devices (omega arith) ∙ c.remove_all.ensures ∙ ap (map (option_map (without_named name))) c.deref_mut.ensures.value in
    subst AreSound (sym devices) (sound-without name c.self.inside.devices.items c.self.invariant)

pub returns-in-Some-removal_refusal_at-clause-answer : goal.returns-in-Some-removal_refusal_at-clause-answer
returns-in-Some-removal_refusal_at-clause-answer c =
    let r = c.args.removal.now in
    let s = c.args.self.now in
    let place = c.in-Some.place in
    let here = ap (λ (l : List (Option Volume)). entry_of (get_or l place.dev None) place.entry) (c.deref.ensures.value ∙ ap (λ (t : Site). t.devices) c.self.view_is) ∙ sym c.in-Some.ensures.0 in
    let found =
    subst (λ (o : Option SpaceOnDevice). MatchOption o ⊥ (λ p. c.removal_refusal_at.result ≡ removal_refusal r.force s p)) here (c.removal_refusal_at.ensures s) in
    let is = removal-is r s c.removal_refusal_at.result c.in-Some.ensures.1 found ∙ ap (λ (o : Option Answer). unless o s (with_removed r s)) c.in-Some-removal_refusal_at.is in
    sym (ap (λ (o : Outcome). o.answer) is)

pub returns-in-Some-removal_refusal_at-clause-site : goal.returns-in-Some-removal_refusal_at-clause-site
returns-in-Some-removal_refusal_at-clause-site c =
    let r = c.args.removal.now in
    let s = c.args.self.now in
    let place = c.in-Some.place in
    let here = ap (λ (l : List (Option Volume)). entry_of (get_or l place.dev None) place.entry) (c.deref.ensures.value ∙ ap (λ (t : Site). t.devices) c.self.view_is) ∙ sym c.in-Some.ensures.0 in
    let found =
    subst (λ (o : Option SpaceOnDevice). MatchOption o ⊥ (λ p. c.removal_refusal_at.result ≡ removal_refusal r.force s p)) here (c.removal_refusal_at.ensures s) in
    let is = removal-is r s c.removal_refusal_at.result c.in-Some.ensures.1 found ∙ ap (λ (o : Option Answer). unless o s (with_removed r s)) c.in-Some-removal_refusal_at.is in
    sym (ap (λ (o : Outcome). o.site) is)

pub returns-in-None-clause-answer : goal.returns-in-None-clause-answer
returns-in-None-clause-answer c =
    let r = c.args.removal.now in
    let s = c.args.self.now in
    let place = c.in-Some.place in
    let here = ap (λ (l : List (Option Volume)). entry_of (get_or l place.dev None) place.entry) (c.deref.ensures.value ∙ ap (λ (t : Site). t.devices) c.self.view_is) ∙ sym c.in-Some.ensures.0 in
    let found =
    subst (λ (o : Option SpaceOnDevice). MatchOption o ⊥ (λ p. c.removal_refusal_at.result ≡ removal_refusal r.force s p)) here (c.removal_refusal_at.ensures s) in
    let is = removal-is r s c.removal_refusal_at.result c.in-Some.ensures.1 found ∙ ap (λ (o : Option Answer). unless o s (with_removed r s)) c.in-None.is in
    sym (ap (λ (o : Outcome). o.answer) is)

pub returns-in-None-clause-site : goal.returns-in-None-clause-site
returns-in-None-clause-site c =
    let r = c.args.removal.now in
    let s = c.args.self.now in
    let place = c.in-Some.place in
    let here = ap (λ (l : List (Option Volume)). entry_of (get_or l place.dev None) place.entry) (c.deref.ensures.value ∙ ap (λ (t : Site). t.devices) c.self.view_is) ∙ sym c.in-Some.ensures.0 in
    let found =
    subst (λ (o : Option SpaceOnDevice). MatchOption o ⊥ (λ p. c.removal_refusal_at.result ≡ removal_refusal r.force s p)) here (c.removal_refusal_at.ensures s) in
    let is = removal-is r s c.removal_refusal_at.result c.in-Some.ensures.1 found ∙ ap (λ (o : Option Answer). unless o s (with_removed r s)) c.in-None.is in
    let before : Site = record { identity = c.self.inside.identity; next = c.self.inside.next; clock = c.self.inside.clock; devices = c.self.inside.devices.items } in
    let devices = with_items_is c.self.inside.devices c.remove_all.new.devices (omega arith) ∙ c.remove_all.ensures ∙ ap (map (option_map (without_named r.space))) c.deref_mut.ensures.value in
    (λ i. record before { devices = devices i }) ∙ ap (without_space r.space) c.self.view_is ∙ sym (ap (λ (o : Outcome). o.site) is)
