use Rattle.std.proofs.Common.{◌≡◌, ◌<◌, ◌∙◌, None, length, arith, Some, get_or, set, sym, subst, ap}
use Rattle.std.proofs.lemmas.List.{set-get_or, get_or_default}
use Rattle.tq_model.specs.Site.{Site, Volume, space_named, clusters_for, lowest_free, as_extents}
use Rattle.tq_model.specs.Step.{placed_new}
use Rattle.tq_machine.specs.Tables.{AreSound}
use Rattle.tq_machine.proofs.Sites.{sound-placed}
use Rattle.tq_machine.proofs.NewNames.{new-name, device-there}
use Rattle.tq_machine.proofs.OptionLemmas.{either-way}
use Rattle.tq_machine.proofs.machine.Machine.make_space.Goals as goal

pub invariant_of-self : goal.invariant_of-self
invariant_of-self c =
    let ds = c.self.inside.devices.items in
    let dev = c.from.result in
    let creation = c.args.creation.now in
    let v = c.in-Some.device in
    let new = ap (space_named creation.name) c.self.view_is ∙ new-name creation c.args.self.now c.requires in
    let at = λ (w : Volume). AreSound (set ds dev (Some w)) in
    let there = sym c.in-Some.is ∙ c.index_mut.ensures.value in
    let kept = ap (set ds dev) there ∙ set-get_or ds dev c.index_mut.result.now in
    let size = ap (λ (s : Site). length s.devices) c.self.view_is in
    let within : dev < length ds = omega (arith, size, c.from.ensures, device-there creation c.args.self.now c.requires) in
    let is : get_or ds dev None ≡ Some v = sym (get_or_default ds dev c.index_mut.result.now None within) ∙ sym there in
    let placed = placed_new creation c.site_number-site.result v.next_space (as_extents (lowest_free (clusters_for creation.pages) v)) in
    either-way c.make_space.result c.make_space.ensures.device c.make_space.ensures.unchanged
    (λ made. subst at (sym made) (sound-placed v _ placed ds dev is new c.self.invariant))
    (λ same. subst at (sym same) (subst AreSound (sym kept) c.self.invariant))
