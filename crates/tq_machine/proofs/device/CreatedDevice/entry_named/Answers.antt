use Rattle.std.proofs.Common.{◌≡◌, ◌∙◌, ap, get_or, subst, None}
use Rattle.std.specs.Prelude.{MatchOption, IsSome}
use Rattle.std.specs.List.{find, position}
use Rattle.tq_model.specs.Site.{Volume, spaces_on, has_name}
use Rattle.tq_machine.specs.Tables.{is_placed}
use Rattle.tq_machine.proofs.Tables.{entry-found}
use Rattle.tq_machine.proofs.device.CreatedDevice.entry_named.Goals as goal

pub returns : goal.returns
returns c =
    let name = c.args.name.now in
    subst (λ (v : Volume). MatchOption c.place_named.result (find (has_name name) (spaces_on v) ≡ None) (λ at. (find (has_name name) (spaces_on v) ≡ get_or v.entries at None) × IsSome (get_or v.entries at None)))
    c.self.view_is (entry-found name c.self.inside.entries.items c.place_named.result (c.place_named.ensures ∙ ap (position (is_placed name)) c.deref.ensures.value))
