use Rattle.std.proofs.Common.{◌∙◌, ap, List, Option}
use Rattle.std.specs.List.{list_any}
use Rattle.tq_model.specs.Site.{SpaceOnDevice, Volume, is_taken}
use Rattle.tq_machine.specs.Tables.{entry_covers}
use Rattle.tq_machine.proofs.Extents.{any-present}
use Rattle.tq_machine.proofs.device.CreatedDevice.is_taken.Goals as goal

pub returns : goal.returns
returns c =
    let cluster = c.args.cluster in
    c.any_covers.ensures ∙ ap (λ (l : List (Option SpaceOnDevice)). list_any (entry_covers cluster) l) c.deref.ensures.value
    ∙ any-present cluster c.self.inside.entries.items ∙ ap (λ (v : Volume). is_taken v cluster) c.self.view_is
