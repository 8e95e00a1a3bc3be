use Rattle.std.proofs.Common.{◌≡◌, Some, sym, ap, ◌∙◌}
use Rattle.tq_model.specs.Moves.{IndexedSpace}
use Rattle.tq_model.specs.SpaceForm.{empty_space, replayed}
use Rattle.tq_spacefile.specs.Loading.{bytes_of}
use Rattle.tq_spacefile.proofs.Loads.{replayed_own, replayed_is_plain}
use Rattle.tq_spacefile.proofs.loading.open_space.Goals as goal

pub invariant_of-result : goal.invariant_of-result
invariant_of-result c =
    let shape = c.args.shape.now in
    let place = c.args.place.now in
    let ps = bytes_of c.deref.result.now in
    let held = c.in_ok-space.space.held in
    let replays : replayed c.args.epoch ps (empty_space shape place.site place.number) ≡ Some held = ap (λ (s : IndexedSpace). replayed c.args.epoch ps s) (sym c.new-space.ensures.held) ∙ c.in_ok-space.ensures in
    record {
      own = replayed_own shape place.site place.number c.args.epoch ps held replays;
      plain = replayed_is_plain shape place.site place.number c.args.epoch ps held replays;
      placed = c.requires.place;
      layout = c.requires.layout;
    }
