use Rattle.std.proofs.Common.{ap, sym, ◌∙◌}
use Rattle.std.specs.Prelude.{is_some}
use Rattle.std.specs.List.{find, list_any}
use Rattle.tq_model.specs.SpaceForm.{holds_name}
use Rattle.tq_space.specs.State.{SpaceState}
use Rattle.tq_space.specs.Reads.{indexed_named}
use Rattle.tq_space.specs.Reading.{named_of}
use Rattle.tq_space.proofs.Counts.{any-find}
use Rattle.tq_space.proofs.OptionLemmas.{some_mapped}
use Rattle.tq_space.proofs.space.Space.has_queue_named.Goals as goal

pub returns : goal.returns
returns c =
    let name = c.args.name.now in
    let queues = c.self.inside.shelf.queues in
    c.is_some.ensures
    ∙ ap is_some c.named.ensures.named
    ∙ some_mapped named_of (find (indexed_named name) queues)
    ∙ sym (any-find (indexed_named name) queues)
    ∙ ap (λ (s : SpaceState). list_any (holds_name name) s.held.queues) c.self.view_is
