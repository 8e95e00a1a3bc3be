use Rattle.std.proofs.Common.{ℕ, List, length, get_or, ap, ◌∙◌}
use Rattle.tq_field.specs.Places.{with_run}
use Rattle.tq_extent.proofs.RunLemmas.{filled}
use Rattle.tq_store.proofs.PaddedLemmas.{put_behind}
use Rattle.tq_store.proofs.bytes.put_behind.Goals as goal

pub returns : goal.returns
returns c = λ start long begins i.
    let old = c.args.bytes.now in
    let run = c.args.run.now in
    ap (λ (l : List ℕ). get_or l i 0) (filled c.args.at (length run) old c.copy_from_slice.new.self (ap length c.copy_from_slice.ensures.after) c.requires)
    ∙ ap (λ (r : List ℕ). get_or (with_run c.args.at (length run) r old) i 0) c.copy_from_slice.ensures.after
    ∙ put_behind c.args.at start run old c.requires long begins i
