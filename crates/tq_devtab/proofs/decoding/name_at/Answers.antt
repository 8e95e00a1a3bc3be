use Rattle.std.proofs.Common.{◌∙◌, ◌+◌, List, ℕ, Some, None, ap}
use Rattle.std.specs.Prelude.{if◌then◌else◌}
use Rattle.tq_model.specs.Names.{is_name}
use Rattle.tq_field.specs.Places.{run_at}
use Rattle.tq_devtab.proofs.TableReadLemmas.{slice_run}
use Rattle.tq_devtab.proofs.decoding.name_at.Goals as goal

pub returns : goal.returns
returns c =
    let start = c.args.at + 2 in
    c.name_in.ensures ∙ ap (λ (text : List ℕ). if is_name text then Some text else None)
    (slice_run start c.from.result c.args.base.now ∙ ap (λ n. run_at start n c.args.base.now) c.from.ensures)
