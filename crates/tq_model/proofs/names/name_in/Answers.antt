use Rattle.std.proofs.Common.{◌≡◌, ◌∙◌, ℕ, List, Bool, Result, Ok, Err, Some, None, ap, sym}
use Rattle.std.specs.Prelude.{MatchResult, if◌then◌else◌}
use Rattle.std.specs.Result.{result_ok}
use Rattle.tq_types.specs.Name.{IsName}
use Rattle.tq_types.specs.BadName.{IsNameFault}
use Rattle.tq_types.specs.declared.names.BadName.{BadName}
use Rattle.tq_model.specs.Names.{is_name}
use Rattle.tq_model.proofs.NameTests.{is_name-name, is_name-fault}
use Rattle.tq_model.proofs.names.name_in.Goals as goal

made : (text : List ℕ) (r : Result (List ℕ) BadName) → MatchResult r (λ name. (name ≡ text) × IsName text) (IsNameFault text)
    → result_ok r ≡ (if is_name text then Some text else None)
made text (Ok name) is =
    ap Some is.0 ∙ sym (ap (λ (b : Bool). if b then Some text else None) (is_name-name text is.1))
made text (Err fault) is = sym (ap (λ (b : Bool). if b then Some text else None) (is_name-fault text fault is))

pub returns : goal.returns
returns c = c.ok.ensures.value ∙ made c.args.text.now c.new.result c.new.ensures
