-- What the words of a call on a space come to.
use Rattle.std.specs.Prelude.{◌≡◌}
use Rattle.tq_model.specs.declared.calls.CallRefusal.{CallRefusal}
use Rattle.tq_model.specs.declared.request.CallRequest.{CallRequest}
use Rattle.tq_model.specs.Site.{Site}
use Rattle.tq_model.specs.Step.{next_arrival, on_space, call_step, refused, refusal_answer}
use Rattle.tq_coord.specs.declared.planning.SpaceCall.{SpaceCall}
use Rattle.tq_coord.specs.SpaceCalls.{outcome_of, space_name, IsAsked}

-- the words of a request make this call, which can be asked
pub record AreWordsOf (request : CallRequest) (s : Site) (call : SpaceCall) : Type 0 where
  pub step : call_step s request ≡ on_space (space_name call) (outcome_of call) s
  pub asked : IsAsked (next_arrival s) call

-- they make none, for this reason
abbrev pub AreRefused : CallRequest → Site → CallRefusal → Type 0
AreRefused request s refusal = call_step s request ≡ refused s (refusal_answer refusal)
