-- The call that the words of an enqueue make.
use Rattle.std.proofs.Common.{◌≡◌, ◌≤◌, ℕ, Bool, true, false, length, Result, Ok, Err, refl, sym, ◌∙◌, ap, subst, arith}
use Rattle.std.specs.Prelude.{nat_lt, if◌then◌else◌}
use Rattle.std.proofs.lemmas.Bool.Decides.{nat_tests}
use Rattle.tq_model.specs.declared.calls.EnqueueWords.{EnqueueWords}
use Rattle.tq_model.specs.declared.calls.EnqueueCall.{EnqueueCall}
use Rattle.tq_model.specs.declared.calls.CallRefusal.{CallRefusal}
use Rattle.tq_model.specs.declared.calls.CallRefusal.TheVariants.{TooLarge}
use Rattle.tq_model.specs.declared.request.CallRequest.TheVariants.{Enqueue}
use Rattle.tq_model.specs.CallChecks.{enqueue_call, enqueue_checked}
use Rattle.tq_model.specs.Site.{Site}
use Rattle.tq_model.specs.SpaceForm.{longest_body}
use Rattle.tq_model.specs.Step.{enqueue_ask, enqueue_outcome, if_checked, next_arrival, on_space}
use Rattle.tq_coord.specs.declared.planning.SpaceCall.TheVariants as calls
use Rattle.tq_coord.specs.SpaceCalls.{IsAskedEnqueue}
use Rattle.tq_run.specs.CallWords.{AreWordsOf}

checked_call : (w : EnqueueWords) (clock : ℕ) (long : Bool) (call : EnqueueCall) → nat_lt longest_body (length w.body) ≡ long
    → (if long then Err (TooLarge (length w.body)) else Ok (enqueue_call w clock)) ≡ Ok call → (length w.body ≤ longest_body) × (enqueue_call w clock ≡ call)
checked_call w clock true call tests is = absurd (cc)
checked_call w clock false call tests is = (grind (arith, nat_tests), cc)

asked_call : (session : ℕ) (w : EnqueueWords) (s : Site) → s.clock ≡ 0 → length w.body ≤ longest_body → IsAskedEnqueue (next_arrival s) (enqueue_ask session (enqueue_call w s.clock) s)
asked_call session w s zero short = record {
  short = short;
  arrival = refl;
  clock = zero;
  plain = record { outside = refl; place = refl; expiration = refl; quality = λ is. cc };
  bare = record { priority = refl; available = zero; expiration = refl; corr = refl; replyq = refl; failq = refl; qos = refl; reply_qos = refl };
}

pub enqueue_made : (session : ℕ) (w : EnqueueWords) (s : Site) (call : EnqueueCall) → s.clock ≡ 0 → enqueue_checked w s.clock ≡ Ok call
    → AreWordsOf (Enqueue session w) s (calls.Enqueue (enqueue_ask session call s))
enqueue_made session w s call zero is =
    let made = checked_call w s.clock (nat_lt longest_body (length w.body)) call refl is in
    record {
      step = ap (λ (o : Result EnqueueCall CallRefusal). if_checked o s (λ c. on_space c.space (enqueue_outcome (enqueue_ask session c s)) s)) is;
      asked = subst (λ (c : EnqueueCall). IsAskedEnqueue (next_arrival s) (enqueue_ask session c s)) made.1 (asked_call session w s zero made.0);
    }
