use Rattle.std.proofs.Common.{refl, sym, ◌∙◌, ap, subst}
use Rattle.tq_model.specs.declared.request.CallRequest.{CallRequest}
use Rattle.tq_model.specs.declared.request.CallRequest.TheVariants.{Enqueue}
use Rattle.tq_model.specs.declared.calls.EnqueueAsk.{EnqueueAsk}
use Rattle.tq_coord.specs.declared.planning.SpaceCall.TheVariants as calls
use Rattle.tq_coord.specs.Manager.{site_of}
use Rattle.tq_model.specs.CallChecks.{enqueue_checked}
use Rattle.tq_run.specs.CallWords.{AreWordsOf}
use Rattle.tq_run.proofs.CallWordLemmas.{enqueue_made}
use Rattle.tq_run.proofs.calls.call_of_words.Goals as goal

pub returns-in_ok-call-in-Enqueue-clause-made : goal.returns-in_ok-call-in-Enqueue-clause-made
returns-in_ok-call-in-Enqueue-clause-made c =
    let s = site_of c.args.manager.now in
    let e = c.in-Enqueue in
    let made = enqueue_made e.session e.words s c.in_ok-call-in-Enqueue.call refl
    (ap (enqueue_checked e.words) (sym c.clock.ensures) ∙ sym c.check_enqueue.ensures ∙ c.in_ok-call-in-Enqueue.was) in
    subst (λ (r : CallRequest). AreWordsOf r s (calls.Enqueue c.enqueue_ask.result)) (sym e.is)
    (subst (λ (ask : EnqueueAsk). AreWordsOf (Enqueue e.session e.words) s (calls.Enqueue ask)) (sym c.enqueue_ask.ensures) made)
