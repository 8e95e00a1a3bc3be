use Rattle.std.proofs.Common.{ℕ, ◌==◌, ap, sym, ◌∙◌, rules, tests}
use Rattle.std.specs.Slice.Iter.{split_rest, split_done, split_callee}
use Rattle.std.proofs.lemmas.List.{length_push}
use Rattle.std.proofs.lemmas.Iterator.Splits.{YieldsList-from_slice_split}
use Rattle.std.proofs.lemmas.Iterator.Consumers.{YieldsList-turn, YieldsList-end}
use Rattle.tq_model.specs.Grammar.{pieces}
use Rattle.tq_script.proofs.FlagNames.{flags_behind-none, flags_behind-at, flags_behind-stop, flags_behind-next, flags_behind-all}
use Rattle.tq_script.proofs.flags.flags_of.Goals as goal

pub loop-name-init : goal.loop-name-init
loop-name-init c = rw c.new-flags.ensures (sym (flags_behind-none (pieces c.args.word.now)))

pub returns-in_default : goal.returns-in_default
returns-in_default c =
    let same = c.into_iter-name-iterator.ensures.into_iter_gives in
    let turn = YieldsList-turn
    (YieldsList-from_slice_split _ (λ (b : ℕ). b == 124) c.args.word.now (ap split_rest same ∙ c.split-name-items.ensures.rest) (ap split_done same ∙ c.split-name-items.ensures.done) (ap split_callee same ∙ c.split-name-items.ensures.closure) (λ x r q k. search (rules, tests)))
    c.loop-name.yielded _ c.loop-name.yielded_by _ _ c.in-Some.name c.in-Some.is c.next.ensures.steps in
    sym (c.loop-name.invariant ∙ flags_behind-at c.loop-name.flags c.args.word.now _ _ turn ∙ flags_behind-stop c.loop-name.flags c.in-Some.name.now _ (rw c.as_slice.ensures at (sym c.next_flag.ensures ∙ c.in_default.is)))

pub loop-name-preserved : goal.loop-name-preserved
loop-name-preserved c =
    let same = c.into_iter-name-iterator.ensures.into_iter_gives in
    let turn = YieldsList-turn
    (YieldsList-from_slice_split _ (λ (b : ℕ). b == 124) c.args.word.now (ap split_rest same ∙ c.split-name-items.ensures.rest) (ap split_done same ∙ c.split-name-items.ensures.done) (ap split_callee same ∙ c.split-name-items.ensures.closure) (λ x r q k. search (rules, tests)))
    c.loop-name.yielded _ c.loop-name.yielded_by _ _ c.in-Some.name c.in-Some.is c.next.ensures.steps in
    rw (c.in_ok-push.ensures.ok, length_push c.loop-name.yielded c.in-Some.name)
    (c.loop-name.invariant ∙ flags_behind-at c.loop-name.flags c.args.word.now _ _ turn
    ∙ flags_behind-next c.loop-name.flags c.in-Some-next_flag.flag c.in-Some.name.now _ (rw c.as_slice.ensures at (sym c.next_flag.ensures ∙ c.in-Some-next_flag.is)))

pub returns : goal.returns
returns c =
    let same = c.into_iter-name-iterator.ensures.into_iter_gives in
    let end = YieldsList-end
    (YieldsList-from_slice_split _ (λ (b : ℕ). b == 124) c.args.word.now (ap split_rest same ∙ c.split-name-items.ensures.rest) (ap split_done same ∙ c.split-name-items.ensures.done) (ap split_callee same ∙ c.split-name-items.ensures.closure) (λ x r q k. search (rules, tests)))
    c.loop-name.yielded _ c.loop-name.yielded_by _ _ c.in-None.is c.next.ensures.steps in
    sym (c.loop-name.invariant ∙ flags_behind-all c.loop-name.flags c.args.word.now _ end.1)
