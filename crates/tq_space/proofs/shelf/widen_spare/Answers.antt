use Rattle.std.proofs.Common.{ℕ, ◌<◌, length, get_or, set, get_or-set_same, get_or-set_other, sym, subst, arith}
use Rattle.std.proofs.lemmas.List.Elements.{All-set}
use Rattle.tq_space.specs.Spare.{IsSpare}
use Rattle.tq_space.proofs.Keys.{by_key}
use Rattle.tq_space.proofs.shelf.widen_spare.Goals as goal

pub loop-at-preserved : goal.loop-at-preserved
loop-at-preserved c =
    let spare = c.loop-at.spare in
    let at = c.loop-at.at in
    let keys = c.widen.new.keys in
    let within : at < length spare = omega arith in
    record {
      kept = λ n all. All-set (IsSpare n) spare at keys (c.widen.ensures.kept n (c.loop-at.invariant.kept n all at c.index-spare-at.result within)) (c.loop-at.invariant.kept n all);
      room = λ n all k d lt.
          by_key at k (IsSpare c.args.more (get_or (set spare at keys) k d))
          (λ same.
          let wide : IsSpare c.args.more keys = c.in_ok-widen.ensures.room n (c.loop-at.invariant.kept n all at c.index-spare-at.result within) in
          subst (λ (j : ℕ). IsSpare c.args.more (get_or (set spare at keys) j d)) same (subst (IsSpare c.args.more) (sym (get_or-set_same spare at keys d within)) wide))
          (λ differs no. subst (IsSpare c.args.more) (sym (get_or-set_other spare at k keys d differs)) (c.loop-at.invariant.room n all k d (omega arith)));
    }

pub returns-in_err-widen-clause-kept : goal.returns-in_err-widen-clause-kept
returns-in_err-widen-clause-kept c = λ n all.
    let within : c.loop-at.at < length c.loop-at.spare = omega arith in
    All-set (IsSpare n) c.loop-at.spare c.loop-at.at c.widen.new.keys (c.widen.ensures.kept n (c.loop-at.invariant.kept n all c.loop-at.at c.index-spare-at.result within)) (c.loop-at.invariant.kept n all)

pub returns-clause-room : goal.returns-clause-room
returns-clause-room c = λ n all k d lt. c.loop-at.invariant.room n all k d (omega arith)
