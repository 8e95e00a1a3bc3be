use Rattle.std.proofs.Common.{◌≡◌, ◌++◌, [], ◌∷◌, sym, subst, arith}
use Rattle.std.specs.List.{All}
use Rattle.tq_space.specs.Spare.{IsSpare}
use Rattle.tq_space.proofs.Spares.{spare_less, spares_same, spares_more, all_more}
use Rattle.tq_space.proofs.shelf.add_spare.Goals as goal

pub loop-alloc-preserved : goal.loop-alloc-preserved
loop-alloc-preserved c =
    let keys = c.in_ok-with_capacity.field-0 in
    let made = c.in_ok-with_capacity.ensures in
    let pushed = c.in_ok-push.ensures in
    let items : c.push.new.self.items ≡ c.loop-alloc.spare.items ++ keys ∷ [] = pushed.items in
    let new : IsSpare c.args.more keys = record { empty = made.items; room = omega (arith, made.len, made.capacity) } in
    record {
      kept = λ n le has. spares_more n c.loop-alloc.spare c.push.new.self keys items pushed.len (spare_less c.args.more n keys le new) (c.loop-alloc.invariant.kept n le has);
      added = λ all. subst (All (IsSpare c.args.more)) (sym items) (all_more c.args.more c.loop-alloc.spare.items keys (c.loop-alloc.invariant.added all) new);
    }

pub returns-in_err-push-clause-kept : goal.returns-in_err-push-clause-kept
returns-in_err-push-clause-kept c = λ n le has.
    spares_same n c.loop-alloc.spare c.push.new.self c.in_err-push.ensures.items c.in_err-push.ensures.len (c.loop-alloc.invariant.kept n le has)
