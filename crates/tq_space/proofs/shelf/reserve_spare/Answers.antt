use Rattle.std.proofs.Common.{◌≡◌, ℕ, List, length, sym, subst, arith, vec_len}
use Rattle.std.specs.Prelude.{Vec}
use Rattle.std.specs.declared.alloc.Global.{Global}
use Rattle.std.specs.List.{All}
use Rattle.std.specs.Vec.{with_items}
use Rattle.std.proofs.lemmas.List.{with_items_is}
use Rattle.std.proofs.lemmas.Result.{on_ok_weaker}
use Rattle.tq_space.specs.Spare.{IsSpare, HasSpare}
use Rattle.tq_space.proofs.shelf.reserve_spare.Goals as goal

spares_with : (n : ℕ) (spare : Vec (Vec ℕ Global) Global) (lists : List (Vec ℕ Global)) → length lists ≡ vec_len spare → HasSpare n spare → All (IsSpare n) lists
    → HasSpare n (with_items spare lists)
spares_with n spare lists same has all = record { count = has.count; each = subst (All (IsSpare n)) (sym (with_items_is spare lists same)) all }

pub returns-in_err-widen_spare-clause-kept : goal.returns-in_err-widen_spare-clause-kept
returns-in_err-widen_spare-clause-kept c = λ n le has.
    spares_with n c.args.spare.now c.widen_spare.new.spare (omega (arith, c.widen_spare.auto.spare, c.deref_mut.ensures.len)) has (c.widen_spare.ensures.kept n (subst (All (IsSpare n)) (sym c.deref_mut.ensures.value) has.each))

pub returns-clause-kept : goal.returns-clause-kept
returns-clause-kept c = λ n le has.
    c.add_spare.ensures.kept n le
    (spares_with n c.args.spare.now c.widen_spare.new.spare (omega (arith, c.widen_spare.auto.spare, c.deref_mut.ensures.len)) has (c.widen_spare.ensures.kept n (subst (All (IsSpare n)) (sym c.deref_mut.ensures.value) has.each)))

pub returns-clause-added : goal.returns-clause-added
returns-clause-added c =
    on_ok_weaker c.add_spare.result
    (λ added n has. added (subst (All (IsSpare c.args.more)) (sym (with_items_is c.args.spare.now c.widen_spare.new.spare (omega (arith, c.widen_spare.auto.spare, c.deref_mut.ensures.len))))
    (c.in_ok-widen_spare.ensures.room n (subst (All (IsSpare n)) (sym c.deref_mut.ensures.value) has.each)))) c.add_spare.ensures.added
