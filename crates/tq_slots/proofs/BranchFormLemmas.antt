-- A branch's slot makes that branch again, and what makes a branch is that branch's slot.
use Rattle.std.proofs.Common.{◌≡◌, ℕ, zero, suc, ◌-◌, ◌≤◌, ◌&&◌, Bool, true, false, cond, List, length, take, Option, Some, None, refl, sym, ap, ◌∙◌, arith}
use Rattle.std.specs.Prelude.{◌==◌, nat_le, if◌then◌else◌}
use Rattle.std.proofs.lemmas.Bool.{and_parts, and_from, eqb-true, leb-true, le-leb}
use Rattle.std.proofs.lemmas.List.{take_at, length-take}
use Rattle.tq_field.specs.Digits.{digits}
use Rattle.tq_types.specs.XId.{XIdValue, IsXId}
use Rattle.tq_slots.specs.declared.branch.StoredBranch.{StoredBranch}
use Rattle.tq_slots.specs.declared.branch.StoredBranch.TheVariants.{Own, Prepared, HeurCommitted, HeurRolledBack}
use Rattle.tq_slots.specs.declared.record.BranchSlot.{BranchSlot}
use Rattle.tq_slots.specs.MessageForm.{filled}
use Rattle.tq_slots.specs.BranchForm.{own_slot, named_slot, slot_of_branch, slot_gtrid, slot_bqual, is_part_length, is_own_slot, is_named_slot, name_in_slot, named_branch, branch_of_slot, read_branch_slot, HasBranchSlot, HasBranchWidths}

-- ---- what is made of a branch

front-again : (n : ℕ) (bytes : List ℕ) → take (length bytes) (filled n bytes) ≡ bytes
front-again n bytes = take_at bytes (digits (n - length bytes) 0) (length bytes) refl

name-again : (state : ℕ) (x : XIdValue) → name_in_slot (named_slot state x) ≡ x
name-again state x =
    let gtrid = front-again 64 x.gtrid in
    let bqual = front-again 64 x.bqual in
    λ i. record { format = x.format; gtrid = gtrid i; bqual = bqual i }

part-fits : (n : ℕ) → 1 ≤ n → n ≤ 64 → is_part_length n ≡ true
part-fits n least most = and_from (nat_le 1 n) (nat_le n 64) (le-leb 1 n least) (le-leb n 64 most)

named-holds : (state : ℕ) (x : XIdValue) → nat_le 2 state ≡ true → nat_le state 4 ≡ true → IsXId x.format x.gtrid x.bqual
    → is_named_slot (named_slot state x) ≡ true
named-holds state x low high is =
    let gtrid = part-fits (length x.gtrid) is.gtrid_length.0 is.gtrid_length.1 in
    let bqual = part-fits (length x.bqual) is.bqual_length.0 is.bqual_length.1 in
    let format = le-leb x.format 2147483647 is.format_most in
    rw (low, high, gtrid, bqual, format) refl

-- of a branch with a name, in a state that is not the own one
named-again : (state : ℕ) (x : XIdValue) → (state == 1) ≡ false → nat_le 2 state ≡ true → nat_le state 4 ≡ true → IsXId x.format x.gtrid x.bqual
    → branch_of_slot (named_slot state x) ≡ Some (named_branch state x)
unfolding branch_of_slot
named-again state x other low high is =
    rw (other, named-holds state x low high is) (ap (λ (y : XIdValue). Some (named_branch state y)) (name-again state x))

pub branch-again : (b : StoredBranch) → HasBranchSlot b → branch_of_slot (slot_of_branch b) ≡ Some b
unfolding branch_of_slot
branch-again (Own a) has = rw (le-leb 1 a.epoch has) refl
branch-again (Prepared x) has = named-again 2 x refl refl refl has
branch-again (HeurCommitted x) has = named-again 3 x refl refl refl has
branch-again (HeurRolledBack x) has = named-again 4 x refl refl refl has

-- ---- what makes a branch

-- the slot of what a slot in this state gives
state-again : (state : ℕ) (x : XIdValue) → 2 ≤ state → state ≤ 4 → slot_of_branch (named_branch state x) ≡ named_slot state x
state-again zero x low high = absurd (omega arith)
state-again (suc zero) x low high = absurd (omega arith)
state-again (suc (suc zero)) x low high = refl
state-again (suc (suc (suc zero))) x low high = refl
state-again (suc (suc (suc (suc zero)))) x low high = refl
state-again (suc (suc (suc (suc (suc state))))) x low high = absurd (omega arith)

own-same : (s : BranchSlot) → is_own_slot s ≡ true → own_slot (record { epoch = s.format; number = s.number }) ≡ read_branch_slot s
own-same s holds =
    let first = and_parts (s.state == 1 && s.gtrid_length == 0 && s.bqual_length == 0) (nat_le 1 s.format) holds in
    let second = and_parts (s.state == 1 && s.gtrid_length == 0) (s.bqual_length == 0) first.0 in
    let third = and_parts (s.state == 1) (s.gtrid_length == 0) second.0 in
    let state = eqb-true s.state 1 third.0 in
    let gtrid = eqb-true s.gtrid_length 0 third.1 in
    let bqual = eqb-true s.bqual_length 0 second.1 in
    let number = ap (λ (b : Bool). cond b s.number 0) (sym third.0) in
    λ i. record {
      state = sym state i;
      gtrid_length = sym gtrid i;
      bqual_length = sym bqual i;
      format = s.format;
      number = number i;
      gtrid = filled 64 (take (sym gtrid i) s.gtrid);
      bqual = filled 64 (take (sym bqual i) s.bqual);
    }

-- what the tests of a slot with a name say of it
pub record IsNamedSlot (s : BranchSlot) : Type 0 where
  pub low : 2 ≤ s.state
  pub high : s.state ≤ 4
  pub gtrid_least : 1 ≤ s.gtrid_length
  pub gtrid_most : s.gtrid_length ≤ 64
  pub bqual_least : 1 ≤ s.bqual_length
  pub bqual_most : s.bqual_length ≤ 64
  pub format : s.format ≤ 2147483647

pub slot-parts : (s : BranchSlot) → is_named_slot s ≡ true → IsNamedSlot s
slot-parts s holds =
    let state = nat_le 2 s.state && nat_le s.state 4 in
    let format = and_parts (state && is_part_length s.gtrid_length && is_part_length s.bqual_length) (nat_le s.format 2147483647) holds in
    let bqual = and_parts (state && is_part_length s.gtrid_length) (is_part_length s.bqual_length) format.0 in
    let gtrid = and_parts state (is_part_length s.gtrid_length) bqual.0 in
    let states = and_parts (nat_le 2 s.state) (nat_le s.state 4) gtrid.0 in
    let of_gtrid = and_parts (nat_le 1 s.gtrid_length) (nat_le s.gtrid_length 64) gtrid.1 in
    let of_bqual = and_parts (nat_le 1 s.bqual_length) (nat_le s.bqual_length 64) bqual.1 in
    record {
      low = leb-true 2 s.state states.0;
      high = leb-true s.state 4 states.1;
      gtrid_least = leb-true 1 s.gtrid_length of_gtrid.0;
      gtrid_most = leb-true s.gtrid_length 64 of_gtrid.1;
      bqual_least = leb-true 1 s.bqual_length of_bqual.0;
      bqual_most = leb-true s.bqual_length 64 of_bqual.1;
      format = leb-true s.format 2147483647 format.1;
    }

named-same : (s : BranchSlot) → HasBranchWidths s → is_named_slot s ≡ true → slot_of_branch (named_branch s.state (name_in_slot s)) ≡ read_branch_slot s
named-same s wide holds =
    let is = slot-parts s holds in
    let low = is.low in
    let gtrid_most = is.gtrid_most in
    let bqual_most = is.bqual_most in
    let gtrid_wide = wide.gtrid in
    let bqual_wide = wide.bqual in
    let gtrid_taken = length-take s.gtrid_length s.gtrid in
    let bqual_taken = length-take s.bqual_length s.bqual in
    let gtrid : length (slot_gtrid s) ≡ s.gtrid_length = omega arith in
    let bqual : length (slot_bqual s) ≡ s.bqual_length = omega arith in
    let number = not-own s.state s.number is.low is.high in
    state-again s.state (name_in_slot s) is.low is.high
    ∙ (λ i. record {
      state = s.state;
      gtrid_length = gtrid i;
      bqual_length = bqual i;
      format = s.format;
      number = number i;
      gtrid = filled 64 (slot_gtrid s);
      bqual = filled 64 (slot_bqual s);
    })
  where
    not-own : (state number : ℕ) → 2 ≤ state → state ≤ 4 → 0 ≡ (if state == 1 then number else 0)
    not-own zero number low high = refl
    not-own (suc zero) number low high = absurd (omega arith)
    not-own (suc (suc zero)) number low high = refl
    not-own (suc (suc (suc zero))) number low high = refl
    not-own (suc (suc (suc (suc zero)))) number low high = refl
    not-own (suc (suc (suc (suc (suc state))))) number low high = absurd (omega arith)

guard-some : {X : Type 0} (b : Bool) (x y : X) → cond b (Some x) None ≡ Some y → (b ≡ true) × (x ≡ y)
guard-some true x y e = (refl, cc)
guard-some false x y e = absurd cc

pub branch-read : (s : BranchSlot) (b : StoredBranch) → HasBranchWidths s → branch_of_slot s ≡ Some b → slot_of_branch b ≡ read_branch_slot s
unfolding branch_of_slot
branch-read s b wide is = by-test (is_own_slot s) refl is
  where
    own : StoredBranch
    own = Own (record { epoch = s.format; number = s.number })

    rest : Option StoredBranch
    rest = cond (is_named_slot s) (Some (named_branch s.state (name_in_slot s))) None

    by-test : (own-is : Bool) → is_own_slot s ≡ own-is → cond own-is (Some own) rest ≡ Some b → slot_of_branch b ≡ read_branch_slot s
    by-test true test gives = ap slot_of_branch (sym (guard-some true own b gives).1) ∙ own-same s test
    by-test false test gives =
        let made = guard-some (is_named_slot s) (named_branch s.state (name_in_slot s)) b gives in
        ap slot_of_branch (sym made.1) ∙ named-same s wide made.0
