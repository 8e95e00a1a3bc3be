-- What message slots say, one by one, and with one of them changed.
use Rattle.std.proofs.Common.{◌≡◌, ◌≢◌, ℕ, ◌<◌, Bool, true, false, cond, nat_eq, List, map, length, get_or, set, is_some, Option, Some, None, refl, sym, ap, ◌∙◌, arith, eq-eqb, ne_eqb}
use Rattle.std.proofs.lemmas.Bool.{cond-true, cond-false, false≢true}
use Rattle.std.proofs.lemmas.List.{map-set, get_or-map, length-map}
use Rattle.tq_slots.specs.declared.record.MessageSlot.{MessageSlot}
use Rattle.tq_slots.specs.MessageSlots.{UsedSlot}
use Rattle.tq_slots.specs.SlotImages.{used_in, used_of, raw_of}
use Rattle.tq_slottable.proofs.PlaceLemmas.{within_some}

pub used_slot : (m : MessageSlot) → m.mark ≢ 0 → used_of m ≡ Some (used_in m)
used_slot m used = cond-false (nat_eq m.mark 0) None (Some (used_in m)) (ne_eqb m.mark 0 used)

pub unused_slot : (m : MessageSlot) → m.mark ≡ 0 → used_of m ≡ None
unused_slot m unused = cond-true (nat_eq m.mark 0) None (Some (used_in m)) (eq-eqb m.mark 0 unused)

some_branch : {X : Type 0} (b : Bool) (x : X) → is_some (cond b None (Some x)) ≡ true → cond b None (Some x) ≡ Some x
some_branch true x e = absurd (false≢true e)
some_branch false x e = refl

module _ (messages : List MessageSlot) (i : ℕ) where
  pub said_at : i < length messages → get_or (map used_of messages) i None ≡ used_of (get_or messages i (raw_of None))
  said_at lt = get_or-map used_of messages i (raw_of None) None lt

  pub within_said : (u : UsedSlot) → get_or (map used_of messages) i None ≡ Some u → i < length messages
  within_said u some = let inside = within_some (map used_of messages) i u some in omega (arith, length-map messages used_of)

  -- a slot that says something says what it has
  pub used_at : (u : UsedSlot) → get_or (map used_of messages) i None ≡ Some u → get_or (map used_of messages) i None ≡ Some (used_in (get_or messages i (raw_of None)))
  used_at u some =
      let m = get_or messages i (raw_of None) in
      let says = said_at (within_said u some) in
      says ∙ some_branch (nat_eq m.mark 0) (used_in m) (ap is_some (sym says ∙ some))

  pub said_set : (m : MessageSlot) (x : Option UsedSlot) → used_of m ≡ x → map used_of (set messages i m) ≡ set (map used_of messages) i x
  said_set m x says = map-set used_of messages i m ∙ ap (λ (o : Option UsedSlot). set (map used_of messages) i o) says
