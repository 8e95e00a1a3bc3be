-- The slots after a plan say what is kept after it.
use Rattle.std.proofs.Common.{◌≡◌, ℕ, ◌≤◌, true, Some, None, length, get_or, refl, sym, ap, ◌∙◌, ⊎_elim}
use Rattle.std.specs.FinMap.{get, len}
use Rattle.std.proofs.lemmas.Bool.{cases_Bool}
use Rattle.tq_types.specs.Label.{arrival_cmp}
use Rattle.tq_types.proofs.LabelOrder.{arrival_total}
use Rattle.tq_types.specs.declared.identifiers.Arrival.{Arrival}
use Rattle.tq_model.specs.Moves.{IndexedSpace, purged_of}
use Rattle.tq_slots.specs.SlotTable.{table_of, place_of, is_one_of}
use Rattle.tq_slots.specs.MessageSlots.{IndexedEntry, UsedSlot, Slots, Chains, slot_arrival, says, slot_of, HasChain}
use Rattle.tq_slots.specs.KeptEntries.{KeptEntries, SpacePlan, kept_in, named_in, space_after}
use Rattle.tq_slots.specs.SlotsAfter.{first_or, first_of, slots_after}
use Rattle.tq_slots.specs.SpaceOrder.{MovesFit}
use Rattle.tq_slots.proofs.ListLemmas.{some_none, some_injective}
use Rattle.tq_slots.proofs.TableLemmas.{emptied, one_place, has_its_key, missing, slots_say}
use Rattle.tq_slots.proofs.MessageSlotLemmas.{exact_arrivals, says_written, is_said}
use Rattle.tq_slots.proofs.FrameLemmas.{changes_named}
use Rattle.tq_slots.proofs.KeptLemmas.{kept_arrival}

module _ (site number : ℕ) (chains : Chains) (new : Arrival → ℕ) (slots : Slots) where
  pub has_chain : (m : KeptEntries) (a : Arrival) (e : IndexedEntry) → table_of arrival_cmp slot_arrival (says site number chains) slots ≡ Some m
      → get m a ≡ Some e
      → HasChain site number chains (first_of slots new a) e.entry
  has_chain m a e t at =
      let say = says site number chains in
      let i = place_of arrival_cmp slot_arrival a slots in
      (elim (get_or slots i None) as (λ o. get_or slots i None ≡ o → HasChain site number chains (first_or o (new a)) e.entry) [
        | None ↦ λ h. absurd (some_none (sym at ∙ missing arrival_total exact_arrivals slot_arrival say slots a m t h))
        | Some s ↦ λ h.
            let there = emptied arrival_total exact_arrivals slot_arrival say slots i s m t h in
            let its = has_its_key arrival_total exact_arrivals slot_arrival say slots a s h in
            (is_said site number chains s e (there.says ∙ sym there.had ∙ ap (get m) its ∙ at)).chain
      ]) refl

  pub first_is : (m : KeptEntries) (i : ℕ) (u : UsedSlot) → table_of arrival_cmp slot_arrival (says site number chains) slots ≡ Some m
      → get_or slots i None ≡ Some u
      → first_of slots new u.arrival ≡ u.first
  first_is m i u t at =
      let say = says site number chains in
      let j = place_of arrival_cmp slot_arrival u.arrival slots in
      (elim (get_or slots j None) as (λ o. get_or slots j None ≡ o → first_or o (new u.arrival) ≡ u.first) [
        | None ↦ λ h.
            let there = emptied arrival_total exact_arrivals slot_arrival say slots i u m t at in
            absurd (some_none (sym there.had ∙ missing arrival_total exact_arrivals slot_arrival say slots u.arrival m t h))
        | Some r ↦ λ h.
            let its = has_its_key arrival_total exact_arrivals slot_arrival say slots u.arrival r h in
            let one = one_place arrival_total exact_arrivals slot_arrival say slots m t j i r u h at its in
            ap (λ (z : UsedSlot). z.first) (some_injective (sym h ∙ ap (λ (n : ℕ). get_or slots n None) one ∙ at))
      ]) refl

  -- each message that the plan names and that is kept after it has its chain
  abbrev pub HaveChains : SpacePlan → IndexedSpace → Type 0
  HaveChains p s = (a : Arrival) (e : IndexedEntry) → is_one_of arrival_cmp (named_in p) a ≡ true → get (kept_in (space_after p s)) a ≡ Some e
      → HasChain site number chains (first_of slots new a) e.entry

  pub slots_after_say : (p : SpacePlan) (s : IndexedSpace) → table_of arrival_cmp slot_arrival (says site number chains) slots ≡ Some (kept_in s)
      → MovesFit p.moves (purged_of p.purge s)
      → len (kept_in (space_after p s)) ≤ length slots → HaveChains p s
      → table_of arrival_cmp slot_arrival (says site number chains) (slots_after new p s slots) ≡ Some (kept_in (space_after p s))
  slots_after_say p s t fits room have =
      let after = kept_in (space_after p s) in
      let only = changes_named p s fits in
      slots_say arrival_total exact_arrivals slot_arrival (says site number chains) (λ a e. slot_of (first_of slots new a) e) after
      (λ a e at. kept_arrival (space_after p s) a e at)
      (λ a e at. says_written site number (first_of slots new a) chains e
      (⊎_elim (λ named. have a e named at) (λ other. has_chain (kept_in s) a e t (only a other ∙ at)) (cases_Bool (is_one_of arrival_cmp (named_in p) a))))
      (named_in p) slots (kept_in s) t only room
