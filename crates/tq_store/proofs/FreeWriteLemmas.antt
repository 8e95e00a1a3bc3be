-- What is written on free pages leaves a space as it was.
use Rattle.std.proofs.Common.{◌≡◌, ◌<◌, ℕ, ◌*◌, ◌/◌, true, List, length, get_or, sym, ap, subst, ◌∙◌, arith}
use Rattle.tq_model.specs.declared.space.Shape.{Shape}
use Rattle.tq_model.specs.Moves.{IndexedSpace}
use Rattle.tq_model.specs.Space.{overhead_pages}
use Rattle.tq_extent.specs.Bytes.{owned_bytes, reaches, OnBytes}
use Rattle.tq_extent.proofs.BytesLemmas.{reaches_same, length-owned}
use Rattle.tq_pages.specs.Store.{Store}
use Rattle.tq_pages.specs.Content.{IsSameInUse, IsSameButFree}
use Rattle.tq_pages.proofs.KeptLemmas.{bytes_kept}
use Rattle.tq_pages.proofs.NumberLemmas.{numbers_kept}
use Rattle.tq_slots.specs.MessageSlots.{UsedSlot}
use Rattle.tq_slots.specs.SlotImages.{RawSlots, slots_in, queue_slots_in}
use Rattle.tq_slots.specs.SpaceReading.{message_in, message_at}
use Rattle.tq_slots.proofs.LawLemmas.{chain_law}
use Rattle.tq_store.specs.Stored.{HasStore, HasStored, HoldsSpace, IsUsedAt}
use Rattle.tq_store.proofs.ChainReadingLemmas.{store_message}
use Rattle.tq_store.proofs.KeptLemmas.{creation_kept, creation_some, slots_kept}

page_before : (i n : ℕ) → i < 1024 * n → i / 1024 < n
page_before i n lt = omega arith

module _ (shape : Shape) (clusters : List ℕ) (raw : RawSlots) (store : Store) (has : HasStore shape clusters raw store) (old new : List ℕ)
    (stored : HasStored shape clusters raw store old) (frame : IsSameButFree store old new) where
  pub free_step : OnBytes clusters (IsSameInUse store) old new
  free_step = subst (λ (cs : List ℕ). OnBytes cs (IsSameInUse store) old new) has.clusters_are frame

  pub free_reach : reaches clusters new ≡ true
  free_reach = reaches_same clusters old new free_step.size ∙ stored.reach

  -- no page before those of messages is free
  pub head_kept : (i : ℕ) → i < 1024 * overhead_pages shape → get_or (owned_bytes clusters new) i 0 ≡ get_or (owned_bytes clusters old) i 0
  head_kept i lt = free_step.bytes.outside i (has.overhead (i / 1024) (page_before i (overhead_pages shape) lt))

  pub free_stored : HasStored shape clusters raw store new
  free_stored =
      let a = owned_bytes clusters old in
      let b = owned_bytes clusters new in
      let size = free_step.bytes.size in
      record {
        reach = free_reach;
        creation =
            let some = creation_some shape.pages a shape stored.creation in
            let mapped = has.is.mapped in
            let pages = has.pages in
            let same = ap (λ (cs : List ℕ). length cs) has.clusters_are in
            let long = length-owned clusters old stored.reach in
            creation_kept shape.pages a b shape size (omega arith) (λ i lt. head_kept i (omega arith)) stored.creation;
        slots = slots_kept shape a b size head_kept ∙ stored.slots;
        chains = λ i m at. numbers_kept store m.first a b has.is free_step.bytes (stored.chains i m at);
      }

  -- the messages of the slots are the same
  pub free_messages : (i : ℕ) (m : UsedSlot) → IsUsedAt raw i m
      → message_at shape (owned_bytes clusters new) m.first ≡ message_at shape (owned_bytes clusters old) m.first
  free_messages i m at =
      let some = (has.chains i m at).1 in
      store_message shape clusters raw store has new free_reach m.first some (free_stored.chains i m at)
      ∙ ap message_in (bytes_kept store m.first (owned_bytes clusters old) (owned_bytes clusters new) has.is free_step.bytes)
      ∙ sym (store_message shape clusters raw store has old stored.reach m.first some (stored.chains i m at))

  pub free_holds : (site number : ℕ) (s : IndexedSpace) → HoldsSpace site number shape clusters raw s old → HoldsSpace site number shape clusters raw s new
  free_holds site number s holds = record {
    holds =
        let before = message_at shape (owned_bytes clusters old) in
        let after = message_at shape (owned_bytes clusters new) in
        chain_law site number (queue_slots_in raw) (slots_in raw) before after s holds.holds free_messages;
    slots = holds.slots;
  }
