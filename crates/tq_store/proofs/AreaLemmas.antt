-- What a step on the log of a space leaves of the space.
use Rattle.std.proofs.Common.{◌≡◌, ◌<◌, ◌≤◌, inl, inr, ℕ, ◌+◌, ◌*◌, true, List, get_or, Some, sym, ap, subst, ◌∙◌, arith}
use Rattle.std.specs.Prelude.{option_map}
use Rattle.std.specs.Option.{option_and_then}
use Rattle.tq_model.specs.declared.space.Shape.{Shape}
use Rattle.tq_model.specs.Moves.{IndexedSpace}
use Rattle.tq_model.specs.Space.{overhead_pages, slot_pages, log_pages}
use Rattle.tq_extent.specs.Bytes.{owned_bytes, reaches, OnBytes}
use Rattle.tq_extent.proofs.BytesLemmas.{reaches_same, length-owned, on_bytes_as}
use Rattle.tq_gate.specs.declared.layout.Layout.{Layout}
use Rattle.tq_gate.specs.declared.log.GateLog.{GateLog}
use Rattle.tq_gate.specs.Layout.{clusters_of, IsPlaced}
use Rattle.tq_gate.specs.Reading.{content_on}
use Rattle.tq_gate.specs.Log.{added, replaced, layout_of, IsSameBeside, IsSameButAreas, IsSameButIn, IsSameButLog}
use Rattle.tq_gate.proofs.OutsideLemmas.{beside_log}
use Rattle.tq_pages.specs.Store.{Store, count_of, page_of}
use Rattle.tq_pages.specs.Content.{HasChain}
use Rattle.tq_slots.specs.RecordForm.{Record, record_read}
use Rattle.tq_slots.specs.MessageSlots.{UsedSlot, Slots, Chains}
use Rattle.tq_slots.specs.QueueSlots.{QueueSlots}
use Rattle.tq_slots.specs.SlotImages.{RawSlots, slots_in, queue_slots_in, with_record}
use Rattle.tq_slots.specs.SlotsLaw.{HoldSpace}
use Rattle.tq_slots.specs.SpaceReading.{slots_stored, have_places, base_slots, message_at}
use Rattle.tq_store.specs.declared.place.SpacePlace.{SpacePlace}
use Rattle.tq_store.specs.Change.{IsSameButItsLog}
use Rattle.tq_store.specs.Place.{IsPlace, IsCreation, log_layout}
use Rattle.tq_store.specs.Stored.{HasStore, HasStored, HoldsSpace, IsUsedAt}
use Rattle.tq_store.proofs.ContentLemmas.{slots_of, slots_by_content}
use Rattle.tq_store.proofs.KeptLemmas.{creation_kept, after_kept, used_kept, message_kept}
use Rattle.tq_store.proofs.RecordLemmas.{content_added, content_replaced}

-- the steps of a log that is that of the space
pub of_areas : (place : SpacePlace) (shape : Shape) (clusters : List ℕ) (log : GateLog) (old new : List ℕ) → layout_of log ≡ log_layout place shape clusters
    → IsSameButAreas log old new → IsSameButItsLog place shape clusters old new
of_areas place shape clusters log old new layout frame = subst (λ (l : Layout). OnBytes (clusters_of l) (IsSameBeside l) old new) layout frame

pub of_log : (place : SpacePlace) (shape : Shape) (clusters : List ℕ) (log : GateLog) (old new : List ℕ) → layout_of log ≡ log_layout place shape clusters
    → IsPlaced log.layout log.area → IsSameButLog log old new → IsSameButItsLog place shape clusters old new
of_log place shape clusters log old new layout placed frame =
    let owner = clusters_of log.layout in
    of_areas place shape clusters log old new layout
    (on_bytes_as owner (IsSameButIn log.layout log.area) (IsSameBeside log.layout) old new
    (beside_log log.layout log.area (owned_bytes owner old) (owned_bytes owner new) placed) frame)

-- the pages of messages begin where the areas end
areas_before : (m n i : ℕ) → 1024 * (1 + 2 * (m + n)) ≤ i → 1024 * 1 + (1024 * m + 1024 * n + (1024 * m + 1024 * n)) ≤ i
areas_before m n i from = omega arith

module _ (place : SpacePlace) (shape : Shape) (clusters : List ℕ) (is : IsPlace place clusters) (creation : IsCreation place shape) (old new : List ℕ)
    (reach : reaches clusters old ≡ true) (frame : IsSameButItsLog place shape clusters old new) where
  pub log_reach : reaches clusters new ≡ true
  log_reach = reaches_same clusters old new frame.size ∙ reach

  -- the pages of messages stay
  pages_same : (i : ℕ) → 1024 * overhead_pages shape ≤ i → get_or (owned_bytes clusters new) i 0 ≡ get_or (owned_bytes clusters old) i 0
  pages_same i from =
      let end = areas_before (slot_pages shape) (log_pages shape) i from in
      frame.bytes.outside i (inr end) (λ selects. omega (arith, end))

  pub log_messages : (page : ℕ) → message_at shape (owned_bytes clusters new) page ≡ message_at shape (owned_bytes clusters old) page
  log_messages = message_kept shape (owned_bytes clusters old) (owned_bytes clusters new) frame.bytes.size pages_same

  -- what slots hold with the chains of the one, they hold with those of the other
  pub log_holds : (site number : ℕ) (queue_slots : QueueSlots) (slots : Slots) (s : IndexedSpace)
      → HoldSpace site number queue_slots slots (message_at shape (owned_bytes clusters old)) s
      → HoldSpace site number queue_slots slots (message_at shape (owned_bytes clusters new)) s
  log_holds site number queue_slots slots s holds =
      subst (λ (chains : Chains). HoldSpace site number queue_slots slots chains s) (λ i page. sym (log_messages page) i) holds

  pub log_chain : (store : Store) (g : ℕ) → ((k : ℕ) → k < count_of store g → overhead_pages shape ≤ page_of store g k)
      → HasChain store g (owned_bytes clusters old) → HasChain store g (owned_bytes clusters new)
  log_chain store g within has =
      let a = owned_bytes clusters old in
      let b = owned_bytes clusters new in
      record {
        next = λ k lt. after_kept (overhead_pages shape) shape.pages a b frame.bytes.size pages_same (page_of store g k) (within k lt) ∙ has.next k lt;
        used = λ k lt. used_kept (overhead_pages shape) shape.pages a b frame.bytes.size pages_same (page_of store g k) (within k lt) ∙ has.used k lt;
      }

  -- An image with these slots and chains, and the creation of the other.
  pub log_stored : (raw raw' : RawSlots) (store store' : Store) → HasStored shape clusters raw store old
      → slots_stored shape (owned_bytes clusters new) ≡ Some raw'
      → ((i : ℕ) (m : UsedSlot) → IsUsedAt raw' i m → HasChain store' m.first (owned_bytes clusters new))
      → HasStored shape clusters raw' store' new
  log_stored raw raw' store store' stored slots chains = record {
    reach = log_reach;
    creation =
        let pages = creation.pages in
        creation_kept shape.pages (owned_bytes clusters old) (owned_bytes clusters new) shape frame.bytes.size
        (omega (arith, length-owned clusters old reach, is.least, is.enough))
        (λ i lt. frame.bytes.outside i (inl (omega arith)) (λ selects. omega arith)) stored.creation;
    slots = slots;
    chains = chains;
  }

  -- ---- what the log has

  -- the slots are those of the same content
  pub log_slots_same : content_on (log_layout place shape clusters) new ≡ content_on (log_layout place shape clusters) old
      → slots_stored shape (owned_bytes clusters new) ≡ slots_stored shape (owned_bytes clusters old)
  log_slots_same same =
      slots_by_content place shape clusters is creation new log_reach ∙ ap (option_and_then (slots_of shape)) same
      ∙ sym (slots_by_content place shape clusters is creation old reach)

  -- With a record more they are those that it makes.
  pub log_slots_added : (raw : RawSlots) (payload : List ℕ) (r : Record) → slots_stored shape (owned_bytes clusters old) ≡ Some raw
      → content_on (log_layout place shape clusters) new ≡ option_map (λ k. added k payload) (content_on (log_layout place shape clusters) old)
      → record_read payload ≡ Some r → have_places raw r ≡ true → slots_stored shape (owned_bytes clusters new) ≡ Some (with_record r.sets raw)
  log_slots_added raw payload r slots more read fits =
      let k = content_on (log_layout place shape clusters) old in
      slots_by_content place shape clusters is creation new log_reach ∙ ap (option_and_then (slots_of shape)) more
      ∙ content_added shape k payload raw r (sym (slots_by_content place shape clusters is creation old reach) ∙ slots) read fits

  -- With a base alone they are those of the base.
  pub log_slots_replaced : (raw : RawSlots) (base : List ℕ) → content_on (log_layout place shape clusters) new ≡ Some (replaced base)
      → base_slots shape base ≡ Some raw → slots_stored shape (owned_bytes clusters new) ≡ Some raw
  log_slots_replaced raw base now spelt =
      slots_by_content place shape clusters is creation new log_reach ∙ ap (option_and_then (slots_of shape)) now ∙ content_replaced shape base raw spelt

  -- ---- the same slots

  module _ (raw : RawSlots) (store : Store) (has : HasStore shape clusters raw store) (stored : HasStored shape clusters raw store old) where
    pub log_chains : (i : ℕ) (m : UsedSlot) → IsUsedAt raw i m → HasChain store m.first (owned_bytes clusters new)
    log_chains i m at = log_chain store m.first (has.within m.first) (stored.chains i m at)

    -- Where the log makes the same slots, the image has what it had.
    pub log_kept : slots_stored shape (owned_bytes clusters new) ≡ Some raw → HasStored shape clusters raw store new
    log_kept slots = log_stored raw raw store store stored slots log_chains

  pub log_holds_kept : (site number : ℕ) (raw : RawSlots) (s : IndexedSpace) → HoldsSpace site number shape clusters raw s old
      → HoldsSpace site number shape clusters raw s new
  log_holds_kept site number raw s holds = record { holds = log_holds site number (queue_slots_in raw) (slots_in raw) s holds.holds; slots = holds.slots }
