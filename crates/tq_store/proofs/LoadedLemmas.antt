-- The space that is loaded of the slots that were read.
use Rattle.std.proofs.Common.{◌≡◌, ◌&&◌, true, ℕ, List, None, sym, ap, subst, ◌∙◌}
use Rattle.std.specs.Option.{option_and_then}
use Rattle.std.specs.List.{list_all}
use Rattle.std.proofs.lemmas.Bool.{and_parts}
use Rattle.tq_types.proofs.LabelOrder.{arrival_total}
use Rattle.tq_extent.specs.Bytes.{owned_bytes, reaches}
use Rattle.tq_model.specs.Moves.{IndexedSpace}
use Rattle.tq_model.specs.Reading.{hold_all}
use Rattle.tq_pages.specs.Store.{Store}
use Rattle.tq_slots.specs.declared.record.BranchSlot.{BranchSlot}
use Rattle.tq_slots.specs.declared.record.MessageSlot.{MessageSlot}
use Rattle.tq_slots.specs.declared.record.QueueSlot.{QueueSlot}
use Rattle.tq_gate.specs.Log.{layout_of}
use Rattle.tq_slots.specs.KeptEntries.{kept_in}
use Rattle.tq_slots.specs.MessageSlots.{says, slot_arrival}
use Rattle.tq_slots.specs.SlotImages.{RawSlots, slots_in}
use Rattle.tq_slots.proofs.MessageSlotLemmas.{exact_arrivals}
use Rattle.tq_slots.proofs.TableLemmas.{one_place}
use Rattle.tq_slottable.specs.Places.{HasDistinctArrivals}
use Rattle.tq_slots.specs.SpaceReading.{creation_in, is_message_or_empty, is_queue_or_unused, slot_tests, space_by, space_made, space_read}
use Rattle.tq_store.specs.declared.place.SpacePlace.{SpacePlace}
use Rattle.tq_store.specs.declared.reading.Read.{Read}
use Rattle.tq_store.specs.Filling.{IsFilled, IsFilledFrom, slots_of}
use Rattle.tq_store.specs.File.{FileState, IsFile, IsHeld, IsSound}
use Rattle.tq_store.specs.Place.{IsCreation, IsPlace, log_layout}
use Rattle.tq_store.specs.Reading.{HasRead}
use Rattle.tq_store.specs.Sound.{HasSlotsOf}
use Rattle.tq_store.specs.Stored.{HasStore, HasStored, HoldsSpace}

-- slots that are each what they have to be, without those of branches
pub judged_too : (raw : RawSlots) (queues : List QueueSlot) (messages : List MessageSlot) → hold_all (slot_tests raw) ≡ true
    → queues ≡ raw.queues → messages ≡ raw.messages
    → list_all is_queue_or_unused queues && (list_all is_message_or_empty messages && true) ≡ true
judged_too raw queues messages tests same alike =
    subst (λ (l : List QueueSlot). list_all is_queue_or_unused l && (list_all is_message_or_empty messages && true) ≡ true) (sym same)
    (subst (λ (l : List MessageSlot). list_all is_queue_or_unused raw.queues && (list_all is_message_or_empty l && true) ≡ true) (sym alike) (and_parts _ _ tests).1)

module _ (place : SpacePlace) (clusters : List ℕ) (image : List ℕ) (read : Read) (has : HasRead place clusters read image)
    (queues : List QueueSlot) (messages : List MessageSlot) (same : queues ≡ read.slots.queues) (alike : messages ≡ read.slots.messages) where
  -- the space that the slots stand for is the one that is read
  by_slots : space_read place.site place.number place.pages (owned_bytes clusters image)
      ≡ space_by place.site place.number read.shape (owned_bytes clusters image) (slots_of queues messages read.slots.branches)
  by_slots =
      let bytes = owned_bytes clusters image in
      ap (option_and_then (space_made place.site place.number bytes)) has.creation
      ∙ ap (option_and_then (space_by place.site place.number read.shape bytes)) has.stored
      ∙ (λ i. space_by place.site place.number read.shape bytes (slots_of (sym same i) (sym alike i) read.slots.branches))

  pub none_loaded : ((branches : List BranchSlot) → space_by place.site place.number read.shape (owned_bytes clusters image) (slots_of queues messages branches) ≡ None)
      → space_read place.site place.number place.pages (owned_bytes clusters image) ≡ None
  none_loaded none = by_slots ∙ none read.slots.branches

-- ---- the file that is loaded

-- no two used slots are of one arrival
pub held_once : (site number : ℕ) (raw : RawSlots) (store : Store) (s : IndexedSpace) → IsHeld site number raw store s → HasDistinctArrivals (slots_in raw)
held_once site number raw store s held i j u v at_i at_j same =
    one_place arrival_total exact_arrivals slot_arrival (says site number held.chains) (slots_in raw) (kept_in s) held.holds.kept i j u v at_i at_j same

module _ (place : SpacePlace) (map own : List ℕ) (read : Read) (queues : List QueueSlot) (messages : List MessageSlot) (same : queues ≡ read.slots.queues)
    (alike : messages ≡ read.slots.messages) (s : IndexedSpace) (store : Store) (at : IsPlace place map) (creation : IsCreation place read.shape)
    (layout : layout_of read.log ≡ log_layout place read.shape own) (own_is : own ≡ map) (size : HasSlotsOf read.shape read.slots)
    (tests : hold_all (slot_tests read.slots) ≡ true) (filled : IsFilled place read.shape map queues messages s store)
    (held : (branches : List BranchSlot) → IsHeld place.site place.number (slots_of queues messages branches) store s) where
  -- the slots that were filled in are those that were read
  these : slots_of queues messages read.slots.branches ≡ read.slots
  these = λ i. slots_of (same i) (alike i) read.slots.branches

  abbrev pub loaded : FileState
  loaded = record { place = place; shape = read.shape; space = s; raw = read.slots; store = store; log = read.log }

  pub loaded_held : IsHeld place.site place.number read.slots store s
  loaded_held = subst (λ (raw : RawSlots). IsHeld place.site place.number raw store s) these (held read.slots.branches)

  has_store : HasStore read.shape map read.slots store
  has_store = subst (λ (raw : RawSlots). HasStore read.shape map raw store) these (filled.store read.slots.branches)

  pub loaded_clusters : store.clusters ≡ map
  loaded_clusters = has_store.clusters_are

  pub loaded_sound : IsSound loaded
  loaded_sound =
      let back = sym loaded_clusters in
      record {
        placed = subst (IsPlace place) back at;
        creation = creation;
        layout = layout ∙ ap (log_layout place read.shape) (own_is ∙ back);
        space = filled.space;
        owners = ap (λ (x : IndexedSpace). x.owners) filled.is;
        size = size;
        tests = tests;
        store = subst (λ (cs : List ℕ). HasStore read.shape cs read.slots store) back has_store;
        dev = filled.dev;
        room = filled.room;
        held = loaded_held;
      }

  pub loaded_file : (image : List ℕ) → HasRead place map read image → reaches map image ≡ true
      → ((branches : List BranchSlot) → hold_all (slot_tests (slots_of queues messages branches)) ≡ true
      → IsFilledFrom place read.shape map (slots_of queues messages branches) s store image)
      → IsFile loaded image
  loaded_file image has reach from =
      let here : hold_all (slot_tests (slots_of queues messages read.slots.branches)) ≡ true = (λ i. hold_all (slot_tests (these i))) ∙ tests in
      let is = subst (λ (raw : RawSlots). IsFilledFrom place read.shape map raw s store image) these (from read.slots.branches here) in
      let bytes = owned_bytes map image in
      let stored : HasStored read.shape map read.slots store image =
      record { reach = reach; creation = ap (λ n. creation_in n bytes) creation.pages ∙ has.creation; slots = has.stored; chains = is.chains } in
      let back = sym loaded_clusters in
      record {
        stored = subst (λ (cs : List ℕ). HasStored read.shape cs read.slots store image) back stored;
        holds = subst (λ (cs : List ℕ). HoldsSpace place.site place.number read.shape cs read.slots s image) back is.holds;
        log = record { holds = has.content; is = has.is };
      }
