-- The space that an image has.
use Rattle.std.proofs.Common.{◌≡◌, ℕ, Bool, true, List, [], ◌∷◌, map, None, Some, refl, sym, ap, ◌∙◌}
use Rattle.std.specs.Prelude.{if◌then◌else◌, option_map}
use Rattle.std.specs.Option.{option_and_then}
use Rattle.tq_model.specs.declared.space.Shape.{Shape}
use Rattle.tq_model.specs.Moves.{IndexedQueue, IndexedSpace, the_queue}
use Rattle.tq_model.specs.Plain.{KeepsAllAtCrash}
use Rattle.tq_model.specs.Reading.{hold_all}
use Rattle.tq_model.specs.Space.{Queue, Space, crashed_queue, limits_of}
use Rattle.tq_model.specs.SpaceForm.{empty_space}
use Rattle.tq_model.proofs.RecordMoves.{crashed_plain}
use Rattle.tq_extent.specs.Bytes.{owned_bytes}
use Rattle.tq_pages.specs.Store.{Store}
use Rattle.tq_slots.specs.QueueSlots.{crashed_queues}
use Rattle.tq_slots.specs.SlotImages.{RawSlots, slots_in, queue_slots_in}
use Rattle.tq_slots.specs.SpaceReading.{creation_in, message_at, space_by, space_held, space_made, space_tests, tested, with_queues}
use Rattle.tq_slots.proofs.ReadingLemmas.{reads_crashed}
use Rattle.tq_store.specs.declared.place.SpacePlace.{SpacePlace}
use Rattle.tq_store.specs.Stored.{HasSpace, HasStore, HasStored, HoldsSpace}
use Rattle.tq_store.proofs.SoundLemmas.{stored_sound}

-- ---- a crash leaves the queues as they are

cons_parts : (x y : Queue) (xs ys : List Queue) → x ∷ xs ≡ y ∷ ys → (x ≡ y) × (xs ≡ ys)
cons_parts x y xs ys same = (cc, cc)

queues_crashed : (queues : List IndexedQueue) → map crashed_queue (map the_queue queues) ≡ map the_queue queues → crashed_queues queues ≡ queues
queues_crashed [] same = refl
queues_crashed (q ∷ queues) same =
    let parts = cons_parts (crashed_queue q.queue) q.queue (map crashed_queue (map the_queue queues)) (map the_queue queues) same in
    λ i. record q { queue = parts.0 i } ∷ queues_crashed queues parts.1 i

crashed_same : (s : IndexedSpace) → KeepsAllAtCrash s → crashed_queues s.queues ≡ s.queues
crashed_same s plain = queues_crashed s.queues (ap (λ (x : Space). x.queues) (crashed_plain s plain))

-- ---- a space that keeps all at a crash, and is of the place and the creation

module _ (site number : ℕ) (shape : Shape) (s : IndexedSpace) (own_site : s.site ≡ site) (own_number : s.number ≡ number) (limits : s.limits ≡ limits_of shape)
    (error : s.error ≡ shape.error) (owners : s.owners ≡ []) (plain : KeepsAllAtCrash s) where
  -- it is the space with its queues
  made_of_queues : with_queues (empty_space shape site number) (crashed_queues s.queues) ≡ s
  made_of_queues = λ i. record {
    site = sym own_site i;
    number = sym own_number i;
    limits = sym limits i;
    error = sym error i;
    queues = crashed_same s plain i;
    owners = sym owners i;
  }

  module _ (clusters : List ℕ) (raw : RawSlots) (image : List ℕ) (holds : HoldsSpace site number shape clusters raw s image) where
    pub held_read : space_held site number shape (owned_bytes clusters image) raw ≡ Some s
    held_read =
        let chains = message_at shape (owned_bytes clusters image) in
        ap (option_map (with_queues (empty_space shape site number)))
        (reads_crashed site number (queue_slots_in raw) (slots_in raw) chains s holds.holds.order holds.holds.queues holds.holds.kept)
        ∙ ap Some made_of_queues

    -- the space that slots stand for, where they are sound
    pub space_is : (store : Store) → HasStore shape clusters raw store → HasStored shape clusters raw store image → hold_all (space_tests s) ≡ true
        → space_by site number shape (owned_bytes clusters image) raw ≡ Some s
    space_is store has stored tests =
        let bytes = owned_bytes clusters image in
        ap (λ (b : Bool). if b then option_and_then tested (space_held site number shape bytes raw) else None)
        (stored_sound site number shape clusters raw store s image has stored holds)
        ∙ ap (option_and_then tested) held_read ∙ ap (λ (b : Bool). if b then Some s else None) tests

-- An image with the creation, the slots and the chains of a space has the space.
pub has_space : (place : SpacePlace) (shape : Shape) (clusters : List ℕ) (raw : RawSlots) (store : Store) (s : IndexedSpace) (image : List ℕ)
    → HasStore shape clusters raw store → HasStored shape clusters raw store image → HoldsSpace place.site place.number shape clusters raw s image
    → shape.pages ≡ place.pages → s.site ≡ place.site → s.number ≡ place.number → s.limits ≡ limits_of shape → s.error ≡ shape.error → s.owners ≡ []
    → KeepsAllAtCrash s → hold_all (space_tests s) ≡ true
    → HasSpace place clusters s image
has_space place shape clusters raw store s image has stored holds pages site number limits error owners plain tests =
    let bytes = owned_bytes clusters image in
    record {
      reach = stored.reach;
      reads =
          ap (option_and_then (space_made place.site place.number bytes)) (ap (λ n. creation_in n bytes) (sym pages) ∙ stored.creation)
          ∙ ap (option_and_then (space_by place.site place.number shape bytes)) stored.slots
          ∙ space_is place.site place.number shape s site number limits error owners plain clusters raw image holds store has stored tests;
    }
