-- The slots of a space, read record by record.
use Rattle.std.proofs.Common.{◌≡◌, ℕ, Bool, true, false, List, [], ◌∷◌, Option, None, Some, refl, sym, ap, subst, ◌∙◌}
use Rattle.std.specs.Prelude.{is_some, if◌then◌else◌, ◌&&◌, option_map}
use Rattle.std.specs.Option.{option_and_then}
use Rattle.std.specs.List.{list_all}
use Rattle.std.proofs.lemmas.Option.{none-some, same_Some}
use Rattle.tq_model.specs.declared.space.Shape.{Shape}
use Rattle.tq_model.proofs.Places.{some-cond}
use Rattle.tq_slots.specs.declared.record.RecKind.TheVariants.{Apply}
use Rattle.tq_slots.specs.declared.record.Set.{Set}
use Rattle.tq_slots.specs.declared.record.QueueSlot.{QueueSlot}
use Rattle.tq_slots.specs.QueueForm.{is_queue_slot, queue_in_slot, queue_of_slot}
use Rattle.tq_slots.specs.BaseForm.{has_base_mark, raw_slots}
use Rattle.tq_slots.specs.RecordForm.{Record, record_read, queue_slot, message_slot, branch_slot}
use Rattle.tq_slots.specs.SlotImages.{RawSlots, with_set, with_record}
use Rattle.tq_slots.specs.SpaceReading.{records_in, has_place, have_places, with_records, slots_with, base_slots, slots_by}
use Rattle.tq_slots.proofs.BaseLemmas.{length-slots}
use Rattle.tq_store.specs.SlotReading.{after_record, followed, slots_left}
use Rattle.tq_store.specs.Sound.{HasSlotsOf}
use Rattle.tq_store.proofs.RecordLemmas.{record_room, places_same}

-- sets that have their places have them when another is done
pub places_kept : (x : Set) (raw : RawSlots) (sets : List Set) → list_all (has_place (with_set x raw)) sets ≡ list_all (has_place raw) sets
places_kept x raw sets = places_same raw (with_set x raw) (record { kind = Apply; sets = sets }) (record_room (x ∷ []) raw)

-- ---- one record after another

no_more : (b : Bool) (y : RawSlots) (f : RawSlots → Option RawSlots) → f y ≡ None → None ≡ option_and_then f (if b then Some y else None)
no_more true y f none = sym none
no_more false y f none = refl

both_tests : (b c : Bool) (x y : RawSlots) (f : RawSlots → Option RawSlots) → f y ≡ (if c then Some x else None)
    → (if b && c then Some x else None) ≡ option_and_then f (if b then Some y else None)
both_tests true c x y f is = sym is
both_tests false c x y f is = refl

first_then : (first : Option Record) (rest : Option (List Record)) (raw : RawSlots)
    → option_and_then (slots_with raw) (option_and_then (λ r. option_map (λ more. r ∷ more) rest) first)
    ≡ option_and_then (λ x. option_and_then (slots_with x) rest) (option_and_then (after_record raw) first)
first_then None rest raw = refl
first_then (Some r) None raw = no_more (have_places raw r) (with_record r.sets raw) (λ x. option_and_then (slots_with x) None) refl
first_then (Some r) (Some rs) raw =
    let after = with_record r.sets raw in
    both_tests (have_places raw r) (list_all (have_places raw) rs) (with_records rs after) after (λ x. slots_with x rs)
    (ap (λ (test : Record → Bool). if list_all test rs then Some (with_records rs after) else None) (λ i x. places_same raw after x (record_room r.sets raw) i))

left_are : (payloads : List (List ℕ)) (raw : RawSlots) → option_and_then (slots_with raw) (records_in payloads) ≡ slots_left payloads raw
left_are [] raw = refl
left_are (payload ∷ payloads) raw =
    first_then (record_read payload) (records_in payloads) raw
    ∙ ap (λ (later : RawSlots → Option RawSlots). option_and_then later (followed raw payload)) (λ i x. left_are payloads x i)

-- the slots of a base and payloads are those that the records leave of the base's
slots_by_left : (s : Shape) (base : List ℕ) (payloads : List (List ℕ)) → slots_by s base payloads ≡ option_and_then (slots_left payloads) (base_slots s base)
slots_by_left s base payloads = ap (λ (later : RawSlots → Option RawSlots). option_and_then later (base_slots s base)) (λ i x. left_are payloads x i)

-- ---- as many slots as the creation says

base_sizes : (s : Shape) (base : List ℕ) → HasSlotsOf s (raw_slots s.queues s.messages s.transactions base)
base_sizes s base = record {
  queues = length-slots queue_slot 512 s.queues 64 base;
  messages = length-slots message_slot 64 s.messages _ base;
  branches = length-slots branch_slot 160 s.transactions _ base;
}

sizes_chosen : (s : Shape) (b : Bool) (y raw : RawSlots) (later : RawSlots → Option RawSlots) → HasSlotsOf s y
    → ((x : RawSlots) → HasSlotsOf s x → later x ≡ Some raw → HasSlotsOf s raw)
    → option_and_then later (if b then Some y else None) ≡ Some raw → HasSlotsOf s raw
sizes_chosen s true y raw later has step is = step y has is
sizes_chosen s false y raw later has step is = absurd (none-some raw is)

sizes_first : (s : Shape) (first : Option Record) (x raw : RawSlots) (later : RawSlots → Option RawSlots) → HasSlotsOf s x
    → ((y : RawSlots) → HasSlotsOf s y → later y ≡ Some raw → HasSlotsOf s raw)
    → option_and_then later (option_and_then (after_record x) first) ≡ Some raw → HasSlotsOf s raw
sizes_first s None x raw later has step is = absurd (none-some raw is)
sizes_first s (Some r) x raw later has step is =
    let room = record_room r.sets x in
    sizes_chosen s (have_places x r) (with_record r.sets x) raw later
    (record { queues = room.queues ∙ has.queues; messages = room.messages ∙ has.messages; branches = room.branches ∙ has.branches }) step is

sizes_left : (s : Shape) (payloads : List (List ℕ)) (x raw : RawSlots) → HasSlotsOf s x → slots_left payloads x ≡ Some raw → HasSlotsOf s raw
sizes_left s [] x raw has is = subst (HasSlotsOf s) (same_Some x raw is) has
sizes_left s (payload ∷ payloads) x raw has is =
    sizes_first s (record_read payload) x raw (slots_left payloads) has (λ y also. sizes_left s payloads y raw also) is

pub sizes_by : (s : Shape) (base : List ℕ) (payloads : List (List ℕ)) (raw : RawSlots) → slots_by s base payloads ≡ Some raw → HasSlotsOf s raw
sizes_by s base payloads raw is =
    sizes_chosen s (has_base_mark base) (raw_slots s.queues s.messages s.transactions base) raw (slots_left payloads) (base_sizes s base) (λ x has. sizes_left s payloads x raw has)
    (sym (slots_by_left s base payloads) ∙ is)

-- the slots, where those of the base are known
pub slots_from_base : (s : Shape) (base : List ℕ) (payloads : List (List ℕ)) (x : RawSlots) → base_slots s base ≡ Some x
    → slots_by s base payloads ≡ slots_left payloads x
slots_from_base s base payloads x is = slots_by_left s base payloads ∙ ap (option_and_then (slots_left payloads)) is

-- ---- a slot of a queue

pub queue_said : (q : QueueSlot) → is_some (queue_of_slot q) ≡ is_queue_slot q
unfolding queue_of_slot
queue_said q = some-cond (is_queue_slot q) (queue_in_slot q)
