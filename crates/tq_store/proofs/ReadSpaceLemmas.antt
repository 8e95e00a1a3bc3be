-- What a reading of a space says of its slots and chains.
use Rattle.std.proofs.Common.{◌≡◌, ℕ, Bool, true, false, cond, List, [], get_or, Option, Some, None, refl, sym, ap, ◌∙◌, subst}
use Rattle.std.specs.Prelude.{is_some}
use Rattle.std.specs.Option.{option_and_then}
use Rattle.std.specs.List.{list_all}
use Rattle.std.proofs.lemmas.Bool.{and_from, and_parts}
use Rattle.std.proofs.lemmas.Option.{cond_some}
use Rattle.tq_types.proofs.LabelOrder.{arrival_total}
use Rattle.tq_model.specs.declared.space.QueueDef.{QueueDef}
use Rattle.tq_model.specs.declared.space.Shape.{Shape}
use Rattle.tq_model.specs.Moves.{IndexedQueue, IndexedSpace, queue_of}
use Rattle.tq_model.specs.Reading.{hold_all, no_two}
use Rattle.tq_model.specs.SpaceForm.{empty_space}
use Rattle.tq_space.proofs.OptionLemmas.{some_of}
use Rattle.tq_slots.specs.MessageSlots.{IndexedEntry, UsedSlot, slot_arrival, says}
use Rattle.tq_slots.specs.QueueForm.{are_one_number}
use Rattle.tq_slots.specs.QueueSlots.{queues_read, slots_tests, used_slots, have_one_name, have_one_arrival, names_used_queue, the_def}
use Rattle.tq_slots.specs.SlotImages.{RawSlots, slots_in, queue_slots_in}
use Rattle.tq_slots.specs.SlotsLaw.{HoldSpace}
use Rattle.tq_slots.specs.SpaceOrder.{IsOneOf}
use Rattle.tq_slots.specs.SpaceReading.{are_sound, slot_tests, pages_of_slots, message_at, space_by, space_held, space_tests, tested, with_queues}
use Rattle.tq_slots.specs.SpaceReading.{is_bare_entry, is_bare_queue}
use Rattle.tq_slots.proofs.KeptLemmas.{kept_from}
use Rattle.tq_slots.proofs.ListLemmas.{of_all}
use Rattle.tq_slots.proofs.LoadLemmas.{load_law}
use Rattle.tq_slots.proofs.MessageSlotLemmas.{exact_arrivals}
use Rattle.tq_slots.proofs.QueueSlotLemmas.{of_def}
use Rattle.tq_slots.proofs.TableLemmas.{said_there}

-- ---- options

-- a value under a test
pub some_where : {X : Type 0} (b : Bool) (o : Option X) (x : X) → cond b o None ≡ Some x → (b ≡ true) × (o ≡ Some x)
some_where true o x h = (refl, h)
some_where false o x h = cc

pub and_then_some : {X Y : Type 0} (f : X → Option Y) (o : Option X) (y : Y) → option_and_then f o ≡ Some y → (x : X) × (o ≡ Some x) × (f x ≡ Some y)
and_then_some f None y h = cc
and_then_some f (Some x) y h = (x, refl, h)

-- what is no value is none
pub none_by : {X : Type 0} (o : Option X) → ((x : X) → o ≡ Some x → ⊥) → o ≡ None
none_by None never = refl
none_by (Some x) never = absurd (never x refl)

-- ---- a reading

-- its slots pass their tests, and hold a space that has nothing that is not built
pub record IsReadAs (site number : ℕ) (shape : Shape) (bytes : List ℕ) (raw : RawSlots) (t : IndexedSpace) : Type 0 where
  pub apart : no_two are_one_number (pages_of_slots shape bytes (slots_in raw)) ≡ true
  pub arrivals : no_two have_one_arrival (used_slots (slots_in raw)) ≡ true
  pub queues_used : list_all (names_used_queue (queue_slots_in raw)) (used_slots (slots_in raw)) ≡ true
  pub say : list_all (λ s. is_some (says site number (message_at shape bytes) s)) (used_slots (slots_in raw)) ≡ true
  pub holds : HoldSpace site number (queue_slots_in raw) (slots_in raw) (message_at shape bytes) t
  pub bare : list_all (λ (q : IndexedQueue). is_bare_queue q.queue) t.queues ≡ true

pub read_parts : (site number : ℕ) (shape : Shape) (bytes : List ℕ) (raw : RawSlots) (t : IndexedSpace) → space_by site number shape bytes raw ≡ Some t
    → IsReadAs site number shape bytes raw t
read_parts site number shape bytes raw t h =
    let queue_slots = queue_slots_in raw in
    let slots = slots_in raw in
    let chains = message_at shape bytes in
    let held = space_held site number shape bytes raw in
    let sound = some_where (are_sound shape bytes raw) (option_and_then tested held) t h in
    let apart = and_parts (hold_all (slot_tests raw)) (no_two are_one_number (pages_of_slots shape bytes slots)) sound.0 in
    let s = and_then_some tested held t sound.1 in
    let test = cond_some (hold_all (space_tests s.0)) s.0 t s.2 in
    let bare = (and_parts _ _ (and_parts _ _ (and_parts _ _ test.0).1).1).0 in
    let made = some_of (with_queues (empty_space shape site number)) (queues_read site number queue_slots slots chains) s.0 s.1 in
    let queues = ap (λ (x : IndexedSpace). x.queues) (made.2 ∙ test.1) in
    let read : queues_read site number queue_slots slots chains ≡ Some t.queues = made.1 ∙ ap Some queues in
    let tests = (some_where (hold_all (slots_tests site number queue_slots slots chains)) (Some (_)) t.queues read).0 in
    let names = and_parts (no_two have_one_name (used_slots queue_slots)) _ tests in
    let arrivals = and_parts (no_two have_one_arrival (used_slots slots)) _ names.1 in
    let used = and_parts (list_all (names_used_queue queue_slots) (used_slots slots)) _ arrivals.1 in
    let say = and_parts (list_all (λ m. is_some (says site number chains m)) (used_slots slots)) _ used.1 in
    record {
      apart = apart.1;
      arrivals = arrivals.0;
      queues_used = used.0;
      say = say.0;
      holds = load_law site number queue_slots slots chains t read;
      bare = subst (λ (x : IndexedSpace). list_all (λ (q : IndexedQueue). is_bare_queue q.queue) x.queues ≡ true) test.1 bare;
    }

-- ---- what is bare

module _ (site number : ℕ) (shape : Shape) (bytes : List ℕ) (raw : RawSlots) (t : IndexedSpace) (read : IsReadAs site number shape bytes raw t) where
  -- a queue of a slot has nothing that is not built
  pub bare_slot : (i : ℕ) (d : QueueDef) → get_or (queue_slots_in raw) i None ≡ Some d → is_bare_queue (queue_of d []) ≡ true
  bare_slot i d at =
      let q = of_def i t.queues d (sym (read.holds.queues i) ∙ at) in
      let whole = of_all (λ (r : IndexedQueue). is_bare_queue r.queue) t.queues q.0 read.bare q.1 in
      subst (λ (e : QueueDef). is_bare_queue (queue_of e []) ≡ true) q.3 (bare_alone q.0 whole)
    where
      bare_alone : (q : IndexedQueue) → is_bare_queue q.queue ≡ true → is_bare_queue (queue_of (the_def q) []) ≡ true
      bare_alone q h = and_from _ true (and_parts _ _ h).0 refl

  -- and so has an entry that a slot says
  pub bare_said : (m : UsedSlot) (e : IndexedEntry) → IsOneOf (used_slots (slots_in raw)) m → says site number (message_at shape bytes) m ≡ Some e
      → is_bare_entry e.entry ≡ true
  bare_said m e here said =
      let there = said_there arrival_total exact_arrivals slot_arrival (says site number (message_at shape bytes)) (slots_in raw) m _ read.holds.kept here in
      let k = kept_from t m.arrival e (there.2 ∙ sym there.1 ∙ said) in
      let whole = of_all (λ (r : IndexedQueue). is_bare_queue r.queue) t.queues k.queue read.bare k.of_space in
      let items : list_all is_bare_entry k.queue.queue.items ≡ true = (and_parts _ _ whole).1 in
      ap (λ (d : _ × IndexedEntry). is_bare_entry d.1.entry) (sym k.is) ∙ of_all is_bare_entry k.queue.queue.items k.entry items k.of_queue
