-- What raw slots say, and what the sets of a record make of them.
use Rattle.std.proofs.Common.{◌≡◌, ℕ, suc, ◌+◌, ◌<◌, ◌≤◌, Bool, true, List, [], ◌∷◌, ◌++◌, map, length, Option, Some, None, refl, sym, ap, ◌∙◌, arith}
use Rattle.std.specs.Prelude.{◌==◌, if◌then◌else◌, slice_index_or, slice_set}
use Rattle.std.proofs.lemmas.Bool.{cond_both}
use Rattle.std.proofs.lemmas.List.{length-append, length-map}
use Rattle.tq_model.specs.declared.space.QueueDef.{QueueDef}
use Rattle.tq_slots.specs.declared.record.MessageSlot.{MessageSlot}
use Rattle.tq_slots.specs.declared.record.Set.{Set}
use Rattle.tq_slots.specs.declared.record.Set.TheVariants as sets
use Rattle.tq_slots.specs.MessageForm.{has_bit, is_free_slot, read_slot}
use Rattle.tq_slots.specs.QueueForm.{queue_of_slot, HasQueueSlot}
use Rattle.tq_slots.specs.MessageSlots.{UsedSlot, Slots, slot_of, slot_arrival}
use Rattle.tq_slots.specs.KeptEntries.{kept_in, named_in, space_after}
use Rattle.tq_slots.specs.SlotsAfter.{first_of, slots_after}
use Rattle.tq_slots.specs.QueueSlots.{QueueSlots, queue_slots_after}
use Rattle.tq_slots.specs.SlotSets.{sets_from, sets_between, with_sets, set_read}
use Rattle.tq_slots.specs.RecordForm.{key_of, AreAscending}
use Rattle.tq_slots.specs.SlotImages.{RawSlots, used_in, used_of, slots_in, queue_slots_in, raw_of, raw_queue, with_record, message_set, queue_set, record_sets, MakeSlots, RecordLaw, RawLaw}
use Rattle.tq_slots.proofs.EntryLemmas.{top-again, own-again, root-again, moment-again, bits-again, slot-parts}
use Rattle.tq_slots.proofs.QueueFormLemmas.{queue-again}
use Rattle.tq_slots.proofs.QueueSlotLemmas.{length_queue_slots_after}
use Rattle.tq_slots.proofs.SetLemmas.{made_by_sets, with_sets-read}
use Rattle.tq_slots.proofs.TableLemmas.{length_slots_for}

-- ---- one slot

pub used-again : (x : Option UsedSlot) → used_of (raw_of x) ≡ x
used-again None = refl
used-again (Some u) =
    let top = top-again u.root.top u.expiration u.root.expiration in
    let own = own-again u.root.top u.expiration u.root.expiration in
    let root = root-again u.root.top u.expiration u.root.expiration in
    λ i. Some (record {
      queue = u.queue;
      root = record { top = top i; priority = u.root.priority; available = u.root.available; expiration = root i; arrival = u.root.arrival };
      numbers = u.numbers;
      priority = u.priority;
      available = u.available;
      expiration = own i;
      retries = u.retries;
      arrival = u.arrival;
      first = u.first;
    })

used-read : (m : MessageSlot) → is_free_slot m ≡ true → raw_of (used_of m) ≡ read_slot m
used-read m free =
    let parts = slot-parts m free in
    let mark = parts.0 in
    let branch = parts.1.0 in
    let bits = bits-again m.bits m.expiration m.root_expiration parts.1.1 in
    let own = moment-again (has_bit 2 m.bits) m.expiration in
    let root = moment-again (has_bit 4 m.bits) m.root_expiration in
    ap (λ (n : ℕ). raw_of (if n == 0 then None else Some (used_in m))) mark
    ∙ (λ i. record {
      mark = sym mark i;
      branch = sym branch i;
      queue = m.queue;
      bits = bits i;
      priority = m.priority;
      root_priority = m.root_priority;
      numbers = m.numbers;
      retries = m.retries;
      first = m.first;
      epoch = m.epoch;
      number = m.number;
      available = m.available;
      expiration = own i;
      root_available = m.root_available;
      root_expiration = root i;
      root_epoch = m.root_epoch;
      root_number = m.root_number;
    })

pub raw_law : RawLaw
raw_law = (λ queue first e. refl, used-again, used-read)

unused-again : queue_of_slot (raw_queue None) ≡ None
unfolding queue_of_slot
unused-again = refl

abbrev CanBeSpelt : Option QueueDef → Type 0
CanBeSpelt None = Unit {0}
CanBeSpelt (Some d) = HasQueueSlot d

queue-said : (x : Option QueueDef) → CanBeSpelt x → queue_of_slot (raw_queue x) ≡ x
queue-said None can = unused-again
queue-said (Some d) can = queue-again d can

-- ---- sets between slots

-- what holds of each slot after holds of the sets
abbrev SetsAll : {X : Type 0} → (X → Type 0) → List (ℕ × X) → Type 0
SetsAll P [] = Unit {0}
SetsAll P (s ∷ more) = P s.1 × SetsAll P more

module _ {X : Type 0} (P : X → Type 0) (same : X → X → Bool) (none : X) where
  sets-all : (before after : List X) (i : ℕ) → ((j : ℕ) → j < length after → P (slice_index_or after j none)) → SetsAll P (sets_from same i before after)
  sets-all [] after i each = tt
  sets-all (x ∷ before) [] i each = tt
  sets-all (x ∷ before) (y ∷ after) i each =
      let rest = sets_from same (i + 1) before after in
      let others = sets-all before after (i + 1) (λ j lt. each (suc j) (omega arith)) in
      cond_both (same x y) rest ((i, y) ∷ rest) (SetsAll P) (λ e. others) (λ e. (each 0 (omega arith), others))

-- sets that are written and read again are the same
read-again : {F X : Type 0} (P : X → Type 0) (read : F → X) (write : X → F) → ((x : X) → P x → read (write x) ≡ x) → (made : List (ℕ × X)) → SetsAll P made
    → map (set_read read) (map (set_read write) made) ≡ made
read-again P read write again [] all = refl
read-again P read write again (s ∷ made) all =
    let first = again s.1 all.0 in
    let rest = read-again P read write again made all.1 in
    λ i. (s.0, first i) ∷ rest i

-- ---- sets of a record

lower : (least less : ℕ) (made : List Set) → less ≤ least → AreAscending least made → AreAscending less made
lower least less [] le up = tt
lower least less (s ∷ made) le up = (omega (arith, up.0), up.1)

-- keys ascend with the indices of slots
module _ {X : Type 0} (same : X → X → Bool) (start : ℕ) (set : ℕ × X → Set) (key : (s : ℕ × X) → key_of (set s) ≡ start + s.0) where
  ascend : (before after : List X) (i least : ℕ) → least ≡ start + i → AreAscending least (map set (sets_from same i before after))
  ascend [] after i least is = tt
  ascend (x ∷ before) [] i least is = tt
  ascend (x ∷ before) (y ∷ after) i least is =
      let rest = sets_from same (i + 1) before after in
      let here : key_of (set (i, y)) ≡ start + i = key (i, y) in
      let next : key_of (set (i, y)) + 1 ≡ start + (i + 1) = omega arith in
      let up = ascend before after (i + 1) (key_of (set (i, y)) + 1) next in
      cond_both (same x y) rest ((i, y) ∷ rest) (λ l. AreAscending least (map set l))
      (λ e. lower (key_of (set (i, y)) + 1) least (map set rest) (omega arith) up) (λ e. (omega arith, up))

  -- and others follow them
  ascend-both : (before after : List X) (i least bound : ℕ) (others : List Set) → least ≡ start + i → start + (i + length before) ≤ bound
      → AreAscending bound others → AreAscending least (map set (sets_from same i before after) ++ others)
  ascend-both [] after i least bound others is within up = lower bound least others (omega arith) up
  ascend-both (x ∷ before) [] i least bound others is within up = lower bound least others (omega arith) up
  ascend-both (x ∷ before) (y ∷ after) i least bound others is within up =
      let rest = sets_from same (i + 1) before after in
      let here : key_of (set (i, y)) ≡ start + i = key (i, y) in
      let next : key_of (set (i, y)) + 1 ≡ start + (i + 1) = omega arith in
      let on = ascend-both before after (i + 1) (key_of (set (i, y)) + 1) bound others next (omega arith) up in
      cond_both (same x y) rest ((i, y) ∷ rest) (λ l. AreAscending least (map set l ++ others))
      (λ e. lower (key_of (set (i, y)) + 1) least (map set rest ++ others) (omega arith) on) (λ e. (omega arith, on))

-- applied one after another, in two parts
record-append : (front back : List Set) (raw : RawSlots) → with_record (front ++ back) raw ≡ with_record back (with_record front raw)
record-append [] back raw = refl
record-append (sets.Message k m ∷ front) back raw = record-append front back (record raw { messages = slice_set raw.messages k m })
record-append (sets.Queue k q ∷ front) back raw = record-append front back (record raw { queues = slice_set raw.queues k q })
record-append (sets.Branch k b ∷ front) back raw = record-append front back (record raw { branches = slice_set raw.branches k b })

messages-set : (made : List (ℕ × Option UsedSlot)) (raw : RawSlots)
    → with_record (map message_set made) raw ≡ record raw { messages = with_sets (map (set_read raw_of) made) raw.messages }
messages-set [] raw = refl
messages-set (s ∷ made) raw = messages-set made (record raw { messages = slice_set raw.messages s.0 (raw_of s.1) })

queues-set : (made : List (ℕ × Option QueueDef)) (raw : RawSlots)
    → with_record (map queue_set made) raw ≡ record raw { queues = with_sets (map (set_read raw_queue) made) raw.queues }
queues-set [] raw = refl
queues-set (s ∷ made) raw = queues-set made (record raw { queues = slice_set raw.queues s.0 (raw_queue s.1) })

abbrev Any : Option UsedSlot → Type 0
Any x = Unit {0}

pub record-makes : (same : Option UsedSlot → Option UsedSlot → Bool) (alike : Option QueueDef → Option QueueDef → Bool)
    (raw : RawSlots) (slots : Slots) (queues : QueueSlots)
    → ((x y : Option UsedSlot) → same x y ≡ true → x ≡ y) → ((x y : Option QueueDef) → alike x y ≡ true → x ≡ y)
    → length slots ≡ length raw.messages → length queues ≡ length raw.queues → length raw.messages ≤ 65536
    → ((i : ℕ) → i < length queues → CanBeSpelt (slice_index_or queues i None))
    → MakeSlots (record_sets same alike raw slots queues) raw slots queues
record-makes same alike raw slots queues exact exact_q long long_q few can =
    let before = slots_in raw in
    let before_q = queue_slots_in raw in
    let size = length-map raw.messages used_of in
    let size_q = length-map raw.queues queue_of_slot in
    let made = sets_between same before slots in
    let made_q = sets_between alike before_q queues in
    let by = made_by_sets before slots (size ∙ sym long) same exact in
    let by_q = made_by_sets before_q queues (size_q ∙ sym long_q) alike exact_q in
    let after : with_record (record_sets same alike raw slots queues) raw ≡ record raw {
      queues = with_sets (map (set_read raw_queue) made_q) raw.queues;
      messages = with_sets (map (set_read raw_of) made) raw.messages;
    } =
    record-append (map message_set made) (map queue_set made_q) raw
    ∙ ap (with_record (map queue_set made_q)) (messages-set made raw)
    ∙ queues-set made_q (record raw { messages = with_sets (map (set_read raw_of) made) raw.messages }) in
    let written = read-again Any used_of raw_of (λ x any. used-again x) made (sets-all Any same None before slots 0 (λ j lt. tt)) in
    let written_q = read-again CanBeSpelt queue_of_slot raw_queue queue-said made_q (sets-all CanBeSpelt alike None before_q queues 0 can) in
    let n = length-map made message_set in
    let n_q = length-map made_q queue_set in
    let all = length-append (map message_set made) (map queue_set made_q) in
    let most = by.2 in
    let most_q = by_q.2 in
    record {
      ascending = ascend-both same 65536 message_set (λ s. refl) before slots 0 65536 131072 (map queue_set made_q) (omega arith) (omega arith)
          (ascend alike 131072 queue_set (λ s. refl) before_q queues 0 131072 (omega arith));
      few = omega arith;
      messages = ap slots_in after ∙ with_sets-read used_of (map (set_read raw_of) made) raw.messages
          ∙ ap (λ l. with_sets l before) written ∙ by.3;
      queues = ap queue_slots_in after ∙ with_sets-read queue_of_slot (map (set_read raw_queue) made_q) raw.queues
          ∙ ap (λ l. with_sets l before_q) written_q ∙ by_q.3;
      branches = ap (λ (r : RawSlots). r.branches) after;
    }

can-all : (x : Option QueueDef) → ((d : QueueDef) → x ≡ Some d → HasQueueSlot d) → CanBeSpelt x
can-all None each = tt
can-all (Some d) each = each d refl

pub record_law : RecordLaw
record_law same alike raw new p s exact exact_q few each =
    let slots = slots_in raw in
    let queue_slots = queue_slots_in raw in
    record-makes same alike raw (slots_after new p s slots) (queue_slots_after p s queue_slots) exact exact_q
    (length_slots_for slot_arrival (λ a e. slot_of (first_of slots new a) e) (kept_in (space_after p s)) (named_in p) slots ∙ length-map raw.messages used_of)
    (length_queue_slots_after p s queue_slots ∙ length-map raw.queues queue_of_slot) few
    (λ i lt. can-all (slice_index_or (queue_slots_after p s queue_slots) i None) (each i))
