-- A record of one set.
use Rattle.std.proofs.Common.{◌≡◌, inl, inr, ◌≤◌, ◌<◌, ℕ, ◌+◌, ◌-◌, ◌==◌, Bool, true, false, cond, None, Some, [], ◌∷◌, ◌++◌, List, length, get_or, drop, refl, sym, ap, subst, ◌∙◌, arith}
use Rattle.std.specs.List.{flat_map}
use Rattle.std.proofs.lemmas.Bool.{and_from, cases_lt}
use Rattle.std.proofs.lemmas.List.{length-append, length-map, length-take, get_or-map}
use Rattle.std.proofs.lemmas.List.Concat.{flat_map-cons}
use Rattle.tq_types.specs.declared.messages.Entry.{Entry as HeldEntry}
use Rattle.tq_field.specs.Digits.{digits}
use Rattle.tq_field.proofs.Numbers.{length-digits}
use Rattle.tq_gate.specs.Frame.{IsFrame, payload_in}
use Rattle.tq_slots.specs.declared.record.MessageSlot.{MessageSlot}
use Rattle.tq_slots.specs.declared.record.RecKind.{RecKind}
use Rattle.tq_slots.specs.declared.record.Set.{Set}
use Rattle.tq_slots.specs.declared.record.Set.TheVariants as sets
use Rattle.tq_slots.specs.Fields.{fields_spelt}
use Rattle.tq_slots.specs.RecordForm.{AreSets, IsRecord, Record, IsSet, IsSpelling, branch_fields, key_of, kind_number, message_fields, queue_fields, set_spelt, slot_spelt, spelt}
use Rattle.tq_slots.specs.SlotImages.{RawSlots, raw_of, used_in, used_of, with_set}
use Rattle.tq_slots.specs.SpaceReading.{has_place}
use Rattle.tq_slots.specs.MessageSlots.{UsedSlot}
use Rattle.tq_slots.proofs.FieldLemmas.{length-fields}
use Rattle.tq_slots.proofs.ListLemmas.{some_injective, some_none}
use Rattle.tq_slots.proofs.RecordLemmas.{record-said}
use Rattle.tq_store.specs.Change.{IsRecordOf}
use Rattle.tq_store.specs.Draft.{HasArrival, entry_slot}
use Rattle.tq_store.specs.Stored.{IsUsedAt}
use Rattle.tq_store.proofs.SoundMoveLemmas.{used_within}

set_small : (s : Set) → IsSet s → length (set_spelt s) ≤ 515
unfolding slot_spelt
set_small (sets.Message index m) is =
    let slot : length (fields_spelt (message_fields m)) ≡ 64 = length-fields (message_fields m) is.1 in
    let all = length-append (digits 3 (65536 + index)) (fields_spelt (message_fields m)) in
    let key = length-digits 3 (65536 + index) in
    omega arith
set_small (sets.Queue index q) is =
    let slot : length (fields_spelt (queue_fields q)) ≡ 512 = length-fields (queue_fields q) is.1 in
    let all = length-append (digits 3 (131072 + index)) (fields_spelt (queue_fields q)) in
    let key = length-digits 3 (131072 + index) in
    omega arith
set_small (sets.Branch index b) is =
    let slot : length (fields_spelt (branch_fields b)) ≡ 160 = length-fields (branch_fields b) is.1 in
    let all = length-append (digits 3 (196608 + index)) (fields_spelt (branch_fields b)) in
    let key = length-digits 3 (196608 + index) in
    omega arith

-- it takes at most 518 bytes
pub record_small : (kind : RecKind) (s : Set) → AreSets (s ∷ []) → length (spelt (record { kind = kind; sets = s ∷ [] })) ≤ 518
record_small kind s are =
    let set = set_small s are.0 in
    let rest = flat_map set_spelt (s ∷ []) in
    let one : length rest ≡ length (set_spelt s) + 0 = ap length (flat_map-cons set_spelt s []) ∙ length-append (set_spelt s) [] in
    let first = length-digits 1 (kind_number kind) in
    let second = length-digits 2 1 in
    let front = length-append (digits 1 (kind_number kind)) (digits 2 1 ++ rest) in
    let behind = length-append (digits 2 1) rest in
    omega arith

-- the record of a message takes 70
pub message_record_long : (kind : RecKind) (index : ℕ) (m : MessageSlot) → AreSets (sets.Message index m ∷ [])
    → length (spelt (record { kind = kind; sets = sets.Message index m ∷ [] })) ≡ 70
unfolding slot_spelt
message_record_long kind index m are =
    let s = sets.Message index m in
    let rest = flat_map set_spelt (s ∷ []) in
    let slot : length (fields_spelt (message_fields m)) ≡ 64 = length-fields (message_fields m) are.0.1 in
    let set = length-append (digits 3 (65536 + index)) (fields_spelt (message_fields m)) in
    let key = length-digits 3 (65536 + index) in
    let one : length rest ≡ length (set_spelt s) + 0 = ap length (flat_map-cons set_spelt s []) ∙ length-append (set_spelt s) [] in
    let first = length-digits 1 (kind_number kind) in
    let second = length-digits 2 1 in
    let front = length-append (digits 1 (kind_number kind)) (digits 2 1 ++ rest) in
    let behind = length-append (digits 2 1) rest in
    omega arith

-- its spelling makes the slots with that set
pub record_of_one : (kind : RecKind) (s : Set) (old : RawSlots) (payload : List ℕ) → IsRecord (record { kind = kind; sets = s ∷ [] })
    → IsSpelling (record { kind = kind; sets = s ∷ [] }) payload → has_place old s ≡ true → IsRecordOf old (with_set s old) payload
record_of_one kind s old payload is spells place =
    let r : Record = record { kind = kind; sets = s ∷ [] } in
    record { r = r; reads = rw (record-said r payload is spells) refl; fits = and_from (has_place old s) true place refl; makes = refl }

-- bytes that spell something are in a frame
pub frame_of : (frame : List ℕ) → 1 ≤ length (payload_in frame) → IsFrame frame
frame_of frame some =
    let part = length-take (length frame - 6) (drop 5 frame) in
    elim (cases_lt 6 (length frame)) [
      | inl long ↦ omega arith
      | inr short ↦ omega arith
    ]

-- the arrival of an entry has its bytes, where its slot has
pub arrival_of_slot : (index first : ℕ) (e : HeldEntry) → AreSets (sets.Message index (raw_of (Some (entry_slot first e))) ∷ []) → HasArrival e
arrival_of_slot index first e are =
    let fields = are.0.1.1.1.1.1.1.1.1.1.1.1 in
    record { epoch = fields.0; number = fields.1.0 }

-- ---- the same, of a list that is known to be one set

pub list_small : (kind : RecKind) (l : List Set) (s : Set) (payload : List ℕ) → l ≡ s ∷ [] → AreSets l → payload ≡ spelt (record { kind = kind; sets = l })
    → length payload ≤ 518
list_small kind l s payload one are is =
    subst (λ (bytes : List ℕ). length bytes ≤ 518) (sym (is ∙ ap (λ (x : List Set). spelt (record { kind = kind; sets = x })) one))
    (record_small kind s (subst AreSets one are))

pub list_long : (kind : RecKind) (l : List Set) (index : ℕ) (m : MessageSlot) (payload : List ℕ) → l ≡ sets.Message index m ∷ [] → AreSets l
    → payload ≡ spelt (record { kind = kind; sets = l }) → length payload ≡ 70
list_long kind l index m payload one are is =
    ap length (is ∙ ap (λ (x : List Set). spelt (record { kind = kind; sets = x })) one) ∙ message_record_long kind index m (subst AreSets one are)

pub list_made : (kind : RecKind) (l : List Set) (s : Set) (old : RawSlots) (payload : List ℕ) → l ≡ s ∷ [] → 65536 ≤ key_of s → has_place old s ≡ true
    → IsSpelling (record { kind = kind; sets = l }) payload → IsRecordOf old (with_set s old) payload
list_made kind l s old payload one least place spells =
    record_of_one kind s old payload (record { few = omega arith; ascending = (least, tt) })
    (subst (λ (x : List Set). IsSpelling (record { kind = kind; sets = x }) payload) one spells) place

pub list_arrival : (l : List Set) (index first : ℕ) (m : MessageSlot) (e : HeldEntry) → l ≡ sets.Message index m ∷ [] → AreSets l
    → m ≡ raw_of (Some (entry_slot first e)) → HasArrival e
list_arrival l index first m e one are slot =
    arrival_of_slot index first e (subst AreSets (one ∙ ap (λ (x : MessageSlot). sets.Message index x ∷ []) slot) are)

-- ---- a used slot

pub used_below : (raw : RawSlots) (index : ℕ) (m : UsedSlot) → IsUsedAt raw index m → index < length raw.messages
used_below raw index m at = subst (λ n. index < n) (length-map raw.messages used_of) (used_within raw index m at)

not_none : {X : Type 0} (b : Bool) (x y : X) → cond b None (Some x) ≡ Some y → x ≡ y
not_none true x y h = absurd (some_none (sym h))
not_none false x y h = some_injective h

-- the first page of its chain, as it stands in the slot
pub used_first : (raw : RawSlots) (index : ℕ) (m : UsedSlot) (d : MessageSlot) → IsUsedAt raw index m → (get_or raw.messages index d).first ≡ m.first
used_first raw index m d at =
    let slot = get_or raw.messages index d in
    let said : used_of slot ≡ Some m = sym (get_or-map used_of raw.messages index d None (used_below raw index m at)) ∙ at in
    ap (λ (u : UsedSlot). u.first) (not_none (slot.mark == 0) (used_in slot) m said)
