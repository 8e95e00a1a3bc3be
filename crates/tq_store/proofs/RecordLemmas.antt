-- Slots with a record more, and slots of a base alone.
use Rattle.std.proofs.Common.{◌≡◌, ℕ, Bool, true, false, List, [], ◌∷◌, ◌++◌, length, Option, None, Some, refl, sym, ap, ◌∙◌}
use Rattle.std.specs.Prelude.{if◌then◌else◌, option_map, nat_lt}
use Rattle.std.specs.Option.{option_and_then}
use Rattle.std.specs.List.{list_all}
use Rattle.std.proofs.lemmas.Bool.{and_from}
use Rattle.std.proofs.lemmas.List.{length-set}
use Rattle.std.proofs.lemmas.List.Folds.{list_all-append}
use Rattle.std.proofs.lemmas.Option.{none-some, same_Some}
use Rattle.tq_gate.specs.Reading.{Content}
use Rattle.tq_gate.specs.Log.{added, replaced}
use Rattle.tq_model.specs.declared.space.Shape.{Shape}
use Rattle.tq_slots.specs.declared.record.Set.{Set}
use Rattle.tq_slots.specs.declared.record.Set.TheVariants as sets
use Rattle.tq_slots.specs.RecordForm.{Record, record_read}
use Rattle.tq_slots.specs.SlotImages.{RawSlots, with_set, with_record}
use Rattle.tq_slots.specs.SpaceReading.{records_in, has_place, have_places, with_records, slots_with, base_slots, slots_by}
use Rattle.tq_store.proofs.ContentLemmas.{slots_of}

-- ---- records change no number of slots

pub record HasSameRoom (old new : RawSlots) : Type 0 where
  pub queues : length new.queues ≡ length old.queues
  pub messages : length new.messages ≡ length old.messages
  pub branches : length new.branches ≡ length old.branches

set_room : (x : Set) (raw : RawSlots) → HasSameRoom raw (with_set x raw)
set_room (sets.Message index m) raw = record { queues = refl; messages = length-set raw.messages index m; branches = refl }
set_room (sets.Queue index q) raw = record { queues = length-set raw.queues index q; messages = refl; branches = refl }
set_room (sets.Branch index b) raw = record { queues = refl; messages = refl; branches = length-set raw.branches index b }

both_rooms : (a b c : RawSlots) → HasSameRoom a b → HasSameRoom b c → HasSameRoom a c
both_rooms a b c one two = record {
  queues = two.queues ∙ one.queues;
  messages = two.messages ∙ one.messages;
  branches = two.branches ∙ one.branches;
}

pub record_room : (made : List Set) (raw : RawSlots) → HasSameRoom raw (with_record made raw)
record_room [] raw = record { queues = refl; messages = refl; branches = refl }
record_room (x ∷ made) raw = both_rooms raw (with_set x raw) (with_record made (with_set x raw)) (set_room x raw) (record_room made (with_set x raw))

records_room : (rs : List Record) (raw : RawSlots) → HasSameRoom raw (with_records rs raw)
records_room [] raw = record { queues = refl; messages = refl; branches = refl }
records_room (r ∷ rs) raw =
    both_rooms raw (with_record r.sets raw) (with_records rs (with_record r.sets raw)) (record_room r.sets raw) (records_room rs (with_record r.sets raw))

place_same : (old new : RawSlots) → HasSameRoom old new → (x : Set) → has_place new x ≡ has_place old x
place_same old new room (sets.Message index m) = ap (nat_lt index) room.messages
place_same old new room (sets.Queue index q) = ap (nat_lt index) room.queues
place_same old new room (sets.Branch index b) = ap (nat_lt index) room.branches

-- sets that have their places have them in slots of the same number
pub places_same : (old new : RawSlots) (r : Record) → HasSameRoom old new → have_places new r ≡ have_places old r
places_same old new r room = ap (λ (test : Set → Bool). list_all test r.sets) (λ i x. place_same old new room x i)

-- ---- one record more

first_more : (first : Option Record) (rest rest' : Option (List Record)) (rs : List Record) (r : Record)
    → ((more : List Record) → rest ≡ Some more → rest' ≡ Some (more ++ r ∷ []))
    → option_and_then (λ x. option_map (λ more. x ∷ more) rest) first ≡ Some rs
    → option_and_then (λ x. option_map (λ more. x ∷ more) rest') first ≡ Some (rs ++ r ∷ [])
first_more None rest rest' rs r later is = absurd (none-some rs is)
first_more (Some x) None rest' rs r later is = absurd (none-some rs is)
first_more (Some x) (Some more) rest' rs r later is =
    ap (option_map (λ l. x ∷ l)) (later more refl) ∙ ap (λ (l : List Record). Some (l ++ r ∷ [])) (same_Some (x ∷ more) rs is)

more_records : (payloads : List (List ℕ)) (payload : List ℕ) (rs : List Record) (r : Record) → records_in payloads ≡ Some rs → record_read payload ≡ Some r
    → records_in (payloads ++ payload ∷ []) ≡ Some (rs ++ r ∷ [])
more_records [] payload rs r is read =
    ap (λ (o : Option Record). option_and_then (λ x. option_map (λ more. x ∷ more) (records_in [])) o) read
    ∙ ap (λ (l : List Record). Some (l ++ r ∷ [])) (same_Some [] rs is)
more_records (p ∷ payloads) payload rs r is read =
    first_more (record_read p) (records_in payloads) (records_in (payloads ++ payload ∷ [])) rs r (λ more e. more_records payloads payload more r e read) is

records_push : (rs : List Record) (r : Record) (raw : RawSlots) → with_records (rs ++ r ∷ []) raw ≡ with_record r.sets (with_records rs raw)
records_push [] r raw = refl
records_push (x ∷ rs) r raw = records_push rs r (with_record x.sets raw)

chosen_some : (b : Bool) (x y : RawSlots) → (if b then Some x else None) ≡ Some y → (b ≡ true) × (x ≡ y)
chosen_some true x y is = (refl, same_Some x y is)
chosen_some false x y is = absurd (none-some y is)

slots_more : (start raw : RawSlots) (rs : List Record) (r : Record) → slots_with start rs ≡ Some raw → have_places raw r ≡ true
    → slots_with start (rs ++ r ∷ []) ≡ Some (with_record r.sets raw)
slots_more start raw rs r is fits =
    let parts = chosen_some (list_all (have_places start) rs) (with_records rs start) raw is in
    let own : have_places start r ≡ true =
    sym (places_same start (with_records rs start) r (records_room rs start)) ∙ ap (λ (x : RawSlots). have_places x r) parts.1 ∙ fits in
    let all : list_all (have_places start) (rs ++ r ∷ []) ≡ true =
    list_all-append (have_places start) rs (r ∷ [])
    ∙ and_from (list_all (have_places start) rs) (list_all (have_places start) (r ∷ [])) parts.0 (and_from (have_places start r) true own refl) in
    (λ i. if all i then Some (records_push rs r start i) else None) ∙ ap (λ (x : RawSlots). Some (with_record r.sets x)) parts.1

-- A payload more that spells a record makes its slots of those before.
pub slots_added : (s : Shape) (base : List ℕ) (payloads : List (List ℕ)) (payload : List ℕ) (raw : RawSlots) (r : Record)
    → slots_by s base payloads ≡ Some raw → record_read payload ≡ Some r → have_places raw r ≡ true
    → slots_by s base (payloads ++ payload ∷ []) ≡ Some (with_record r.sets raw)
slots_added s base payloads payload raw r is read fits = by_parts (base_slots s base) (records_in payloads) refl refl is
  where
    by_parts : (first : Option RawSlots) (rest : Option (List Record)) → base_slots s base ≡ first → records_in payloads ≡ rest
        → option_and_then (λ start. option_and_then (slots_with start) rest) first ≡ Some raw
        → slots_by s base (payloads ++ payload ∷ []) ≡ Some (with_record r.sets raw)
    by_parts None rest a b made = absurd (none-some raw made)
    by_parts (Some start) None a b made = absurd (none-some raw made)
    by_parts (Some start) (Some rs) a b made =
        (λ i. option_and_then (λ x. option_and_then (slots_with x) (more_records payloads payload rs r b read i)) (a i))
        ∙ slots_more start raw rs r made fits

-- The same of a content.
pub content_added : (s : Shape) (o : Option Content) (payload : List ℕ) (raw : RawSlots) (r : Record) → option_and_then (slots_of s) o ≡ Some raw
    → record_read payload ≡ Some r → have_places raw r ≡ true
    → option_and_then (slots_of s) (option_map (λ k. added k payload) o) ≡ Some (with_record r.sets raw)
content_added s None payload raw r is read fits = absurd (none-some raw is)
content_added s (Some k) payload raw r is read fits = slots_added s k.base k.payloads payload raw r is read fits

-- The slots of a base alone.
pub content_replaced : (s : Shape) (base : List ℕ) (raw : RawSlots) → base_slots s base ≡ Some raw → slots_of s (replaced base) ≡ Some raw
content_replaced s base raw is = ap (option_and_then (λ start. option_and_then (slots_with start) (Some []))) is
