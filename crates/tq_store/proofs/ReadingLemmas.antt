-- What was read of a space is what its image says.
use Rattle.std.proofs.Common.{◌≡◌, ◌≤◌, ℕ, Bool, true, false, List, length, Option, None, Some, Result, Ok, Err, refl, sym, ap, subst, ◌∙◌, arith}
use Rattle.std.specs.Prelude.{◌&&◌, nat_le, nat_lt, if◌then◌else◌}
use Rattle.std.specs.Option.{option_and_then}
use Rattle.std.specs.Result.{IsErrAnd}
use Rattle.std.proofs.lemmas.Bool.{and_parts, leb-true, ltb-true}
use Rattle.std.proofs.lemmas.Option.{none-some, cond_some}
use Rattle.tq_host.specs.Calls.{HasBytesAt}
use Rattle.tq_field.specs.Places.{run_at}
use Rattle.tq_extent.specs.Bytes.{owned_bytes, reaches}
use Rattle.tq_extent.proofs.BytesLemmas.{length-owned}
use Rattle.tq_gate.proofs.RangeLemmas.{run_at-is}
use Rattle.tq_gate.specs.declared.log.GateLog.{GateLog}
use Rattle.tq_gate.specs.declared.loading.Loaded.{Loaded}
use Rattle.tq_gate.specs.Loaded.{content_of}
use Rattle.tq_gate.specs.Log.{IsLog, layout_of}
use Rattle.tq_gate.specs.declared.layout.Layout.{Layout}
use Rattle.tq_gate.specs.declared.fault.GateError.{GateError}
use Rattle.tq_gate.specs.declared.fault.GateError.TheVariants as gate
use Rattle.tq_gate.specs.Loading.{IsRefused}
use Rattle.tq_gate.specs.Reading.{content, content_on}
use Rattle.tq_model.specs.declared.space.Shape.{Shape}
use Rattle.tq_model.specs.Space.{overhead_pages}
use Rattle.tq_model.specs.DeviceForm.{first_page}
use Rattle.tq_model.specs.Reading.{hold_all, no_two}
use Rattle.tq_model.specs.SpaceForm.{raw_space, shape_of}
use Rattle.tq_slots.specs.QueueForm.{are_one_number}
use Rattle.tq_slots.specs.SlotImages.{RawSlots, slots_in}
use Rattle.tq_slots.specs.SpaceReading.{creation_in, slots_by, slots_stored, slot_tests, pages_of_slots, tested, space_held, space_by, space_made, space_read}
use Rattle.tq_store.specs.declared.place.SpacePlace.{SpacePlace}
use Rattle.tq_store.specs.declared.fault.FileError.TheVariants as file
use Rattle.tq_store.specs.Faults.{of_log}
use Rattle.tq_store.specs.declared.reading.Read.{Read}
use Rattle.tq_store.specs.Page.{are_limits, is_error, is_creation, shape_in}
use Rattle.tq_store.specs.Place.{IsPlace, IsCreation, log_layout}
use Rattle.tq_store.specs.Reading.{HasRead, IsOpened, sound_slots, sound_slots_of}
use Rattle.tq_store.proofs.ContentLemmas.{slots_some, slots_none}
use Rattle.tq_store.proofs.PageLemmas.{is_first_page, shape_in_is}

-- ---- errors

-- which error a result has
pub error_is : {T E : Type 0} (r : Result T E) (x y : E) → IsErrAnd r (λ e. e ≡ x) → r ≡ Err y → y ≡ x
error_is (Ok v) x y has is = absurd has
error_is (Err e) x y has is = cc

-- an error that is handed on
pub same_error : {T U E : Type 0} (r : Result T E) (s : Result U E) (e y : E) → r ≡ Err e → IsErrAnd s (λ x. x ≡ e)
    → (r ≡ Err y → s ≡ Err y) × (s ≡ Err y → r ≡ Err y)
same_error r (Ok v) e y was has = absurd has
same_error r (Err x) e y was has = (λ is. cc, λ is. cc)

pub no_error : {T E : Type 0} (r : Result T E) (v : T) (e : E) → r ≡ Ok v → r ≡ Err e → ⊥
no_error r v e ok err = cc

-- of the faults of a log, damage alone is read as damage
pub damaged_none : (layout : Layout) (bytes : List ℕ) (e : GateError) → IsRefused layout bytes e → file.Damaged ≡ of_log e → content layout bytes ≡ None
damaged_none layout bytes (gate.Damaged at) refused is = refused.none
damaged_none layout bytes gate.Device refused is = let no : file.Damaged ≡ file.Device = is in absurd (cc)
damaged_none layout bytes gate.NoMemory refused is = let no : file.Damaged ≡ file.NoMemory = is in absurd (cc)

-- ---- the first page

-- a page that stands at the start of the owner's bytes is the first
pub page_stands : (place : SpacePlace) (clusters page image : List ℕ) → IsPlace place clusters → reaches clusters image ≡ true → length page ≡ 1024
    → HasBytesAt 0 page (owned_bytes clusters image) → page ≡ first_page (owned_bytes clusters image)
page_stands place clusters page image is reach long stands =
    let size = length-owned clusters image reach in
    let bytes = owned_bytes clusters image in
    sym (run_at-is 0 page bytes (omega (arith, is.least, is.enough, size)) stands) ∙ ap (λ n. run_at 0 n bytes) long

between : (least n most : ℕ) → (nat_le least n && nat_le n most) ≡ true → (least ≤ n) × (n ≤ most)
between least n most both =
    let parts = and_parts (nat_le least n) (nat_le n most) both in
    (leb-true least n parts.0, leb-true n most parts.1)

limits_are : (place : SpacePlace) (s : Shape) → s.pages ≡ place.pages → are_limits s ≡ true → IsCreation place s
limits_are place s pages within =
    let q = nat_le 1 s.queues && nat_le s.queues 256 in
    let m = nat_le 1 s.messages && nat_le s.messages 8192 in
    let t = nat_le 1 s.transactions && nat_le s.transactions 64 in
    let all = and_parts (q && m && t && nat_le s.memory 16777216) (nat_lt (overhead_pages s) s.pages) within in
    let counts = and_parts (q && m && t) (nat_le s.memory 16777216) all.0 in
    let first = and_parts (q && m) t counts.0 in
    let two = and_parts q m first.0 in
    record {
      pages = pages;
      queues = between 1 s.queues 256 two.0;
      messages = between 1 s.messages 8192 two.1;
      transactions = between 1 s.transactions 64 first.1;
      memory = leb-true s.memory 16777216 counts.1;
      overhead = ltb-true (overhead_pages s) s.pages all.1;
    }

-- the creation of a first page is within its limits
pub creation_of : (place : SpacePlace) (page : List ℕ) (s : Shape) → shape_in place.pages page ≡ Some s → IsCreation place s
creation_of place page s is =
    let raw = raw_space page in
    let made = shape_of place.pages raw in
    let found = cond_some (is_first_page place.pages raw) made s (sym (shape_in_is place.pages page) ∙ is) in
    let whole = and_parts _ (is_creation made) found.0 in
    subst (IsCreation place) found.1 (limits_are place made refl (and_parts (are_limits made) (is_error made.error) whole.1).0)

-- ---- slots

unchosen : {X Y : Type 0} (a b : Bool) (x : X) (y : Option Y) → (if a then Some x else None) ≡ None → (if a && b then y else None) ≡ None
unchosen true b x y none = absurd (none-some x (sym none))
unchosen false b x y none = refl

-- slots that are not what they have to be make no space
pub no_slots : (site number : ℕ) (shape : Shape) (bytes : List ℕ) (slots : Option RawSlots) → sound_slots slots ≡ None
    → option_and_then (space_by site number shape bytes) slots ≡ None
no_slots site number shape bytes None none = refl
no_slots site number shape bytes (Some raw) none =
    unchosen (hold_all (slot_tests raw)) (no_two are_one_number (pages_of_slots shape bytes (slots_in raw))) raw (option_and_then tested (space_held site number shape bytes raw)) none

-- sound slots are those that were read
pub sound_are : (slots : Option RawSlots) (raw : RawSlots) → sound_slots slots ≡ Some raw → (slots ≡ Some raw) × (hold_all (slot_tests raw) ≡ true)
sound_are None raw is = absurd (none-some raw is)
sound_are (Some x) raw is =
    let found = cond_some (hold_all (slot_tests x)) x raw is in
    (ap Some found.1, subst (λ (r : RawSlots). hold_all (slot_tests r) ≡ true) found.1 found.0)

module _ (place : SpacePlace) (clusters image : List ℕ) where
  abbrev all_bytes : List ℕ
  all_bytes = owned_bytes clusters image

  pub no_creation : creation_in place.pages all_bytes ≡ None → space_read place.site place.number place.pages all_bytes ≡ None
  no_creation none = ap (option_and_then (space_made place.site place.number all_bytes)) none

  module _ (shape : Shape) (is : IsPlace place clusters) (creation : IsCreation place shape) (reach : reaches clusters image ≡ true)
      (says : creation_in place.pages all_bytes ≡ Some shape) where
    unsound : sound_slots (slots_stored shape all_bytes) ≡ None → space_read place.site place.number place.pages all_bytes ≡ None
    unsound none = ap (option_and_then (space_made place.site place.number all_bytes)) says ∙ no_slots place.site place.number shape all_bytes (slots_stored shape all_bytes) none

    pub no_log : content_on (log_layout place shape clusters) image ≡ None → space_read place.site place.number place.pages all_bytes ≡ None
    no_log none = unsound (ap sound_slots (slots_none place shape clusters is creation image reach none))

    module _ (loaded : Loaded) (layout : layout_of loaded.log ≡ log_layout place shape clusters) (log : IsLog loaded.log (content_of loaded) image) where
      has_content : content_on (log_layout place shape clusters) image ≡ Some (content_of loaded)
      has_content = sym (ap (λ (l : Layout). content_on l image) layout) ∙ log.is.reads

      pub unsound_content : sound_slots_of shape (content_of loaded) ≡ None → space_read place.site place.number place.pages all_bytes ≡ None
      unsound_content none = unsound (ap sound_slots (slots_some place shape clusters is creation image reach (content_of loaded) has_content) ∙ none)

      pub has_read : (read : Read) → IsOpened shape loaded read → sound_slots_of shape (content_of loaded) ≡ Some read.slots → HasRead place clusters read image
      has_read read opened slots =
          let k = content_of loaded in
          record {
            creation = says ∙ ap Some (sym opened.shape_is);
            content = k;
            is = subst (λ (l : GateLog). IsLog l k image) (sym opened.log_is) log;
            stored = ap (λ (s : Shape). slots_stored s all_bytes) opened.shape_is ∙ slots_some place shape clusters is creation image reach k has_content
                ∙ (sound_are (slots_by shape k.base k.payloads) read.slots slots).0;
          }
