-- The slots of a space are read from the content of its log.
use Rattle.std.proofs.Common.{◌≡◌, ◌<◌, ◌≤◌, ℕ, ◌+◌, ◌*◌, max, Bool, true, false, List, length, get_or, Option, None, Some, refl, sym, ap, ◌∙◌, arith}
use Rattle.std.specs.Prelude.{◌%◌, ◌==◌, if◌then◌else◌, option_map}
use Rattle.std.specs.Option.{option_and_then}
use Rattle.std.proofs.lemmas.Option.{none-some, same_Some}
use Rattle.tq_field.specs.GatedLog.{log_reading}
use Rattle.tq_extent.specs.Bytes.{byte_count, owned_bytes, reaches}
use Rattle.tq_extent.proofs.BytesLemmas.{length-owned}
use Rattle.tq_gate.specs.Layout.{layout_end, area_by, IsLaidOut}
use Rattle.tq_gate.specs.Reading.{Content, content_on}
use Rattle.tq_gate.proofs.Contents.{content_in, fits_some}
use Rattle.tq_model.specs.declared.space.Shape.{Shape}
use Rattle.tq_model.specs.Space.{slot_pages, log_pages}
use Rattle.tq_slots.specs.SlotImages.{RawSlots}
use Rattle.tq_slots.specs.SpaceReading.{base_bytes, log_of_space, slots_by, slots_stored}
use Rattle.tq_store.specs.declared.place.SpacePlace.{SpacePlace}
use Rattle.tq_store.specs.Place.{IsPlace, IsCreation, log_layout}

-- ---- numbers

-- the byte at which the chosen area begins
start_by : (b : Bool) (m n : ℕ) → 1024 * (if b then 1 else 1 + (m + n)) ≡ (if b then 1024 * 1 else 1024 * 1 + (1024 * m + 1024 * n))
start_by true m n = refl
start_by false m n = omega arith

-- both areas lie on the pages of the space
end_within : (m n pages count : ℕ) → 1 + 2 * (m + n) < pages → pages ≤ 32 * count
    → max (1024 * 1 + (1024 * m + 1024 * n + (1024 * m + 1024 * n))) (512 + 1) ≤ 32768 * count
end_within m n pages count overhead enough = omega arith

-- ---- a content by its payloads

abbrev over_base : List ℕ → List (List ℕ) → Content
over_base base payloads = record { base = base; payloads = payloads }

mapped_some : (base : List ℕ) (o : Option (List (List ℕ))) (k : Content) → option_map (over_base base) o ≡ Some k → (o ≡ Some k.payloads) × (base ≡ k.base)
mapped_some base None k is = absurd (none-some k is)
mapped_some base (Some ps) k is =
    let e : over_base base ps ≡ k = same_Some (over_base base ps) k is in
    (ap (λ (c : Content). Some c.payloads) e, ap (λ (c : Content). c.base) e)

mapped_none : (base : List ℕ) (o : Option (List (List ℕ))) → option_map (over_base base) o ≡ None → o ≡ None
mapped_none base None is = refl
mapped_none base (Some ps) is = absurd (none-some (over_base base ps) (sym is))

-- the slots that a content makes
abbrev pub slots_of : Shape → Content → Option RawSlots
slots_of shape k = slots_by shape k.base k.payloads

slots_mapped : (shape : Shape) (base : List ℕ) (o : Option (List (List ℕ)))
    → option_and_then (slots_by shape base) o ≡ option_and_then (slots_of shape) (option_map (over_base base) o)
slots_mapped shape base None = refl
slots_mapped shape base (Some ps) = refl

-- ---- the log of a space

module _ (place : SpacePlace) (shape : Shape) (clusters : List ℕ) (is : IsPlace place clusters) (creation : IsCreation place shape) where
  layout_within : layout_end (log_layout place shape clusters) ≤ byte_count clusters
  layout_within =
      let pages = creation.pages in
      end_within (slot_pages shape) (log_pages shape) shape.pages (length clusters) creation.overhead (omega (arith, pages, is.enough))

  pub laid_out : byte_count clusters ≤ 268435456 → IsLaidOut (log_layout place shape clusters)
  laid_out size = record { dev = is.dev; size = size; end = layout_within; apart = λ i from to selects. absurd (omega arith) }

  module _ (image : List ℕ) (reach : reaches clusters image ≡ true) where
    -- the content, by the payloads of the log
    content_is : content_on (log_layout place shape clusters) image
        ≡ option_map (over_base (base_bytes shape (owned_bytes clusters image))) (log_reading (log_of_space shape (owned_bytes clusters image)))
    content_is =
        let layout = log_layout place shape clusters in
        let bytes = owned_bytes clusters image in
        let selector = get_or bytes 512 0 in
        let size = length-owned clusters image reach in
        let start = start_by (selector % 2 == 0) (slot_pages shape) (log_pages shape) in
        let within = layout_within in
        fits_some (layout_end layout) (length bytes) (content_in layout (area_by layout selector) bytes) (omega (arith, within, size))
        ∙ ap (λ (area : ℕ). content_in layout area bytes) (sym start)

    pub content_some : (k : Content) → content_on (log_layout place shape clusters) image ≡ Some k
        → (log_reading (log_of_space shape (owned_bytes clusters image)) ≡ Some k.payloads) × (base_bytes shape (owned_bytes clusters image) ≡ k.base)
    content_some k has =
        let bytes = owned_bytes clusters image in
        mapped_some (base_bytes shape bytes) (log_reading (log_of_space shape bytes)) k (sym content_is ∙ has)

    pub content_none : content_on (log_layout place shape clusters) image ≡ None → log_reading (log_of_space shape (owned_bytes clusters image)) ≡ None
    content_none has =
        let bytes = owned_bytes clusters image in
        mapped_none (base_bytes shape bytes) (log_reading (log_of_space shape bytes)) (sym content_is ∙ has)

    -- the slots, by the content
    pub slots_by_content : slots_stored shape (owned_bytes clusters image)
        ≡ option_and_then (slots_of shape) (content_on (log_layout place shape clusters) image)
    slots_by_content =
        let bytes = owned_bytes clusters image in
        slots_mapped shape (base_bytes shape bytes) (log_reading (log_of_space shape bytes)) ∙ ap (option_and_then (slots_of shape)) (sym content_is)

    pub slots_some : (k : Content) → content_on (log_layout place shape clusters) image ≡ Some k
        → slots_stored shape (owned_bytes clusters image) ≡ slots_by shape k.base k.payloads
    slots_some k has = slots_by_content ∙ ap (option_and_then (slots_of shape)) has

    pub slots_none : content_on (log_layout place shape clusters) image ≡ None → slots_stored shape (owned_bytes clusters image) ≡ None
    slots_none has = slots_by_content ∙ ap (option_and_then (slots_of shape)) has
