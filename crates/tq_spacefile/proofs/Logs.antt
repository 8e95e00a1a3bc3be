-- The log of a space is the gated log of its place.
use Rattle.std.proofs.Common.{◌≡◌, ℕ, Bool, true, List, length, Option, None, Some, refl, sym, ap, ◌∙◌, arith}
use Rattle.std.specs.Prelude.{nat_le, if◌then◌else◌}
use Rattle.std.specs.Option.{option_map}
use Rattle.std.proofs.lemmas.Bool.{le-leb}
use Rattle.std.proofs.lemmas.Option.{none-some, same_Some}
use Rattle.tq_field.specs.GatedLog.{log_reading}
use Rattle.tq_extent.specs.Bytes.{owned_bytes, reaches}
use Rattle.tq_extent.proofs.BytesLemmas.{length-owned}
use Rattle.tq_gate.specs.Layout.{first_area, layout_end}
use Rattle.tq_gate.specs.Reading.{Content, content_on, base_in, log_in}
use Rattle.tq_model.specs.Reading.{payloads_in}
use Rattle.tq_spacefile.specs.declared.place.SpacePlace.{SpacePlace}
use Rattle.tq_spacefile.specs.Place.{IsPlace, log_layout}

abbrev over_base : List ℕ → List (List ℕ) → Content
over_base base payloads = record { base = base; payloads = payloads }

mapped_some : (base : List ℕ) (o : Option (List (List ℕ))) (k : Content) → option_map (over_base base) o ≡ Some k → o ≡ Some k.payloads
mapped_some base None k is = absurd (none-some k is)
mapped_some base (Some ps) k is = ap (λ (c : Content). Some c.payloads) (same_Some (over_base base ps) k is)

mapped_none : (base : List ℕ) (o : Option (List (List ℕ))) → option_map (over_base base) o ≡ None → o ≡ None
mapped_none base None is = refl
mapped_none base (Some ps) is = absurd (none-some (over_base base ps) (sym is))

module _ (place : SpacePlace) (clusters : List ℕ) (is : IsPlace place clusters) where
  abbrev base_of : List ℕ → List ℕ
  base_of image = base_in (log_layout place clusters) (first_area (log_layout place clusters)) (owned_bytes clusters image)

  -- the content with these payloads
  abbrev pub content_with : List (List ℕ) → List ℕ → Content
  content_with payloads image = over_base (base_of image) payloads

  module _ (image : List ℕ) (reach : reaches clusters image ≡ true) where
    abbrev payloads_there : Option (List (List ℕ))
    payloads_there = payloads_in place.pages (owned_bytes clusters image)

    -- the content of the gated log, by its payloads
    pub content_is : content_on (log_layout place clusters) image ≡ option_map (over_base (base_of image)) payloads_there
    content_is =
        let layout = log_layout place clusters in
        let bytes = owned_bytes clusters image in
        let size = length-owned clusters image reach in
        let long : nat_le (layout_end layout) (length bytes) ≡ true = le-leb (layout_end layout) (length bytes) (omega (arith, is.least, is.enough, size)) in
        ap (λ (b : Bool). if b then option_map (over_base (base_of image)) (log_reading (log_in layout (first_area layout) bytes)) else None) long

    pub content_some : (ps : List (List ℕ)) → payloads_there ≡ Some ps → content_on (log_layout place clusters) image ≡ Some (content_with ps image)
    content_some ps same = content_is ∙ ap (option_map (over_base (base_of image))) same

    pub payloads_some : (k : Content) → content_on (log_layout place clusters) image ≡ Some k → payloads_there ≡ Some k.payloads
    payloads_some k same = mapped_some (base_of image) payloads_there k (sym content_is ∙ same)

    pub payloads_none : content_on (log_layout place clusters) image ≡ None → payloads_there ≡ None
    payloads_none same = mapped_none (base_of image) payloads_there (sym content_is ∙ same)
