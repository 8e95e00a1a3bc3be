-- Contents of an owner whose bytes change beside a log.
use Rattle.std.proofs.Common.{◌≡◌, ◌⊎◌, inl, inr, ◌<◌, ◌≤◌, ℕ, ◌+◌, true, List, length, get_or, sym, ◌∙◌, ap, arith}
use Rattle.std.specs.Prelude.{◌%◌, ◌==◌, if◌then◌else◌}
use Rattle.std.specs.Option.{option_map}
use Rattle.std.proofs.lemmas.Bool.Decides.{nat_tests}
use Rattle.tq_host.proofs.Bytes.{before_or_after}
use Rattle.tq_extent.specs.Bytes.{owned_bytes, reaches}
use Rattle.tq_extent.proofs.BytesLemmas.{length-owned}
use Rattle.tq_field.specs.GatedLog.{log_reading}
use Rattle.tq_gate.specs.declared.log.GateLog.{GateLog}
use Rattle.tq_gate.specs.declared.layout.Layout.{Layout}
use Rattle.tq_gate.specs.declared.layout.Areas.{Areas}
use Rattle.tq_gate.specs.declared.layout.Areas.TheVariants.{One, Two}
use Rattle.tq_gate.specs.Layout.{clusters_of, bytes_in, first_area, area_length, areas_end, total_length, layout_end, IsSelector, IsPlaced}
use Rattle.tq_gate.specs.Reading.{Content, content, content_on, chosen, area_of}
use Rattle.tq_gate.specs.Log.{IsLog, IsSameBeside, IsSameButAreas, IsSameButIn}
use Rattle.tq_gate.proofs.Contents.{content_in, fits_none, fits_some, chosen_same, area_same}

by_bounds : (n first long : ℕ)
    → (first ≤ (if n % 2 == 0 then first else first + long)) × ((if n % 2 == 0 then first else first + long) + long ≤ first + (long + long))
by_bounds n first long = grind (arith, nat_tests)

area_bounds : (layout : Layout) (areas : Areas) (bytes : List ℕ)
    → (first_area layout ≤ chosen layout areas bytes) × (chosen layout areas bytes + area_length layout ≤ first_area layout + total_length areas (area_length layout))
area_bounds layout One bytes = (omega arith, omega arith)
area_bounds layout (Two selector) bytes = by_bounds (get_or bytes selector 0) (first_area layout) (area_length layout)

-- Where the bytes in the areas and at the selector are the same, the content is.
pub content_elsewhere : (layout : Layout) (a b : List ℕ) → length b ≡ length a
    → ((i : ℕ) → first_area layout ≤ i → i < areas_end layout → get_or b i 0 ≡ get_or a i 0)
    → ((i : ℕ) → IsSelector layout.areas i → get_or b i 0 ≡ get_or a i 0)
    → content layout b ≡ content layout a
content_elsewhere layout a b size areas selector =
    let area = area_of layout a in
    elim (before_or_after (length a) (layout_end layout)) [
      | inl short ↦ fits_none (layout_end layout) (length b) (content_in layout (area_of layout b) b) (omega arith)
          ∙ sym (fits_none (layout_end layout) (length a) (content_in layout area a) short)
      | inr long ↦
          let bounds = area_bounds layout layout.areas a in
          let parts = area_same layout area a b (omega arith) size (λ i from to. areas i (omega arith) (omega arith)) in
          fits_some (layout_end layout) (length b) (content_in layout (area_of layout b) b) (omega arith)
          ∙ ap (λ n. content_in layout n b) (chosen_same layout layout.areas a b selector)
          ∙ (λ i. option_map (λ (payloads : List (List ℕ)). record { base = parts.0 i; payloads = payloads }) (log_reading (parts.1 i)))
          ∙ sym (fits_some (layout_end layout) (length a) (content_in layout area a) long)
    ]

-- a byte of an area, or the selector
abbrev pub IsOf : Layout → ℕ → Type 0
IsOf layout i = ((first_area layout ≤ i) × (i < areas_end layout)) ⊎ IsSelector layout.areas i

-- A change of one log leaves the content of another one that shares no byte with it.
pub content_beside : (one other : Layout) (old new : List ℕ) → ((i : ℕ) → IsOf one i → IsOf other i → ⊥) → IsSameBeside one old new
    → content other new ≡ content other old
content_beside one other old new apart same =
    let stays : (i : ℕ) → IsOf other i → get_or new i 0 ≡ get_or old i 0 = λ i is.
    let out : (i < first_area one) ⊎ (areas_end one ≤ i) = elim (before_or_after i (first_area one)) [
      | inl before ↦ inl before
      | inr from ↦ elim (before_or_after i (areas_end one)) [ inl to ↦ absurd (apart i (inl (from, to)) is) | inr behind ↦ inr behind ]
    ] in
    same.outside i out (λ selects. apart i (inr selects) is) in
    content_elsewhere other old new same.size (λ i from to. stays i (inl (from, to))) (λ i selects. stays i (inr selects))

-- a change within a log lies in its areas
pub beside_log : (layout : Layout) (area : ℕ) (old new : List ℕ) → IsPlaced layout area → IsSameButIn layout area old new → IsSameBeside layout old new
beside_log layout area old new placed same = record {
  outside = λ i out unselected. same.outside i
      (elim out [ inl before ↦ inl (omega (arith, placed.not_before)) | inr behind ↦ inr (omega (arith, placed.not_past)) ]);
  size = same.size;
}

-- the same in an image, of two logs of one owner
pub content_on_beside : (log : GateLog) (other : Layout) (old new : List ℕ) → clusters_of other ≡ clusters_of log.layout
    → ((i : ℕ) → IsOf log.layout i → IsOf other i → ⊥) → IsSameButAreas log old new → content_on other new ≡ content_on other old
content_on_beside log other old new one_owner apart same =
    ap (λ (clusters : List ℕ). content other (owned_bytes clusters new)) one_owner
    ∙ content_beside log.layout other (bytes_in log.layout old) (bytes_in log.layout new) apart same.bytes
    ∙ sym (ap (λ (clusters : List ℕ). content other (owned_bytes clusters old)) one_owner)

-- A log stays open where the bytes of its areas and its selector stay.
pub log_elsewhere : (log : GateLog) (k : Content) (old new : List ℕ) → reaches (clusters_of log.layout) new ≡ true
    → ((i : ℕ) → IsOf log.layout i → get_or (bytes_in log.layout new) i 0 ≡ get_or (bytes_in log.layout old) i 0) → IsLog log k old → IsLog log k new
log_elsewhere log k old new reach same is =
    let layout = log.layout in
    let a = bytes_in layout old in
    let b = bytes_in layout new in
    let size : length b ≡ length a = length-owned (clusters_of layout) new reach ∙ sym (length-owned (clusters_of layout) old is.reach) in
    record {
      reach = reach;
      is = record {
        reads = content_elsewhere layout a b size (λ i from to. same i (inl (from, to))) (λ i selects. same i (inr selects)) ∙ is.is.reads;
        area_is = is.is.area_is ∙ sym (chosen_same layout layout.areas a b (λ i selects. same i (inr selects)));
        end_is = is.is.end_is;
      };
    }
