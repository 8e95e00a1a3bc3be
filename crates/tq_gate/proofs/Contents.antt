-- The content of an owner's bytes, by what stands in them.
use Rattle.std.proofs.Common.{◌≡◌, ◌≢◌, ◌⊎◌, inl, inr, ◌<◌, ◌≤◌, ℕ, ◌+◌, List, length, get_or, Option, None, Some, refl, sym, ◌∙◌, ap, subst, arith}
use Rattle.std.specs.Prelude.{nat_le, if◌then◌else◌}
use Rattle.std.specs.Option.{option_map}
use Rattle.std.proofs.lemmas.Bool.Decides.{nat_tests}
use Rattle.std.proofs.lemmas.Option.{none-some, same_Some}
use Rattle.tq_host.specs.Calls.{IsSameBut}
use Rattle.tq_host.proofs.Bytes.{before_or_after, same_but_wider}
use Rattle.tq_field.proofs.Runs.{length-run_at, get_or-run_at}
use Rattle.tq_gate.specs.declared.layout.Layout.{Layout}
use Rattle.tq_gate.specs.declared.layout.Areas.{Areas}
use Rattle.tq_gate.specs.declared.layout.Areas.TheVariants.{One, Two}
use Rattle.tq_gate.specs.Layout.{first_area, areas_end, base_length, log_length, area_length, layout_end, log_place, area_by, IsSelector, IsLaidOut, IsPlaced}
use Rattle.tq_gate.specs.Reading.{Content, content, chosen, area_of, base_in, log_in, AreRecords, IsDamagedAt}
use Rattle.tq_field.specs.GatedLog.{log_reading, end_of}
use Rattle.tq_gate.specs.Log.{IsOpen, IsSameButIn}
use Rattle.tq_gate.specs.declared.fault.GateError.{GateError}
use Rattle.tq_gate.specs.declared.fault.GateError.TheVariants.{Damaged, Device, NoMemory}
use Rattle.tq_gate.specs.Loading.{IsDamaged, IsRefused, IsRefusedLog}
use Rattle.tq_gate.proofs.RangeLemmas.{run_at-same}
use Rattle.tq_gate.proofs.Readings.{log_read, log_reading_is, damaged_none, records_within, records_same}

-- what stands in the area that begins at this byte, where the bytes have this content there
pub record Holds (layout : Layout) (area : ℕ) (k : Content) (bytes : List ℕ) : Type 0 where
  pub long : layout_end layout ≤ length bytes
  pub base : base_in layout area bytes ≡ k.base
  pub records : AreRecords (log_in layout area bytes) 0 k.payloads
  pub shut : get_or (log_in layout area bytes) (end_of k.payloads) 0 ≢ 79

pub fits_none : (m l : ℕ) (o : Option Content) → l < m → (if nat_le m l then o else None) ≡ None
fits_none m l o past = grind (arith, nat_tests)

pub fits_some : (m l : ℕ) (o : Option Content) → m ≤ l → (if nat_le m l then o else None) ≡ o
fits_some m l o fits = grind (arith, nat_tests)

-- a content with this base
with_base : (base : List ℕ) (o : Option (List (List ℕ))) (k : Content)
    → option_map (λ (payloads : List (List ℕ)). record { base = base; payloads = payloads }) o ≡ Some k → (base ≡ k.base) × (o ≡ Some k.payloads)
with_base base None k is = absurd (none-some k is)
with_base base (Some ps) k is =
    let made : Content = record { base = base; payloads = ps } in
    let e : made ≡ k = same_Some made k is in
    (ap (λ (c : Content). c.base) e, ap (λ (c : Content). Some c.payloads) e)

base_with : (base : List ℕ) (o : Option (List (List ℕ))) (k : Content) → base ≡ k.base → o ≡ Some k.payloads
    → option_map (λ (payloads : List (List ℕ)). record { base = base; payloads = payloads }) o ≡ Some k
base_with base o k same is =
    ap (option_map (λ (payloads : List (List ℕ)). record { base = base; payloads = payloads })) is
    ∙ ap (λ (b : List ℕ). Some (record { base = b; payloads = k.payloads })) same

module _ (layout : Layout) where
  -- the content of an area, where the bytes are enough
  abbrev pub content_in : ℕ → List ℕ → Option Content
  content_in area bytes = option_map (λ (payloads : List (List ℕ)). record { base = base_in layout area bytes; payloads = payloads })
      (log_reading (log_in layout area bytes))

  pub holds_of : (k : Content) (bytes : List ℕ) → content layout bytes ≡ Some k → Holds layout (area_of layout bytes) k bytes
  holds_of k bytes is = elim (before_or_after (length bytes) (layout_end layout)) [
    | inl short ↦ absurd (none-some k (sym (fits_none (layout_end layout) (length bytes) (content_in (area_of layout bytes) bytes) short) ∙ is))
    | inr long ↦
        let parts = with_base (base_in layout (area_of layout bytes) bytes) (log_reading (log_in layout (area_of layout bytes) bytes)) k
        (sym (fits_some (layout_end layout) (length bytes) (content_in (area_of layout bytes) bytes) long) ∙ is) in
        let read = log_read k.payloads (log_in layout (area_of layout bytes) bytes) parts.1 in
        let e : 0 + end_of k.payloads ≡ end_of k.payloads = omega arith in
        record { long = long; base = parts.0; records = read.records; shut = λ open_gate. read.shut (ap (λ n. get_or (log_in layout (area_of layout bytes) bytes) n 0) e ∙ open_gate) }
  ]

  pub of_holds : (area : ℕ) (k : Content) (bytes : List ℕ) → area ≡ area_of layout bytes → Holds layout area k bytes → content layout bytes ≡ Some k
  of_holds area k bytes chosen_is holds =
      let is : content_in area bytes ≡ Some k = base_with (base_in layout area bytes) (log_reading (log_in layout area bytes)) k holds.base
      (log_reading_is k.payloads (log_in layout area bytes) holds.records holds.shut) in
      fits_some (layout_end layout) (length bytes) (content_in (area_of layout bytes) bytes) holds.long
      ∙ subst (λ (n : ℕ). content_in n bytes ≡ Some k) chosen_is is

  pub holds_open : (area end : ℕ) (k : Content) (bytes : List ℕ) → IsOpen layout area end k bytes → Holds layout area k bytes
  holds_open area end k bytes is = subst (λ (n : ℕ). Holds layout n k bytes) (sym is.area_is) (holds_of k bytes is.reads)

  pub open_holds : (area end : ℕ) (k : Content) (bytes : List ℕ) → end ≡ end_of k.payloads → area ≡ area_of layout bytes → Holds layout area k bytes
      → IsOpen layout area end k bytes
  open_holds area end k bytes ends chosen_is holds = record { reads = of_holds area k bytes chosen_is holds; area_is = chosen_is; end_is = ends }

  -- the chosen area stays where the selector does
  pub chosen_same : (areas : Areas) (a b : List ℕ) → ((i : ℕ) → IsSelector areas i → get_or b i 0 ≡ get_or a i 0)
      → chosen layout areas b ≡ chosen layout areas a
  chosen_same One a b same = refl
  chosen_same (Two selector) a b same = ap (area_by layout) (same selector refl)

  -- the selector lies outside each part of the areas
  pub selector_out : (from n : ℕ) → IsLaidOut layout → first_area layout ≤ from → from + n ≤ areas_end layout → (i : ℕ) → IsSelector layout.areas i
      → (i < from) ⊎ (from + n ≤ i)
  selector_out from n laid_out not_before not_past i is = elim (before_or_after i from) [
    | inl before ↦ inl before
    | inr behind ↦ elim (before_or_after i (from + n)) [
      | inr after ↦ inr after
      | inl within ↦ absurd (laid_out.apart i (omega arith) (omega arith) is)
    ]
  ]

  -- equal bytes from one area to its end, where that lies within them
  pub area_same : (area : ℕ) (a b : List ℕ) → area + area_length layout ≤ length a → length b ≡ length a
      → ((i : ℕ) → area ≤ i → i < area + area_length layout → get_or b i 0 ≡ get_or a i 0)
      → (base_in layout area b ≡ base_in layout area a) × (log_in layout area b ≡ log_in layout area a)
  area_same area a b within long same = (
    run_at-same area (base_length layout) a b (omega arith) long (λ i from to. same i from (omega arith)),
    run_at-same (area + base_length layout) (log_length layout) a b (omega arith) long (λ i from to. same i (omega arith) (omega arith)),
  )

  module _ (area : ℕ) (placed : IsPlaced layout area) where
    -- what stands in an area stays where its bytes do
    pub holds_kept : (k : Content) (a b : List ℕ) → Holds layout area k a → length b ≡ length a
        → ((i : ℕ) → area ≤ i → i < area + area_length layout → get_or b i 0 ≡ get_or a i 0) → Holds layout area k b
    holds_kept k a b holds long same =
        let parts = area_same area a b (omega (arith, placed.not_past, holds.long)) long same in
        record {
          long = omega (arith, long, holds.long);
          base = parts.0 ∙ holds.base;
          records = subst (λ (l : List ℕ). AreRecords l 0 k.payloads) (sym parts.1) holds.records;
          shut = subst (λ (l : List ℕ). get_or l (end_of k.payloads) 0 ≢ 79) (sym parts.1) holds.shut;
        }

    -- a byte of the log
    pub log_byte : (bytes : List ℕ) (j : ℕ) → j < log_length layout → get_or (log_in layout area bytes) j 0 ≡ get_or bytes (log_place layout area j) 0
    log_byte bytes j lt = get_or-run_at (area + base_length layout) (log_length layout) bytes j 0 lt

    pub log_long : (bytes : List ℕ) → layout_end layout ≤ length bytes → length (log_in layout area bytes) ≡ log_length layout
    log_long bytes long = length-run_at (area + base_length layout) (log_length layout) bytes (omega (arith, placed.not_past, long))

    -- the log lies within the owner's bytes
    pub log_within : log_place layout area (log_length layout) ≤ layout_end layout
    log_within = omega (arith, placed.not_past)

    -- a write within the log changes nothing else
    pub in_log : (w n : ℕ) (a b : List ℕ) → log_place layout area 0 ≤ w → w + n ≤ log_place layout area (log_length layout) → IsSameBut w n a b
        → IsSameButIn layout area a b
    in_log w n a b from to same = same_but_wider w n (log_place layout area 0) (log_length layout) a b from (omega arith) same

    -- What stands beside the log stays, where only the log's bytes change.
    pub open_but : (end : ℕ) (k m : Content) (a b : List ℕ) → IsOpen layout area end k a → IsSameButIn layout area a b → m.base ≡ k.base
        → AreRecords (log_in layout area b) 0 m.payloads → get_or (log_in layout area b) (end_of m.payloads) 0 ≢ 79
        → IsOpen layout area (end_of m.payloads) m b
    open_but end k m a b is same base records shut =
        let holds = holds_open area end k a is in
        open_holds area (end_of m.payloads) m b refl
        (is.area_is ∙ sym (chosen_same layout.areas a b (λ i selects. same.outside i (selector_out (log_place layout area 0) (log_length layout) placed.laid_out (omega (arith, placed.not_before)) (omega (arith, placed.not_past)) i selects)))) (record {
          long = omega (arith, holds.long, same.size);
          base = run_at-same area (base_length layout) a b (omega (arith, placed.not_past, holds.long)) same.size
              (λ i from to. same.outside i (inl (omega arith))) ∙ holds.base ∙ sym base;
          records = records;
          shut = shut;
        })

    -- the log's bytes before that place stay
    pub log_same : (n : ℕ) (a b : List ℕ) → n ≤ log_length layout → ((i : ℕ) → i < log_place layout area n → get_or b i 0 ≡ get_or a i 0) → (j : ℕ) → j < n
        → get_or (log_in layout area b) j 0 ≡ get_or (log_in layout area a) j 0
    log_same n a b within same j lt = log_byte b j (omega arith) ∙ same (log_place layout area j) (omega arith) ∙ sym (log_byte a j (omega arith))

    pub records_kept : (ps : List (List ℕ)) (a b : List ℕ) → layout_end layout ≤ length a → length b ≡ length a → AreRecords (log_in layout area a) 0 ps
        → ((i : ℕ) → i < log_place layout area (end_of ps) → get_or b i 0 ≡ get_or a i 0) → AreRecords (log_in layout area b) 0 ps
    records_kept ps a b long size are same =
        let long_a = log_long a long in
        let long_b = log_long b (omega (arith, long, size)) in
        let within : end_of ps ≤ log_length layout = omega (arith, records_within 0 ps (log_in layout area a) are, long_a) in
        records_same 0 ps (log_in layout area a) (log_in layout area b) are (long_b ∙ sym long_a) (λ i lt. log_same (end_of ps) a b within same i (omega arith))

    -- bytes from which this base and this log were read
    pub read_open : (end : ℕ) (k : Content) (log bytes : List ℕ) → layout_end layout ≤ length bytes → area ≡ area_of layout bytes
        → k.base ≡ base_in layout area bytes → log ≡ log_in layout area bytes
        → AreRecords log 0 k.payloads → end ≡ end_of k.payloads → get_or log end 0 ≢ 79 → IsOpen layout area end k bytes
    read_open end k log bytes long chosen_is base is records ends shut = open_holds area end k bytes ends chosen_is (record {
      long = long;
      base = sym base;
      records = subst (λ (l : List ℕ). AreRecords l 0 k.payloads) is records;
      shut = λ open_gate. shut (ap (λ (l : List ℕ). get_or l end 0) is ∙ ap (λ n. get_or (log_in layout area bytes) n 0) ends ∙ open_gate);
    })

    damaged_in : (place at : ℕ) (bytes : List ℕ) → layout_end layout ≤ length bytes → area ≡ area_of layout bytes → at ≡ log_place layout area place
        → IsDamagedAt (log_in layout area bytes) place → IsDamaged layout at bytes
    damaged_in place at bytes long chosen_is gate_at damaged = record {
      none = fits_some (layout_end layout) (length bytes) (content_in (area_of layout bytes) bytes) long
          ∙ subst (λ (n : ℕ). content_in n bytes ≡ None) chosen_is
          (ap (option_map (λ (payloads : List (List ℕ)). record { base = base_in layout area bytes; payloads = payloads })) (damaged_none place (log_in layout area bytes) damaged));
      place = place;
      gate_at = gate_at ∙ ap (λ n. log_place layout n place) chosen_is;
      damaged = subst (λ n. IsDamagedAt (log_in layout n bytes) place) chosen_is damaged;
    }

    -- and those whose log was refused
    pub read_refused : (e : GateError) (log bytes : List ℕ) → layout_end layout ≤ length bytes → area ≡ area_of layout bytes → log ≡ log_in layout area bytes
        → IsRefusedLog layout area log e → IsRefused layout bytes e
    read_refused (Damaged at) log bytes long chosen_is is refused =
        damaged_in refused.0 at bytes long chosen_is refused.1 (subst (λ (l : List ℕ). IsDamagedAt l refused.0) is refused.2)
    read_refused Device log bytes long chosen_is is refused = tt
    read_refused NoMemory log bytes long chosen_is is refused = tt
