-- What writes to the area that is not chosen, and to the selector, leave of an owner's bytes.
use Rattle.std.proofs.Common.{◌≡◌, ◌⊎◌, inl, inr, ⊎_elim, ◌≤◌, ℕ, ◌+◌, ◌*◌, true, List, [], ◌∷◌, length, take, get_or, Some, refl, sym, ◌∙◌, ap, subst, arith}
use Rattle.std.specs.Prelude.{◌%◌, ◌==◌, if◌then◌else◌, min}
use Rattle.std.proofs.lemmas.List.{length-take-le}
use Rattle.std.proofs.lemmas.Bool.Decides.{nat_tests}
use mir.Val.{bool_byte}
use Rattle.tq_host.specs.Calls.{HasBytesAt, IsSameBut, IsWritten}
use Rattle.tq_host.proofs.Bytes.{before_or_after}
use Rattle.tq_field.specs.Places.{run_at}
use Rattle.tq_gate.specs.declared.layout.Layout.{Layout}
use Rattle.tq_gate.specs.declared.layout.Areas.{Areas}
use Rattle.tq_gate.specs.declared.layout.Areas.TheVariants.{One, Two}
use Rattle.tq_gate.specs.Layout.{clusters_of, bytes_in, first_area, total_length, base_length, area_length, layout_end, selector_end, area_by, other_area, has_two_areas, IsSelector, IsPlaced}
use Rattle.tq_gate.specs.Reading.{Content, content, chosen, base_in, log_in}
use Rattle.tq_host.specs.View.{Told, View, IsLawful, IsSettled}
use Rattle.tq_host.specs.Within.{Within}
use Rattle.tq_host.proofs.Steps.{IsSteps}
use Rattle.tq_extent.specs.Bytes.{reaches, OnBytes, IsAny, AllReach}
use Rattle.tq_extent.proofs.BytesLemmas.{on_bytes_as, on_bytes_steps}
use Rattle.tq_gate.specs.declared.log.GateLog.{GateLog}
use Rattle.tq_gate.specs.Log.{IsOpen, IsFilledIn, IsFilled, AreFilledOver, IsSameBeside, IsSameButAreas, IsChoosing, IsLog, HaveLog, HasReplaced, IsOldOrReplaced, replaced}
use Rattle.tq_gate.proofs.PictureLemmas.{Keeps, keeps_start, keeps_write, decides, both_pieces, reach_after}
use Rattle.tq_gate.proofs.RangeLemmas.{run_at-same, run_at-is}
use Rattle.tq_gate.proofs.Contents.{Holds, of_holds, holds_open, open_holds, holds_kept, chosen_same, selector_out, log_byte}
use Rattle.tq_gate.proofs.StageLemmas.{same_but_written}

-- two areas from one byte on, each of that length
other_bounds : (first n area : ℕ)
    → (first ≤ (if area == first then first + n else first)) × ((if area == first then first + n else first) + n ≤ first + (n + n))
other_bounds first n area = grind (arith, nat_tests)

two_apart : (first n selector area : ℕ) → area ≡ (if selector % 2 == 0 then first else first + n)
    → ((if area == first then first + n else first) + n ≤ area) ⊎ (area + n ≤ (if area == first then first + n else first))
two_apart first n selector area is = grind (arith, nat_tests)

two_choices : (first n selector area byte : ℕ) → area ≡ (if selector % 2 == 0 then first else first + n)
    → (area ≡ (if byte % 2 == 0 then first else first + n)) ⊎ ((if area == first then first + n else first) ≡ (if byte % 2 == 0 then first else first + n))
two_choices first n selector area byte is = grind (arith, nat_tests)

-- the byte that chooses the other one
pub chooses_other : (layout : Layout) (area byte : ℕ) → byte ≡ bool_byte (area == first_area layout) → other_area layout area ≡ area_by layout byte
chooses_other layout area byte is = grind (arith, nat_tests)

module _ (layout : Layout) (area : ℕ) (placed : IsPlaced layout area) where
  other_within : (areas : Areas) → has_two_areas areas ≡ true
      → (first_area layout ≤ other_area layout area) × (other_area layout area + area_length layout ≤ first_area layout + total_length areas (area_length layout))
  other_within One two = absurd (cc)
  other_within (Two selector) two = other_bounds (first_area layout) (area_length layout) area

  pub other_placed : has_two_areas layout.areas ≡ true → IsPlaced layout (other_area layout area)
  other_placed two = let within = other_within layout.areas two in record { laid_out = placed.laid_out; not_before = within.0; not_past = within.1 }

  areas_apart : (areas : Areas) (bytes : List ℕ) → has_two_areas areas ≡ true → area ≡ chosen layout areas bytes
      → (other_area layout area + area_length layout ≤ area) ⊎ (area + area_length layout ≤ other_area layout area)
  areas_apart One bytes two is = absurd (cc)
  areas_apart (Two selector) bytes two is = two_apart (first_area layout) (area_length layout) (get_or bytes selector 0) area is

  -- the area that another byte chooses
  choice : (areas : Areas) (a b : List ℕ) → has_two_areas areas ≡ true → area ≡ chosen layout areas a
      → (area ≡ chosen layout areas b) ⊎ (other_area layout area ≡ chosen layout areas b)
  choice One a b two is = absurd (cc)
  choice (Two selector) a b two is = two_choices (first_area layout) (area_length layout) (get_or a selector 0) area (get_or b selector 0) is

  module _ (two : has_two_areas layout.areas ≡ true) where
    -- a write to the other area leaves what lies beside the areas
    pub only_other : (w n : ℕ) (a b : List ℕ) → other_area layout area ≤ w → w + n ≤ other_area layout area + area_length layout → IsSameBut w n a b
        → IsSameBeside layout a b
    only_other w n a b from to changed =
        let within = other_within layout.areas two in
        record { outside = λ i out unselected. changed.outside i (⊎_elim (λ before. inl (omega arith)) (λ behind. inr (omega arith)) out); size = changed.size }

    -- and the content
    pub beside : (end : ℕ) (k : Content) (w n : ℕ) (a b : List ℕ) → other_area layout area ≤ w → w + n ≤ other_area layout area + area_length layout
        → IsOpen layout area end k a → IsSameBut w n a b
        → IsSameBeside layout a b × IsOpen layout area end k b
    beside end k w n a b from to is changed =
        let within = other_within layout.areas two in
        let apart = areas_apart layout.areas a two is.area_is in
        let selector = selector_out layout w n placed.laid_out (omega arith) (omega arith) in (
          only_other w n a b from to changed,
          open_holds layout area end k b is.end_is
              (is.area_is ∙ sym (chosen_same layout layout.areas a b (λ i selects. changed.outside i (selector i selects))))
              (holds_kept layout area placed k a b (holds_open layout area end k a is) changed.size (λ i above below. changed.outside i (⊎_elim (λ before. inr (omega arith)) (λ behind. inl (omega arith)) apart))),
        )

    -- the base is written
    pub base_written : (base a b : List ℕ) → length base ≡ base_length layout → layout_end layout ≤ length a → IsWritten (other_area layout area) base a b
        → base_in layout (other_area layout area) b ≡ base
    base_written base a b size long written =
        let within = other_within layout.areas two in
        ap (λ (n : ℕ). run_at (other_area layout area) n b) (sym size) ∙ run_at-is (other_area layout area) base b (omega (arith, written.size)) written.stands

    -- the closed gate stands behind it, where there is a log
    other_shut : (n : ℕ) (b c : List ℕ) → n ≡ min layout.log_pages 1 → IsWritten (other_area layout area + base_length layout) (take n (0 ∷ [])) b c
        → get_or (log_in layout (other_area layout area) c) 0 0 ≡ 0
    other_shut n b c gates written =
        let place = other_area layout area + base_length layout in
        elim (before_or_after 0 layout.log_pages) [
          | inl some ↦
              let one : n ≡ 1 = omega arith in
              let stands : HasBytesAt place (0 ∷ []) c = subst (λ (m : ℕ). HasBytesAt place (take m (0 ∷ [])) c) one written.stands in
              log_byte layout (other_area layout area) (other_placed two) c 0 (omega arith) ∙ stands 0 (omega arith)
          | inr none ↦
              let pages : layout.log_pages ≡ 0 = omega arith in
              ap (λ (m : ℕ). get_or (run_at place (1024 * m) c) 0 0) pages
        ]

    pub filled : (end n : ℕ) (k : Content) (base b c : List ℕ) → n ≡ min layout.log_pages 1 → IsOpen layout area end k b
        → base_in layout (other_area layout area) b ≡ base
        → IsWritten (other_area layout area + base_length layout) (take n (0 ∷ [])) b c → IsFilledIn layout area end k base c
    filled end n k base b c gates is base_is written =
        let place = other_area layout area + base_length layout in
        let gate : List ℕ = take n (0 ∷ []) in
        let within = other_within layout.areas two in
        let long = (holds_open layout area end k b is).long in
        let size : length gate ≡ n = length-take-le n (0 ∷ []) (omega arith) in
        let end_of_gate : place + length gate ≤ other_area layout area + area_length layout = omega (arith, size) in
        let changed = same_but_written place gate b c (omega (arith, placed.not_past)) written in
        let shut = other_shut n b c gates written in
        record {
          is = (beside end k place (length gate) b c (omega arith) end_of_gate is changed).1;
          base_is = run_at-same (other_area layout area) (base_length layout) b c (omega arith) changed.size
              (λ i from to. changed.outside i (inl (omega arith))) ∙ base_is;
          shut = λ open_gate. let no : 0 ≡ 79 = sym shut ∙ open_gate in cc;
        }

    -- the gate lies in the other area
    pub gate_within : (n : ℕ) → n ≡ min layout.log_pages 1
        → other_area layout area + base_length layout + length {A = ℕ} (take n (0 ∷ [])) ≤ other_area layout area + area_length layout
    gate_within n gates = let size : length {A = ℕ} (take n (0 ∷ [])) ≡ n = length-take-le n (0 ∷ []) (omega arith) in omega (arith, size)

    -- what stands in the other area, once that is chosen
    filled_holds : (end : ℕ) (k : Content) (base a : List ℕ) → IsFilledIn layout area end k base a → Holds layout (other_area layout area) (replaced base) a
    filled_holds end k base a is = record { long = (holds_open layout area end k a is.is).long; base = is.base_is; records = tt; shut = is.shut }

    -- a write on the selector
    module _ (selector : ℕ) (at : layout.areas ≡ Two selector) where
      pub selector_within : selector + 1 ≤ layout_end layout
      selector_within = let ends = ap selector_end at in omega arith

      pub only_selector : (a b : List ℕ) → IsSameBut selector 1 a b → IsSameBeside layout a b
      only_selector a b changed = record {
        outside = λ i out unselected. changed.outside i (elim (before_or_after i selector) [
          | inl before ↦ inl before
          | inr from ↦ elim (before_or_after selector i) [
            | inl above ↦ inr (omega arith)
            | inr to ↦ absurd (unselected (let same : selector ≡ i = omega arith in subst (λ (areas : Areas). IsSelector areas i) (sym at) same))
          ]
        ]);
        size = changed.size;
      }

      -- it leaves what stands in both areas
      area_kept : (place : ℕ) (k : Content) (a b : List ℕ) → IsPlaced layout place → Holds layout place k a → IsSameBut selector 1 a b → Holds layout place k b
      area_kept place k a b here holds changed =
          let out = selector_out layout place (area_length layout) here.laid_out here.not_before here.not_past selector
          (subst (λ (areas : Areas). IsSelector areas selector) (sym at) refl) in
          holds_kept layout place here k a b holds changed.size
          (λ i from to. changed.outside i (⊎_elim (λ before. inr (omega arith)) (λ behind. inl (omega arith)) out))

      -- and so the old content or the new one
      pub selector_torn : (end : ℕ) (k : Content) (base a b : List ℕ) → IsFilledIn layout area end k base a → IsSameBut selector 1 a b
          → IsSameBeside layout a b × ((content layout b ≡ Some k) ⊎ (content layout b ≡ Some (replaced base)))
      selector_torn end k base a b is changed = (
        only_selector a b changed,
        ⊎_elim
            (λ stays. inl (of_holds layout area k b stays (area_kept area k a b placed (holds_open layout area end k a is.is) changed)))
            (λ goes. inr (of_holds layout (other_area layout area) (replaced base) b goes (area_kept (other_area layout area) (replaced base) a b (other_placed two) (filled_holds end k base a is) changed)))
            (choice layout.areas a b two is.is.area_is),
      )

      -- with the byte that chooses it the other area is the content
      pub selected : (end : ℕ) (k : Content) (base a b : List ℕ) (byte : ℕ) → other_area layout area ≡ area_by layout byte → selector + 1 ≤ length a
          → IsFilledIn layout area end k base a → IsWritten selector (byte ∷ []) a b
          → IsOpen layout (other_area layout area) 0 (replaced base) b
      selected end k base a b byte chooses within is written =
          let changed = same_but_written selector (byte ∷ []) a b within written in
          let zero : selector + 0 ≡ selector = omega arith in
          let stands : get_or b selector 0 ≡ byte = sym (ap (λ n. get_or b n 0) zero) ∙ written.stands 0 (omega arith) in
          open_holds layout (other_area layout area) 0 (replaced base) b refl
          (chooses ∙ sym (ap (λ (areas : Areas). chosen layout areas b) at ∙ ap (area_by layout) stands))
          (area_kept (other_area layout area) (replaced base) a b (other_placed two) (filled_holds end k base a is) changed)

-- In images of a device
module _ (log : GateLog) where
  pub beside_steps : IsSteps (IsSameBeside log.layout)
  beside_steps = record {
    none = λ c. record { outside = λ i out unselected. refl; size = refl };
    both = λ a b c first second. record { outside = λ i out unselected. second.outside i out unselected ∙ first.outside i out unselected; size = second.size ∙ first.size };
  }

  -- the write of the selector
  pub selector_beside : (two : has_two_areas log.layout.areas ≡ true) (selector : ℕ) → log.layout.areas ≡ Two selector → (b c : List ℕ)
      → OnBytes (clusters_of log.layout) (IsSameBut selector 1) b c → IsSameButAreas log b c
  selector_beside two selector at b c step =
      on_bytes_as (clusters_of log.layout) (IsSameBut selector 1) (IsSameBeside log.layout) b c
      (only_selector log.layout log.area log.placed two selector at (bytes_in log.layout b) (bytes_in log.layout c)) step

  module _ (two : has_two_areas log.layout.areas ≡ true) where
    -- a write to the other area
    other_beside : (w n : ℕ) (b c : List ℕ) → other_area log.layout log.area ≤ w → w + n ≤ other_area log.layout log.area + area_length log.layout
        → OnBytes (clusters_of log.layout) (IsSameBut w n) b c → IsSameButAreas log b c
    other_beside w n b c from to step =
        on_bytes_as (clusters_of log.layout) (IsSameBut w n) (IsSameBeside log.layout) b c
        (only_other log.layout log.area log.placed two w n (bytes_in log.layout b) (bytes_in log.layout c) from to) step

    -- that of a base
    pub base_beside : (base : List ℕ) (area : ℕ) (b c : List ℕ) → length base ≡ base_length log.layout → area ≡ other_area log.layout log.area
        → OnBytes (clusters_of log.layout) (IsSameBut area (length base)) b c → IsSameButAreas log b c
    base_beside base area b c size place step = other_beside area (length base) b c (omega arith) (omega arith) step

    -- and of the gate behind it
    pub gate_beside : (base : List ℕ) (area width n : ℕ) (b c d : List ℕ) → length base ≡ base_length log.layout → area ≡ other_area log.layout log.area
        → width ≡ base_length log.layout → n ≡ min log.layout.log_pages 1 → OnBytes (clusters_of log.layout) (IsSameBut area (length base)) b c
        → OnBytes (clusters_of log.layout) (IsSameBut (area + width) (length {A = ℕ} (take n (0 ∷ [])))) c d → IsSameButAreas log b d
    gate_beside base area width n b c d size place wide gates first second =
        let within = gate_within log.layout log.area log.placed two n gates in
        (on_bytes_steps (clusters_of log.layout) (IsSameBeside log.layout) beside_steps).both b c d (base_beside base area b c size place first)
        (other_beside (area + width) (length {A = ℕ} (take n (0 ∷ []))) c d (omega arith) (omega (arith, within)) second)

    -- a write to the other area, in each picture
    pub keeps_beside : (old mid new : View) (w n : ℕ) → other_area log.layout log.area ≤ w → w + n ≤ other_area log.layout log.area + area_length log.layout
        → Keeps log (IsSameBeside log.layout) beside_steps old mid
        → (AllReach log.layout.dev (clusters_of log.layout) mid → Within log.layout.dev (OnBytes (clusters_of log.layout) (IsSameBut w n)) IsAny mid new)
        → Keeps log (IsSameBeside log.layout) beside_steps old new
    keeps_beside old mid new w n from to so_far write =
        keeps_write log (IsSameBeside log.layout) beside_steps old (IsSameBut w n) mid new
        (λ k a b is changed. beside log.layout log.area log.placed two log.end k w n a b from to is changed) so_far write

    -- the write of a base, in each picture
    pub fills_base : (base : List ℕ) (area : ℕ) (old mid : View) → length base ≡ base_length log.layout → area ≡ other_area log.layout log.area → HaveLog log old
        → (AllReach log.layout.dev (clusters_of log.layout) old → Within log.layout.dev (OnBytes (clusters_of log.layout) (IsSameBut area (length base))) IsAny old mid)
        → Keeps log (IsSameBeside log.layout) beside_steps old mid
    fills_base base area old mid size place has write =
        keeps_beside old old mid area (length base) (omega arith) (omega arith) (keeps_start log (IsSameBeside log.layout) beside_steps old has) write

    -- and of the gate behind it
    pub fills : (base : List ℕ) (area width n : ℕ) (old mid new : View) → length base ≡ base_length log.layout → area ≡ other_area log.layout log.area
        → width ≡ base_length log.layout → n ≡ min log.layout.log_pages 1 → HaveLog log old
        → (AllReach log.layout.dev (clusters_of log.layout) old → Within log.layout.dev (OnBytes (clusters_of log.layout) (IsSameBut area (length base))) IsAny old mid)
        → (AllReach log.layout.dev (clusters_of log.layout) mid
        → Within log.layout.dev (OnBytes (clusters_of log.layout) (IsSameBut (area + width) (length {A = ℕ} (take n (0 ∷ []))))) IsAny mid new)
        → Keeps log (IsSameBeside log.layout) beside_steps old new
    fills base area width n old mid new size place wide gates has first second =
        let within = gate_within log.layout log.area log.placed two n gates in
        keeps_beside old mid new (area + width) (length {A = ℕ} (take n (0 ∷ []))) (omega arith) (omega (arith, within)) (fills_base base area old mid size place has first) second

    -- the write of the selector, in each picture
    pub chooses : (selector : ℕ) → log.layout.areas ≡ Two selector → (k : Content) (base read : List ℕ) (old new : View) → AreFilledOver log k base read old
        → (AllReach log.layout.dev (clusters_of log.layout) old → Within log.layout.dev (OnBytes (clusters_of log.layout) (IsSameBut selector 1)) IsAny old new)
        → Within log.layout.dev (IsSameButAreas log) (IsChoosing log k base read) old new
    chooses selector at k base read old new has write =
        decides log (IsSameBeside log.layout) beside_steps (IsFilled log k base)
        (λ bytes. (content log.layout bytes ≡ Some k) ⊎ (content log.layout bytes ≡ Some (replaced base))) (IsSameBut selector 1) read old new
        (λ c is. is.reach) (λ b c is changed. selector_torn log.layout log.area log.placed two selector at log.end k base (bytes_in log.layout b) (bytes_in log.layout c) is.is changed) (λ c is. inl is.is.is.reads) has write

  -- both pieces, in each picture
  pub replaces : (base : List ℕ) (old mid new : View) {tells : Told} → IsLawful tells old → IsLawful tells mid → HaveLog log old
      → Keeps log (IsSameBeside log.layout) beside_steps old mid
      → (tells.reads → (k : Content) → IsLog log k (old.reads log.layout.dev) → IsFilled log k base (mid.reads log.layout.dev))
      → (tells.reads → IsSameButAreas log (old.reads log.layout.dev) (mid.reads log.layout.dev)) → IsSettled log.layout.dev mid
      → ((k : Content) (xs read : List ℕ) → AreFilledOver log k xs read mid → Within log.layout.dev (IsSameButAreas log) (IsChoosing log k xs read) mid new)
      → Within log.layout.dev (IsSameButAreas log) (IsOldOrReplaced log old base) old new
  replaces base old mid new lawful_old lawful_mid has first made same settled second =
      both_pieces log (IsSameBeside log.layout) beside_steps old (λ k. replaced base) (λ k. IsFilled log k base)
      (HasReplaced log base (old.reads log.layout.dev)) mid new lawful_old lawful_mid has first made same settled
      (λ k over. second k base (old.reads log.layout.dev) over)
      (λ k c reads outside more. record { outside = outside; reads = more })

  -- what is read after both
  pub replaced_read : (k : Content) (base : List ℕ) (area : ℕ) (old mid new : List ℕ) → area ≡ other_area log.layout log.area → IsSameButAreas log old mid
      → IsSameButAreas log mid new → IsLog log k old → (IsLog log k old → IsFilled log k base mid)
      → (IsFilled log k base mid → IsOpen log.layout (other_area log.layout log.area) 0 (replaced base) (bytes_in log.layout new))
      → (reaches (clusters_of log.layout) new ≡ true) × IsOpen log.layout area 0 (replaced base) (bytes_in log.layout new)
  replaced_read k base area old mid new place first second is fill choose = (
    reach_after log (IsSameBeside log.layout) (IsSameBeside log.layout) old mid new first second is.reach,
    subst (λ (n : ℕ). IsOpen log.layout n 0 (replaced base) (bytes_in log.layout new)) (sym place) (choose (fill is)),
  )
