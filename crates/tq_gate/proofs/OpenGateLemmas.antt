-- What was read of a log is its content.
use Rattle.std.proofs.Common.{◌≡◌, ◌≢◌, ◌≤◌, ℕ, ◌+◌, true, List, length, get_or, map, Result, Ok, Err, sym, ap, subst, ◌∙◌, arith}
use Rattle.std.specs.Prelude.{IfOk, IfErr, IsErrOf}
use Rattle.tq_field.specs.Places.{run_at}
use Rattle.tq_extent.specs.Bytes.{reaches}
use Rattle.tq_extent.proofs.BytesLemmas.{length-owned}
use Rattle.tq_gate.specs.declared.layout.Layout.{Layout}
use Rattle.tq_gate.specs.declared.fault.GateError.{GateError}
use Rattle.tq_gate.specs.declared.fault.GateError.TheVariants.{Damaged, Device, NoMemory}
use Rattle.tq_gate.specs.declared.loading.Loaded.{Loaded}
use Rattle.tq_gate.specs.Layout.{clusters_of, bytes_in, base_length, log_length, layout_end, IsPlaced}
use Rattle.tq_gate.specs.Reading.{area_of, base_in, log_in, AreRecords}
use Rattle.tq_field.specs.GatedLog.{end_of}
use Rattle.tq_gate.specs.Log.{IsOpen, IsLog}
use Rattle.tq_gate.specs.Loading.{IsRefused, IsRefusedLog}
use Rattle.tq_gate.specs.Loaded.{content_of}
use Rattle.tq_gate.proofs.Contents.{read_open, read_refused}

-- what was read of an image before its log was opened
pub record IsRead (layout : Layout) (area : ℕ) (base log image : List ℕ) : Type 0 where
  pub reach : reaches (clusters_of layout) image ≡ true
  pub area_is : area ≡ area_of layout (bytes_in layout image)
  pub base_is : base ≡ base_in layout area (bytes_in layout image)
  pub log_is : log ≡ log_in layout area (bytes_in layout image)

-- the two reads of an image that stays
pub is_read : (layout : Layout) (area n m : ℕ) (base log image first second : List ℕ) → reaches (clusters_of layout) image ≡ true
    → area ≡ area_of layout (bytes_in layout image) → n ≡ base_length layout → m ≡ log_length layout → first ≡ image → second ≡ image
    → base ≡ run_at area n (bytes_in layout first) → log ≡ run_at (area + n) m (bytes_in layout second) → IsRead layout area base log image
is_read layout area n m base log image first second reach chosen_is at_n at_m same_first same_second base_is log_is =
    let bytes = bytes_in layout image in
    record {
      reach = reach;
      area_is = chosen_is;
      base_is = base_is ∙ ap (λ (c : List ℕ). run_at area n (bytes_in layout c)) same_first ∙ ap (λ k. run_at area k bytes) at_n;
      log_is = log_is ∙ ap (λ (c : List ℕ). run_at (area + n) m (bytes_in layout c)) same_second ∙ ap (λ k. run_at (area + k) m bytes) at_n
          ∙ ap (λ k. run_at (area + base_length layout) k bytes) at_m;
    }

module _ (layout : Layout) (area : ℕ) (placed : IsPlaced layout area) (base log image : List ℕ) (told : Type 0) (is : told → IsRead layout area base log image) where
  read_long : told → layout_end layout ≤ length (bytes_in layout image)
  read_long t = omega (arith, placed.laid_out.end, length-owned (clusters_of layout) image (is t).reach)

  pub opened_is : (r : Result Loaded GateError) → IfOk r (λ l. l.log.layout ≡ layout) → IfOk r (λ l. l.log.area ≡ area) → IfOk r (λ l. l.base.items ≡ base)
      → IfOk r (λ l. AreRecords log 0 (map (λ v. v.items) l.payloads.items)) → IfOk r (λ l. l.log.end ≡ end_of (map (λ v. v.items) l.payloads.items))
      → IfOk r (λ l. get_or log l.log.end 0 ≢ 79)
      → IfOk r (λ l. told → IsLog l.log (content_of l) image)
  opened_is (Ok l) layout_is area_is base_is records ends shut = λ t.
      let read = is t in
      let open_here = read_open layout area placed l.log.end (content_of l) log (bytes_in layout image) (read_long t) read.area_is
      (base_is ∙ read.base_is) read.log_is records ends shut in
      record {
        reach = ap (λ (place : Layout). reaches (clusters_of place) image) layout_is ∙ read.reach;
        is = subst (λ (n : ℕ). IsOpen l.log.layout n l.log.end (content_of l) (bytes_in l.log.layout image)) (sym area_is)
            (subst (λ (place : Layout). IsOpen place area l.log.end (content_of l) (bytes_in place image)) (sym layout_is) open_here);
      }
  opened_is (Err e) layout_is area_is base_is records ends shut = tt

  pub refused_is : (r : Result Loaded GateError) → IfErr r (IsRefusedLog layout area log) → IfErr r (λ e. told → IsRefused layout (bytes_in layout image) e)
  refused_is (Ok l) refused = tt
  refused_is (Err e) refused = λ t.
      let read = is t in read_refused layout area placed e log (bytes_in layout image) (read_long t) read.area_is read.log_is refused

-- a log is refused by what was read of it, and not for a device that fails
pub device_not_refused : (layout : Layout) (area : ℕ) (log : List ℕ) (r : Result Loaded GateError) → IfErr r (IsRefusedLog layout area log) → IsErrOf r Device
    → ⊥
device_not_refused layout area log (Ok l) refused failed = cc
device_not_refused layout area log (Err (Damaged at)) refused failed = cc
device_not_refused layout area log (Err Device) refused failed = refused
device_not_refused layout area log (Err NoMemory) refused failed = cc
