-- What writes behind a log and on its closed gate leave of an owner's bytes.
use Rattle.std.proofs.Common.{◌≡◌, ◌⊎◌, inl, inr, ◌<◌, ◌≤◌, ℕ, ◌+◌, ◌^◌, true, List, [], ◌∷◌, ◌++◌, length, get_or, Some, refl, sym, ◌∙◌, ap, subst, arith}
use Rattle.std.proofs.lemmas.Bool.{cases_eq}
use Rattle.tq_host.specs.Calls.{HasBytesAt, IsSameBut, IsWritten}
use Rattle.tq_host.proofs.Bytes.{stands_first, stands_second, written_within, same_but_steps}
use Rattle.tq_field.specs.Digits.{number_of, digits}
use Rattle.tq_field.specs.Places.{run_at}
use Rattle.tq_field.proofs.Numbers.{length-digits, number_of-digits}
use Rattle.tq_gate.specs.declared.layout.Layout.{Layout}
use Rattle.tq_gate.specs.Layout.{clusters_of, bytes_in, log_length, log_place, IsPlaced}
use Rattle.tq_gate.specs.Reading.{Content, content, log_in, IsRecord, AreRecords}
use Rattle.tq_field.specs.GatedLog.{end_of}
use Rattle.tq_gate.specs.Frame.{behind_gate}
use Rattle.std.specs.Option.{option_map}
use Rattle.tq_host.specs.View.{Told, View, IsLawful, IsSettled}
use Rattle.tq_host.specs.Within.{Within}
use Rattle.tq_host.proofs.Steps.{IsSteps}
use Rattle.tq_extent.specs.Bytes.{reaches, OnBytes, IsAny, AllReach}
use Rattle.tq_extent.proofs.BytesLemmas.{on_bytes_as}
use Rattle.tq_gate.specs.declared.log.GateLog.{GateLog}
use Rattle.tq_gate.specs.Log.{IsOpen, added, IsSameButIn, IsSameButLog, IsStagedIn, IsLog, HaveLog, IsStaged, AreStagedOver, IsOpening, HasAdded, IsOldOrNew}
use Rattle.tq_gate.proofs.PictureLemmas.{Keeps, keeps_write, decides, both_pieces, reach_after}
use Rattle.tq_gate.proofs.RangeLemmas.{run_at-is}
use Rattle.tq_gate.proofs.FrameLemmas.{length-behind_gate}
use Rattle.tq_gate.proofs.Readings.{end_of-push, records_push}
use Rattle.tq_gate.proofs.Contents.{holds_open, open_but, in_log, log_byte, log_long, log_within, log_same, records_kept}

-- a whole write changes nothing else, where it lies within the bytes
pub same_but_written : (w : ℕ) (bytes a b : List ℕ) → w + length bytes ≤ length a → IsWritten w bytes a b → IsSameBut w (length bytes) a b
same_but_written w bytes a b within written = written_within w (length bytes) w bytes a b (omega arith) (omega arith) within written

module _ (layout : Layout) (area : ℕ) (placed : IsPlaced layout area) where
  -- a write behind the closed gate leaves the content
  pub behind : (end : ℕ) (k : Content) (w n : ℕ) (a b : List ℕ) → log_place layout area (end + 1) ≤ w → w + n ≤ log_place layout area (log_length layout)
      → IsOpen layout area end k a → IsSameBut w n a b
      → IsSameButIn layout area a b × IsOpen layout area end k b
  behind end k w n a b from to is changed =
      let holds = holds_open layout area end k a is in
      let same = in_log layout area placed w n a b (omega arith) to changed in
      let ends = is.end_is in
      let before : (i : ℕ) → i < log_place layout area (end_of k.payloads + 1) → get_or b i 0 ≡ get_or a i 0 = λ i lt. changed.outside i
      (inl (omega arith)) in (
        same,
        subst (λ (n : ℕ). IsOpen layout area n k b) (sym ends) (open_but layout area placed end k k a b is same refl
            (records_kept layout area placed k.payloads a b holds.long same.size holds.records (λ i lt. before i (omega arith)))
            (λ open_gate. holds.shut (sym (log_same layout area placed (end_of k.payloads + 1) a b (omega arith) before (end_of k.payloads) (omega arith)) ∙ open_gate))),
      )

  -- the write of a payload
  pub staged : (end : ℕ) (k : Content) (x bytes a b : List ℕ) (w : ℕ) → end + 6 + length x ≤ log_length layout → bytes ≡ behind_gate x
      → w ≡ log_place layout area (end + 1)
      → IsOpen layout area end k a → IsWritten w bytes a b → IsStagedIn layout area end k x b
  staged end k x bytes a b w room spelt at_w is written =
      let d = digits 4 (length x) in
      let four = length-digits 4 (length x) in
      let size : length bytes ≡ length x + 5 = ap length spelt ∙ length-behind_gate x in
      let within = log_within layout area placed in
      let long = (holds_open layout area end k a is).long in
      let stand : HasBytesAt w (behind_gate x) b = subst (λ (l : List ℕ). HasBytesAt w l b) spelt written.stands in
      let behind_number : HasBytesAt (w + length d) (x ++ 0 ∷ []) b = stands_second w d (x ++ 0 ∷ []) b stand in
      let behind_run : HasBytesAt (w + length d + length x) (0 ∷ []) b = stands_second (w + length d) x (0 ∷ []) b behind_number in
      let at_run : w + length d ≡ log_place layout area (end + 5) = omega (arith, four, at_w) in
      let at_gate : log_place layout area (end + 5 + length x) ≡ w + length d + length x + 0 = omega (arith, four, at_w) in
      record {
        fits = room;
        is = (behind end k w (length bytes) a b (omega arith) (omega (arith, size)) is (same_but_written w bytes a b (omega (arith, size)) written)).1;
        number = subst (λ n. HasBytesAt n d b) at_w (stands_first w d (x ++ 0 ∷ []) b stand);
        run = subst (λ n. HasBytesAt n x b) at_run (stands_first (w + length d) x (0 ∷ []) b behind_number);
        shut = ap (λ n. get_or b n 0) at_gate ∙ behind_run 0 (omega arith);
      }

  -- a payload that is staged, in a log whose gate is open
  record_staged : (end : ℕ) (k : Content) (x c d : List ℕ) (w : ℕ) → w ≡ log_place layout area end → IsStagedIn layout area end k x c → IsSameBut w 1 c d
      → get_or d w 0 ≡ 79 → IsRecord (log_in layout area d) end x
  record_staged end k x c d w at_w is changed gate =
      let within = log_within layout area placed in
      let room = is.fits in
      let holds = holds_open layout area end k c is.is in
      let long = log_long layout area placed d (omega (arith, holds.long, changed.size)) in
      let four = length-digits 4 (length x) in
      let big : 256 ^ 4 ≡ 4294967296 = refl in
      let small : length x < 256 ^ 4 = omega (arith, placed.laid_out.end, placed.laid_out.size) in
      let log = log_in layout area d in
      let byte : (j : ℕ) → j < log_length layout → (w < log_place layout area j) → get_or log j 0 ≡ get_or c
      (log_place layout area j) 0 = λ j lt after. log_byte layout area placed d j lt ∙ changed.outside (log_place layout area j) (inr (omega arith)) in
      let digits_stand : (i : ℕ) → i < length (digits 4 (length x)) → get_or log (end + 1 + i) 0 ≡ get_or (digits 4 (length x)) i 0 = λ i lt.
      let e : log_place layout area (end + 1 + i) ≡ log_place layout area (end + 1) + i = omega arith in
      byte (end + 1 + i) (omega arith) (omega arith) ∙ ap (λ n. get_or c n 0) e ∙ is.number i lt in
      let run_stands : (i : ℕ) → i < length x → get_or log (end + 5 + i) 0 ≡ get_or x i 0 = λ i lt.
      let e : log_place layout area (end + 5 + i) ≡ log_place layout area (end + 5) + i = omega arith in
      byte (end + 5 + i) (omega arith) (omega arith) ∙ ap (λ n. get_or c n 0) e ∙ is.run i lt in
      record {
        gate = log_byte layout area placed d end (omega arith) ∙ ap (λ n. get_or d n 0) (sym at_w) ∙ gate;
        number = ap number_of (ap (λ n. run_at (end + 1) n log) (sym four) ∙ run_at-is (end + 1) (digits 4 (length x)) log (omega arith) digits_stand)
            ∙ number_of-digits 4 (length x) small;
        run = run_at-is (end + 5) x log (omega arith) run_stands;
        fits = omega arith;
      }

  -- the gate lies in the log
  gate_in_log : (end : ℕ) (k : Content) (x c d : List ℕ) (w : ℕ) → w ≡ log_place layout area end → IsStagedIn layout area end k x c → IsSameBut w 1 c d
      → IsSameButIn layout area c d
  gate_in_log end k x c d w at_w is changed = let room = is.fits in in_log layout area placed w 1 c d (omega arith) (omega arith) changed

  -- the records before the gate stay
  records_before : (end : ℕ) (k : Content) (x c d : List ℕ) (w : ℕ) → w ≡ log_place layout area end → IsStagedIn layout area end k x c → IsSameBut w 1 c d
      → AreRecords (log_in layout area d) 0 k.payloads
  records_before end k x c d w at_w is changed =
      let ends = is.is.end_is in
      let holds = holds_open layout area end k c is.is in
      records_kept layout area placed k.payloads c d holds.long changed.size holds.records (λ i lt. changed.outside i (inl (omega arith)))

  -- with its gate open the payload counts
  pub opened : (end : ℕ) (k : Content) (x c d : List ℕ) (w : ℕ) → w ≡ log_place layout area end → IsStagedIn layout area end k x c → IsSameBut w 1 c d
      → get_or d w 0 ≡ 79 → IsOpen layout area (end + (5 + length x)) (added k x) d
  opened end k x c d w at_w is changed gate =
      let room = is.fits in
      let ends = is.is.end_is in
      let log = log_in layout area d in
      let here : end ≡ 0 + end_of k.payloads = omega arith in
      let last = subst (λ n. IsRecord log n x) here (record_staged end k x c d w at_w is changed gate) in
      let more : end_of (k.payloads ++ x ∷ []) ≡ end + (5 + length x) = omega (arith, end_of-push k.payloads x) in
      let place : log_place layout area (end + (5 + length x)) ≡ log_place layout area (end + 5 + length x) = omega arith in
      let zero : get_or log (end + (5 + length x)) 0 ≡ 0 = log_byte layout area placed d (end + (5 + length x)) (omega arith)
      ∙ changed.outside (log_place layout area (end + (5 + length x))) (inr (omega arith)) ∙ ap (λ n. get_or c n 0) place ∙ is.shut in
      subst (λ (n : ℕ). IsOpen layout area n (added k x) d) more
      (open_but layout area placed end k (added k x) c d is.is (gate_in_log end k x c d w at_w is changed) refl
      (records_push 0 k.payloads x log (records_before end k x c d w at_w is changed) last)
      (λ open_gate. let no : 0 ≡ 79 = sym zero ∙ sym (ap (λ n. get_or log n 0) more) ∙ open_gate in cc))

  -- a write on the gate leaves the old content or the new one
  pub gate_torn : (end : ℕ) (k : Content) (x c d : List ℕ) (w : ℕ) → w ≡ log_place layout area end → IsStagedIn layout area end k x c → IsSameBut w 1 c d
      → IsSameButIn layout area c d × ((content layout d ≡ Some k) ⊎ (content layout d ≡ Some (added k x)))
  gate_torn end k x c d w at_w is changed =
      let room = is.fits in
      let ends = is.is.end_is in
      let same = gate_in_log end k x c d w at_w is changed in
      let place : w ≡ log_place layout area (end_of k.payloads) = omega arith in (
        same,
        elim (cases_eq (get_or d w 0) 79) [
          | inl gate ↦ inr (opened end k x c d w at_w is changed gate).reads
          | inr shut ↦ inl (open_but layout area placed end k k c d is.is same refl (records_before end k x c d w at_w is changed)
              (λ open_gate. shut (ap (λ n. get_or d n 0) place ∙ sym (log_byte layout area placed d (end_of k.payloads) (omega arith)) ∙ open_gate))).reads
        ],
      )

-- In images of a device
module _ (log : GateLog) where
  pub log_steps : IsSteps (IsSameButIn log.layout log.area)
  log_steps = same_but_steps (log_place log.layout log.area 0) (log_length log.layout)

  -- a write within the log
  pub write_in_log : (w n : ℕ) (b c : List ℕ) → log_place log.layout log.area 0 ≤ w → w + n ≤ log_place log.layout log.area (log_length log.layout)
      → OnBytes (clusters_of log.layout) (IsSameBut w n) b c → IsSameButLog log b c
  write_in_log w n b c from to step =
      on_bytes_as (clusters_of log.layout) (IsSameBut w n) (IsSameButIn log.layout log.area) b c
      (in_log log.layout log.area log.placed w n (bytes_in log.layout b) (bytes_in log.layout c) from to) step

  -- a write behind the closed gate, in each picture
  pub keeps_behind : (old mid new : View) (w n : ℕ) → log_place log.layout log.area (log.end + 1) ≤ w
      → w + n ≤ log_place log.layout log.area (log_length log.layout)
      → Keeps log (IsSameButIn log.layout log.area) log_steps old mid
      → (AllReach log.layout.dev (clusters_of log.layout) mid → Within log.layout.dev (OnBytes (clusters_of log.layout) (IsSameBut w n)) IsAny mid new)
      → Keeps log (IsSameButIn log.layout log.area) log_steps old new
  keeps_behind old mid new w n from to so_far write =
      keeps_write log (IsSameButIn log.layout log.area) log_steps old (IsSameBut w n) mid new
      (λ k a b is changed. behind log.layout log.area log.placed log.end k w n a b from to is changed) so_far write

  -- the write of the gate, in each picture
  pub opens : (k : Content) (x read : List ℕ) (old new : View) (w : ℕ) → AreStagedOver log k x read old → w ≡ log_place log.layout log.area log.end
      → (AllReach log.layout.dev (clusters_of log.layout) old → Within log.layout.dev (OnBytes (clusters_of log.layout) (IsSameBut w 1)) IsAny old new)
      → Within log.layout.dev (IsSameButLog log) (IsOpening log k x read) old new
  opens k x read old new w has at_w write =
      decides log (IsSameButIn log.layout log.area) log_steps (IsStaged log k x)
      (λ bytes. (content log.layout bytes ≡ Some k) ⊎ (content log.layout bytes ≡ Some (added k x))) (IsSameBut w 1) read old new
      (λ c is. is.reach) (λ b c is changed. gate_torn log.layout log.area log.placed log.end k x (bytes_in log.layout b) (bytes_in log.layout c) w at_w is.is changed) (λ c is. inl is.is.is.reads) has write

  -- both pieces, in each picture
  pub appends : (x : List ℕ) (old mid new : View) {tells : Told} → IsLawful tells old → IsLawful tells mid → HaveLog log old
      → Keeps log (IsSameButIn log.layout log.area) log_steps old mid
      → (tells.reads → (k : Content) → IsLog log k (old.reads log.layout.dev) → IsStaged log k x (mid.reads log.layout.dev))
      → (tells.reads → IsSameButLog log (old.reads log.layout.dev) (mid.reads log.layout.dev)) → IsSettled log.layout.dev mid
      → ((k : Content) (y read : List ℕ) → AreStagedOver log k y read mid → Within log.layout.dev (IsSameButLog log) (IsOpening log k y read) mid new)
      → Within log.layout.dev (IsSameButLog log) (IsOldOrNew log old x) old new
  appends x old mid new lawful_old lawful_mid has first made same settled second =
      both_pieces log (IsSameButIn log.layout log.area) log_steps old (λ k. added k x) (λ k. IsStaged log k x)
      (HasAdded log x (old.reads log.layout.dev)) mid new lawful_old lawful_mid has first made same settled
      (λ k over. second k x (old.reads log.layout.dev) over)
      (λ k c reads outside more. record { outside = outside; reads = more ∙ sym (ap (option_map (λ m. added m x)) reads) })

  -- what is read after both
  pub appended : (k : Content) (x : List ℕ) (n : ℕ) (old mid new : List ℕ) → 5 + length x ≡ n → IsSameButLog log old mid → IsSameButLog log mid new
      → IsLog log k old → (IsLog log k old → IsStaged log k x mid)
      → (IsStaged log k x mid → IsOpen log.layout log.area (log.end + (5 + length x)) (added k x) (bytes_in log.layout new))
      → (reaches (clusters_of log.layout) new ≡ true) × IsOpen log.layout log.area (log.end + n) (added k x) (bytes_in log.layout new)
  appended k x n old mid new size first second is stage open_gate = (
    reach_after log (IsSameButIn log.layout log.area) (IsSameButIn log.layout log.area) old mid new first second is.reach,
    subst (λ (m : ℕ). IsOpen log.layout log.area (log.end + m) (added k x) (bytes_in log.layout new)) size (open_gate (stage is)),
  )
