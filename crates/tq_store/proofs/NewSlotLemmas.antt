-- The bytes of a new space read as slots that are all empty.
use Rattle.std.proofs.Common.{◌≡◌, inl, inr, ◌<◌, ◌≤◌, ℕ, zero, suc, ◌+◌, ◌*◌, List, [], ◌∷◌, length, get_or, replicate, Option, Some, None, refl, sym, ap, ◌∙◌, zero-add, arith}
use Rattle.std.specs.Prelude.{codes, if◌then◌else◌}
use Rattle.std.specs.Option.{option_and_then}
use Rattle.std.specs.Str.{bytes_eq}
use Rattle.std.proofs.Math.Nat.{mul-suc}
use Rattle.std.proofs.lemmas.List.{get_or_past, length-replicate, get_or-replicate}
use Rattle.tq_field.specs.Digits.{number_of}
use Rattle.tq_field.specs.Places.{run_at}
use Rattle.tq_field.specs.GatedLog.{log_reading}
use Rattle.tq_field.proofs.Runs.{length-run_at, get_or-run_at}
use Rattle.tq_host.specs.Calls.{HasBytesAt}
use Rattle.tq_host.proofs.Bytes.{before_or_after, same_bytes}
use Rattle.tq_gate.proofs.RangeLemmas.{run_at-is}
use Rattle.tq_gate.proofs.Readings.{reading_shut}
use Rattle.tq_model.specs.declared.space.Shape.{Shape}
use Rattle.tq_model.specs.Space.{slot_pages, log_pages, overhead_pages}
use Rattle.tq_slots.specs.BaseForm.{slots_from, raw_slots}
use Rattle.tq_slots.specs.RecordForm.{message_slot, queue_slot, branch_slot}
use Rattle.tq_slots.specs.SlotImages.{RawSlots, raw_of, raw_queue}
use Rattle.tq_slots.specs.SpaceReading.{area_page, base_slots, slots_by, slots_stored}
use Rattle.tq_store.specs.New.{no_branch, empty_slots}

-- ---- slots of zeros

zeros_run : (at n : ℕ) (bytes : List ℕ) → at + n ≤ length bytes → ((i : ℕ) → at ≤ i → get_or bytes i 0 ≡ 0) → run_at at n bytes ≡ replicate n 0
zeros_run at n bytes within none =
    let zeros : List ℕ = replicate n 0 in
    let long : length zeros ≡ n = length-replicate n 0 in
    same_bytes (run_at at n bytes) zeros (length-run_at at n bytes within ∙ sym long)
    (λ i lt. get_or-run_at at n bytes i 0 (omega arith) ∙ none (at + i) (omega arith) ∙ sym (get_or-replicate n i 0 0 (omega arith)))

zero_slots : {X : Type 0} (read : List ℕ → X) (size n at : ℕ) (bytes : List ℕ) → at + size * n ≤ length bytes → ((i : ℕ) → at ≤ i → get_or bytes i 0 ≡ 0)
    → slots_from read size n at bytes ≡ replicate n (read (replicate size 0))
unfolding slots_from
zero_slots read size zero at bytes within none = refl
zero_slots read size (suc n) at bytes within none =
    let more = mul-suc size n in
    let first = ap read (zeros_run at size bytes (omega arith) none) in
    let rest = zero_slots read size n (at + size) bytes (omega arith) (λ i from. none i (omega arith)) in
    λ i. first i ∷ rest i

zero_queue : queue_slot (replicate 512 0) ≡ raw_queue None
unfolding queue_slot number_of
zero_queue = refl

zero_message : message_slot (replicate 64 0) ≡ raw_of None
unfolding message_slot number_of
zero_message = refl

zero_branch : branch_slot (replicate 160 0) ≡ no_branch
unfolding branch_slot number_of
zero_branch = refl

zero_base : (s : Shape) (base : List ℕ) → length base ≡ 1024 * slot_pages s → ((i : ℕ) → 4 ≤ i → get_or base i 0 ≡ 0)
    → raw_slots s.queues s.messages s.transactions base ≡ empty_slots s
zero_base s base long none =
    let queues = zero_slots queue_slot 512 s.queues 64 base (omega arith) (λ i from. none i (omega arith)) in
    let messages = zero_slots message_slot 64 s.messages (64 + 512 * s.queues) base (omega arith) (λ i from. none i (omega arith)) in
    let branches = zero_slots branch_slot 160 s.transactions (64 + 512 * s.queues + 64 * s.messages) base (omega arith) (λ i from. none i (omega arith)) in
    let all_queues = queues ∙ ap (replicate s.queues) zero_queue in
    let all_messages = messages ∙ ap (replicate s.messages) zero_message in
    let all_branches = branches ∙ ap (replicate s.transactions) zero_branch in
    λ i. record { queues = all_queues i; messages = all_messages i; branches = all_branches i }

-- ---- a new space

-- the slots by an area that begins at this byte
abbrev slots_at : Shape → List ℕ → ℕ → Option RawSlots
slots_at s bytes start =
    option_and_then (slots_by s (run_at start (1024 * slot_pages s) bytes)) (log_reading (run_at (start + 1024 * slot_pages s) (1024 * log_pages s) bytes))

module _ (s : Shape) (bytes : List ℕ) (enough : 1024 * overhead_pages s ≤ length bytes) (selector : get_or bytes 512 0 ≡ 0)
    (mark : HasBytesAt 1024 (codes "TQSB") bytes) (none : (i : ℕ) → 1028 ≤ i → i ≤ 1024 + 1024 * slot_pages s → get_or bytes i 0 ≡ 0) where
  new_base : List ℕ
  new_base = run_at 1024 (1024 * slot_pages s) bytes

  new_base-slots : base_slots s new_base ≡ Some (empty_slots s)
  unfolding new_base
  new_base-slots =
      let long = length-run_at 1024 (1024 * slot_pages s) bytes (omega arith) in
      let at : (i : ℕ) → i < 1024 * slot_pages s → get_or new_base i 0 ≡ get_or bytes (1024 + i) 0 = λ i lt. get_or-run_at 1024 (1024 * slot_pages s) bytes i 0 lt in
      let zeros : (i : ℕ) → 4 ≤ i → get_or new_base i 0 ≡ 0 = λ i from. elim (before_or_after i (1024 * slot_pages s)) [
        | inl within ↦ at i within ∙ none (1024 + i) (omega arith) (omega arith)
        | inr past ↦ get_or_past new_base i 0 (omega (arith, long))
      ] in
      let marked : run_at 0 4 new_base ≡ codes "TQSB" = run_at-is 0 (codes "TQSB") new_base (omega arith) (λ i lt. ap (λ (k : ℕ). get_or new_base k 0) (zero-add i) ∙ at i (omega arith) ∙ mark i lt) in
      ap (λ (m : List ℕ). if bytes_eq m (codes "TQSB") then Some (raw_slots s.queues s.messages s.transactions new_base) else None) marked
      ∙ ap Some (zero_base s new_base long zeros)

  pub new_slots : slots_stored s bytes ≡ Some (empty_slots s)
  unfolding new_base
  new_slots =
      let log = run_at (1024 + 1024 * slot_pages s) (1024 * log_pages s) bytes in
      let start = 1024 + 1024 * slot_pages s in
      let first : get_or log 0 0 ≡ 0 = get_or-run_at start (1024 * log_pages s) bytes 0 0 (omega arith) ∙ none (start + 0) (omega arith) (omega arith) in
      let empty : log_reading log ≡ Some [] = reading_shut (length log) 0 log (λ open_gate. let no : 0 ≡ 79 = sym first ∙ open_gate in cc) in
      ap (λ (byte : ℕ). slots_at s bytes (1024 * area_page s byte)) selector
      ∙ ap (λ (payloads : Option (List (List ℕ))). option_and_then (slots_by s (run_at 1024 (1024 * slot_pages s) bytes)) payloads) empty
      ∙ ap (λ (raw : Option RawSlots). option_and_then (λ r. Some r) raw) new_base-slots
