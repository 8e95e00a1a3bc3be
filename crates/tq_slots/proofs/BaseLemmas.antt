-- Slots that were spelt one behind another are read again.
use Rattle.std.proofs.Common.{◌≡◌, ℕ, zero, suc, ◌+◌, ◌-◌, ◌*◌, true, List, [], ◌∷◌, ◌++◌, length, refl, sym, ap, ◌∙◌, append_assoc, arith}
use Rattle.std.specs.Prelude.{codes}
use Rattle.std.specs.List.{flat_map, AllByRecursion}
use Rattle.std.proofs.Math.Nat.{mul-suc}
use Rattle.std.proofs.lemmas.List.{length-append}
use Rattle.std.proofs.lemmas.List.Concat.{flat_map-cons}
use Rattle.tq_field.specs.Digits.{digits}
use Rattle.tq_field.specs.Places.{run_at}
use Rattle.tq_field.proofs.Runs.{run_at-here}
use Rattle.tq_slots.specs.MessageForm.{filled}
use Rattle.tq_slots.specs.SlotImages.{RawSlots}
use Rattle.tq_slots.specs.RecordForm.{message_fields, queue_fields, branch_fields, message_slot, queue_slot, branch_slot}
use Rattle.tq_slots.specs.Fields.{AreFields}
use Rattle.tq_slots.specs.BaseForm.{has_base_mark, slots_from, raw_slots, messages_start, branches_start, queue_slot_spelt, message_slot_spelt, branch_slot_spelt, slots_spelt, length_for, base_spelt, AreRawSlots}
use Rattle.tq_slots.proofs.FieldLemmas.{length-fields}
use Rattle.tq_slots.proofs.HeaderLemmas.{filled-wide}
use Rattle.tq_slots.proofs.SlotLemmas.{message-again, queue-again, branch-again}

-- ---- slots one behind another

pub length-slots : {X : Type 0} (read : List ℕ → X) (size n at : ℕ) (bytes : List ℕ) → length (slots_from read size n at bytes) ≡ n
unfolding slots_from
length-slots read size zero at bytes = refl
length-slots read size (suc n) at bytes = ap suc (length-slots read size n (at + size) bytes)

pub no-slots : {X : Type 0} (read : List ℕ → X) (size at : ℕ) (bytes : List ℕ) → slots_from read size 0 at bytes ≡ []
unfolding slots_from
no-slots read size at bytes = refl

slots-push : {X : Type 0} (read : List ℕ → X) (size n at : ℕ) (bytes : List ℕ)
    → slots_from read size (suc n) at bytes ≡ slots_from read size n at bytes ++ read (run_at (at + size * n) size bytes) ∷ []
unfolding slots_from
slots-push read size zero at bytes =
    let here : at ≡ at + size * 0 = omega arith in
    ap (λ (k : ℕ). read (run_at k size bytes) ∷ []) here
slots-push read size (suc n) at bytes =
    let more = mul-suc size n in
    let place : at + size + size * n ≡ at + size * suc n = omega arith in
    ap (λ l. read (run_at at size bytes) ∷ l) (slots-push read size n (at + size) bytes)
    ∙ ap (λ (k : ℕ). read (run_at at size bytes) ∷ (slots_from read size n (at + size) bytes ++ read (run_at k size bytes) ∷ [])) place

pub slots-more : {X : Type 0} (read : List ℕ → X) (size n at : ℕ) (bytes : List ℕ)
    → slots_from read size (n + 1) at bytes ≡ slots_from read size n at bytes ++ read (run_at (at + size * n) size bytes) ∷ []
slots-more read size n at bytes =
    let one : n + 1 ≡ suc n = omega arith in
    ap (λ (k : ℕ). slots_from read size k at bytes) one ∙ slots-push read size n at bytes

-- a reading and a spelling of slots of one size, each the other's reverse where the slot can be spelt
record IsForm {X : Type 0} (read : List ℕ → X) (spell : X → List ℕ) (size : ℕ) (Is : X → Type 0) : Type 0 where
  long : (x : X) → Is x → length (spell x) ≡ size
  again : (x : X) → Is x → read (spell x) ≡ x

slots-long : {X : Type 0} {read : List ℕ → X} {spell : X → List ℕ} {size : ℕ} {Is : X → Type 0} → IsForm read spell size Is
    → (xs : List X) → AllByRecursion Is xs → length (flat_map spell xs) ≡ size * length xs
slots-long {size} form [] are = (let none : 0 ≡ size * 0 = omega arith in none)
slots-long {spell} {size} form (x ∷ xs) are =
    let first = form.long x are.0 in
    let rest = slots-long form xs are.1 in
    let more = mul-suc size (length xs) in
    let all = length-append (spell x) (flat_map spell xs) in
    ap (λ (l : List ℕ). length l) (flat_map-cons spell x xs) ∙ omega arith

slots-again : {X : Type 0} {read : List ℕ → X} {spell : X → List ℕ} {size : ℕ} {Is : X → Type 0} → IsForm read spell size Is
    → (xs : List X) (at : ℕ) (front back : List ℕ) → AllByRecursion Is xs → length front ≡ at
    → slots_from read size (length xs) at (front ++ (flat_map spell xs ++ back)) ≡ xs
unfolding slots_from
slots-again form [] at front back are is = refl
slots-again {read} {spell} {size} form (x ∷ xs) at front back are is =
    let others = flat_map spell xs ++ back in
    let first = form.long x are.0 in
    let all = length-append front (spell x) in
    let spelt : front ++ (flat_map spell (x ∷ xs) ++ back) ≡ front ++ (spell x ++ others) =
    ap (λ (l : List ℕ). front ++ l) (ap (λ (l : List ℕ). l ++ back) (flat_map-cons spell x xs) ∙ append_assoc (spell x) (flat_map spell xs) back) in
    let here : read (run_at at size (front ++ (spell x ++ others))) ≡ x =
    ap read (run_at-here at size front (spell x) others is first) ∙ form.again x are.0 in
    let rest : slots_from read size (length xs) (at + size) (front ++ (spell x ++ others)) ≡ xs =
    ap (slots_from read size (length xs) (at + size)) (sym (append_assoc front (spell x) others))
    ∙ slots-again form xs (at + size) (front ++ spell x) back are.1 (omega arith) in
    ap (slots_from read size (suc (length xs)) at) spelt ∙ (λ i. here i ∷ rest i)

queue-form : IsForm queue_slot queue_slot_spelt 512 (λ q. AreFields (queue_fields q))
queue-form = record { long = λ q are. length-fields (queue_fields q) are; again = queue-again }

message-form : IsForm message_slot message_slot_spelt 64 (λ m. AreFields (message_fields m))
message-form = record { long = λ m are. length-fields (message_fields m) are; again = message-again }

branch-form : IsForm branch_slot branch_slot_spelt 160 (λ b. AreFields (branch_fields b))
branch-form = record { long = λ b are. length-fields (branch_fields b) are; again = branch-again }

-- ---- a base

head : List ℕ
head = filled 64 (codes "TQSB")

head-long : length head ≡ 64
unfolding head
head-long = filled-wide 64 (codes "TQSB") (omega arith)

module _ (raw : RawSlots) (are : AreRawSlots raw) where
  parts-length : length (head ++ flat_map queue_slot_spelt raw.queues ++ flat_map message_slot_spelt raw.messages ++ flat_map branch_slot_spelt raw.branches)
      ≡ 64 + 512 * length raw.queues + 64 * length raw.messages + 160 * length raw.branches
  parts-length =
      let queues = flat_map queue_slot_spelt raw.queues in
      let messages = flat_map message_slot_spelt raw.messages in
      let branches = flat_map branch_slot_spelt raw.branches in
      let one = length-append head queues in
      let two = length-append (head ++ queues) messages in
      let three = length-append (head ++ queues ++ messages) branches in
      let before = head-long in
      let of_queues = slots-long queue-form raw.queues are.queues in
      let of_messages = slots-long message-form raw.messages are.messages in
      let of_branches = slots-long branch-form raw.branches are.branches in
      omega arith

  pub slots-length : length (slots_spelt raw) ≡ 64 + 512 * length raw.queues + 64 * length raw.messages + 160 * length raw.branches
  unfolding head
  slots-length = parts-length

  pub base-long : length (base_spelt raw) ≡ length_for raw
  base-long = let size = slots-length in filled-wide (length_for raw) (slots_spelt raw) (omega arith)

  pub base-again : raw_slots (length raw.queues) (length raw.messages) (length raw.branches) (base_spelt raw) ≡ raw
  unfolding head
  base-again =
      let queues = flat_map queue_slot_spelt raw.queues in
      let messages = flat_map message_slot_spelt raw.messages in
      let branches = flat_map branch_slot_spelt raw.branches in
      let end = digits (length_for raw - length (slots_spelt raw)) 0 in
      let q = length raw.queues in
      let m = length raw.messages in
      let head_size = head-long in
      let queues_size = slots-long queue-form raw.queues are.queues in
      let messages_size = slots-long message-form raw.messages are.messages in
      let before = length-append head queues in
      let before_branches = length-append (head ++ queues) messages in
      let one : base_spelt raw ≡ head ++ (queues ++ (messages ++ (branches ++ end))) = simp append_assoc in
      let two : base_spelt raw ≡ (head ++ queues) ++ (messages ++ (branches ++ end)) = simp append_assoc in
      let three : base_spelt raw ≡ ((head ++ queues) ++ messages) ++ (branches ++ end) = simp append_assoc in
      let first = ap (slots_from queue_slot 512 q 64) one
      ∙ slots-again queue-form raw.queues 64 head (messages ++ (branches ++ end)) are.queues head_size in
      let second = ap (slots_from message_slot 64 m (messages_start q)) two
      ∙ slots-again message-form raw.messages (messages_start q) (head ++ queues) (branches ++ end) are.messages (omega arith) in
      let third = ap (slots_from branch_slot 160 (length raw.branches) (branches_start q m)) three
      ∙ slots-again branch-form raw.branches (branches_start q m) ((head ++ queues) ++ messages) end are.branches (omega arith) in
      λ i. record { queues = first i; messages = second i; branches = third i }

pub base-marked : (raw : RawSlots) → has_base_mark (base_spelt raw) ≡ true
base-marked raw = refl
