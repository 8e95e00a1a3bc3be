-- The pages of a new space, as they are written.
use Rattle.std.proofs.Common.{◌≡◌, ◌<◌, ◌≤◌, ℕ, ◌+◌, ◌*◌, ◌-◌, ◌&&◌, ◌++◌, true, List, length, get_or, Result, sym, ap, ◌∙◌, zero-add, length-append, arith}
use Rattle.std.specs.Prelude.{nat_le, nat_lt, codes}
use Rattle.std.proofs.lemmas.Bool.{and_from, le-leb, lt-ltb}
use Rattle.std.proofs.lemmas.List.{get_or_past, get_or_append_left, get_or-append_right}
use Rattle.tq_host.specs.declared.host.Failed.{Failed}
use Rattle.tq_host.specs.View.{View}
use Rattle.tq_host.specs.Calls.{HasBytesAt, IsWritten, IsDeviceCall, IsStill}
use Rattle.tq_host.specs.Within.{Within}
use Rattle.tq_host.proofs.Steps.{IsSteps}
use Rattle.tq_host.proofs.Within.{still, wider}
use Rattle.tq_field.proofs.Runs.{length-run_at, get_or-run_at}
use Rattle.tq_extent.specs.Bytes.{owned_bytes, reaches, OnBytes, IsAny}
use Rattle.tq_extent.specs.Pages.{page_count}
use Rattle.tq_extent.proofs.BytesLemmas.{length-owned, on_bytes_as, on_bytes_steps}
use Rattle.tq_model.specs.declared.space.Shape.{Shape}
use Rattle.tq_model.specs.Space.{slot_pages, overhead_pages}
use Rattle.tq_model.specs.DeviceForm.{first_page}
use Rattle.tq_store.specs.Page.{page_spelt, are_limits, is_error, is_creation}
use Rattle.tq_store.specs.New.{AreFirst, IsFormatted}
use Rattle.tq_store.specs.Stored.{IsAnyStep, IsSameButSpace}
use Rattle.tq_store.proofs.PageLemmas.{page_spelt_most, creation_stands}
use Rattle.tq_store.proofs.NewSlotLemmas.{new_slots}

-- numbers within their limits, and a name
pub creation_from : (s : Shape) → (1 ≤ s.queues) × (s.queues ≤ 256) → (1 ≤ s.messages) × (s.messages ≤ 8192) → (1 ≤ s.transactions) × (s.transactions ≤ 64)
    → s.memory ≤ 16777216 → overhead_pages s < s.pages
    → is_error s.error ≡ true → is_creation s ≡ true
creation_from s queues messages transactions memory pages error =
    let q = nat_le 1 s.queues && nat_le s.queues 256 in
    let m = nat_le 1 s.messages && nat_le s.messages 8192 in
    let t = nat_le 1 s.transactions && nat_le s.transactions 64 in
    let both : (x most : ℕ) → (1 ≤ x) × (x ≤ most) → (nat_le 1 x && nat_le x most) ≡ true = λ x most is. and_from (nat_le 1 x) (nat_le x most) (le-leb 1 x is.0) (le-leb x most is.1) in
    and_from (are_limits s) (is_error s.error)
    (and_from (q && m && t && nat_le s.memory 16777216) (nat_lt (overhead_pages s) s.pages)
    (and_from (q && m && t) (nat_le s.memory 16777216)
    (and_from (q && m) t (and_from q m (both s.queues 256 queues) (both s.messages 8192 messages)) (both s.transactions 64 transactions))
    (le-leb s.memory 16777216 memory))
    (lt-ltb (overhead_pages s) s.pages pages))
    error

-- the first bytes make a new space
pub formatted : (s : Shape) (clusters bytes old new : List ℕ) → AreFirst s bytes → s.pages ≤ page_count clusters → reaches clusters new ≡ true
    → IsWritten 0 bytes old (owned_bytes clusters new) → is_creation s ≡ true → overhead_pages s < s.pages → IsFormatted s clusters new
formatted s clusters bytes old new first enough reach written within pages =
    let short = page_spelt_most s within in
    let owned = owned_bytes clusters new in
    let all = length-owned clusters new reach in
    let long = first.size in
    let page_long = first.page_size in
    let spelt = page_spelt s in
    let at : (i : ℕ) → i < length bytes → get_or owned i 0 ≡ get_or (first.page ++ codes "TQSB") i 0 = λ i lt.
    sym (ap (λ (k : ℕ). get_or owned k 0) (zero-add i)) ∙ written.stands i lt ∙ first.base i in
    let in_page : (i : ℕ) → i < 1024 → get_or owned i 0 ≡ get_or spelt i 0 = λ i lt.
    at i (omega arith) ∙ get_or_append_left first.page (codes "TQSB") 0 i (omega arith) ∙ first.page_is i in
    let stands : HasBytesAt 0 spelt (first_page owned) = λ i below.
    ap (λ (k : ℕ). get_or (first_page owned) k 0) (zero-add i) ∙ get_or-run_at 0 1024 owned i 0 (omega arith) ∙ ap (λ (k : ℕ). get_or owned k 0) (zero-add i) ∙ in_page i (omega arith) in
    let size : length (first_page owned) ≡ 1024 = length-run_at 0 1024 owned (omega arith) in
    let selector : get_or owned 512 0 ≡ 0 = in_page 512 (omega arith) ∙ get_or_past spelt 512 0 (omega arith) in
    let mark_at : (i : ℕ) → get_or (codes "TQSB") (1024 + i - 1024) 0 ≡ get_or (codes "TQSB") i 0 = λ i.
    let e : 1024 + i - 1024 ≡ i = omega arith in ap (λ (k : ℕ). get_or (codes "TQSB") k 0) e in
    let mark : HasBytesAt 1024 (codes "TQSB") owned = λ i lt. at (1024 + i) (omega arith) ∙ get_or-append_right first.page (codes "TQSB") 1024 (1024 + i) 0 page_long (omega arith) ∙ mark_at i in
    let none : (i : ℕ) → 1028 ≤ i → i ≤ 1024 + 1024 * slot_pages s → get_or owned i 0 ≡ 0 = λ i from to.
    at i (omega arith) ∙ get_or_past (first.page ++ codes "TQSB") i 0 (omega (arith, length-append first.page (codes "TQSB"))) in
    record {
      creation = creation_stands s within (first_page owned) stands (omega arith);
      slots = new_slots s owned (omega arith) selector mark none;
    }

-- ---- steps on the clusters of a space

pub space_step : (clusters : List ℕ) (S : List ℕ → List ℕ → Type 0) (old new : List ℕ) → OnBytes clusters S old new → IsSameButSpace clusters old new
space_step clusters S old new step = on_bytes_as clusters S IsAnyStep old new (λ bytes. tt) step

pub same_space_steps : (clusters : List ℕ) → IsSteps (IsSameButSpace clusters)
same_space_steps clusters = on_bytes_steps clusters IsAnyStep (record { none = λ c. tt; both = λ a b c first second. tt })

-- a stop within a write to them, and within the sync behind it
module _ (dev : ℕ) (clusters : List ℕ) (S : List ℕ → List ℕ → Type 0) (old mid : View) (within : Within dev (OnBytes clusters S) IsAny old mid) where
  pub space_within : Within dev (IsSameButSpace clusters) IsAny old mid
  space_within = wider dev (OnBytes clusters S) (IsSameButSpace clusters) IsAny IsAny old mid (λ b c may step any. (space_step clusters S b c step, tt)) within

  pub space_synced : (new : View) {T : Type 0} (r : Result T Failed) → IsDeviceCall r mid new → IsStill mid new → Within dev (IsSameButSpace clusters) IsAny old new
  space_synced new r call same = still dev (IsSameButSpace clusters) (same_space_steps clusters) IsAny old mid new r space_within call same
