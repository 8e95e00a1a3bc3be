-- The pages of a new space, as they are written.
use Rattle.std.proofs.Common.{◌≡◌, ◌<◌, ◌≤◌, ℕ, ◌+◌, ◌&&◌, true, List, length, get_or, Result, sym, ap, ◌∙◌, arith}
use Rattle.std.specs.Prelude.{nat_le, nat_lt}
use Rattle.std.proofs.lemmas.Bool.{and_from, le-leb, lt-ltb}
use Rattle.std.proofs.lemmas.List.{get_or_past}
use Rattle.tq_host.specs.declared.host.Failed.{Failed}
use Rattle.tq_host.specs.View.{View}
use Rattle.tq_host.specs.Calls.{HasBytesAt, IsWritten, IsDeviceCall, IsStill}
use Rattle.tq_host.specs.Within.{Within}
use Rattle.tq_host.proofs.Steps.{IsSteps}
use Rattle.tq_host.proofs.Within.{still, wider}
use Rattle.tq_field.specs.Places.{run_at}
use Rattle.tq_field.proofs.Runs.{length-run_at, get_or-run_at}
use Rattle.tq_extent.specs.Bytes.{owned_bytes, reaches, OnBytes, IsAny}
use Rattle.tq_extent.specs.Pages.{page_count}
use Rattle.tq_extent.proofs.BytesLemmas.{length-owned, on_bytes_as, on_bytes_steps}
use Rattle.tq_gate.proofs.Readings.{reading_shut}
use Rattle.tq_model.specs.declared.space.Shape.{Shape}
use Rattle.tq_model.specs.Space.{overhead_pages}
use Rattle.tq_model.specs.SpaceForm.{page_spelt, log_bytes}
use Rattle.tq_model.specs.Reading.{log_start}
use Rattle.tq_spacefile.specs.Place.{page_of}
use Rattle.tq_spacefile.specs.Page.{IsZeroPadded, are_limits, is_error, is_creation}
use Rattle.tq_spacefile.specs.File.{IsFormatted, IsAnyStep, IsSameButSpace}
use Rattle.tq_spacefile.proofs.Pages.{page_spelt_most, page_tests-spelt, shape_of-spelt}

-- numbers within their limits, and a name
pub creation_from : (s : Shape) → (1 ≤ s.queues) × (s.queues ≤ 256) → (1 ≤ s.messages) × (s.messages ≤ 8192) → (1 ≤ s.transactions) × (s.transactions ≤ 64)
    → s.memory ≤ 16777216 → overhead_pages s < s.pages
    → is_error s.error ≡ true → is_creation s ≡ true
creation_from s queues messages transactions memory pages error =
    let q = nat_le 1 s.queues && nat_le s.queues 256 in
    let m = nat_le 1 s.messages && nat_le s.messages 8192 in
    let t = nat_le 1 s.transactions && nat_le s.transactions 64 in
    let both : (x most : ℕ) → (1 ≤ x) × (x ≤ most) → (nat_le 1 x && nat_le x most) ≡ true = λ x most is. and_from (nat_le 1 x) (nat_le x most) (le-leb 1 x is.0) (le-leb x most is.1) in
    and_from (are_limits s) (is_error s.error)
    (and_from (q && m && t && nat_le s.memory 16777216) (nat_lt (overhead_pages s) s.pages)
    (and_from (q && m && t) (nat_le s.memory 16777216)
    (and_from (q && m) t (and_from q m (both s.queues 256 queues) (both s.messages 8192 messages)) (both s.transactions 64 transactions))
    (le-leb s.memory 16777216 memory))
    (lt-ltb (overhead_pages s) s.pages pages))
    error

-- a space has a log
some_log : (s : Shape) → overhead_pages s < s.pages → 0 < log_bytes s.pages
some_log s pages = omega (arith, pages)

-- the first page and a closed gate make a new space
pub formatted : (s : Shape) (clusters page old new : List ℕ) → length page ≡ 2049 → s.pages ≤ page_count clusters → reaches clusters new ≡ true
    → IsWritten 0 page old (owned_bytes clusters new)
    → is_creation s ≡ true → overhead_pages s < s.pages → IsZeroPadded (page_spelt s) page → IsFormatted s clusters new
formatted s clusters page old new long enough reach written within pages begins =
    let short = page_spelt_most s within in
    let bytes = owned_bytes clusters new in
    let all = length-owned clusters new reach in
    let first = page_of clusters new in
    let size : length first ≡ 1024 = length-run_at 0 1024 bytes (omega (arith, all, enough, pages)) in
    let stands : HasBytesAt 0 (page_spelt s) first = λ i below.
    let at : 0 + i ≡ i = omega arith in
    ap (λ (k : ℕ). get_or first k 0) at ∙ get_or-run_at 0 1024 bytes i 0 (omega (arith, below, short)) ∙ written.stands i (omega (arith, below, short)) ∙ begins i in
    let ends : length (page_spelt s) ≤ length first = omega (arith, size, short) in
    let log = run_at log_start (log_bytes s.pages) bytes in
    let zero : get_or log 0 0 ≡ 0 =
    get_or-run_at log_start (log_bytes s.pages) bytes 0 0 (some_log s pages) ∙ written.stands 2048 (omega arith) ∙ begins 2048 ∙ get_or_past (page_spelt s) 2048 0 (omega arith) in
    record {
      page = page_tests-spelt s within first stands ends;
      shape_is = shape_of-spelt s within first stands ends;
      empty = reading_shut (length log) 0 log (λ open_gate. let no : 0 ≡ 79 = sym zero ∙ open_gate in cc);
    }

-- ---- steps on the clusters of a space

pub space_step : (clusters : List ℕ) (S : List ℕ → List ℕ → Type 0) (old new : List ℕ) → OnBytes clusters S old new → IsSameButSpace clusters old new
space_step clusters S old new step = on_bytes_as clusters S IsAnyStep old new (λ bytes. tt) step

pub same_space_steps : (clusters : List ℕ) → IsSteps (IsSameButSpace clusters)
same_space_steps clusters = on_bytes_steps clusters IsAnyStep (record { none = λ c. tt; both = λ a b c first second. tt })

-- a stop within a write to them, and within the sync behind it
module _ (dev : ℕ) (clusters : List ℕ) (S : List ℕ → List ℕ → Type 0) (old mid : View) (within : Within dev (OnBytes clusters S) IsAny old mid) where
  pub space_within : Within dev (IsSameButSpace clusters) IsAny old mid
  space_within = wider dev (OnBytes clusters S) (IsSameButSpace clusters) IsAny IsAny old mid (λ b c may step any. (space_step clusters S b c step, tt)) within

  pub space_synced : (new : View) {T : Type 0} (r : Result T Failed) → IsDeviceCall r mid new → IsStill mid new → Within dev (IsSameButSpace clusters) IsAny old new
  space_synced new r call same = still dev (IsSameButSpace clusters) (same_space_steps clusters) IsAny old mid new r space_within call same
