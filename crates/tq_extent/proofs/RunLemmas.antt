-- Bytes of an owner that lie behind one another on the device, read or written by one call.
use Rattle.std.proofs.Common.{◌≡◌, ◌≢◌, ◌⊎◌, ◌<◌, ◌≤◌, inl, inr, ⊎_elim, ℕ, ◌+◌, ◌-◌, ◌*◌, ◌/◌, true, List, ◌++◌, take, drop, length, get_or, Result, sym, ap, ◌∙◌, arith, ltb-true}
use Rattle.std.specs.Prelude.{nat_lt}
use Rattle.std.proofs.lemmas.Bool.{cases_lt}
use Rattle.std.proofs.lemmas.List.{drop-drop, get_or_past}
use borrow.Rule.Slice.PartMut.{put_mid}
use Rattle.tq_field.specs.Places.{with_run}
use Rattle.tq_field.proofs.Runs.{length-run_at, get_or-run_at, length-with_run, get_or-with_run, get_or-with_run_below}
use Rattle.tq_host.specs.declared.host.Failed.{Failed}
use Rattle.tq_host.specs.View.{View}
use Rattle.tq_host.specs.Calls.{HasBytesAt, IsSameBut, IsWritten, IsTorn, IsDeviceCall, Changes}
use Rattle.tq_host.specs.Within.{Within}
use Rattle.tq_host.proofs.Bytes.{torn_within, same_but_steps, same_but_wider}
use Rattle.tq_host.proofs.Within.{changes}
use Rattle.tq_model.specs.DeviceForm.{cluster_bytes}
use Rattle.tq_model.specs.Site.{most_clusters}
use Rattle.tq_extent.specs.Clusters.{are_distinct}
use Rattle.tq_extent.specs.Pages.{HasPages}
use Rattle.tq_extent.specs.Bytes.{byte_count, owned_bytes, byte_address, is_owned, reaches, OnBytes}
use Rattle.tq_extent.proofs.ExtentLemmas.{all-get}
use Rattle.tq_extent.proofs.PageLemmas.{distinct-at}
use Rattle.tq_extent.proofs.BytesLemmas.{length-owned, get_or-owned, address_owned, address_reached, reaches_same, on_bytes_steps, on_bytes_as}

-- an image that reaches to the end of these clusters
abbrev pub HasReach : List ℕ → List ℕ → Type 0
HasReach clusters image = reaches clusters image ≡ true

-- n bytes from this place on lie behind one another
abbrev pub AreInARow : List ℕ → ℕ → ℕ → Type 0
AreInARow clusters at n = (i : ℕ) → i < n → byte_address clusters (at + i) ≡ byte_address clusters at + i

-- those of clusters that do
pub clusters_in_a_row : (clusters : List ℕ) (at n last : ℕ) → at + n ≤ cluster_bytes * (last + 1)
    → ((k : ℕ) → at / cluster_bytes + k ≤ last → get_or clusters (at / cluster_bytes + k) 0 ≡ get_or clusters (at / cluster_bytes) 0 + k)
    → AreInARow clusters at n
clusters_in_a_row clusters at n last within run i lt =
    let first = at / cluster_bytes in
    let k = (at + i) / cluster_bytes - first in
    let place : first + k ≡ (at + i) / cluster_bytes = omega arith in
    let cluster : get_or clusters ((at + i) / cluster_bytes) 0 ≡ get_or clusters first 0 + k = ap (λ j. get_or clusters j 0) (sym place)
    ∙ run k (omega arith) in
    omega (arith, cluster)

-- they end where the next cluster lies elsewhere
pub row_ends : (clusters : List ℕ) (at n last : ℕ) → at / cluster_bytes ≤ last → at + n ≡ cluster_bytes * (last + 1)
    → ((k : ℕ) → at / cluster_bytes + k ≤ last → get_or clusters (at / cluster_bytes + k) 0 ≡ get_or clusters (at / cluster_bytes) 0 + k)
    → get_or clusters last 0 + 1 ≢ get_or clusters (last + 1) 0 → byte_address clusters (at + n) ≢ byte_address clusters at + n
row_ends clusters at n last from end run gap same =
    let first = at / cluster_bytes in
    let place : (at + n) / cluster_bytes ≡ last + 1 = omega arith in
    let behind : get_or clusters ((at + n) / cluster_bytes) 0 ≡ get_or clusters (last + 1) 0 = ap (λ j. get_or clusters j 0) place in
    let back : first + (last - first) ≡ last = omega arith in
    let own : get_or clusters last 0 ≡ get_or clusters first 0 + (last - first) = ap (λ j. get_or clusters j 0) (sym back) ∙ run (last - first) (omega arith) in
    gap (omega (arith, same, behind, own))

module _ (clusters : List ℕ) (at n : ℕ) (within : at + n ≤ byte_count clusters) (row : AreInARow clusters at n) where
  -- the device reaches to their end
  pub row_reached : (image : List ℕ) → 1 ≤ n → reaches clusters image ≡ true → byte_address clusters at + n ≤ length image
  row_reached image some long =
      let last = row (n - 1) (omega arith) in
      let end = address_reached clusters image (at + (n - 1)) long (omega arith) in
      omega arith

  -- so does the largest device
  pub row_below : 1 ≤ n → HasPages clusters → byte_address clusters at + n ≤ cluster_bytes * most_clusters
  row_below some pages =
      let last = row (n - 1) (omega arith) in
      let cluster = get_or clusters ((at + (n - 1)) / cluster_bytes) 0 in
      let below = ltb-true cluster most_clusters
      (all-get (λ k. nat_lt k most_clusters) clusters ((at + (n - 1)) / cluster_bytes) 0 pages.within (omega arith)) in
      omega arith

  -- what stands at their address stands at their place
  pub row_stands : (bytes image : List ℕ) → length bytes ≡ n → reaches clusters image ≡ true → HasBytesAt (byte_address clusters at) bytes image
      → HasBytesAt at bytes (owned_bytes clusters image)
  row_stands bytes image size long stands i lt =
      get_or-owned clusters image (at + i) 0 long (omega arith) ∙ ap (λ k. get_or image k 0) (row i (omega arith)) ∙ stands i lt

  address_same : (i j : ℕ) → are_distinct clusters ≡ true → i < byte_count clusters → j < byte_count clusters
      → byte_address clusters i ≡ byte_address clusters j → i ≡ j
  address_same i j distinct below below' same =
      let a = get_or clusters (i / cluster_bytes) 0 in
      let b = get_or clusters (j / cluster_bytes) 0 in
      let cluster : a ≡ b = omega (arith, same) in
      let place = distinct-at clusters (i / cluster_bytes) (j / cluster_bytes) distinct (omega arith) (omega arith) cluster in
      omega (arith, same, cluster, place)

  -- another byte of the owner has another address
  apart : (k : ℕ) → are_distinct clusters ≡ true → k < byte_count clusters → (k < at) ⊎ (at + n ≤ k)
      → (byte_address clusters k < byte_address clusters at) ⊎ (byte_address clusters at + n ≤ byte_address clusters k)
  apart k distinct below out =
      let start = byte_address clusters at in
      let address = byte_address clusters k in
      elim (cases_lt address start) [
        | inl before ↦ inl before
        | inr from ↦ elim (cases_lt address (start + n)) [
          | inr behind ↦ inr behind
          | inl to ↦
              let i = address - start in
              let here = row i (omega arith) in
              let same = address_same (at + i) k distinct (omega arith) below (omega arith) in
              absurd (⊎_elim (λ before. omega arith) (λ behind. omega arith) out)
        ]
      ]

  -- where these alone change on the device, they alone change of the owner
  pub row_changed : (old new : List ℕ) → are_distinct clusters ≡ true → reaches clusters old ≡ true → IsSameBut (byte_address clusters at) n old new
      → OnBytes clusters (IsSameBut at n) old new
  row_changed old new distinct long same =
      let long_new : reaches clusters new ≡ true = reaches_same clusters old new same.size ∙ long in
      let start = byte_address clusters at in
      let size = length-owned clusters old long in
      let size_new = length-owned clusters new long_new in
      record {
        size = same.size;
        elsewhere = λ k free. same.outside k (elim (cases_lt k start) [
          | inl before ↦ inl before
          | inr from ↦ elim (cases_lt k (start + n)) [
            | inr behind ↦ inr behind
            | inl to ↦
                let here : byte_address clusters (at + (k - start)) ≡ k = row (k - start) (omega arith)
                ∙ (let e : start + (k - start) ≡ k = omega arith in e) in
                let own = sym (ap (is_owned clusters) here) ∙ address_owned clusters (at + (k - start)) (omega arith) in
                absurd (cc)
          ]
        ]);
        bytes = record {
          outside = λ k out. elim (cases_lt k (byte_count clusters)) [
            | inl below ↦
                get_or-owned clusters new k 0 long_new below ∙ same.outside (byte_address clusters k) (apart k distinct below out)
                ∙ sym (get_or-owned clusters old k 0 long below)
            | inr past ↦ get_or_past (owned_bytes clusters new) k 0 (omega arith) ∙ sym (get_or_past (owned_bytes clusters old) k 0 (omega arith))
          ];
          size = size_new ∙ sym size;
        };
      }

  -- so they do in a write of these that may be cut short
  pub row_torn : (address size : ℕ) (old new : List ℕ) → 1 ≤ n → are_distinct clusters ≡ true → address ≡ byte_address clusters at → size ≡ n
      → reaches clusters old ≡ true → IsTorn address size old new → OnBytes clusters (IsSameBut at n) old new
  row_torn address size old new some distinct is_address is_size long torn =
      row_changed old new distinct long (torn_within (byte_address clusters at) n address size old new (omega arith) (omega arith)
      (row_reached old some long) torn)

  -- the same of a wider range
  row_within : (wide m : ℕ) (old new : List ℕ) → wide ≤ at → at + n ≤ wide + m → OnBytes clusters (IsSameBut at n) old new
      → OnBytes clusters (IsSameBut wide m) old new
  row_within wide m old new from to changed =
      on_bytes_as clusters (IsSameBut at n) (IsSameBut wide m) old new
      (same_but_wider at n wide m (owned_bytes clusters old) (owned_bytes clusters new) from to) changed

  -- and behind other changes of it
  pub row_behind : (wide m : ℕ) (start old new : List ℕ) → wide ≤ at → at + n ≤ wide + m → OnBytes clusters (IsSameBut wide m) start old
      → OnBytes clusters (IsSameBut at n) old new → OnBytes clusters (IsSameBut wide m) start new
  row_behind wide m start old new from to so_far changed =
      (on_bytes_steps clusters (IsSameBut wide m) (same_but_steps wide m)).both start old new so_far (row_within wide m old new from to changed)

  -- the pictures of a write, where each image from before it has these clusters
  pub row_stop : (dev wide m address size : ℕ) (start mid new : View) {T : Type 0} (r : Result T Failed) → 1 ≤ n → wide ≤ at → at + n ≤ wide + m
      → are_distinct clusters ≡ true
      → address ≡ byte_address clusters at → size ≡ n
      → Within dev (OnBytes clusters (IsSameBut wide m)) (HasReach clusters) start mid → IsDeviceCall r mid new → Changes dev (IsTorn address size) mid new
      → Within dev (OnBytes clusters (IsSameBut wide m)) (HasReach clusters) start new
  row_stop dev wide m address size start mid new r some from to distinct is_address is_size so_far call change =
      changes dev (OnBytes clusters (IsSameBut wide m)) (on_bytes_steps clusters (IsSameBut wide m) (same_but_steps wide m)) (HasReach clusters)
      (HasReach clusters) start mid new r (IsTorn address size) so_far call change
      (λ b c long torn.
      let step = row_within wide m b c from to (row_torn address size b c some distinct is_address is_size long torn) in
      (step, reaches_same clusters b c step.size ∙ long))
      (λ c long. long)

-- ---- one run behind another

-- the first so many of these bytes stand there
abbrev pub HasFirstAt : ℕ → ℕ → List ℕ → List ℕ → Type 0
HasFirstAt at done bytes image = (i : ℕ) → i < done → get_or image (at + i) 0 ≡ get_or bytes i 0

pub first_more : (at done n : ℕ) (bytes run image : List ℕ) → HasFirstAt at done bytes image → length run ≡ n
    → ((i : ℕ) → i < n → get_or run i 0 ≡ get_or bytes (done + i) 0)
    → HasBytesAt (at + done) run image → HasFirstAt at (done + n) bytes image
first_more at done n bytes run image before size part stands i lt = elim (cases_lt i done) [
  | inl below ↦ before i below
  | inr from ↦
      let k = i - done in
      let place : at + i ≡ at + done + k = omega arith in
      let own : done + k ≡ i = omega arith in
      ap (λ j. get_or image j 0) place ∙ stands k (omega arith) ∙ part k (omega arith) ∙ ap (λ j. get_or bytes j 0) own
]

-- all of them are written
pub all_written : (clusters : List ℕ) (at done : ℕ) (bytes old new : List ℕ) → reaches clusters old ≡ true → at + length bytes ≤ byte_count clusters
    → done ≡ length bytes
    → HasFirstAt at done bytes (owned_bytes clusters new) → OnBytes clusters (IsSameBut at (length bytes)) old new
    → OnBytes clusters (IsWritten at bytes) old new
all_written clusters at done bytes old new long within all stands beside =
    on_bytes_as clusters (IsSameBut at (length bytes)) (IsWritten at bytes) old new (λ same. record {
      stands = λ i lt. stands i (omega arith);
      outside = same.outside;
      size = omega (arith, same.size, length-owned clusters old long);
    }) beside

-- a part of a slice
module _ (at n : ℕ) (bytes : List ℕ) (within : at + n ≤ length bytes) where
  wide : at + n - at ≡ n
  wide = omega arith

  pub length-part : length (take (at + n - at) (drop at bytes)) ≡ n
  length-part = ap (λ k. length (take k (drop at bytes))) wide ∙ length-run_at at n bytes within

  pub get_or-part : (i : ℕ) → i < n → get_or (take (at + n - at) (drop at bytes)) i 0 ≡ get_or bytes (at + i) 0
  get_or-part i lt = ap (λ k. get_or (take k (drop at bytes)) i 0) wide ∙ get_or-run_at at n bytes i 0 lt

-- a part of a slice that was filled
module _ (at n : ℕ) (old run : List ℕ) (size : length run ≡ n) (within : at + n ≤ length old) where
  pub filled : put_mid at (at + n - at) old run ≡ with_run at n run old
  filled =
      ap (λ (k : ℕ). put_mid at k old run) (wide at n old within) ∙ ap (λ (rest : List ℕ). take at old ++ (run ++ rest)) (drop-drop n at old)

  pub length-filled : length (put_mid at (at + n - at) old run) ≡ length old
  length-filled = ap length filled ∙ length-with_run at n run old size within

  pub filled_before : (i : ℕ) → i < at → get_or (put_mid at (at + n - at) old run) i 0 ≡ get_or old i 0
  filled_before i lt = ap (λ (l : List ℕ). get_or l i 0) filled ∙ get_or-with_run_below at n run old i 0 lt (omega arith)

  pub filled_within : (i : ℕ) → i < n → get_or (put_mid at (at + n - at) old run) (at + i) 0 ≡ get_or run i 0
  filled_within i lt = ap (λ (l : List ℕ). get_or l (at + i) 0) filled ∙ get_or-with_run at n run old i 0 size (omega arith) lt
