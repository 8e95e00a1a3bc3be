-- The bytes of an owner, and steps on them.
use Rattle.std.proofs.Common.{◌≡◌, ◌<◌, ◌≤◌, inl, inr, ⊎_elim, ℕ, zero, suc, ◌+◌, ◌-◌, ◌*◌, ◌/◌, true, false, ◌&&◌, List, [], ◌∷◌, ◌++◌, length, get_or, take, drop, refl, sym, ap, ◌∙◌, arith, leb-true, le-leb, lt-ltb, le-ltb}
use Rattle.std.specs.Prelude.{◌==◌, nat_le, nat_lt}
use Rattle.std.specs.List.{list_all}
use Rattle.std.proofs.Math.Seq.{take-add}
use Rattle.std.proofs.lemmas.Bool.{eq-eqb, cases_lt, and_parts, and_from, or_left, or_right}
use Rattle.std.proofs.lemmas.List.{ext_get_or, drop-drop, get_or_append_left, get_or-append_right, length-take, length-drop, length-append}
use Rattle.std.proofs.lemmas.List.Folds.{list_any_at, list_all-append}
use Rattle.std.proofs.lemmas.Grind.{flat_map-append}
use Rattle.tq_field.specs.Places.{run_at}
use Rattle.tq_field.proofs.Runs.{length-run_at, get_or-run_at}
use Rattle.tq_host.specs.View.{View, Streams}
use Rattle.tq_host.specs.Within.{Within, Came}
use Rattle.tq_host.proofs.Steps.{IsSteps}
use Rattle.tq_model.specs.declared.answer.Extent.{Extent}
use Rattle.tq_model.specs.DeviceForm.{cluster_bytes, header_bytes, bytes_of}
use Rattle.tq_model.specs.Site.{header_clusters, numbers_from}
use Rattle.tq_extent.specs.Clusters.{clusters_of}
use Rattle.tq_extent.specs.Bytes.{byte_count, owned_bytes, byte_address, has_cluster, is_owned, reaches, ShareNone, OnBytes, IsAny}
use Rattle.tq_extent.proofs.ExtentLemmas.{all-get, any-numbers_from}
use Rattle.tq_extent.proofs.ClusterLemmas.{all-weaker}

-- ---- where they lie

reaches-parts : (cluster : ℕ) (clusters image : List ℕ) → reaches (cluster ∷ clusters) image ≡ true
    → (cluster_bytes * cluster + cluster_bytes ≤ length image) × (reaches clusters image ≡ true)
reaches-parts cluster clusters image long =
    let parts = and_parts (nat_le (cluster_bytes * (cluster + 1)) (length image)) (reaches clusters image) long in
    let own = leb-true (cluster_bytes * (cluster + 1)) (length image) parts.0 in
    (omega arith, parts.1)

pub length-owned : (clusters image : List ℕ) → reaches clusters image ≡ true → length (owned_bytes clusters image) ≡ byte_count clusters
length-owned [] image long = refl
length-owned (cluster ∷ clusters) image long =
    let parts = reaches-parts cluster clusters image long in
    let own = length-run_at (cluster_bytes * cluster) cluster_bytes image parts.0 in
    let rest = length-owned clusters image parts.1 in
    let all = length-append (run_at (cluster_bytes * cluster) cluster_bytes image) (owned_bytes clusters image) in
    omega arith

-- a byte of an owner is the byte of the device at its address
pub get_or-owned : (clusters image : List ℕ) (at d : ℕ) → reaches clusters image ≡ true → at < byte_count clusters
    → get_or (owned_bytes clusters image) at d ≡ get_or image (byte_address clusters at) d
get_or-owned [] image at d long lt = absurd (omega arith)
get_or-owned (first ∷ clusters) image at d long lt =
    let parts = reaches-parts first clusters image long in
    let run = run_at (cluster_bytes * first) cluster_bytes image in
    let size = length-run_at (cluster_bytes * first) cluster_bytes image parts.0 in
    elim (cases_lt at cluster_bytes) [
      | inl own ↦
          let none : at / cluster_bytes ≡ 0 = omega arith in
          let cluster : get_or (first ∷ clusters) (at / cluster_bytes) 0 ≡ first = ap (λ k. get_or (first ∷ clusters) k 0) none in
          let place : cluster_bytes * first + at ≡ byte_address (first ∷ clusters) at = omega (arith, cluster) in
          get_or_append_left run (owned_bytes clusters image) d at (omega arith) ∙ get_or-run_at (cluster_bytes * first) cluster_bytes image at d own
          ∙ ap (λ k. get_or image k d) place
      | inr later ↦
          let rest = at - cluster_bytes in
          let next : at / cluster_bytes ≡ suc (rest / cluster_bytes) = omega arith in
          let cluster : get_or (first ∷ clusters) (at / cluster_bytes) 0 ≡ get_or clusters (rest / cluster_bytes) 0 =
          ap (λ k. get_or (first ∷ clusters) k 0) next in
          let place : byte_address clusters rest ≡ byte_address (first ∷ clusters) at = omega (arith, cluster) in
          get_or-append_right run (owned_bytes clusters image) cluster_bytes at d size later ∙ get_or-owned clusters image rest d parts.1 (omega arith)
          ∙ ap (λ k. get_or image k d) place
    ]

-- the byte at the address of one of them is the owner's
pub address_owned : (clusters : List ℕ) (at : ℕ) → at < byte_count clusters → is_owned clusters (byte_address clusters at) ≡ true
address_owned clusters at lt =
    let cluster = get_or clusters (at / cluster_bytes) 0 in
    let own : cluster ≡ byte_address clusters at / cluster_bytes = omega arith in
    list_any_at (λ c. c == byte_address clusters at / cluster_bytes) clusters (at / cluster_bytes) 0 (omega arith)
    (eq-eqb cluster (byte_address clusters at / cluster_bytes) own)

pub address_reached : (clusters image : List ℕ) (at : ℕ) → reaches clusters image ≡ true → at < byte_count clusters → byte_address clusters at < length image
address_reached clusters image at long lt =
    let cluster = get_or clusters (at / cluster_bytes) 0 in
    let end = leb-true (cluster_bytes * (cluster + 1)) (length image)
    (all-get (λ (c : ℕ). nat_le (cluster_bytes * (c + 1)) (length image)) clusters (at / cluster_bytes) 0 long (omega arith)) in
    omega arith

pub reaches_same : (clusters old new : List ℕ) → length new ≡ length old → reaches clusters new ≡ reaches clusters old
reaches_same clusters old new size = ap (λ n. list_all (λ (cluster : ℕ). nat_le (cluster_bytes * (cluster + 1)) n) clusters) size

pub reaches_longer : (clusters old new : List ℕ) → length old ≤ length new → reaches clusters old ≡ true → reaches clusters new ≡ true
reaches_longer clusters old new longer long =
    all-weaker (λ (c : ℕ). nat_le (cluster_bytes * (c + 1)) (length old)) (λ (c : ℕ). nat_le (cluster_bytes * (c + 1)) (length new)) clusters
    (λ c is. let end = leb-true (cluster_bytes * (c + 1)) (length old) is in le-leb (cluster_bytes * (c + 1)) (length new) (omega arith)) long

-- ---- the bytes of extents

run-owned : (first count : ℕ) (image : List ℕ) → owned_bytes (numbers_from first count) image ≡ run_at (cluster_bytes * first) (cluster_bytes * count) image
run-owned first zero image = refl
run-owned first (suc count) image =
    let start = cluster_bytes * first in
    let more : cluster_bytes + cluster_bytes * count ≡ cluster_bytes * suc count = omega arith in
    let next : cluster_bytes * (first + 1) ≡ start + cluster_bytes = omega arith in
    ap (λ (l : List ℕ). run_at start cluster_bytes image ++ l)
    (run-owned (first + 1) count image ∙ ap (λ k. run_at k (cluster_bytes * count) image) next
    ∙ ap (take (cluster_bytes * count)) (sym (drop-drop cluster_bytes start image)))
    ∙ sym (take-add cluster_bytes (cluster_bytes * count) (drop start image)) ∙ ap (λ k. run_at start k image) more

pub bytes_of-owned : (extents : List Extent) (image : List ℕ) → bytes_of extents image ≡ owned_bytes (clusters_of extents) image
bytes_of-owned [] image = refl
bytes_of-owned (e ∷ extents) image =
    (λ i. sym (run-owned e.first e.count image) i ++ bytes_of-owned extents image i)
    ∙ sym (flat_map-append (λ (cluster : ℕ). run_at (cluster_bytes * cluster) cluster_bytes image) (numbers_from e.first e.count) (clusters_of extents))

-- the clusters of a run are reached where its end is
reaches_run : (first count : ℕ) (image : List ℕ) → cluster_bytes * (first + count) ≤ length image → reaches (numbers_from first count) image ≡ true
reaches_run first zero image long = refl
reaches_run first (suc count) image long =
    and_from (nat_le (cluster_bytes * (first + 1)) (length image)) (reaches (numbers_from (first + 1) count) image)
    (le-leb (cluster_bytes * (first + 1)) (length image) (omega arith)) (reaches_run (first + 1) count image (omega arith))

-- and those of extents, where their ends are
pub reaches_extents : (extents : List Extent) (image : List ℕ)
    → list_all (λ (e : Extent). nat_le (cluster_bytes * (e.first + e.count)) (length image)) extents ≡ true → reaches (clusters_of extents) image ≡ true
reaches_extents [] image long = refl
reaches_extents (e ∷ extents) image long =
    let end = cluster_bytes * (e.first + e.count) in
    let parts = and_parts (nat_le end (length image)) (list_all (λ (x : Extent). nat_le (cluster_bytes * (x.first + x.count)) (length image)) extents) long in
    list_all-append (λ (cluster : ℕ). nat_le (cluster_bytes * (cluster + 1)) (length image)) (numbers_from e.first e.count) (clusters_of extents)
    ∙ and_from (reaches (numbers_from e.first e.count) image) (reaches (clusters_of extents) image)
    (reaches_run e.first e.count image (leb-true end (length image) parts.0)) (reaches_extents extents image parts.1)

-- ---- the header's

-- its bytes are the first ones of the device
pub header-owned : (image : List ℕ) → owned_bytes (numbers_from 0 header_clusters) image ≡ run_at 0 header_bytes image
header-owned image = run-owned 0 header_clusters image

-- a byte of the device that is one of them
pub header_byte_at : (i : ℕ) (image : List ℕ) → i < header_bytes → get_or (owned_bytes (numbers_from 0 header_clusters) image) i 0 ≡ get_or image i 0
header_byte_at i image lt =
    let here : 0 + i ≡ i = omega arith in
    ap (λ (bytes : List ℕ). get_or bytes i 0) (header-owned image) ∙ get_or-run_at 0 header_bytes image i 0 lt ∙ ap (λ k. get_or image k 0) here

pub header_reached : (image : List ℕ) → header_bytes ≤ length image → reaches (numbers_from 0 header_clusters) image ≡ true
header_reached image long = reaches_run 0 header_clusters image long

-- a byte before their end is one of them, and one from there on is not
pub header_byte : (at : ℕ) → at < header_bytes → is_owned (numbers_from 0 header_clusters) at ≡ true
header_byte at before = any-numbers_from (at / cluster_bytes) 0 header_clusters
    ∙ and_from (nat_le 0 (at / cluster_bytes)) (nat_lt (at / cluster_bytes) header_clusters) (le-leb 0 (at / cluster_bytes) (omega arith))
    (lt-ltb (at / cluster_bytes) header_clusters (omega arith))

pub behind_header : (at : ℕ) → header_bytes ≤ at → is_owned (numbers_from 0 header_clusters) at ≡ false
behind_header at behind = any-numbers_from (at / cluster_bytes) 0 header_clusters
    ∙ (λ i. le-leb 0 (at / cluster_bytes) (omega arith) i && le-ltb (at / cluster_bytes) header_clusters (omega arith) i)

-- ---- steps on them

pub on_bytes_steps : (clusters : List ℕ) (S : List ℕ → List ℕ → Type 0) → IsSteps S → IsSteps (OnBytes clusters S)
on_bytes_steps clusters S steps = record {
  none = λ c. record { size = refl; elsewhere = λ at free. refl; bytes = steps.none (owned_bytes clusters c) };
  both = λ a b c first second. record {
    size = second.size ∙ first.size;
    elsewhere = λ at free. second.elsewhere at free ∙ first.elsewhere at free;
    bytes = steps.both (owned_bytes clusters a) (owned_bytes clusters b) (owned_bytes clusters c) first.bytes second.bytes;
  };
}

-- the same as another step
pub on_bytes_as : (clusters : List ℕ) (S R : List ℕ → List ℕ → Type 0) (old new : List ℕ)
    → (S (owned_bytes clusters old) (owned_bytes clusters new) → R (owned_bytes clusters old) (owned_bytes clusters new))
    → OnBytes clusters S old new → OnBytes clusters R old new
on_bytes_as clusters S R old new as_ step = record { size = step.size; elsewhere = step.elsewhere; bytes = as_ step.bytes }

-- a cluster that is not the owner's stays
cluster_kept : (clusters : List ℕ) (S : List ℕ → List ℕ → Type 0) (cluster : ℕ) (old new : List ℕ) → OnBytes clusters S old new
    → has_cluster clusters cluster ≡ false
    → run_at (cluster_bytes * cluster) cluster_bytes new ≡ run_at (cluster_bytes * cluster) cluster_bytes old
cluster_kept clusters S cluster old new step free =
    let start = cluster_bytes * cluster in
    let size = step.size in
    let of_new = length-take cluster_bytes (drop start new) in
    let of_old = length-take cluster_bytes (drop start old) in
    let rest_new = length-drop start new in
    let rest_old = length-drop start old in
    ext_get_or 0 (run_at start cluster_bytes new) (run_at start cluster_bytes old) (omega arith)
    (λ k below.
    let own : cluster ≡ (start + k) / cluster_bytes = omega arith in
    get_or-run_at start cluster_bytes new k 0 (omega arith) ∙ step.elsewhere (start + k) (ap (has_cluster clusters) (sym own) ∙ free)
    ∙ sym (get_or-run_at start cluster_bytes old k 0 (omega arith)))

-- the bytes of an owner stay where those of another are written
pub others_kept : (xs ys : List ℕ) (S : List ℕ → List ℕ → Type 0) (old new : List ℕ) → OnBytes xs S old new → ShareNone ys xs
    → owned_bytes ys new ≡ owned_bytes ys old
others_kept xs [] S old new step apart = refl
others_kept xs (y ∷ ys) S old new step apart =
    let own = cluster_kept xs S y old new step (apart y (or_left (y == y) (has_cluster ys y) (eq-eqb y y refl))) in
    let rest = others_kept xs ys S old new step (λ cluster has. apart cluster (or_right (y == cluster) (has_cluster ys cluster) has)) in
    λ i. own i ++ rest i

-- a second call behind a first one
pub then_bytes : (dev : ℕ) (S R : List ℕ → List ℕ → Type 0) (P Q : List ℕ → Type 0) (start mid new : View) → IsSteps S → Within dev S P start mid
    → Within dev R IsAny mid new
    → ((b c : List ℕ) → P b → R b c → S b c × Q c) → ((c : List ℕ) → P c → Q c) → Within dev S Q start new
then_bytes dev S R P Q start mid new steps first second to is =
    let before : (c : List ℕ) → Came dev S P start c → Came dev S Q start c = λ c a.
    record { image = a.image; was = a.was; step = a.step; now = is c a.now } in
    let came : (c : List ℕ) → Came dev R IsAny mid c → Came dev S Q start c = λ c a.
    let b = first.own a.image a.was in
    let stepped = to a.image c b.now a.step in
    record { image = b.image; was = b.was; step = steps.both b.image a.image c b.step stepped.0; now = stepped.1 } in
    record {
      later = omega (arith, first.later, second.later);
      own = λ c may. came c (second.own c may);
      others = λ d c ne may. first.others d c ne (second.others d c ne may);
      others_read = λ d ne. second.others_read d ne ∙ first.others_read d ne;
      streams = second.streams ∙ first.streams;
      pictures = λ t p le left. ⊎_elim
          (λ old. ⊎_elim (λ older. inl older) (λ a. inr (record { own = before (p.images dev) a.own; others = a.others; output = a.output }))
          (first.pictures t p le old))
          (λ a. inr (record {
            own = came (p.images dev) a.own;
            others = λ d ne. first.others d (p.images d) ne (a.others d ne);
            output = a.output ∙ ap (λ (s : Streams). s.output) first.streams;
          })) (second.pictures t p (omega (arith, le, first.later)) left);
    }
