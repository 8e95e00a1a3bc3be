-- The bytes of an owner: those of its clusters, one cluster after another. An object on a device is spoken of in the bytes of its
-- owner, and a step of it leaves all other bytes of the device.
use Rattle.std.specs.Prelude.{◌≡◌, ℕ, ◌+◌, ◌*◌, ◌/◌, ◌%◌, ◌==◌, nat_le, Bool, true, false, List, length, get_or}
use Rattle.std.specs.List.{list_all, list_any, flat_map}
use Rattle.tq_field.specs.Places.{run_at}
use Rattle.tq_host.specs.View.{View}
use Rattle.tq_host.specs.Calls.{IsStill}
use Rattle.tq_host.specs.Within.{Within, KeepsRest}
use Rattle.tq_model.specs.DeviceForm.{cluster_bytes}

-- how many bytes so many clusters have
abbrev pub byte_count : List ℕ → ℕ
byte_count clusters = cluster_bytes * length clusters

abbrev pub owned_bytes : List ℕ → List ℕ → List ℕ
owned_bytes clusters image = flat_map (λ (cluster : ℕ). run_at (cluster_bytes * cluster) cluster_bytes image) clusters

-- the byte of the device that is the owner's at this place
abbrev pub byte_address : List ℕ → ℕ → ℕ
byte_address clusters at = cluster_bytes * get_or clusters (at / cluster_bytes) 0 + at % cluster_bytes

abbrev pub has_cluster : List ℕ → ℕ → Bool
has_cluster clusters cluster = list_any (λ c. c == cluster) clusters

-- whether this byte of the device is the owner's
abbrev pub is_owned : List ℕ → ℕ → Bool
is_owned clusters at = has_cluster clusters (at / cluster_bytes)

-- the device reaches to the end of these clusters
abbrev pub reaches : List ℕ → List ℕ → Bool
reaches clusters image = list_all (λ (cluster : ℕ). nat_le (cluster_bytes * (cluster + 1)) (length image)) clusters

-- no cluster is of both
abbrev pub ShareNone : List ℕ → List ℕ → Type 0
ShareNone xs ys = (cluster : ℕ) → has_cluster xs cluster ≡ true → has_cluster ys cluster ≡ false

-- A step on the bytes of an owner, which leaves all else of the device.
pub record OnBytes (clusters : List ℕ) (S : List ℕ → List ℕ → Type 0) (old new : List ℕ) : Type 0 where
  pub size : length new ≡ length old
  pub elsewhere : (at : ℕ) → is_owned clusters at ≡ false → get_or new at 0 ≡ get_or old at 0
  pub bytes : S (owned_bytes clusters old) (owned_bytes clusters new)

-- What is no step, and what says nothing of an image.
abbrev pub IsSame : List ℕ → List ℕ → Type 0
IsSame old new = new ≡ old

abbrev pub IsAny : List ℕ → Type 0
IsAny image = Unit {0}

-- From old to new nothing is written: each image, in each picture, is one of the start.
pub record IsQuiet (dev : ℕ) (old new : View) : Type 0 where
  pub rest : KeepsRest dev old new
  pub still : IsStill old new
  pub stop : Within dev IsSame IsAny old new

-- each image that a stop may leave of the device reaches to the end of these clusters
abbrev pub AllReach : ℕ → List ℕ → View → Type 0
AllReach dev clusters v = (image : List ℕ) → v.may_leave dev image → reaches clusters image ≡ true
