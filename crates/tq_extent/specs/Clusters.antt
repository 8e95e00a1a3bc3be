-- Which clusters of a device have an owner: a list with a test for each cluster. Those of the header are the header's.
use Rattle.std.specs.Prelude.{◌≡◌, ℕ, ◌-◌, ◌<◌, ◌≤◌, ◌==◌, ◌&&◌, not, nat_le, Bool, true, false, List, ◌++◌, length, get_or, set, filter, fold, replicate}
use Rattle.std.specs.List.{list_all, flat_map}
use Rattle.tq_model.specs.declared.answer.Extent.{Extent}
use Rattle.tq_model.specs.Reading.{no_two}
use Rattle.tq_model.specs.Site.{Volume, SpaceOnDevice, spaces_on, header_clusters, least_clusters, most_clusters, is_taken, numbers_from}

-- the clusters of a device that has no spaces
abbrev pub new_clusters : ℕ → List Bool
new_clusters clusters = replicate header_clusters true ++ replicate (clusters - header_clusters) false

-- a cluster that a space may be given
abbrev pub is_free : ℕ → List Bool → Bool
is_free cluster owned = nat_le header_clusters cluster && not (get_or owned cluster true)

-- a cluster that was given
abbrev pub is_given : ℕ → List Bool → Bool
is_given cluster owned = nat_le header_clusters cluster && get_or owned cluster false

-- the free clusters from this one on, in their order
abbrev pub free_from : ℕ → List Bool → List ℕ
free_from first owned = filter (λ cluster. is_free cluster owned) (numbers_from first (length owned - first))

-- all free clusters, in their order
abbrev pub free_in : List Bool → List ℕ
free_in owned = free_from header_clusters owned

-- the clusters of extents, one extent after another
abbrev pub clusters_of : List Extent → List ℕ
clusters_of extents = flat_map (λ (e : Extent). numbers_from e.first e.count) extents

-- no cluster stands twice
abbrev pub are_distinct : List ℕ → Bool
are_distinct clusters = no_two (λ a b. a == b) clusters

-- an owner may have these: each is free, and none stands twice
abbrev pub can_claim : List ℕ → List Bool → Bool
can_claim clusters owned = list_all (λ cluster. is_free cluster owned) clusters && are_distinct clusters

-- the list with this test at each of these clusters
abbrev pub with_mark : Bool → List ℕ → List Bool → List Bool
with_mark mark clusters owned = fold (λ l cluster. set l cluster mark) owned clusters

-- the extents of all spaces of a volume
abbrev pub extents_on : Volume → List Extent
extents_on v = flat_map (λ (p : SpaceOnDevice). p.extents) (spaces_on v)

-- the owners are the spaces of this volume
pub record IsOf (v : Volume) (owned : List Bool) : Type 0 where
  pub clusters : length owned ≡ v.clusters
  pub taken : (cluster : ℕ) → header_clusters ≤ cluster → cluster < v.clusters → get_or owned cluster true ≡ is_taken v cluster

-- a device has 5 to 8,192 clusters
pub record HasClusters (owned : List Bool) : Type 0 where
  pub least : least_clusters ≤ length owned
  pub most : length owned ≤ most_clusters
