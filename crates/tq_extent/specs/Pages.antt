-- The pages of an owner: 32 in each of its clusters, in their order.
use Rattle.std.specs.Prelude.{◌≡◌, ℕ, ◌+◌, ◌*◌, ◌/◌, ◌%◌, ◌<◌, ◌≤◌, ◌⊎◌, not, nat_lt, Bool, true, List, length, get_or}
use Rattle.std.specs.List.{list_all}
use Rattle.tq_model.specs.declared.answer.Extent.{Extent}
use Rattle.tq_model.specs.DeviceForm.{cluster_bytes, page_bytes}
use Rattle.tq_model.specs.Site.{most_clusters}
use Rattle.tq_extent.specs.Clusters.{clusters_of, are_distinct, is_free}

-- how many pages so many clusters have
abbrev pub page_count : List ℕ → ℕ
page_count clusters = 32 * length clusters

-- the byte of the device at which a page begins
abbrev pub page_address : List ℕ → ℕ → ℕ
page_address clusters page = cluster_bytes * get_or clusters (page / 32) 0 + page_bytes * (page % 32)

-- two pages that begin at these bytes share none
abbrev pub AreApart : ℕ → ℕ → Type 0
AreApart a b = (a + page_bytes ≤ b) ⊎ (b + page_bytes ≤ a)

-- no page of these clusters shares a byte with a page of those
abbrev pub HavePagesApart : List ℕ → List ℕ → Type 0
HavePagesApart xs ys = (p q : ℕ) → p < page_count xs → q < page_count ys → AreApart (page_address xs p) (page_address ys q)

-- none of these clusters is free: they are the header's, or were given, or are not of the device
abbrev pub are_others : List ℕ → List Bool → Bool
are_others clusters owned = list_all (λ cluster. not (is_free cluster owned)) clusters

-- extents that an owner may have, on some device
pub record AreMappable (extents : List Extent) : Type 0 where
  pub within : list_all (λ cluster. nat_lt cluster most_clusters) (clusters_of extents) ≡ true
  pub few : length (clusters_of extents) ≤ most_clusters
  pub distinct : are_distinct (clusters_of extents) ≡ true

-- the pages of a map
pub record HasPages (clusters : List ℕ) : Type 0 where
  pub within : list_all (λ cluster. nat_lt cluster most_clusters) clusters ≡ true
  pub few : length clusters ≤ most_clusters
  pub distinct : are_distinct clusters ≡ true
