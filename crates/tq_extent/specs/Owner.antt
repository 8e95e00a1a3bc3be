-- The clusters of a map.
use Rattle.std.specs.Prelude.{ℕ, List}
use Rattle.tq_model.specs.Site.{header_clusters, numbers_from}
use Rattle.tq_extent.specs.declared.pages.Owner.{Owner}
use Rattle.tq_extent.specs.declared.pages.Owner.TheVariants.{Header, Space}

abbrev pub owner_clusters : Owner → List ℕ
owner_clusters Header = numbers_from 0 header_clusters
owner_clusters (Space clusters) = clusters.items
