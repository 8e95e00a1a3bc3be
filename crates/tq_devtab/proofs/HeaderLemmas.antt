-- The header in the first bytes of an image.
use Rattle.std.proofs.Common.{◌≡◌, ◌≤◌, ℕ, ◌+◌, ◌&&◌, List, length, get_or, Option, Some, None, refl, sym, ◌∙◌, ap, arith}
use Rattle.std.specs.Prelude.{◌==◌, nat_le, nat_lt, codes, true}
use Rattle.std.specs.Str.{bytes_eq}
use Rattle.tq_host.specs.Calls.{HasBytesAt}
use Rattle.tq_model.specs.Site.{least_clusters, most_clusters}
use Rattle.tq_model.specs.DeviceForm.{raw_header}
use Rattle.tq_devtab.specs.declared.header.Header.{Header}
use Rattle.tq_devtab.specs.Device.{IsSameBelow}
use Rattle.tq_devtab.specs.Volume.{place_asked}
use Rattle.tq_devtab.specs.Header.{HasHeader, header_holds}
use Rattle.tq_devtab.proofs.SameByteLemmas.{run_kept, number_kept}

-- an image that begins with these bytes
module _ (start image : List ℕ) (size : length start ≡ 20) (long : 20 ≤ length image) (begins : HasBytesAt 0 start image) where
  same : IsSameBelow 20 start image
  same i lt = let e : i ≡ 0 + i = omega arith in ap (λ (k : ℕ). get_or image k 0) e ∙ begins i (omega (arith, size))

  device_same : (raw_header image).device ≡ (raw_header start).device
  device_same = same 8 (omega arith)

  site_same : (raw_header image).site ≡ (raw_header start).site
  site_same = number_kept 20 start image same (omega (arith, size)) long 12 4 (omega arith)

  clusters_same : (raw_header image).clusters ≡ (raw_header start).clusters
  clusters_same = number_kept 20 start image same (omega (arith, size)) long 16 4 (omega arith)

  asked_same : (place : Option ℕ) → place_asked place image ≡ place_asked place start
  asked_same None = device_same
  asked_same (Some place) = refl

  pub holds_same : (place : Option ℕ) → header_holds place image ≡ header_holds place start
  holds_same place =
      let mark = run_kept 20 start image same (omega (arith, size)) long 0 8 (omega arith) in
      λ i. nat_lt (asked_same place i) 8
      && (bytes_eq (mark i) (codes "TQDEV001")
      && ((device_same i == asked_same place i)
      && (nat_le 1 (site_same i) && ((nat_le least_clusters (clusters_same i) && nat_le (clusters_same i) most_clusters) && true))))

  pub has_header : (place : Option ℕ) (h : Header) → HasHeader place h start → HasHeader place h image
  has_header place h has = record {
    holds = holds_same place ∙ has.holds;
    place_is = has.place_is ∙ sym (asked_same place);
    site_is = has.site_is ∙ sym site_same;
    clusters_are = has.clusters_are ∙ sym clusters_same;
  }
