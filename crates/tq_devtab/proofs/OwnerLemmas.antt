-- Who has which cluster of a device: the header, the spaces of its table, and a space that is to be entered.
use Rattle.std.proofs.Common.{◌≡◌, ◌≢◌, ◌<◌, ◌≤◌, inl, inr, ℕ, zero, suc, ◌+◌, ◌-◌, Bool, true, false, not, ◌||◌, List, [], ◌∷◌, length, get_or, Option, Some, None, refl, sym, ap, ◌∙◌, subst, arith}
use Rattle.std.specs.Prelude.{◌==◌, cond}
use Rattle.std.specs.List.{list_all, list_any, flat_map, sum_by}
use Rattle.std.proofs.lemmas.Bool.{and_parts, cases_lt, eqb-true, false_from_ne_true, not-true, or_left, or_right}
use Rattle.std.proofs.lemmas.Grind.{flat_map-append}
use Rattle.std.proofs.lemmas.List.Folds.{list_any-append}
use Rattle.std.proofs.lemmas.List.Sums.{sum_by-append, sum_by-cons}
use Rattle.tq_model.specs.declared.answer.Extent.{Extent}
use Rattle.tq_model.specs.Site.{Volume, SpaceOnDevice, spaces_on, present, header_clusters, numbers_from, covers, clusters_for, lowest_free, free_clusters}
use Rattle.tq_model.specs.Reading.{NamedSpace, no_two, overlap}
use Rattle.tq_extent.specs.Bytes.{has_cluster, ShareNone}
use Rattle.tq_extent.specs.Clusters.{new_clusters, is_free, free_in, clusters_of, are_distinct, can_claim, extents_on, IsOf}
use Rattle.tq_extent.proofs.ClusterLemmas.{all-at, length-with_mark, free-with_mark, owned-with_extents, lowest-free, lowest_free-is}
use Rattle.tq_extent.proofs.CountLemmas.{free_count-is, is_of-new, length-free_in, length-new, new-owned}
use Rattle.tq_extent.proofs.ExtentLemmas.{clusters_of-as_extents, length-clusters_of}
use Rattle.tq_extent.proofs.OwnerLemmas.{free_shares_none, no_two_shares_none, shared_alike}
use Rattle.tq_devtab.specs.Table.{extents_of, owned_by, entry_of, IsTable}
use Rattle.tq_devtab.specs.Volume.{TablePart, IsReserved, free_of, lowest_of}
use Rattle.tq_devtab.proofs.EntryLemmas.{table_parts}
use Rattle.tq_devtab.proofs.ListLemmas.{no_two-behind}
use Rattle.tq_devtab.proofs.TableLemmas.{claim_holds, extents-hold}

-- ---- the space of an ordinal has an entry

pub record HasEntry (ordinal : ℕ) (entries : List (Option NamedSpace)) (n : NamedSpace) : Type 0 where
  pub index : ℕ
  pub at : get_or entries index None ≡ Some n
  pub ordinal_is : n.ordinal ≡ ordinal

pub entry_place : (ordinal : ℕ) (entries : List (Option NamedSpace)) (n : NamedSpace) → entry_of ordinal entries ≡ Some n → HasEntry ordinal entries n
entry_place ordinal [] n found = absurd (cc)
entry_place ordinal (None ∷ entries) n found =
    let rest = entry_place ordinal entries n found in record { index = suc rest.index; at = rest.at; ordinal_is = rest.ordinal_is }
entry_place ordinal (Some m ∷ entries) n found = by_test (m.ordinal == ordinal) refl (entry_place ordinal entries n) found
  where
    by_test : (b : Bool) → (m.ordinal == ordinal) ≡ b → (entry_of ordinal entries ≡ Some n → HasEntry ordinal entries n)
        → cond b (Some m) (entry_of ordinal entries) ≡ Some n → HasEntry ordinal (Some m ∷ entries) n
    by_test true is later found =
        let same : m ≡ n = cc in
        record {
          index = zero;
          at = ap (λ (k : NamedSpace). Some k) same;
          ordinal_is = sym (ap (λ (k : NamedSpace). k.ordinal) same) ∙ eqb-true m.ordinal ordinal is;
        }
    by_test false is later found = let rest = later found in record { index = suc rest.index; at = rest.at; ordinal_is = rest.ordinal_is }

-- ---- spaces of one table

has-joined : (m : NamedSpace) (entries : List (Option NamedSpace)) (cluster : ℕ)
    → has_cluster (clusters_of (extents_of (Some m ∷ entries))) cluster
    ≡ (has_cluster (clusters_of m.extents) cluster || has_cluster (clusters_of (extents_of entries)) cluster)
has-joined m entries cluster =
    ap (λ (l : List ℕ). has_cluster l cluster) (flat_map-append (λ (e : Extent). numbers_from e.first e.count) m.extents (extents_of entries))
    ∙ list_any-append (λ c. c == cluster) (clusters_of m.extents) (clusters_of (extents_of entries))

-- a cluster of a space is one of those that all have
has-all : (entries : List (Option NamedSpace)) (i : ℕ) (n : NamedSpace) (cluster : ℕ) → get_or entries i None ≡ Some n
    → has_cluster (clusters_of n.extents) cluster ≡ true → has_cluster (clusters_of (extents_of entries)) cluster ≡ true
has-all [] i n cluster at has = absurd (cc)
has-all (None ∷ entries) zero n cluster at has = absurd (cc)
has-all (None ∷ entries) (suc i) n cluster at has = has-all entries i n cluster at has
has-all (Some m ∷ entries) zero n cluster at has =
    let same : n ≡ m = cc in
    has-joined m entries cluster ∙ or_left (has_cluster (clusters_of m.extents) cluster) (has_cluster (clusters_of (extents_of entries)) cluster)
    (subst (λ (k : NamedSpace). has_cluster (clusters_of k.extents) cluster ≡ true) same has)
has-all (Some m ∷ entries) (suc i) n cluster at has =
    has-joined m entries cluster ∙ or_right (has_cluster (clusters_of m.extents) cluster) (has_cluster (clusters_of (extents_of entries)) cluster)
    (has-all entries i n cluster at has)

-- what shares no cluster with all of them shares none with one
pub shares_none_of : (xs : List ℕ) (entries : List (Option NamedSpace)) (i : ℕ) (n : NamedSpace) → get_or entries i None ≡ Some n
    → ShareNone xs (clusters_of (extents_of entries)) → ShareNone xs (clusters_of n.extents)
shares_none_of xs entries i n at none cluster has =
    false_from_ne_true (has_cluster (clusters_of n.extents) cluster)
    (λ also. let other = none cluster has in let all = has-all entries i n cluster at also in absurd (cc))

earlier-shares_none : (entries : List (Option NamedSpace)) (i j : ℕ) (n m : NamedSpace) → no_two overlap (extents_of entries) ≡ true → i < j
    → get_or entries i None ≡ Some n → get_or entries j None ≡ Some m → ShareNone (clusters_of n.extents) (clusters_of m.extents)
earlier-shares_none [] i j n m apart lt at later = absurd (cc)
earlier-shares_none (o ∷ entries) i zero n m apart lt at later = absurd (omega arith)
earlier-shares_none (None ∷ entries) zero (suc j) n m apart lt at later = absurd (cc)
earlier-shares_none (Some k ∷ entries) zero (suc j) n m apart lt at later =
    let same : k ≡ n = cc in
    subst (λ (x : NamedSpace). ShareNone (clusters_of x.extents) (clusters_of m.extents)) same
    (shares_none_of (clusters_of k.extents) entries j m later (no_two_shares_none k.extents (extents_of entries) apart))
earlier-shares_none (None ∷ entries) (suc i) (suc j) n m apart lt at later = earlier-shares_none entries i j n m apart (omega arith) at later
earlier-shares_none (Some k ∷ entries) (suc i) (suc j) n m apart lt at later =
    earlier-shares_none entries i j n m (no_two-behind overlap k.extents (extents_of entries) apart) (omega arith) at later

module _ (next clusters size : ℕ) (entries : List (Option NamedSpace)) (table : IsTable next clusters size entries) where
  -- the spaces of two entries
  pub entries_share_none : (i j : ℕ) (n m : NamedSpace) → i ≢ j → get_or entries i None ≡ Some n → get_or entries j None ≡ Some m
      → ShareNone (clusters_of n.extents) (clusters_of m.extents)
  entries_share_none i j n m differ at also =
      let apart = (table_parts next clusters size entries table).apart in
      elim (cases_lt i j) [
        | inl before ↦ earlier-shares_none entries i j n m apart before at also
        | inr from ↦ shared_alike (clusters_of m.extents) (clusters_of n.extents) (earlier-shares_none entries j i m n apart (omega (arith, differ)) also at)
      ]

  -- the spaces of two ordinals
  pub spaces_share_none : (a b : ℕ) (n m : NamedSpace) → a ≢ b → entry_of a entries ≡ Some n → entry_of b entries ≡ Some m
      → ShareNone (clusters_of n.extents) (clusters_of m.extents)
  spaces_share_none a b n m differ found also =
      let p = entry_place a entries n found in
      let q = entry_place b entries m also in
      entries_share_none p.index q.index n m
      (λ same.
      let other : get_or entries p.index None ≡ Some m = ap (λ k. get_or entries k None) same ∙ q.at in
      let one : n ≡ m = let here = p.at in cc in
      differ (sym p.ordinal_is ∙ ap (λ (k : NamedSpace). k.ordinal) one ∙ q.ordinal_is)) p.at q.at

  module _ (le : header_clusters ≤ clusters) where
    -- all spaces may have their clusters
    pub table_claim : can_claim (clusters_of (extents_of entries)) (new_clusters clusters) ≡ true
    table_claim =
        let h = table_parts next clusters size entries table in
        claim_holds clusters size (extents_of entries) le (extents-hold next clusters size (present entries) h.each) h.apart

    -- a space and the header
    pub entry_beside_header : (i : ℕ) (n : NamedSpace) → get_or entries i None ≡ Some n → ShareNone (clusters_of n.extents) (numbers_from 0 header_clusters)
    entry_beside_header i n at =
        let all = clusters_of (extents_of entries) in
        let header = numbers_from 0 header_clusters in
        let free = (and_parts (list_all (λ k. is_free k (new_clusters clusters)) all) (are_distinct all) table_claim).0 in
        shared_alike header (clusters_of n.extents)
        (shares_none_of header entries i n at (shared_alike all header (free_shares_none all header (new_clusters clusters) free refl)))

-- ---- a space that is to be entered

module _ (d : TablePart) (count : ℕ) where
  abbrev owned : List Bool
  owned = owned_by d.clusters d.entries

  -- the lowest free clusters are no space's
  pub lowest_shares_none : ShareNone (lowest_of count d) (clusters_of (extents_of d.entries))
  lowest_shares_none cluster has =
      let all = clusters_of (extents_of d.entries) in
      let free = all-at (λ k. is_free k owned) (lowest_of count d) cluster (lowest-free count owned) has in
      not-true (has_cluster all cluster)
      (and_parts (is_free cluster (new_clusters d.clusters)) (not (has_cluster all cluster))
      (sym (free-with_mark all (new_clusters d.clusters) cluster) ∙ free)).1

  -- nor the header's
  pub lowest_beside_header : ShareNone (lowest_of count d) (numbers_from 0 header_clusters)
  lowest_beside_header = free_shares_none (lowest_of count d) (numbers_from 0 header_clusters) owned (lowest-free count owned) refl

module _ (d : TablePart) (n : NamedSpace) (is : IsReserved d n) where
  pub reserved_clusters : clusters_of n.extents ≡ lowest_of (clusters_for n.pages) d
  reserved_clusters = ap clusters_of is.extents ∙ clusters_of-as_extents (lowest_of (clusters_for n.pages) d)

  -- it and a space of the table
  pub reserved_shares_none : (i : ℕ) (m : NamedSpace) → get_or d.entries i None ≡ Some m → ShareNone (clusters_of n.extents) (clusters_of m.extents)
  reserved_shares_none i m at =
      subst (λ (l : List ℕ). ShareNone l (clusters_of m.extents)) (sym reserved_clusters)
      (shares_none_of (lowest_of (clusters_for n.pages) d) d.entries i m at (lowest_shares_none d (clusters_for n.pages)))

  -- it and the header
  pub reserved_beside_header : ShareNone (clusters_of n.extents) (numbers_from 0 header_clusters)
  reserved_beside_header =
      subst (λ (l : List ℕ). ShareNone l (numbers_from 0 header_clusters)) (sym reserved_clusters) (lowest_beside_header d (clusters_for n.pages))

-- ---- the volume that a table stands for

any-flat_map : {X : Type 0} (test : Extent → Bool) (f : X → List Extent) (xs : List X)
    → list_any test (flat_map f xs) ≡ list_any (λ x. list_any test (f x)) xs
any-flat_map test f [] = refl
any-flat_map test f (x ∷ xs) = list_any-append test (f x) (flat_map f xs) ∙ ap (λ b. list_any test (f x) || b) (any-flat_map test f xs)

sum-flat_map : {X : Type 0} (size : Extent → ℕ) (f : X → List Extent) (xs : List X) → sum_by size (flat_map f xs) ≡ sum_by (λ x. sum_by size (f x)) xs
sum-flat_map size f [] = refl
sum-flat_map size f (x ∷ xs) =
    let both = sum_by-append size (f x) (flat_map f xs) in
    let first = sum_by-cons (λ y. sum_by size (f y)) x xs in
    let rest = sum-flat_map size f xs in
    omega arith

or-false : (a : Bool) → (a || false) ≡ a
or-false true = refl
or-false false = refl

-- its owners are those of the table
pub table_owners : (v : Volume) (clusters : ℕ) (entries : List (Option NamedSpace)) → header_clusters ≤ clusters → v.clusters ≡ clusters
    → extents_on v ≡ extents_of entries → IsOf v (owned_by clusters entries)
table_owners v clusters entries le same extents = record {
  clusters = length-with_mark true (clusters_of (extents_of entries)) (new_clusters clusters) ∙ length-new clusters le ∙ sym same;
  taken = λ cluster from to.
      owned-with_extents (extents_of entries) (new_clusters clusters) cluster
      ∙ ap (λ b. list_any (covers cluster) (extents_of entries) || b) (new-owned clusters cluster from (omega (arith, to, same)))
      ∙ or-false (list_any (covers cluster) (extents_of entries)) ∙ ap (list_any (covers cluster)) (sym extents)
      ∙ any-flat_map (covers cluster) (λ (p : SpaceOnDevice). p.extents) (spaces_on v);
}

module _ (v : Volume) (d : TablePart) (same : v.clusters ≡ d.clusters) (extents : extents_on v ≡ extents_of d.entries) where
  -- as many clusters are free
  pub free_of-volume : free_of d ≡ free_clusters v
  free_of-volume =
      let count = λ (e : Extent). e.count in
      let taken = sym (sum-flat_map count (λ (n : NamedSpace). n.extents) (present d.entries)) ∙ ap (sum_by count) (sym extents)
      ∙ sum-flat_map count (λ (p : SpaceOnDevice). p.extents) (spaces_on v) in
      λ i. sym same i - (header_clusters + taken i)

  -- the lowest of them are the same
  pub lowest_of-volume : (count : ℕ) → header_clusters ≤ d.clusters → lowest_of count d ≡ lowest_free count v
  lowest_of-volume count le = lowest_free-is count v (owned_by d.clusters d.entries) (table_owners v d.clusters d.entries le same extents)

-- ---- how many clusters are free

abbrev pub taken_by : List NamedSpace → ℕ
taken_by spaces = sum_by (λ (n : NamedSpace). sum_by (λ (e : Extent). e.count) n.extents) spaces

-- the owners of a table leave as many as it says, and the header and the spaces have the others
pub free_count : (next size : ℕ) (d : TablePart) → header_clusters ≤ d.clusters → IsTable next d.clusters size d.entries
    → (length (free_in (owned_by d.clusters d.entries)) ≡ free_of d) × (header_clusters + taken_by (present d.entries) ≤ d.clusters)
free_count next size d le table =
    let all = extents_of d.entries in
    let new = new_clusters d.clusters in
    let bare : Volume = record { clusters = d.clusters; next_space = 1; entries = [] } in
    let none = free_count-is bare new le (is_of-new bare le refl) refl in
    let left = length-free_in (clusters_of all) new (table_claim next d.clusters size d.entries table le) in
    let taken = length-clusters_of all ∙ sum-flat_map (λ (e : Extent). e.count) (λ (n : NamedSpace). n.extents) (present d.entries) in
    let free : free_clusters bare ≡ d.clusters - header_clusters = refl in
    (omega arith, omega arith)
