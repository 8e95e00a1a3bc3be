-- What a change of a table keeps: a space more, a space less, a space with more pages.
use Rattle.std.proofs.Common.{◌≡◌, ◌⊎◌, inl, inr, ◌<◌, ◌≤◌, ℕ, zero, suc, ◌+◌, ◌-◌, ◌*◌, ◌&&◌, ◌||◌, Bool, true, false, cond, not, List, [], ◌∷◌, ◌++◌, length, get_or, set, take, map, Option, Some, None, refl, sym, ap, ◌∙◌, subst, arith, append_assoc}
use Rattle.std.specs.Prelude.{◌==◌, nat_le, nat_lt, is_some, if◌then◌else◌}
use Rattle.std.specs.List.{list_all, list_any, flat_map}
use Rattle.std.specs.Cmp.{nat_eq_equiv}
use Rattle.std.specs.Cmp.Lexicographic.{nat_list_eq_equiv}
use Rattle.std.proofs.lemmas.Bool.{and_parts, and_from, leb-true, le-leb, ne_eqb, eq-eqb, eqb-true, not-true}
use Rattle.std.proofs.lemmas.List.{append-nil, ext_get_or, length-append, length-take}
use Rattle.std.proofs.lemmas.List.Elements.{filter_map-append}
use Rattle.std.proofs.lemmas.List.Folds.{list_all-append, list_any-append}
use Rattle.std.proofs.lemmas.Grind.{flat_map-append}
use Rattle.tq_model.specs.declared.answer.Extent.{Extent}
use Rattle.tq_model.specs.Names.{is_name}
use Rattle.tq_model.specs.Site.{present, header_clusters, most_clusters, most_pages, last_space, table_entries, clusters_for, covers, numbers_from, with_cluster, as_extents}
use Rattle.tq_model.specs.DeviceForm.{RawTable, raw_table, extents_start, table_bytes, cluster_bytes}
use Rattle.tq_model.specs.Reading.{NamedSpace, named_in, is_extent, overlap, no_two, hold_all, table_tests, entries_tests, used_entries}
use Rattle.tq_extent.specs.Clusters.{new_clusters, is_free, free_in, clusters_of, are_distinct, can_claim, with_mark}
use Rattle.tq_extent.proofs.ExtentLemmas.{length-numbers_from, numbers_from-append, length-clusters_of, any-clusters_of}
use Rattle.tq_extent.specs.Bytes.{has_cluster}
use Rattle.tq_extent.proofs.ClusterLemmas.{length-with_mark, get_or-with_mark, with_mark-append, with_mark-undone, can_claim-append, lowest-free, lowest-distinct}
use Rattle.tq_extent.proofs.CountLemmas.{length-free_in, free-most, length-new}
use Rattle.tq_extent.proofs.ClaimLemmas.{lies_within, can_claim-new}
use Rattle.tq_devtab.specs.Table.{extents_of, owned_by, raw_of, table_of, base_tests, IsBase, IsTable, with_entry, entry_of, changed_entry, without_entry, joined_extents, longer_space, with_longer, AreFree, IsNewSpace}
use Rattle.tq_devtab.proofs.ListLemmas.{all-weaker, all-inserted, no_two-inserted, no_two-moved, no_two-turned, no_two-behind}
use Rattle.tq_devtab.proofs.EntryLemmas.{entry_holds, entry_parts, parts_entry, table_parts, parts_table, same_name, same_ordinal}

-- ---- what is asked of an extent

abbrev has_clusters : Extent → Bool
has_clusters e = nat_le 1 e.count

abbrev reaches : ℕ → Extent → Bool
reaches size e = nat_le (cluster_bytes * (e.first + e.count)) size

extent-some : (clusters size : ℕ) (e : Extent) → is_extent clusters size e ≡ true → has_clusters e ≡ true
extent-some clusters size e is =
    (and_parts (has_clusters e) (nat_le header_clusters e.first) (and_parts (has_clusters e && nat_le header_clusters e.first) (nat_le (e.first + e.count) clusters && reaches size e) is).0).0

extent-lies : (clusters size : ℕ) (e : Extent) → is_extent clusters size e ≡ true → lies_within clusters e ≡ true
extent-lies clusters size e is =
    let parts = and_parts (has_clusters e && nat_le header_clusters e.first) (nat_le (e.first + e.count) clusters && reaches size e) is in
    and_from (nat_le header_clusters e.first) (nat_le (e.first + e.count) clusters) (and_parts (has_clusters e) (nat_le header_clusters e.first) parts.0).1
    (and_parts (nat_le (e.first + e.count) clusters) (reaches size e) parts.1).0

pub extent-reached : (clusters size : ℕ) (e : Extent) → is_extent clusters size e ≡ true → reaches size e ≡ true
extent-reached clusters size e is =
    let parts = and_parts (has_clusters e && nat_le header_clusters e.first) (nat_le (e.first + e.count) clusters && reaches size e) is in
    (and_parts (nat_le (e.first + e.count) clusters) (reaches size e) parts.1).1

are-extents : (clusters size : ℕ) (extents : List Extent) → list_all has_clusters extents ≡ true → list_all (lies_within clusters) extents ≡ true
    → list_all (reaches size) extents ≡ true
    → list_all (is_extent clusters size) extents ≡ true
are-extents clusters size [] some lie reached = refl
are-extents clusters size (e ∷ extents) some lie reached =
    let s = and_parts (has_clusters e) (list_all has_clusters extents) some in
    let l = and_parts (lies_within clusters e) (list_all (lies_within clusters) extents) lie in
    let r = and_parts (reaches size e) (list_all (reaches size) extents) reached in
    let own = and_parts (nat_le header_clusters e.first) (nat_le (e.first + e.count) clusters) l.0 in
    let rest = are-extents clusters size extents s.1 l.1 r.1 in
    λ i. ((s.0 i && own.0 i) && (own.1 i && r.0 i)) && rest i

-- the extents of spaces that pass their tests
pub extents-hold : (next clusters size : ℕ) (spaces : List NamedSpace) → list_all (entry_holds next clusters size) spaces ≡ true
    → list_all (is_extent clusters size) (flat_map (λ (n : NamedSpace). n.extents) spaces) ≡ true
extents-hold next clusters size [] all = refl
extents-hold next clusters size (n ∷ spaces) all =
    let parts = and_parts (entry_holds next clusters size n) (list_all (entry_holds next clusters size) spaces) all in
    let own = (entry_parts next clusters size n parts.0).extents in
    let rest = extents-hold next clusters size spaces parts.1 in
    list_all-append (is_extent clusters size) n.extents (flat_map (λ (m : NamedSpace). m.extents) spaces) ∙ (λ i. own i && rest i)

-- ---- claims

pub claim_holds : (clusters size : ℕ) (extents : List Extent) → header_clusters ≤ clusters → list_all (is_extent clusters size) extents ≡ true
    → no_two overlap extents ≡ true → can_claim (clusters_of extents) (new_clusters clusters) ≡ true
claim_holds clusters size extents le all apart =
    let some = all-weaker (is_extent clusters size) has_clusters extents (extent-some clusters size) all in
    let lie = all-weaker (is_extent clusters size) (lies_within clusters) extents (extent-lies clusters size) all in
    can_claim-new clusters extents le some ∙ (λ i. lie i && apart i)

clusters_of-append : (xs ys : List Extent) → clusters_of (xs ++ ys) ≡ clusters_of xs ++ clusters_of ys
clusters_of-append xs ys = flat_map-append (λ (e : Extent). numbers_from e.first e.count) xs ys

length-least : (extents : List Extent) → list_all has_clusters extents ≡ true → length extents ≤ length (clusters_of extents)
length-least [] some = omega arith
length-least (e ∷ extents) some =
    let parts = and_parts (has_clusters e) (list_all has_clusters extents) some in
    let one = leb-true 1 e.count parts.0 in
    let rest = length-least extents parts.1 in
    let count = length-numbers_from e.first e.count in
    let all = length-append (numbers_from e.first e.count) (clusters_of extents) in
    omega arith

-- extents of clusters of which none stands twice end within the base of a table
pub extents_fit : (clusters : ℕ) (extents : List Extent) → header_clusters ≤ clusters → clusters ≤ most_clusters
    → list_all (λ (e : Extent). nat_le 1 e.count) extents ≡ true
    → can_claim (clusters_of extents) (new_clusters clusters) ≡ true → extents_start + 4 * length extents ≤ table_bytes
extents_fit clusters extents le most some free =
    let count = length-free_in (clusters_of extents) (new_clusters clusters) free in
    let all = free-most (new_clusters clusters) in
    let size = length-new clusters le in
    let least = length-least extents some in
    omega arith

-- ---- marks

-- the same clusters in another order
with_mark-alike : (mark : Bool) (xs ys : List ℕ) (owned : List Bool) → ((k : ℕ) → has_cluster xs k ≡ has_cluster ys k) → with_mark mark xs owned ≡ with_mark mark ys owned
with_mark-alike mark xs ys owned same =
    let one = length-with_mark mark xs owned in
    let other = length-with_mark mark ys owned in
    ext_get_or false (with_mark mark xs owned) (with_mark mark ys owned) (one ∙ sym other)
    (λ k lt.
    let within : k < length owned = subst (λ (n : ℕ). k < n) one lt in
    get_or-with_mark mark xs owned k false within ∙ ap (λ b. cond b mark (get_or owned k false)) (same k) ∙ sym (get_or-with_mark mark ys owned k false within))

-- ---- a table with an entry that is not used, and with a space there

overlap-alike : (a b : Extent) → overlap a b ≡ overlap b a
overlap-alike a b = turned (nat_lt a.first (b.first + b.count)) (nat_lt b.first (a.first + a.count))
  where
    turned : (x y : Bool) → (x && y) ≡ (y && x)
    turned true true = refl
    turned true false = refl
    turned false true = refl
    turned false false = refl

-- a space that may have an entry beside these
record IsFitting (next clusters size : ℕ) (entries : List (Option NamedSpace)) (n : NamedSpace) : Type 0 where
  name : is_name n.name ≡ true
  alone : list_all (λ (m : NamedSpace). not (same_name n m)) (present entries) ≡ true
  ordinal_least : 1 ≤ n.ordinal
  ordinal_below : n.ordinal < next
  single : list_all (λ (m : NamedSpace). not (same_ordinal n m)) (present entries) ≡ true
  pages_least : 1 ≤ n.pages
  pages_most : n.pages ≤ most_pages
  extents : AreFree clusters size (clusters_for n.pages) entries n.extents

module _ (next clusters size : ℕ) (xs ys : List (Option NamedSpace)) (n : NamedSpace) (le : header_clusters ≤ clusters) where
  abbrev entries_less : List (Option NamedSpace)
  entries_less = xs ++ None ∷ ys

  abbrev entries_with : List (Option NamedSpace)
  entries_with = xs ++ Some n ∷ ys

  abbrev before : List Extent
  before = extents_of xs

  abbrev behind : List Extent
  behind = extents_of ys

  spaces-less : present entries_less ≡ present xs ++ present ys
  spaces-less = filter_map-append (λ (o : Option NamedSpace). o) xs (None ∷ ys)

  spaces-with : present entries_with ≡ present xs ++ n ∷ present ys
  spaces-with = filter_map-append (λ (o : Option NamedSpace). o) xs (Some n ∷ ys)

  extents-less : extents_of entries_less ≡ before ++ behind
  extents-less = ap (flat_map (λ (m : NamedSpace). m.extents)) spaces-less ∙ flat_map-append (λ (m : NamedSpace). m.extents) (present xs) (present ys)

  extents-with : extents_of entries_with ≡ before ++ (n.extents ++ behind)
  extents-with = ap (flat_map (λ (m : NamedSpace). m.extents)) spaces-with ∙ flat_map-append (λ (m : NamedSpace). m.extents) (present xs) (n ∷ present ys)

  -- the clusters of the space have an owner more
  owned-with : owned_by clusters entries_with ≡ with_mark true (clusters_of n.extents) (owned_by clusters entries_less)
  owned-with =
      let new = new_clusters clusters in
      ap (λ l. with_mark true (clusters_of l) new) extents-with
      ∙ with_mark-alike true (clusters_of (before ++ (n.extents ++ behind))) (clusters_of (before ++ behind) ++ clusters_of n.extents) new same
      ∙ with_mark-append true (clusters_of (before ++ behind)) (clusters_of n.extents) new
      ∙ ap (λ l. with_mark true (clusters_of n.extents) (with_mark true (clusters_of l) new)) (sym extents-less)
    where
      turned : (a b c : Bool) → (a || (b || c)) ≡ ((a || c) || b)
      turned true b c = refl
      turned false true true = refl
      turned false true false = refl
      turned false false true = refl
      turned false false false = refl

      same : (k : ℕ) → has_cluster (clusters_of (before ++ (n.extents ++ behind))) k ≡ has_cluster (clusters_of (before ++ behind) ++ clusters_of n.extents) k
      same k =
          any-clusters_of k (before ++ (n.extents ++ behind))
          ∙ list_any-append (covers k) before (n.extents ++ behind)
          ∙ ap (λ b. list_any (covers k) before || b) (list_any-append (covers k) n.extents behind)
          ∙ turned (list_any (covers k) before) (list_any (covers k) n.extents) (list_any (covers k) behind)
          ∙ ap (λ b. b || list_any (covers k) n.extents) (sym (list_any-append (covers k) before behind))
          ∙ sym (λ i. any-clusters_of k (before ++ behind) i || any-clusters_of k n.extents i)
          ∙ sym (list_any-append (λ c. c == k) (clusters_of (before ++ behind)) (clusters_of n.extents))

  -- the claim of all is that of the others, and then that of the space
  claim-with : can_claim (clusters_of (before ++ behind)) (new_clusters clusters) ≡ true
      → can_claim (clusters_of ((before ++ behind) ++ n.extents)) (new_clusters clusters) ≡ can_claim (clusters_of n.extents) (owned_by clusters entries_less)
  claim-with others =
      ap (λ l. can_claim l (new_clusters clusters)) (clusters_of-append (before ++ behind) n.extents)
      ∙ can_claim-append (clusters_of (before ++ behind)) (clusters_of n.extents) (new_clusters clusters) others
      ∙ ap (λ l. can_claim (clusters_of n.extents) (with_mark true (clusters_of l) (new_clusters clusters))) (sym extents-less)

  apart-with : no_two overlap (before ++ (n.extents ++ behind)) ≡ no_two overlap ((before ++ behind) ++ n.extents)
  apart-with = no_two-moved overlap before n.extents behind overlap-alike ∙ no_two-turned overlap n.extents (before ++ behind) overlap-alike

  table-with_entry : clusters ≤ most_clusters → IsTable next clusters size entries_less → IsFitting next clusters size entries_less n → IsTable next clusters size entries_with
  table-with_entry most table fits =
      let h = table_parts next clusters size entries_less table in
      let place = fits.extents in
      let all = before ++ behind in
      let sound = sym (ap (list_all (is_extent clusters size)) extents-less) ∙ extents-hold next clusters size (present entries_less) h.each in
      let apart = sym (ap (no_two overlap) extents-less) ∙ h.apart in
      let claim = claim-with (claim_holds clusters size all le sound apart) ∙ place.free in
      let some =
      list_all-append has_clusters all n.extents
      ∙ (λ i. all-weaker (is_extent clusters size) has_clusters all (extent-some clusters size) sound i && place.some i) in
      let parts =
      and_parts (list_all (lies_within clusters) (all ++ n.extents)) (no_two overlap (all ++ n.extents))
      (sym (can_claim-new clusters (all ++ n.extents) le some) ∙ claim) in
      let lie =
      and_parts (list_all (lies_within clusters) all) (list_all (lies_within clusters) n.extents)
      (sym (list_all-append (lies_within clusters) all n.extents) ∙ parts.0) in
      let own = parts_entry next clusters size n (record {
        name = fits.name;
        ordinal_least = fits.ordinal_least;
        ordinal_below = fits.ordinal_below;
        pages_least = fits.pages_least;
        pages_most = fits.pages_most;
        extents = are-extents clusters size n.extents place.some lie.1 place.reached;
        count = sym (length-clusters_of n.extents) ∙ place.count;
      }) in
      let ends = extents_fit clusters (all ++ n.extents) le most some claim in
      let total = length-append all n.extents in
      let others = length-append before behind in
      let inner = length-append n.extents behind in
      let outer = length-append before (n.extents ++ behind) in
      let total_with = ap (λ (l : List Extent). length l) extents-with in
      let first = length-append xs (None ∷ ys) in
      let second = length-append xs (Some n ∷ ys) in
      let count = h.count in
      let spaces = present xs ++ present ys in
      parts_table next clusters size entries_with (record {
        count = omega arith;
        next_least = h.next_least;
        next_most = h.next_most;
        ends = omega arith;
        each =
            ap (list_all (entry_holds next clusters size)) spaces-with ∙ all-inserted (entry_holds next clusters size) (present xs) n (present ys)
            ∙ (λ i. own i && (sym (ap (list_all (entry_holds next clusters size)) spaces-less) ∙ h.each) i);
        names =
            ap (no_two same_name) spaces-with ∙ no_two-inserted same_name (present xs) n (present ys) (λ a b. nat_list_eq_equiv.symm a.name b.name)
            ∙ (λ i. (sym (ap (list_all (λ (m : NamedSpace). not (same_name n m))) spaces-less) ∙ fits.alone) i && (sym (ap (no_two same_name) spaces-less) ∙ h.names) i);
        ordinals =
            ap (no_two same_ordinal) spaces-with ∙ no_two-inserted same_ordinal (present xs) n (present ys) (λ a b. nat_eq_equiv.symm a.ordinal b.ordinal)
            ∙ (λ i. (sym (ap (list_all (λ (m : NamedSpace). not (same_ordinal n m))) spaces-less) ∙ fits.single) i && (sym (ap (no_two same_ordinal) spaces-less) ∙ h.ordinals) i);
        apart = ap (no_two overlap) extents-with ∙ apart-with ∙ parts.1;
      })

  table-less_entry : IsTable next clusters size entries_with → IsTable next clusters size entries_less × IsFitting next clusters size entries_less n
  table-less_entry table =
      let h = table_parts next clusters size entries_with table in
      let all = before ++ behind in
      let test = entry_holds next clusters size in
      let spaces = present xs ++ present ys in
      let each =
      and_parts (test n) (list_all test spaces) (sym (all-inserted test (present xs) n (present ys)) ∙ sym (ap (list_all test) spaces-with) ∙ h.each) in
      let names =
      and_parts (list_all (λ (m : NamedSpace). not (same_name n m)) spaces) (no_two same_name spaces)
      (sym (no_two-inserted same_name (present xs) n (present ys) (λ a b. nat_list_eq_equiv.symm a.name b.name)) ∙ sym (ap (no_two same_name) spaces-with) ∙ h.names) in
      let ordinals =
      and_parts (list_all (λ (m : NamedSpace). not (same_ordinal n m)) spaces) (no_two same_ordinal spaces)
      (sym (no_two-inserted same_ordinal (present xs) n (present ys) (λ a b. nat_eq_equiv.symm a.ordinal b.ordinal)) ∙ sym (ap (no_two same_ordinal) spaces-with) ∙ h.ordinals) in
      let own = entry_parts next clusters size n each.0 in
      let others = ap (list_all test) spaces-less ∙ each.1 in
      let sound = sym (ap (list_all (is_extent clusters size)) extents-less) ∙ extents-hold next clusters size (present entries_less) others in
      let whole = sym (ap (no_two overlap) extents-with) ∙ h.apart in
      let apart = no_two-behind overlap n.extents all (sym (no_two-moved overlap before n.extents behind overlap-alike) ∙ whole) in
      let both = list_all-append (is_extent clusters size) all n.extents ∙ (λ i. sound i && own.extents i) in
      let free = sym (claim-with (claim_holds clusters size all le sound apart)) ∙ claim_holds clusters size (all ++ n.extents) le both (sym apart-with ∙ whole) in
      let ends = h.ends in
      let fewer = length-append before behind in
      let inner = length-append n.extents behind in
      let outer = length-append before (n.extents ++ behind) in
      let total_with = ap (λ (l : List Extent). length l) extents-with in
      let total_less = ap (λ (l : List Extent). length l) extents-less in
      let first = length-append xs (None ∷ ys) in
      let second = length-append xs (Some n ∷ ys) in
      let count = h.count in (
        parts_table next clusters size entries_less (record {
          count = omega arith;
          next_least = h.next_least;
          next_most = h.next_most;
          ends = omega arith;
          each = others;
          names = ap (no_two same_name) spaces-less ∙ names.1;
          ordinals = ap (no_two same_ordinal) spaces-less ∙ ordinals.1;
          apart = ap (no_two overlap) extents-less ∙ apart;
        }),
        record {
          name = own.name;
          alone = ap (list_all (λ (m : NamedSpace). not (same_name n m))) spaces-less ∙ names.0;
          ordinal_least = own.ordinal_least;
          ordinal_below = own.ordinal_below;
          single = ap (list_all (λ (m : NamedSpace). not (same_ordinal n m))) spaces-less ∙ ordinals.0;
          pages_least = own.pages_least;
          pages_most = own.pages_most;
          extents = record {
            some = all-weaker (is_extent clusters size) has_clusters n.extents (extent-some clusters size) own.extents;
            free = free;
            count = length-clusters_of n.extents ∙ own.count;
            reached = all-weaker (is_extent clusters size) (reaches size) n.extents (extent-reached clusters size) own.extents;
          };
        },
      )

-- ---- a later table of a longer device

later_table : (next later clusters size more : ℕ) (entries : List (Option NamedSpace)) → next ≤ later → later ≤ last_space → (size ≤ more) ⊎ (cluster_bytes * clusters ≤ more)
    → IsTable next clusters size entries → IsTable later clusters more entries
later_table next later clusters size more entries after most longer table =
    let h = table_parts next clusters size entries table in
    let least = h.next_least in
    parts_table later clusters more entries (record {
      count = h.count;
      next_least = omega arith;
      next_most = most;
      ends = h.ends;
      each = all-weaker (entry_holds next clusters size) (entry_holds later clusters more) (present entries) entry h.each;
      names = h.names;
      ordinals = h.ordinals;
      apart = h.apart;
    })
  where
    extent : (e : Extent) → is_extent clusters size e ≡ true → is_extent clusters more e ≡ true
    extent e is =
        let parts = and_parts (has_clusters e && nat_le header_clusters e.first) (nat_le (e.first + e.count) clusters && reaches size e) is in
        let end = and_parts (nat_le (e.first + e.count) clusters) (reaches size e) parts.1 in
        let within = leb-true (e.first + e.count) clusters end.0 in
        let reached = leb-true (cluster_bytes * (e.first + e.count)) size end.1 in
        let still = le-leb (cluster_bytes * (e.first + e.count)) more (elim longer [ inl bytes ↦ omega arith | inr all ↦ omega arith ]) in
        λ i. parts.0 i && (end.0 i && still i)

    entry : (n : NamedSpace) → entry_holds next clusters size n ≡ true → entry_holds later clusters more n ≡ true
    entry n holds =
        let is = entry_parts next clusters size n holds in
        let below = is.ordinal_below in
        parts_entry later clusters more n (record {
          name = is.name;
          ordinal_least = is.ordinal_least;
          ordinal_below = omega arith;
          pages_least = is.pages_least;
          pages_most = is.pages_most;
          extents = all-weaker (is_extent clusters size) (is_extent clusters more) n.extents extent is.extents;
          count = is.count;
        })

-- on a longer device it is a table too
pub table_longer : (next clusters size more : ℕ) (entries : List (Option NamedSpace)) → size ≤ more → IsTable next clusters size entries
    → IsTable next clusters more entries
table_longer next clusters size more entries longer table =
    let h = table_parts next clusters size entries table in
    later_table next next clusters size more entries (omega arith) h.next_most (inl longer) table

-- and on one that reaches to the end of all clusters
pub table_reached : (next clusters size more : ℕ) (entries : List (Option NamedSpace)) → cluster_bytes * clusters ≤ more → IsTable next clusters size entries
    → IsTable next clusters more entries
table_reached next clusters size more entries whole table =
    let h = table_parts next clusters size entries table in
    later_table next next clusters size more entries (omega arith) h.next_most (inr whole) table

-- ---- a space more

-- the lowest entry that is not used
record FreeEntry (entries : List (Option NamedSpace)) : Type 0 where
  before : List (Option NamedSpace)
  behind : List (Option NamedSpace)
  is : entries ≡ before ++ None ∷ behind
  with_is : (n : NamedSpace) → with_entry n entries ≡ before ++ Some n ∷ behind

find-free : (entries : List (Option NamedSpace)) → length (present entries) < length entries → FreeEntry entries
find-free [] room = absurd (omega arith)
find-free (None ∷ entries) room = record { before = []; behind = entries; is = refl; with_is = λ n. refl }
find-free (Some m ∷ entries) room =
    let rest = find-free entries (omega arith) in
    record {
      before = Some m ∷ rest.before;
      behind = rest.behind;
      is = ap (λ (l : List (Option NamedSpace)). Some m ∷ l) rest.is;
      with_is = λ n. ap (λ (l : List (Option NamedSpace)). Some m ∷ l) (rest.with_is n);
    }

pub with_space : (next clusters size : ℕ) (entries : List (Option NamedSpace)) (n : NamedSpace) → header_clusters ≤ clusters → clusters ≤ most_clusters
    → next < last_space → length (present entries) < table_entries
    → IsTable next clusters size entries → IsNewSpace next clusters size entries n
    → IsTable (next + 1) clusters size (with_entry n entries)
    × (owned_by clusters (with_entry n entries) ≡ with_mark true (clusters_of n.extents) (owned_by clusters entries))
with_space next clusters size entries n le most more room table new =
    let h = table_parts next clusters size entries table in
    let count = h.count in
    let least = h.next_least in
    let ordinal = new.ordinal in
    let at = find-free entries (omega arith) in
    let later = later_table next (next + 1) clusters size size entries (omega arith) (omega arith) (inl (omega arith)) table in
    let single = all-weaker (entry_holds next clusters size) (λ (m : NamedSpace). not (same_ordinal n m)) (present entries)
    (λ m holds.
    let below = (entry_parts next clusters size m holds).ordinal_below in
    ap not (ne_eqb n.ordinal m.ordinal (λ same. omega arith))) h.each in
    let fits : IsFitting (next + 1) clusters size entries n = record {
      name = new.name;
      alone = new.alone;
      ordinal_least = omega arith;
      ordinal_below = omega arith;
      single = single;
      pages_least = new.least;
      pages_most = new.most;
      extents = new.extents;
    } in (
      subst (IsTable (next + 1) clusters size) (sym (at.with_is n))
          (table-with_entry (next + 1) clusters size at.before at.behind n le most (subst (IsTable (next + 1) clusters size) at.is later) (subst (λ l. IsFitting (next + 1) clusters size l n) at.is fits)),
      ap (owned_by clusters) (at.with_is n) ∙ owned-with (next + 1) clusters size at.before at.behind n le
          ∙ ap (λ l. with_mark true (clusters_of n.extents) (owned_by clusters l)) (sym at.is),
    )

-- ---- a space less

-- the entry of a space
pub record SpaceEntry (ordinal : ℕ) (entries : List (Option NamedSpace)) (n : NamedSpace) : Type 0 where
  pub before : List (Option NamedSpace)
  pub behind : List (Option NamedSpace)
  pub is : entries ≡ before ++ Some n ∷ behind
  pub changed : (change : NamedSpace → Option NamedSpace) → changed_entry ordinal change entries ≡ before ++ change n ∷ behind

pub find-space : (ordinal : ℕ) (entries : List (Option NamedSpace)) (n : NamedSpace) → entry_of ordinal entries ≡ Some n → SpaceEntry ordinal entries n
find-space ordinal [] n found = absurd (cc)
find-space ordinal (None ∷ entries) n found =
    let rest = find-space ordinal entries n found in
    record {
      before = None ∷ rest.before;
      behind = rest.behind;
      is = ap (λ (l : List (Option NamedSpace)). None ∷ l) rest.is;
      changed = λ change. ap (λ (l : List (Option NamedSpace)). None ∷ l) (rest.changed change);
    }
find-space ordinal (Some m ∷ entries) n found = by_test (m.ordinal == ordinal) refl (find-space ordinal entries n) found
  where
    by_test : (b : Bool) → (m.ordinal == ordinal) ≡ b → (entry_of ordinal entries ≡ Some n → SpaceEntry ordinal entries n)
        → cond b (Some m) (entry_of ordinal entries) ≡ Some n → SpaceEntry ordinal (Some m ∷ entries) n
    by_test true is later found =
        let same : m ≡ n = cc in
        record {
          before = [];
          behind = entries;
          is = ap (λ (k : NamedSpace). Some k ∷ entries) same;
          changed =
              λ change. ap (λ b. if b then change m ∷ entries else Some m ∷ changed_entry ordinal change entries) is
              ∙ ap (λ (k : NamedSpace). change k ∷ entries) same;
        }
    by_test false is later found =
        let rest = later found in
        record {
          before = Some m ∷ rest.before;
          behind = rest.behind;
          is = ap (λ (l : List (Option NamedSpace)). Some m ∷ l) rest.is;
          changed = λ change.
              ap (λ b. if b then change m ∷ entries else Some m ∷ changed_entry ordinal change entries) is
              ∙ ap (λ (l : List (Option NamedSpace)). Some m ∷ l) (rest.changed change);
        }

claim-free : (taken : List ℕ) (owned : List Bool) → can_claim taken owned ≡ true → list_all (λ k. is_free k owned) taken ≡ true
claim-free taken owned claim = (and_parts (list_all (λ k. is_free k owned) taken) (are_distinct taken) claim).0

pub without_space : (next clusters size ordinal : ℕ) (entries : List (Option NamedSpace)) (n : NamedSpace) → header_clusters ≤ clusters
    → IsTable next clusters size entries → entry_of ordinal entries ≡ Some n
    → IsTable next clusters size (without_entry ordinal entries)
    × (owned_by clusters (without_entry ordinal entries) ≡ with_mark false (clusters_of n.extents) (owned_by clusters entries))
without_space next clusters size ordinal entries n le table found =
    let at = find-space ordinal entries n found in
    let both = table-less_entry next clusters size at.before at.behind n le (subst (IsTable next clusters size) at.is table) in
    let rest = owned_by clusters (at.before ++ None ∷ at.behind) in
    let taken = clusters_of n.extents in (
      subst (IsTable next clusters size) (sym (at.changed (λ m. None))) both.0,
      ap (owned_by clusters) (at.changed (λ m. None)) ∙ sym (with_mark-undone taken rest (claim-free taken rest both.1.extents.free))
          ∙ ap (with_mark false taken) (sym (owned-with next clusters size at.before at.behind n le) ∙ ap (owned_by clusters) (sym at.is)),
    )

-- ---- a space with more pages

clusters_of-joined_extents : (extents more : List Extent) → clusters_of (joined_extents extents more) ≡ clusters_of extents ++ clusters_of more
clusters_of-joined_extents [] more = refl
clusters_of-joined_extents (e ∷ []) [] = sym (append-nil (numbers_from e.first e.count ++ []))
clusters_of-joined_extents (e ∷ []) (x ∷ more) = by_test (e.first + e.count == x.first) refl
  where
    own : List ℕ
    own = numbers_from e.first e.count

    rest : List ℕ
    rest = numbers_from x.first x.count ++ clusters_of more

    by_test : (b : Bool) → (e.first + e.count == x.first) ≡ b
        → clusters_of (if b then record { first = e.first; count = e.count + x.count } ∷ more else e ∷ x ∷ more)
        ≡ (numbers_from e.first e.count ++ []) ++ (numbers_from x.first x.count ++ clusters_of more)
    by_test false is = ap (λ (l : List ℕ). l ++ rest) (sym (append-nil own))
    by_test true is =
        ap (λ (l : List ℕ). l ++ clusters_of more) (numbers_from-append e.first e.count x.count)
        ∙ append_assoc own (numbers_from (e.first + e.count) x.count) (clusters_of more)
        ∙ ap (λ k. own ++ (numbers_from k x.count ++ clusters_of more)) (eqb-true (e.first + e.count) x.first is)
        ∙ ap (λ (l : List ℕ). l ++ rest) (sym (append-nil own))
clusters_of-joined_extents (e ∷ d ∷ extents) more =
    ap (λ (l : List ℕ). numbers_from e.first e.count ++ l) (clusters_of-joined_extents (d ∷ extents) more)
    ∙ sym (append_assoc (numbers_from e.first e.count) (clusters_of (d ∷ extents)) (clusters_of more))

-- what holds of adjacent extents as one holds of all
all-joined_extents : (test : Extent → Bool) (extents more : List Extent)
    → ((e x : Extent) → test e ≡ true → test x ≡ true → e.first + e.count ≡ x.first → test (record { first = e.first; count = e.count + x.count }) ≡ true)
    → list_all test extents ≡ true → list_all test more ≡ true → list_all test (joined_extents extents more) ≡ true
all-joined_extents test [] more both all others = others
all-joined_extents test (e ∷ []) [] both all others = all
all-joined_extents test (e ∷ []) (x ∷ more) both all others = by_test (e.first + e.count == x.first) refl
  where
    by_test : (b : Bool) → (e.first + e.count == x.first) ≡ b
        → list_all test (if b then record { first = e.first; count = e.count + x.count } ∷ more else e ∷ x ∷ more) ≡ true
    by_test false is = let own = and_parts (test e) true all in λ i. own.0 i && others i
    by_test true is =
        let own = and_parts (test e) true all in
        let parts = and_parts (test x) (list_all test more) others in
        let one = both e x own.0 parts.0 (eqb-true (e.first + e.count) x.first is) in
        λ i. one i && parts.1 i
all-joined_extents test (e ∷ d ∷ extents) more both all others =
    let parts = and_parts (test e) (list_all test (d ∷ extents)) all in
    let rest = all-joined_extents test (d ∷ extents) more both parts.1 others in
    λ i. parts.0 i && rest i

joined-some : (e x : Extent) → has_clusters e ≡ true → has_clusters x ≡ true → e.first + e.count ≡ x.first
    → has_clusters (record { first = e.first; count = e.count + x.count }) ≡ true
joined-some e x some other adjacent = let least = leb-true 1 e.count some in le-leb 1 (e.count + x.count) (omega arith)

joined-reached : (size : ℕ) (e x : Extent) → reaches size e ≡ true → reaches size x ≡ true → e.first + e.count ≡ x.first
    → reaches size (record { first = e.first; count = e.count + x.count }) ≡ true
joined-reached size e x one other adjacent =
    let end = leb-true (cluster_bytes * (x.first + x.count)) size other in le-leb (cluster_bytes * (e.first + (e.count + x.count))) size (omega arith)

pub with_longer_space : (next clusters size ordinal pages : ℕ) (entries : List (Option NamedSpace)) (n : NamedSpace) (more : List Extent)
    → header_clusters ≤ clusters → clusters ≤ most_clusters
    → IsTable next clusters size entries → entry_of ordinal entries ≡ Some n → n.pages ≤ pages → pages ≤ most_pages
    → AreFree clusters size (clusters_for pages - clusters_for n.pages) entries more
    → IsTable next clusters size (with_longer ordinal pages more entries)
    × (owned_by clusters (with_longer ordinal pages more entries) ≡ with_mark true (clusters_of more) (owned_by clusters entries))
with_longer_space next clusters size ordinal pages entries n more le most table found no_fewer few added =
    let at = find-space ordinal entries n found in
    let both = table-less_entry next clusters size at.before at.behind n le (subst (IsTable next clusters size) at.is table) in
    let entries_less = at.before ++ None ∷ at.behind in
    let rest = owned_by clusters entries_less in
    let m = longer_space pages more n in
    let fits = both.1 in
    let place = fits.extents in
    let own = clusters_of n.extents in
    let further = clusters_of more in
    let owned : owned_by clusters entries ≡ with_mark true own rest = ap (owned_by clusters) at.is ∙ owned-with next clusters size at.before at.behind n le in
    let all = clusters_of-joined_extents n.extents more in
    let total = length-append own further in
    let whole = ap (λ (l : List ℕ). length l) all in
    let first = place.count in
    let second = added.count in
    let least = fits.pages_least in
    let fits_longer : IsFitting next clusters size entries_less m = record {
      name = fits.name;
      alone = fits.alone;
      ordinal_least = fits.ordinal_least;
      ordinal_below = fits.ordinal_below;
      single = fits.single;
      pages_least = omega arith;
      pages_most = few;
      extents = record {
        some = all-joined_extents has_clusters n.extents more joined-some place.some added.some;
        free = ap (λ (l : List ℕ). can_claim l rest) all ∙ can_claim-append own further rest place.free ∙ ap (can_claim further) (sym owned) ∙ added.free;
        count = omega arith;
        reached = all-joined_extents (reaches size) n.extents more (joined-reached size) place.reached added.reached;
      };
    } in (
      subst (IsTable next clusters size) (sym (at.changed (λ k. Some (longer_space pages more k))))
          (table-with_entry next clusters size at.before at.behind m le most both.0 fits_longer),
      ap (owned_by clusters) (at.changed (λ k. Some (longer_space pages more k))) ∙ owned-with next clusters size at.before at.behind m le
          ∙ ap (λ (l : List ℕ). with_mark true l rest) all ∙ with_mark-append true own further rest ∙ ap (with_mark true further) (sym owned),
    )

-- ---- clusters that were taken

pub as_extents-some : (taken : List ℕ) → list_all has_clusters (as_extents taken) ≡ true
as_extents-some [] = refl
as_extents-some (cluster ∷ taken) = first (as_extents taken) (as_extents-some taken)
  where
    first : (extents : List Extent) → list_all has_clusters extents ≡ true → list_all has_clusters (with_cluster cluster extents) ≡ true
    first [] all = refl
    first (e ∷ extents) all = by_test (cluster + 1 == e.first)
      where
        by_test : (b : Bool)
            → list_all has_clusters (if b then record { first = cluster; count = e.count + 1 } ∷ extents else record { first = cluster; count = 1 } ∷ e ∷ extents) ≡ true
        by_test false = all
        by_test true =
            let rest = and_parts (has_clusters e) (list_all has_clusters extents) all in
            let own = le-leb 1 (e.count + 1) (omega arith) in
            λ i. own i && rest.1 i

-- the extents of the lowest free clusters
pub taken_free : (clusters size need : ℕ) (entries : List (Option NamedSpace)) (extents : List Extent)
    → need ≤ length (free_in (owned_by clusters entries)) → extents ≡ as_extents (take need (free_in (owned_by clusters entries)))
    → clusters_of extents ≡ take need (free_in (owned_by clusters entries))
    → list_all (λ (e : Extent). nat_le (cluster_bytes * (e.first + e.count)) size) extents ≡ true → AreFree clusters size need entries extents
taken_free clusters size need entries extents enough are given reached =
    let owned = owned_by clusters entries in
    let taken = take need (free_in owned) in
    let free = lowest-free need owned in
    let distinct = lowest-distinct need owned in
    let count = length-take need (free_in owned) in
    let all = ap (λ (l : List ℕ). length l) given in
    record {
      some = ap (list_all has_clusters) are ∙ as_extents-some taken;
      free = ap (λ (l : List ℕ). can_claim l owned) given ∙ (λ i. free i && distinct i);
      count = omega arith;
      reached = reached;
    }

-- ---- a change by the place of the entry

-- the lowest entry that is not used stands behind used ones
pub with_entry-set : (n : NamedSpace) (entries : List (Option NamedSpace)) (i : ℕ) → i < length entries → get_or entries i None ≡ None
    → list_all (λ (o : Option NamedSpace). is_some o) (take i entries) ≡ true
    → with_entry n entries ≡ set entries i (Some n)
with_entry-set n [] i lt none used = absurd (omega arith)
with_entry-set n (None ∷ entries) zero lt none used = refl
with_entry-set n (None ∷ entries) (suc i) lt none used = absurd (cc)
with_entry-set n (Some m ∷ entries) zero lt none used = absurd (cc)
with_entry-set n (Some m ∷ entries) (suc i) lt none used =
    ap (λ (l : List (Option NamedSpace)). Some m ∷ l) (with_entry-set n entries i (omega arith) none used)

-- what holds of all spaces holds of one
pub all-present : (test : NamedSpace → Bool) (entries : List (Option NamedSpace)) (i : ℕ) (n : NamedSpace) → list_all test (present entries) ≡ true
    → get_or entries i None ≡ Some n → test n ≡ true
all-present test [] i n all at = absurd (cc)
all-present test (None ∷ entries) zero n all at = absurd (cc)
all-present test (None ∷ entries) (suc i) n all at = all-present test entries i n all at
all-present test (Some m ∷ entries) zero n all at =
    let same : m ≡ n = cc in
    subst (λ (k : NamedSpace). test k ≡ true) same (and_parts (test m) (list_all test (present entries)) all).0
all-present test (Some m ∷ entries) (suc i) n all at = all-present test entries i n (and_parts (test m) (list_all test (present entries)) all).1 at

at-place : (entries : List (Option NamedSpace)) (i : ℕ) (n : NamedSpace) (change : NamedSpace → Option NamedSpace)
    → no_two same_ordinal (present entries) ≡ true → get_or entries i None ≡ Some n
    → (entry_of n.ordinal entries ≡ Some n) × (changed_entry n.ordinal change entries ≡ set entries i (change n))
at-place [] i n change single at = absurd (cc)
at-place (None ∷ entries) zero n change single at = absurd (cc)
at-place (None ∷ entries) (suc i) n change single at =
    let rest = at-place entries i n change single at in (rest.0, ap (λ (l : List (Option NamedSpace)). None ∷ l) rest.1)
at-place (Some m ∷ entries) zero n change single at =
    let same : m ≡ n = cc in
    let found : (m.ordinal == n.ordinal) ≡ true = eq-eqb m.ordinal n.ordinal (ap (λ (k : NamedSpace). k.ordinal) same) in (
      ap (λ b. cond b (Some m) (entry_of n.ordinal entries)) found ∙ ap (λ (k : NamedSpace). Some k) same,
      ap (λ b. if b then change m ∷ entries else Some m ∷ changed_entry n.ordinal change entries) found ∙ ap (λ (k : NamedSpace). change k ∷ entries) same,
    )
at-place (Some m ∷ entries) (suc i) n change single at =
    let parts = and_parts (list_all (λ (k : NamedSpace). not (same_ordinal m k)) (present entries)) (no_two same_ordinal (present entries)) single in
    let other = not-true (m.ordinal == n.ordinal) (all-present (λ (k : NamedSpace). not (same_ordinal m k)) entries i n parts.0 at) in
    let rest = at-place entries i n change parts.1 at in (
      ap (λ b. cond b (Some m) (entry_of n.ordinal entries)) other ∙ rest.0,
      ap (λ b. if b then change m ∷ entries else Some m ∷ changed_entry n.ordinal change entries) other
          ∙ ap (λ (l : List (Option NamedSpace)). Some m ∷ l) rest.1,
    )

-- the space in an entry of a table is the one of its ordinal, and is changed there
pub changed_entry-set : (next clusters size : ℕ) (entries : List (Option NamedSpace)) (i : ℕ) (n : NamedSpace) (change : NamedSpace → Option NamedSpace)
    → IsTable next clusters size entries → get_or entries i None ≡ Some n
    → (entry_of n.ordinal entries ≡ Some n) × (changed_entry n.ordinal change entries ≡ set entries i (change n))
changed_entry-set next clusters size entries i n change table at = at-place entries i n change (table_parts next clusters size entries table).ordinals at

-- ---- a base that spells a table

pub named-raw : (entries : List (Option NamedSpace)) → map named_in (map raw_of entries) ≡ entries
named-raw [] = refl
named-raw (None ∷ entries) = ap (λ (l : List (Option NamedSpace)). None ∷ l) (named-raw entries)
named-raw (Some n ∷ entries) = ap (λ (l : List (Option NamedSpace)). Some n ∷ l) (named-raw entries)

-- it passes the tests of a base, and says what was spelt
pub encode_decode : (next clusters size : ℕ) (entries : List (Option NamedSpace)) (base : List ℕ) → length base ≡ table_bytes
    → raw_table 0 base ≡ table_of next entries → IsTable next clusters size entries
    → (hold_all (base_tests clusters size base) ≡ true) × IsBase next entries base
encode_decode next clusters size entries base long spelt table =
    let tests = λ (t : RawTable). hold_all (table_tests t ++ entries_tests t.next clusters size (used_entries t)) in (
      ap tests spelt
          ∙ list_all-append (λ test. test) (table_tests (table_of next entries)) (entries_tests next clusters size (used_entries (table_of next entries)))
          ∙ (λ i. table.table i && table.each i),
      record {
        size = long;
        next_is = ap (λ (t : RawTable). t.next) spelt;
        entries_are = ap (λ (t : RawTable). map named_in t.entries) spelt ∙ named-raw entries;
      },
    )
