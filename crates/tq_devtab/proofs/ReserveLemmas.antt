-- Why a space gets a place in a table, and why it gets none.
use Rattle.std.proofs.Common.{◌≡◌, ◌<◌, ◌≤◌, ℕ, zero, suc, ◌&&◌, Bool, true, false, not, List, [], ◌∷◌, ◌++◌, length, get_or, Option, Some, None, Result, Ok, Err, subst, refl, sym, ap, ◌∙◌, arith}
use Rattle.std.specs.Prelude.{nat_lt, IfErr}
use Rattle.std.specs.Result.{IsErrAnd}
use Rattle.std.specs.List.{list_all}
use Rattle.std.specs.Str.{bytes_eq}
use Rattle.std.proofs.lemmas.Bool.{and_parts, and_from, ltb-true}
use Rattle.std.proofs.lemmas.Grind.{flat_map-append}
use Rattle.std.proofs.lemmas.List.{length-append}
use Rattle.std.proofs.lemmas.List.Folds.{list_all-append}
use Rattle.tq_model.specs.declared.answer.Extent.{Extent}
use Rattle.tq_model.specs.Site.{header_clusters, most_clusters, numbers_from, clusters_for, present}
use Rattle.tq_model.specs.Reading.{NamedSpace, no_two}
use Rattle.tq_extent.specs.Clusters.{clusters_of, new_clusters, are_distinct, can_claim}
use Rattle.tq_extent.specs.Pages.{page_count, AreMappable}
use Rattle.tq_extent.specs.TakeError.{IsCause}
use Rattle.tq_extent.specs.declared.clusters.TakeError.{TakeError}
use Rattle.tq_extent.specs.declared.clusters.TakeError.TheVariants.{Lack, NoMemory}
use Rattle.tq_extent.proofs.ClusterLemmas.{are_new, distinct-append}
use Rattle.tq_extent.proofs.CountLemmas.{claimed_mappable, length-new}
use Rattle.tq_extent.proofs.ExtentLemmas.{length-clusters_of}
use Rattle.tq_devtab.specs.Errors.{error_of_take, HasRoom, IsRefusal}
use Rattle.tq_devtab.specs.InMemory.{part_of}
use Rattle.tq_devtab.specs.declared.table.DeviceTable.{DeviceTable}
use Rattle.tq_devtab.specs.Table.{entries_view, extents_of, IsTable}
use Rattle.tq_devtab.specs.TableParts.{are_alike, spaces_of, go_together}
use Rattle.tq_devtab.specs.declared.entry.TableEntry.{TableEntry}
use Rattle.tq_devtab.specs.declared.error.ReserveError.TheVariants as errors
use Rattle.tq_devtab.specs.Volume.{TablePart, free_of}
use Rattle.tq_devtab.proofs.EntryLemmas.{entry_holds, entry_parts, same_name, same_ordinal, table_parts}
use Rattle.tq_devtab.proofs.NoTwoLemmas.{no_two-or}
use Rattle.tq_devtab.proofs.OwnerLemmas.{table_claim}
use Rattle.tq_devtab.proofs.SpellingLemmas.{length-views}
use Rattle.tq_devtab.proofs.TableLemmas.{all-present}

-- the spaces of a table go together
pub table_together : (next clusters size : ℕ) (entries : List (Option TableEntry)) → header_clusters ≤ clusters
    → IsTable next clusters size (entries_view entries) → go_together clusters entries ≡ true
table_together next clusters size entries le table =
    let h = table_parts next clusters size (entries_view entries) table in
    and_from (no_two are_alike (spaces_of entries)) (can_claim (clusters_of (extents_of (entries_view entries))) (new_clusters clusters))
    (no_two-or same_name same_ordinal (spaces_of entries)
    ∙ and_from (no_two same_name (spaces_of entries)) (no_two same_ordinal (spaces_of entries)) h.names h.ordinals)
    (table_claim next clusters size (entries_view entries) table le)

-- where enough are free, clusters are lacking for want of memory alone
pub cause_memory : (need free : ℕ) (e : TakeError) → need ≤ free → IsCause need free e → error_of_take e ≡ errors.NoMemory
cause_memory need free (Lack room) le is = let fewer = is.0 in absurd (omega arith)
cause_memory need free NoMemory le is = refl

-- an error that is given
pub given_err : {T E : Type 0} (r : Result T E) (e : E) (P : E → Type 0) → IsErrAnd r (λ x. x ≡ e) → P e → IfErr r P
given_err (Ok x) e P is p = tt
given_err (Err y) e P is p = subst P (sym is) p

-- ---- the pages of a space of a table

mappable-parts : (xs ys : List Extent) → AreMappable (xs ++ ys) → AreMappable xs × AreMappable ys
mappable-parts xs ys are =
    let a = clusters_of xs in
    let b = clusters_of ys in
    let joined = flat_map-append (λ (e : Extent). numbers_from e.first e.count) xs ys in
    let below = λ (cluster : ℕ). nat_lt cluster most_clusters in
    let within = and_parts (list_all below a) (list_all below b) (sym (list_all-append below a b) ∙ sym (ap (list_all below) joined) ∙ are.within) in
    let apart = are_new a b in
    let first = and_parts (are_distinct a) (are_distinct b && apart) (sym (distinct-append a b) ∙ sym (ap are_distinct joined) ∙ are.distinct) in
    let second = and_parts (are_distinct b) apart first.1 in
    let count = ap (λ (l : List ℕ). length l) joined ∙ length-append a b in
    let few = are.few in
    (record { within = within.0; few = omega arith; distinct = first.0 }, record { within = within.1; few = omega arith; distinct = second.0 })

mappable-space : (entries : List (Option NamedSpace)) (i : ℕ) (n : NamedSpace) → AreMappable (extents_of entries) → get_or entries i None ≡ Some n
    → AreMappable n.extents
mappable-space [] i n are at = absurd (cc)
mappable-space (None ∷ entries) zero n are at = absurd (cc)
mappable-space (None ∷ entries) (suc i) n are at = mappable-space entries i n are at
mappable-space (Some m ∷ entries) zero n are at =
    let same : m ≡ n = cc in
    subst (λ (k : NamedSpace). AreMappable k.extents) same (mappable-parts m.extents (extents_of entries) are).0
mappable-space (Some m ∷ entries) (suc i) n are at = mappable-space entries i n (mappable-parts m.extents (extents_of entries) are).1 at

module _ (next clusters size : ℕ) (entries : List (Option NamedSpace)) (i : ℕ) (n : NamedSpace) (table : IsTable next clusters size entries)
    (at : get_or entries i None ≡ Some n) where
  pub space_mappable : header_clusters ≤ clusters → clusters ≤ most_clusters → AreMappable n.extents
  space_mappable le most =
      let long = length-new clusters le in
      mappable-space entries i n
      (claimed_mappable (extents_of entries) (new_clusters clusters) (omega arith) (table_claim next clusters size entries table le)) at

  -- they are enough
  pub space_enough : n.pages ≤ page_count (clusters_of n.extents)
  space_enough =
      let holds = all-present (entry_holds next clusters size) entries i n (table_parts next clusters size entries table).each at in
      let count = length-clusters_of n.extents ∙ (entry_parts next clusters size n holds).count in
      omega arith

-- ---- what is judged before clusters are looked for

not-false : (b : Bool) → not b ≡ false → b ≡ true
not-false true e = refl
not-false false e = absurd (cc)

-- a space of that name and so many pages has room
pub record HasPlace (d : TablePart) (name : List ℕ) (pages : ℕ) : Type 0 where
  pub alone : list_all (λ (m : NamedSpace). not (bytes_eq name m.name)) (present d.entries) ≡ true
  pub room : HasRoom d
  pub enough : clusters_for pages ≤ free_of d

pub has_place : (t : DeviceTable) (name given : List ℕ) (pages need free : ℕ) (entries : List (Option TableEntry)) (found unused : Bool)
    → entries ≡ t.entries.items → given ≡ name
    → found ≡ not (list_all (λ (m : NamedSpace). not (bytes_eq given m.name)) (spaces_of entries)) → found ≡ false
    → unused ≡ nat_lt (length (spaces_of entries)) (length entries) → unused ≡ true
    → t.next < 268435455 → need ≡ clusters_for pages → free ≡ free_of (part_of t) → need ≤ free → HasPlace (part_of t) name pages
has_place t name given pages need free entries found unused same text is none has some below is_need is_free enough =
    let fewer = ltb-true (length (spaces_of entries)) (length entries) (sym has ∙ some) in
    let spaces = ap (λ (l : List (Option TableEntry)). length (spaces_of l)) same in
    let long = sym (length-views t.entries.items) ∙ t.table.count in
    let count = ap (λ (l : List (Option TableEntry)). length l) same in
    let all = not-false (list_all (λ (m : NamedSpace). not (bytes_eq given m.name)) (spaces_of entries)) (sym is ∙ none) in
    record {
      alone = (λ i. list_all (λ (m : NamedSpace). not (bytes_eq (sym text i) m.name)) (spaces_of (sym same i))) ∙ all;
      room = (omega arith, below);
      enough = omega arith;
    }

-- then only memory is lacking
pub lacks_memory : (d : TablePart) (name : List ℕ) (pages : ℕ) → HasPlace d name pages → IsRefusal d name pages errors.NoMemory
lacks_memory d name pages place = (ap not place.alone, place.room, place.enough)
