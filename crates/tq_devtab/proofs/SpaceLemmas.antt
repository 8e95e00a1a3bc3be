-- The spaces of a table beside each other.
use Rattle.std.proofs.Common.{◌≡◌, ◌<◌, ◌≤◌, ℕ, ◌+◌, Bool, true, false, List, [], ◌∷◌, ◌++◌, length, get_or, drop, Option, Some, None, Result, Ok, Err, refl, sym, ap, ◌∙◌, arith}
use Rattle.std.specs.Prelude.{OnOk, OnErr, is_some, nat_lt}
use Rattle.std.specs.Result.{is_err}
use Rattle.std.proofs.lemmas.Grind.{flat_map-append}
use Rattle.std.proofs.lemmas.Bool.{lt-ltb}
use Rattle.std.proofs.lemmas.List.{drop_more}
use Rattle.tq_model.specs.declared.answer.Extent.{Extent}
use Rattle.tq_model.specs.Site.{numbers_from}
use Rattle.tq_extent.specs.Clusters.{clusters_of, can_claim, with_mark}
use Rattle.tq_extent.proofs.ClusterLemmas.{can_claim-append, cannot_claim-more, with_mark-append}
use Rattle.tq_devtab.specs.Table.{entries_view, extents_of}
use Rattle.tq_devtab.specs.TableParts.{spaces_of}
use Rattle.tq_devtab.specs.declared.entry.TableEntry.{TableEntry}

-- a result that is an error, or none
pub known_err : {T E : Type 0} (r : Result T E) (P : Type 0) → is_err r ≡ true → OnErr r P → P
known_err (Ok x) P is h = absurd (cc)
known_err (Err e) P is h = h

pub known_ok : {T E : Type 0} (r : Result T E) (P : Type 0) → is_err r ≡ false → OnOk r P → P
known_ok (Ok x) P is h = h
known_ok (Err e) P is h = absurd (cc)

-- the entries that are left begin with this space
pub next-space : (entries : List (Option TableEntry)) (i : ℕ) (item : Option TableEntry) (e : TableEntry) → i < length entries
    → item ≡ get_or entries i item → item ≡ Some e → drop i entries ≡ Some e ∷ drop (i + 1) entries
next-space entries i item e lt stands is = drop_more entries i item lt ∙ ap (λ (o : Option TableEntry). o ∷ drop (i + 1) entries) (sym stands ∙ is)

-- an entry that is not used, and how many are
spaces-most : (entries : List (Option TableEntry)) → length (spaces_of entries) ≤ length entries
spaces-most [] = omega arith
spaces-most (None ∷ entries) = let rest = spaces-most entries in omega arith
spaces-most (Some e ∷ entries) = let rest = spaces-most entries in omega arith

pub next-none : (entries : List (Option TableEntry)) (i : ℕ) (item : Option TableEntry) → i < length entries → item ≡ get_or entries i item → item ≡ None
    → drop i entries ≡ None ∷ drop (i + 1) entries
next-none entries i item lt stands is = drop_more entries i item lt ∙ ap (λ (o : Option TableEntry). o ∷ drop (i + 1) entries) (sym stands ∙ is)

pub next-unused : (entries : List (Option TableEntry)) (i : ℕ) (item : Option TableEntry) → i < length entries → item ≡ get_or entries i item
    → is_some item ≡ false → nat_lt (length (spaces_of (drop i entries))) (length (drop i entries)) ≡ true
next-unused entries i item lt stands unused =
    let rest = drop (i + 1) entries in
    let most = spaces-most rest in
    ap (λ (l : List (Option TableEntry)). nat_lt (length (spaces_of l)) (length l)) (next-none entries i item lt stands (none item unused))
    ∙ lt-ltb (length (spaces_of rest)) (length (None ∷ rest)) (omega arith)
  where
    none : (o : Option TableEntry) → is_some o ≡ false → o ≡ None
    none None unused = refl
    none (Some e) unused = absurd (cc)

-- ---- claims of one space after another

-- the clusters of all spaces
abbrev pub clusters_in : List (Option TableEntry) → List ℕ
clusters_in entries = clusters_of (extents_of (entries_view entries))

clusters_in-more : (e : TableEntry) (entries : List (Option TableEntry)) → clusters_in (Some e ∷ entries) ≡ clusters_of e.extents ++ clusters_in entries
clusters_in-more e entries = flat_map-append (λ (x : Extent). numbers_from x.first x.count) e.extents (extents_of (entries_view entries))

pub claim-more : (e : TableEntry) (entries : List (Option TableEntry)) (owned : List Bool) → can_claim (clusters_of e.extents) owned ≡ true
    → can_claim (clusters_in (Some e ∷ entries)) owned ≡ can_claim (clusters_in entries) (with_mark true (clusters_of e.extents) owned)
claim-more e entries owned claimed =
    ap (λ (l : List ℕ). can_claim l owned) (clusters_in-more e entries) ∙ can_claim-append (clusters_of e.extents) (clusters_in entries) owned claimed

pub claim-broken : (e : TableEntry) (entries : List (Option TableEntry)) (owned : List Bool) → can_claim (clusters_of e.extents) owned ≡ false
    → can_claim (clusters_in (Some e ∷ entries)) owned ≡ false
claim-broken e entries owned broken =
    ap (λ (l : List ℕ). can_claim l owned) (clusters_in-more e entries) ∙ cannot_claim-more (clusters_of e.extents) (clusters_in entries) owned broken

pub mark-more : (e : TableEntry) (entries : List (Option TableEntry)) (owned : List Bool)
    → with_mark true (clusters_in (Some e ∷ entries)) owned ≡ with_mark true (clusters_in entries) (with_mark true (clusters_of e.extents) owned)
mark-more e entries owned =
    ap (λ (l : List ℕ). with_mark true l owned) (clusters_in-more e entries) ∙ with_mark-append true (clusters_of e.extents) (clusters_in entries) owned
