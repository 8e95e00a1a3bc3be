-- The tests of a table, from the parts of them that are judged one after another.
use Rattle.std.proofs.Common.{◌≡◌, ◌≤◌, ◌&&◌, ℕ, ◌+◌, ◌*◌, Bool, true, false, cond, List, [], ◌∷◌, length, Option, Some, None, refl, sym, ap, ◌∙◌}
use Rattle.std.specs.Prelude.{nat_le, nat_lt, if◌then◌else◌, ◌==◌, map, filter, codes}
use Rattle.std.specs.List.{list_all, sum_by, flat_map, cons_option}
use Rattle.std.specs.Str.{bytes_eq}
use Rattle.std.proofs.lemmas.Bool.{and_parts, and_from}
use Rattle.std.proofs.lemmas.List.Folds.{list_all-append, flat_map-map}
use Rattle.tq_model.specs.declared.answer.Extent.{Extent}
use Rattle.tq_model.specs.Names.{is_name}
use Rattle.tq_model.specs.Site.{present, last_space, most_pages, clusters_for, header_clusters}
use Rattle.tq_model.specs.DeviceForm.{RawEntry, raw_table, extents_start, table_bytes, cluster_bytes}
use Rattle.tq_model.specs.Reading.{NamedSpace, named_in, is_used, used_entries, is_extent, overlap, no_two, hold_all}
use Rattle.tq_extent.specs.Clusters.{clusters_of, new_clusters, can_claim}
use Rattle.tq_extent.proofs.ClaimLemmas.{lies_within, can_claim-new}
use Rattle.tq_devtab.specs.Table.{entries_view, extents_of, base_tests}
use Rattle.tq_devtab.specs.TableParts.{is_headed, is_counted, is_numbered, has_clusters, entry_holds, each_holds, are_alike, go_together}
use Rattle.tq_devtab.specs.declared.entry.TableEntry.{TableEntry}
use Rattle.tq_devtab.proofs.ListLemmas.{all-weaker}
use Rattle.tq_devtab.proofs.NoTwoLemmas.{no_two-map, no_two-or}

-- ---- an entry by itself

-- where the name and the numbers of an entry are right, its clusters decide
clusters_decide : (next clusters size : ℕ) (e : RawEntry) → is_name e.name ≡ true → is_numbered next e.ordinal e.pages ≡ true
    → entry_holds next clusters size e ≡ has_clusters clusters size e.pages e.extents
clusters_decide next clusters size e named numbered =
    five (is_name e.name) (nat_le 1 e.ordinal && nat_lt e.ordinal next) (nat_le 1 e.pages && nat_le e.pages most_pages)
    (list_all (is_extent clusters size) e.extents) (sum_by (λ (x : Extent). x.count) e.extents == clusters_for e.pages) named numbered
  where
    five : (name ordinal pages extents count : Bool) → name ≡ true → (ordinal && pages) ≡ true
        → hold_all (name ∷ ordinal ∷ pages ∷ extents ∷ count ∷ []) ≡ (extents && count)
    five true true true true true named numbered = refl
    five true true true true false named numbered = refl
    five true true true false count named numbered = refl
    five true true false extents count named numbered = absurd (cc)
    five true false pages extents count named numbered = absurd (cc)
    five false ordinal pages extents count named numbered = absurd (cc)

-- the same of what is read of the entry
pub entry_judged : (next clusters size : ℕ) (e : RawEntry) (name : List ℕ) (ordinal pages : ℕ) (extents : List Extent)
    → Some name ≡ (if is_name e.name then Some e.name else None) → ordinal ≡ e.ordinal → pages ≡ e.pages → extents ≡ e.extents
    → is_numbered next ordinal pages ≡ true → entry_holds next clusters size e ≡ has_clusters clusters size pages extents
entry_judged next clusters size e name ordinal pages extents read is_ordinal is_pages are_extents numbered =
    clusters_decide next clusters size e (chosen (is_name e.name) read) ((λ i. is_numbered next (sym is_ordinal i) (sym is_pages i)) ∙ numbered)
    ∙ (λ i. has_clusters clusters size (sym is_pages i) (sym are_extents i))
  where
    chosen : (b : Bool) → Some name ≡ (if b then Some e.name else None) → b ≡ true
    chosen true is = refl
    chosen false is = absurd (cc)

-- an entry that holds has extents of the device
holding-extents : (next clusters size : ℕ) (e : RawEntry) → entry_holds next clusters size e ≡ true → list_all (is_extent clusters size) e.extents ≡ true
holding-extents next clusters size e holds =
    fourth (is_name e.name) (nat_le 1 e.ordinal && nat_lt e.ordinal next) (nat_le 1 e.pages && nat_le e.pages most_pages)
    (list_all (is_extent clusters size) e.extents) (sum_by (λ (x : Extent). x.count) e.extents == clusters_for e.pages) holds
  where
    fourth : (name ordinal pages extents count : Bool) → hold_all (name ∷ ordinal ∷ pages ∷ extents ∷ count ∷ []) ≡ true → extents ≡ true
    fourth true true true true count holds = refl
    fourth true true true false count holds = holds
    fourth true true false extents count holds = absurd (cc)
    fourth true false pages extents count holds = absurd (cc)
    fourth false ordinal pages extents count holds = absurd (cc)

-- an extent of the device has clusters, and lies within it
extent-parts : (clusters size : ℕ) (e : Extent) → is_extent clusters size e ≡ true → (nat_le 1 e.count ≡ true) × (lies_within clusters e ≡ true)
extent-parts clusters size e holds =
    let parts = and_parts (nat_le 1 e.count && nat_le header_clusters e.first) (nat_le (e.first + e.count) clusters && nat_le (cluster_bytes * (e.first + e.count)) size) holds in
    let start = and_parts (nat_le 1 e.count) (nat_le header_clusters e.first) parts.0 in
    let end = and_parts (nat_le (e.first + e.count) clusters) (nat_le (cluster_bytes * (e.first + e.count)) size) parts.1 in
    (start.0, and_from (nat_le header_clusters e.first) (nat_le (e.first + e.count) clusters) start.1 end.0)

-- ---- the used entries together

-- no two of these entries have one name, no two one ordinal, and no two of their extents overlap
abbrev names_apart : List RawEntry → Bool
names_apart entries = no_two (λ (a : RawEntry) (b : RawEntry). bytes_eq a.name b.name) entries

abbrev ordinals_apart : List RawEntry → Bool
ordinals_apart entries = no_two (λ (a : RawEntry) (b : RawEntry). a.ordinal == b.ordinal) entries

abbrev extents_apart : List RawEntry → Bool
extents_apart entries = no_two overlap (flat_map (λ (e : RawEntry). e.extents) entries)

-- a used entry as a space
abbrev named : RawEntry → NamedSpace
named e = record { name = e.name; ordinal = e.ordinal; pages = e.pages; extents = e.extents }

present-named : (entries : List RawEntry) → present (map named_in entries) ≡ map named (filter is_used entries)
present-named [] = refl
present-named (e ∷ entries) = by_use (is_used e) (present-named entries)
  where
    by_use : (used : Bool) → present (map named_in entries) ≡ map named (filter is_used entries)
        → cons_option (if used then Some (named e) else None) (present (map named_in entries)) ≡ map named (cond used (e ∷ filter is_used entries) (filter is_used entries))
    by_use true rest = ap (λ (l : List NamedSpace). named e ∷ l) rest
    by_use false rest = rest

-- no two spaces are alike exactly where no two used entries have one name, and none have one ordinal
distinct_by : (raw : List RawEntry) (entries : List (Option NamedSpace)) → map named_in raw ≡ entries
    → no_two are_alike (present entries)
    ≡ (names_apart (filter is_used raw) && ordinals_apart (filter is_used raw))
distinct_by raw entries is =
    ap (λ (l : List (Option NamedSpace)). no_two are_alike (present l)) (sym is) ∙ ap (λ (l : List NamedSpace). no_two are_alike l) (present-named raw)
    ∙ no_two-map are_alike named (filter is_used raw)
    ∙ no_two-or (λ (a : RawEntry) (b : RawEntry). bytes_eq a.name b.name) (λ (a : RawEntry) (b : RawEntry). a.ordinal == b.ordinal) (filter is_used raw)

all-extents : (test : Extent → Bool) (entries : List RawEntry) → list_all (λ (e : RawEntry). list_all test e.extents) entries ≡ true
    → list_all test (flat_map (λ (e : RawEntry). e.extents) entries) ≡ true
all-extents test [] all = refl
all-extents test (e ∷ entries) all =
    let parts = and_parts (list_all test e.extents) (list_all (λ (x : RawEntry). list_all test x.extents) entries) all in
    list_all-append test e.extents (flat_map (λ (x : RawEntry). x.extents) entries) ∙ and_from _ _ parts.0 (all-extents test entries parts.1)

-- the clusters of spaces that hold may be claimed exactly where no two of their extents overlap
claim_by : (next clusters size : ℕ) (raw : List RawEntry) (entries : List (Option NamedSpace)) → map named_in raw ≡ entries → header_clusters ≤ clusters
    → each_holds next clusters size (filter is_used raw) ≡ true
    → can_claim (clusters_of (extents_of entries)) (new_clusters clusters) ≡ extents_apart (filter is_used raw)
claim_by next clusters size raw entries is least holds =
    let extents = flat_map (λ (e : RawEntry). e.extents) (filter is_used raw) in
    let are : extents_of entries ≡ extents =
    ap extents_of (sym is) ∙ ap (λ (l : List NamedSpace). flat_map (λ (n : NamedSpace). n.extents) l) (present-named raw)
    ∙ flat_map-map (λ (n : NamedSpace). n.extents) named (filter is_used raw) in
    let lie : list_all (is_extent clusters size) extents ≡ true =
    all-extents (is_extent clusters size) (filter is_used raw)
    (all-weaker (entry_holds next clusters size) (λ (e : RawEntry). list_all (is_extent clusters size) e.extents) (filter is_used raw)
    (holding-extents next clusters size) holds) in
    let some : list_all (λ (e : Extent). nat_le 1 e.count) extents ≡ true =
    all-weaker (is_extent clusters size) (λ (e : Extent). nat_le 1 e.count) extents (λ e holds. (extent-parts clusters size e holds).0) lie in
    let within : list_all (lies_within clusters) extents ≡ true =
    all-weaker (is_extent clusters size) (lies_within clusters) extents (λ e holds. (extent-parts clusters size e holds).1) lie in
    ap (λ (l : List Extent). can_claim (clusters_of l) (new_clusters clusters)) are
    ∙ can_claim-new clusters extents least some ∙ ap (λ b. b && no_two overlap extents) within

-- ---- all tests

-- the tests of a table are those of its head, of its counts, of each entry and of all spaces together
base_by : (clusters size : ℕ) (base : List ℕ)
    → let t = raw_table 0 base in
    hold_all (base_tests clusters size base)
    ≡ (is_headed t && (is_counted t && (each_holds t.next clusters size (used_entries t)
    && ((names_apart (used_entries t) && ordinals_apart (used_entries t))
    && extents_apart (used_entries t)))))
base_by clusters size base =
    let t = raw_table 0 base in
    let used = used_entries t in
    eight (bytes_eq t.mark (codes "TQTB")) (nat_le 1 t.next && nat_le t.next last_space)
    (list_all (λ (e : RawEntry). nat_le e.used 1) t.entries) (nat_le (extents_start + 4 * sum_by (λ (e : RawEntry). length e.extents) t.entries) table_bytes)
    (each_holds t.next clusters size used)
    (names_apart used) (ordinals_apart used)
    (extents_apart used)
  where
    eight : (mark next sound counted each names ordinals apart : Bool)
        → hold_all (mark ∷ next ∷ sound ∷ counted ∷ each ∷ names ∷ ordinals ∷ apart ∷ [])
        ≡ ((mark && next) && ((sound && counted) && (each && ((names && ordinals) && apart))))
    eight true true true true true true true true = refl
    eight true true true true true true true false = refl
    eight true true true true true true false apart = refl
    eight true true true true true false ordinals apart = refl
    eight true true true true false names ordinals apart = refl
    eight true true true false each names ordinals apart = refl
    eight true true false counted each names ordinals apart = refl
    eight true false sound counted each names ordinals apart = refl
    eight false next sound counted each names ordinals apart = refl

-- where the head, the counts and each entry are right, the spaces that were read decide
pub base_judged : (next clusters size : ℕ) (base : List ℕ) (entries : List (Option TableEntry)) → header_clusters ≤ clusters → next ≡ (raw_table 0 base).next
    → is_headed (raw_table 0 base) ≡ true → is_counted (raw_table 0 base) ≡ true → each_holds next clusters size (used_entries (raw_table 0 base)) ≡ true
    → map named_in (raw_table 0 base).entries ≡ entries_view entries → hold_all (base_tests clusters size base) ≡ go_together clusters entries
base_judged next clusters size base entries least is_next headed counted each are =
    let raw = (raw_table 0 base).entries in
    let own : each_holds (raw_table 0 base).next clusters size (used_entries (raw_table 0 base)) ≡ true =
    ap (λ n. each_holds n clusters size (filter is_used raw)) (sym is_next) ∙ each in
    let distinct = sym (distinct_by raw (entries_view entries) are) in
    let claimed = sym (claim_by next clusters size raw (entries_view entries) are least each) in
    base_by clusters size base ∙ (λ i. headed i && (counted i && (own i && (distinct i && claimed i))))
