-- What the bytes of a base spell: runs and numbers that are kept, extents and entries one behind another.
use Rattle.std.proofs.Common.{◌≡◌, ◌⊎◌, inl, inr, ⊎_elim, ◌<◌, ◌≤◌, ℕ, zero, suc, ◌+◌, ◌*◌, ◌&&◌, Bool, true, false, List, [], ◌∷◌, ◌++◌, length, get_or, take, drop, map, Option, Some, None, refl, sym, ◌∙◌, ap, arith}
use Rattle.std.specs.Prelude.{◌==◌, nat_le, nat_lt, replicate, option_map, if◌then◌else◌}
use Rattle.std.specs.List.{list_all}
use Rattle.std.proofs.lemmas.Bool.{and_parts, and_from, or_parts, cases_lt, leb-true, le-leb, lt-ltb}
use Rattle.std.proofs.lemmas.List.{length-take, length-drop, get_or-replicate, take_more, map-append}
use Rattle.std.proofs.lemmas.List.Folds.{list_all-map}
use Rattle.std.proofs.lemmas.List.Sums.{sum_by-cons, sum_by-append}
use Rattle.std.proofs.lemmas.Grind.{same_number_lists}
use Rattle.tq_field.specs.Places.{run_at, number_at}
use Rattle.tq_field.specs.Digits.{number_of}
use Rattle.tq_field.proofs.Runs.{length-run_at, get_or-run_at}
use Rattle.tq_host.specs.Calls.{HasBytesAt, IsSameOutside}
use Rattle.tq_model.specs.declared.answer.Extent.{Extent}
use Rattle.tq_model.specs.Names.{is_name}
use Rattle.tq_model.specs.Site.{present, most_clusters, header_clusters}
use Rattle.tq_model.specs.DeviceForm.{RawEntry, raw_entry, raw_entries, extents_at, extent_count, extents_start, table_bytes, cluster_bytes}
use Rattle.tq_model.specs.Reading.{NamedSpace, is_extent}
use Rattle.tq_model.proofs.NameTests.{name_from_test}
use Rattle.tq_extent.proofs.ExtentLemmas.{all-get}
use Rattle.tq_devtab.specs.declared.entry.TableEntry.{TableEntry}
use Rattle.tq_devtab.specs.Table.{entry_view, entries_view, raw_of, IsTable}
use Rattle.tq_devtab.specs.Spelling.{extent_total, is_short, are_short, IsSpellable, IsEntryAt, IsSameOutsideBoth, names_byte}
use Rattle.tq_devtab.proofs.ListLemmas.{all-take, all-weaker}
use Rattle.tq_devtab.proofs.EntryLemmas.{entry_holds, entry_parts, table_parts, total-extents}

-- ---- bytes that are kept

abbrev AreSame : ℕ → ℕ → List ℕ → List ℕ → Type 0
AreSame at n old new = (i : ℕ) → at ≤ i → i < at + n → get_or new i 0 ≡ get_or old i 0

pub same_run : (at n : ℕ) (old new : List ℕ) → length new ≡ length old → AreSame at n old new → run_at at n new ≡ run_at at n old
same_run at n old new size same =
    let of_new = length-take n (drop at new) in
    let of_old = length-take n (drop at old) in
    let rest_new = length-drop at new in
    let rest_old = length-drop at old in
    same_number_lists (run_at at n new) (run_at at n old) (omega arith)
    (λ i lt.
    let below : i < n = omega arith in
    get_or-run_at at n new i 0 below ∙ same (at + i) (omega arith) (omega arith) ∙ sym (get_or-run_at at n old i 0 below))

pub same_number : (at n : ℕ) (old new : List ℕ) → length new ≡ length old → AreSame at n old new → number_at at n new ≡ number_at at n old
same_number at n old new size same = ap number_of (same_run at n old new size same)

pub kept_number : (at n i k : ℕ) (old new : List ℕ) → length new ≡ length old → IsSameOutside at n old new → (i + k ≤ at) ⊎ (at + n ≤ i)
    → number_at i k new ≡ number_at i k old
kept_number at n i k old new size outside apart =
    same_number i k old new size (λ j from to. outside j (⊎_elim (λ before. inl (omega arith)) (λ behind. inr (omega arith)) apart))

pub run_stands : (at : ℕ) (xs image : List ℕ) → at + length xs ≤ length image → HasBytesAt at xs image → run_at at (length xs) image ≡ xs
run_stands at xs image fits stands =
    let long = length-run_at at (length xs) image fits in
    same_number_lists (run_at at (length xs) image) xs long
    (λ i lt. let below : i < length xs = omega arith in get_or-run_at at (length xs) image i 0 below ∙ stands i below)

zero_number : (at : ℕ) (image : List ℕ) → at + 4 ≤ length image → ((i : ℕ) → at ≤ i → i < at + 4 → get_or image i 0 ≡ 0) → number_at at 4 image ≡ 0
unfolding number_of
zero_number at image fits none =
    ap number_of (run_stands at (replicate 4 0) image fits (λ i lt. none (at + i) (omega arith) (omega arith) ∙ sym (get_or-replicate 4 i 0 0 lt)))

-- ---- extents

pub extents-length : (n at : ℕ) (image : List ℕ) → length (extents_at n at image) ≡ n
unfolding extents_at
extents-length zero at image = refl
extents-length (suc n) at image = ap suc (extents-length n (at + 4) image)

pub no-extents : (at : ℕ) (image : List ℕ) → extents_at 0 at image ≡ []
unfolding extents_at
no-extents at image = refl

pub extents-same : (n at : ℕ) (old new : List ℕ) → length new ≡ length old → AreSame at (4 * n) old new → extents_at n at new ≡ extents_at n at old
unfolding extents_at
extents-same zero at old new size same = refl
extents-same (suc n) at old new size same =
    let first = same_number at 2 old new size (λ i from to. same i from (omega arith)) in
    let count = same_number (at + 2) 2 old new size (λ i from to. same i (omega arith) (omega arith)) in
    let rest = extents-same n (at + 4) old new size (λ i from to. same i (omega arith) (omega arith)) in
    λ i. record { first = first i; count = count i } ∷ rest i

abbrev extent_at : ℕ → List ℕ → Extent
extent_at at image = record { first = number_at at 2 image; count = number_at (at + 2) 2 image }

extents-push : (n at : ℕ) (image : List ℕ) → extents_at (suc n) at image ≡ extents_at n at image ++ extent_at (at + 4 * n) image ∷ []
unfolding extents_at
extents-push zero at image = let here : at ≡ at + 4 * 0 = omega arith in ap (λ k. extent_at k image ∷ []) here
extents-push (suc n) at image =
    let place : at + 4 + 4 * n ≡ at + 4 * suc n = omega arith in
    ap (λ (l : List Extent). extent_at at image ∷ l) (extents-push n (at + 4) image)
    ∙ ap (λ k. extent_at at image ∷ (extents_at n (at + 4) image ++ extent_at k image ∷ [])) place

-- one extent more is spelt behind the others
pub extents-more : (n at : ℕ) (extents : List Extent) (old new : List ℕ) (d : Extent) → length new ≡ length old → n < length extents
    → extents_at n at old ≡ take n extents
    → number_at (at + 4 * n) 2 new ≡ (get_or extents n d).first → number_at (at + 4 * n + 2) 2 new ≡ (get_or extents n d).count
    → IsSameOutside (at + 4 * n) 4 old new
    → extents_at (n + 1) at new ≡ take (n + 1) extents
extents-more n at extents old new d size lt so_far first count outside =
    let one : n + 1 ≡ suc n = omega arith in
    let kept = extents-same n at old new size (λ i from to. outside i (inl to)) in
    ap (λ k. extents_at k at new) one ∙ extents-push n at new
    ∙ (λ i. (kept ∙ so_far) i ++ record { first = first i; count = count i } ∷ [])
    ∙ sym (take_more extents n d lt)

-- ---- entries

-- a used entry whose extents are these
pub used_entry : (at start : ℕ) (n : NamedSpace) (image : List ℕ) → at + 160 ≤ length image → length n.name ≤ 15 → IsEntryAt at n image
    → extents_at (length n.extents) start image ≡ n.extents
    → raw_entry at start image ≡ raw_of (Some n)
used_entry at start n image fits short is extents =
    let name : run_at (at + 2) (get_or image (at + 1) 0) image ≡ n.name =
    ap (λ k. run_at (at + 2) k image) is.size ∙ run_stands (at + 2) n.name image (omega arith) is.name in
    let all : extents_at (extent_count at image) start image ≡ n.extents =
    ap (λ (u : ℕ). extents_at (if u == 0 then 0 else number_at (at + 140) 4 image) start image) is.used ∙ ap (λ k. extents_at k start image) is.extents
    ∙ extents in
    λ i. record { used = is.used i; name = name i; ordinal = is.ordinal i; pages = is.pages i; extents = all i }

pub unused_entry : (at start : ℕ) (image : List ℕ) → at + 160 ≤ length image → ((i : ℕ) → at ≤ i → i < at + 160 → get_or image i 0 ≡ 0)
    → raw_entry at start image ≡ raw_of None
unused_entry at start image fits none =
    let used : get_or image at 0 ≡ 0 = none at (omega arith) (omega arith) in
    let size : get_or image (at + 1) 0 ≡ 0 = none (at + 1) (omega arith) (omega arith) in
    let ordinal = zero_number (at + 132) image (omega arith) (λ i from to. none i (omega arith) (omega arith)) in
    let pages = zero_number (at + 136) image (omega arith) (λ i from to. none i (omega arith) (omega arith)) in
    let all : extents_at (extent_count at image) start image ≡ [] =
    ap (λ (u : ℕ). extents_at (if u == 0 then 0 else number_at (at + 140) 4 image) start image) used ∙ no-extents start image in
    λ i. record { used = used i; name = take (size i) (drop (at + 2) image); ordinal = ordinal i; pages = pages i; extents = all i }

-- the name of an entry of a base that is long enough ends within the entry
name-within : (at k : ℕ) (image : List ℕ) → at + 160 ≤ length image → length (run_at (at + 2) k image) ≤ 15 → k ≤ 15
name-within at k image fits short =
    let size = length-take k (drop (at + 2) image) in
    let rest = length-drop (at + 2) image in
    omega arith

entry-same : (at start : ℕ) (old new : List ℕ) → length new ≡ length old → at + 160 ≤ length old → length (raw_entry at start old).name ≤ 15
    → AreSame at 160 old new → AreSame start (4 * extent_count at old) old new → raw_entry at start new ≡ raw_entry at start old
entry-same at start old new size fits short own extents =
    let within = name-within at (get_or old (at + 1) 0) old fits short in
    let used = own at (omega arith) (omega arith) in
    let long = own (at + 1) (omega arith) (omega arith) in
    let name = ap (λ k. run_at (at + 2) k new) long ∙ same_run (at + 2) (get_or old (at + 1) 0) old new size (λ i from to. own i (omega arith) (omega arith)) in
    let ordinal = same_number (at + 132) 4 old new size (λ i from to. own i (omega arith) (omega arith)) in
    let pages = same_number (at + 136) 4 old new size (λ i from to. own i (omega arith) (omega arith)) in
    let number = same_number (at + 140) 4 old new size (λ i from to. own i (omega arith) (omega arith)) in
    let count : extent_count at new ≡ extent_count at old = λ i. if used i == 0 then 0 else number i in
    let all = ap (λ k. extents_at k start new) count ∙ extents-same (extent_count at old) start old new size extents in
    λ i. record { used = used i; name = name i; ordinal = ordinal i; pages = pages i; extents = all i }

abbrev are_named : List RawEntry → Bool
are_named entries = list_all (λ (e : RawEntry). nat_le (length e.name) 15) entries

total-cons : (at start : ℕ) (image : List ℕ) (rest : List RawEntry) → extent_total (raw_entry at start image ∷ rest) ≡ extent_count at image + extent_total rest
total-cons at start image rest =
    sum_by-cons (λ (e : RawEntry). length e.extents) (raw_entry at start image) rest
    ∙ ap (λ k. k + extent_total rest) (extents-length (extent_count at image) start image)

-- entries are kept where their bytes and those of their extents are
pub entries-same : (n at start : ℕ) (old new : List ℕ) → length new ≡ length old → at + 160 * n ≤ length old → are_named (raw_entries n at start old) ≡ true
    → AreSame at (160 * n) old new → AreSame start (4 * extent_total (raw_entries n at start old)) old new
    → raw_entries n at start new ≡ raw_entries n at start old
unfolding raw_entries
entries-same zero at start old new size fits named own extents = refl
entries-same (suc n) at start old new size fits named own extents =
    let e = raw_entry at start old in
    let c = extent_count at old in
    let rest = raw_entries n (at + 160) (start + 4 * c) old in
    let parts = and_parts (nat_le (length e.name) 15) (are_named rest) named in
    let total = total-cons at start old rest in
    let short = leb-true (length e.name) 15 parts.0 in
    let first = entry-same at start old new size (omega arith) short (λ i from to. own i from (omega arith)) (λ i from to. extents i from (omega arith)) in
    let count : extent_count at new ≡ c =
    sym (extents-length (extent_count at new) start new) ∙ ap (λ (r : RawEntry). length r.extents) first ∙ extents-length c start old in
    let others =
    entries-same n (at + 160) (start + 4 * c) old new size (omega arith) parts.1 (λ i from to. own i (omega arith) (omega arith))
    (λ i from to. extents i (omega arith) (omega arith)) in
    (λ i. first i ∷ raw_entries n (at + 160) (start + 4 * count i) new) ∙ ap (λ (l : List RawEntry). e ∷ l) others

entries-push : (n at start : ℕ) (image : List ℕ)
    → raw_entries (suc n) at start image
    ≡ raw_entries n at start image ++ raw_entry (at + 160 * n) (start + 4 * extent_total (raw_entries n at start image)) image ∷ []
unfolding raw_entries
entries-push zero at start image =
    let here : at ≡ at + 160 * 0 = omega arith in
    let first : start ≡ start + 4 * 0 = omega arith in
    λ i. raw_entry (here i) (first i) image ∷ []
entries-push (suc n) at start image =
    let c = extent_count at image in
    let rest = raw_entries n (at + 160) (start + 4 * c) image in
    let total = total-cons at start image rest in
    let place : at + 160 + 160 * n ≡ at + 160 * suc n = omega arith in
    let behind : start + 4 * c + 4 * extent_total rest ≡ start + 4 * extent_total (raw_entry at start image ∷ rest) = omega arith in
    ap (λ (l : List RawEntry). raw_entry at start image ∷ l) (entries-push n (at + 160) (start + 4 * c) image)
    ∙ (λ i. raw_entry at start image ∷ (rest ++ raw_entry (place i) (behind i) image ∷ []))

-- ---- the entries that are spelt

abbrev extents_in : Option NamedSpace → ℕ
extents_in o = length (raw_of o).extents

total-more : (entries : List (Option NamedSpace)) (i : ℕ) → i < length entries
    → extent_total (map raw_of (take (i + 1) entries)) ≡ extent_total (map raw_of (take i entries)) + extents_in (get_or entries i None)
total-more entries i lt =
    let o = get_or entries i None in
    let f = λ (e : RawEntry). length e.extents in
    ap (λ (l : List (Option NamedSpace)). extent_total (map raw_of l)) (take_more entries i None lt)
    ∙ ap extent_total (map-append raw_of (take i entries) (o ∷ []))
    ∙ sum_by-append f (map raw_of (take i entries)) (raw_of o ∷ [])
    ∙ ap (λ k. extent_total (map raw_of (take i entries)) + k) (sum_by-cons f (raw_of o) [] ∙ last (extents_in o))
  where
    last : (k : ℕ) → k + 0 ≡ k
    last k = omega arith

total-most : (entries : List (Option NamedSpace)) (i : ℕ) → extent_total (map raw_of (take i entries)) ≤ extent_total (map raw_of entries)
total-most entries zero = omega arith
total-most [] (suc i) = omega arith
total-most (o ∷ entries) (suc i) =
    let f = λ (e : RawEntry). length e.extents in
    let rest = total-most entries i in
    let some = sum_by-cons f (raw_of o) (map raw_of (take i entries)) in
    let all = sum_by-cons f (raw_of o) (map raw_of entries) in
    omega arith

-- the bytes behind an entry's extents
pub total-within : (entries : List (Option NamedSpace)) (i : ℕ) → i < length entries
    → extent_total (map raw_of (take i entries)) + extents_in (get_or entries i None) ≤ extent_total (map raw_of entries)
total-within entries i lt = let more = total-more entries i lt in let most = total-most entries (i + 1) in omega arith

pub short-at : (entries : List (Option NamedSpace)) (i : ℕ) → i < length entries → IsSpellable entries
    → are_short (raw_of (get_or entries i None)).extents ≡ true
short-at entries i lt is = all-get (λ (o : Option NamedSpace). are_short (raw_of o).extents) entries i None is.short lt

pub start-more : (entries : List (Option NamedSpace)) (i start : ℕ) → i < length entries
    → start ≡ extents_start + 4 * extent_total (map raw_of (take i entries))
    → start + 4 * extents_in (get_or entries i None) ≡ extents_start + 4 * extent_total (map raw_of (take (i + 1) entries))
start-more entries i start lt is = let more = total-more entries i lt in omega arith

-- one entry more is spelt behind the others
pub entries-more : (entries : List (Option NamedSpace)) (i start : ℕ) (old new : List ℕ) → length new ≡ length old → length old ≡ table_bytes
    → i < length entries → IsSpellable entries
    → raw_entries i 32 extents_start old ≡ map raw_of (take i entries) → start ≡ extents_start + 4 * extent_total (map raw_of (take i entries))
    → raw_entry (32 + 160 * i) start new ≡ raw_of (get_or entries i None)
    → IsSameOutsideBoth (32 + 160 * i) 160 start (4 * extents_in (get_or entries i None)) old new
    → raw_entries (i + 1) 32 extents_start new ≡ map raw_of (take (i + 1) entries)
entries-more entries i start old new size long lt is so_far place spelt outside =
    let one : i + 1 ≡ suc i = omega arith in
    let few = is.count in
    let o = get_or entries i None in
    let test = λ (o : Option NamedSpace). nat_le (length (raw_of o).name) 15 in
    let named : are_named (raw_entries i 32 extents_start old) ≡ true =
    ap are_named so_far ∙ list_all-map (λ (e : RawEntry). nat_le (length e.name) 15) raw_of (take i entries) ∙ all-take test i entries is.names in
    let total : extent_total (raw_entries i 32 extents_start old) ≡ extent_total (map raw_of (take i entries)) = ap extent_total so_far in
    let kept : raw_entries i 32 extents_start new ≡ map raw_of (take i entries) =
    entries-same i 32 extents_start old new size (omega arith) named
    (λ k from to. outside k (inl (omega arith)) (inl (omega arith)))
    (λ k from to. outside k (inr (omega arith)) (inl (omega arith))) ∙ so_far in
    let behind : extents_start + 4 * extent_total (raw_entries i 32 extents_start new) ≡ start =
    ap (λ (l : List RawEntry). extents_start + 4 * extent_total l) kept ∙ sym place in
    ap (λ k. raw_entries k 32 extents_start new) one ∙ entries-push i 32 extents_start new
    ∙ (λ j. kept j ++ raw_entry (32 + 160 * i) (behind j) new ∷ [])
    ∙ ap (λ (e : RawEntry). map raw_of (take i entries) ++ e ∷ []) spelt
    ∙ sym (ap (map raw_of) (take_more entries i None lt) ∙ map-append raw_of (take i entries) (o ∷ []))

-- ---- the entries of a table, as they are spelt

pub view-at : (entries : List (Option TableEntry)) (i : ℕ) (d : Option TableEntry) → i < length entries
    → get_or (entries_view entries) i None ≡ option_map entry_view (get_or entries i d)
view-at [] i d lt = absurd (omega arith)
view-at (None ∷ entries) zero d lt = refl
view-at (Some e ∷ entries) zero d lt = refl
view-at (None ∷ entries) (suc i) d lt = view-at entries i d (omega arith)
view-at (Some e ∷ entries) (suc i) d lt = view-at entries i d (omega arith)

pub length-views : (entries : List (Option TableEntry)) → length (entries_view entries) ≡ length entries
length-views [] = refl
length-views (None ∷ entries) = ap suc (length-views entries)
length-views (Some e ∷ entries) = ap suc (length-views entries)

pub view-of : (entries : List (Option TableEntry)) (i : ℕ) (e : Option TableEntry) → i < length entries → e ≡ get_or entries i e
    → option_map entry_view e ≡ get_or (entries_view entries) i None
view-of entries i e lt is = ap (option_map entry_view) is ∙ sym (view-at entries i e lt)

pub no-entries : (at start : ℕ) (image : List ℕ) → raw_entries 0 at start image ≡ []
unfolding raw_entries
no-entries at start image = refl

-- ---- where an entry says nothing

pub beside_entry : (n : NamedSpace) (i : ℕ) → names_byte (Some n) i ≡ false → (2 + length n.name ≤ i) × ((i < 132) ⊎ (144 ≤ i))
beside_entry n i none =
    let parts = or_parts (nat_lt i (2 + length n.name)) (nat_le 132 i && nat_lt i 144) none in (
      elim (cases_lt i (2 + length n.name)) [ inl lt ↦ absurd (cc (lt-ltb i (2 + length n.name) lt)) | inr from ↦ from ],
      elim (cases_lt i 132) [
        | inl before ↦ inl before
        | inr from ↦ elim (cases_lt i 144) [
          | inl lt ↦ absurd (cc (and_from (nat_le 132 i) (nat_lt i 144) (le-leb 132 i from) (lt-ltb i 144 lt)))
          | inr past ↦ inr past
        ]
      ],
    )

-- ---- a table can be spelt

-- what follows of each space holds of all entries, where it holds of an unused one
each-space : (test : NamedSpace → Bool) (other : Option NamedSpace → Bool) (entries : List (Option NamedSpace)) → other None ≡ true
    → ((n : NamedSpace) → test n ≡ true → other (Some n) ≡ true)
    → list_all test (present entries) ≡ true → list_all other entries ≡ true
each-space test other [] none some all = refl
each-space test other (None ∷ entries) none some all = and_from (other None) (list_all other entries) none (each-space test other entries none some all)
each-space test other (Some n ∷ entries) none some all =
    let parts = and_parts (test n) (list_all test (present entries)) all in
    and_from (other (Some n)) (list_all other entries) (some n parts.0) (each-space test other entries none some parts.1)

short-within : (clusters size : ℕ) (e : Extent) → clusters ≤ most_clusters → is_extent clusters size e ≡ true → is_short e ≡ true
short-within clusters size e few is =
    let parts =
    and_parts (nat_le 1 e.count && nat_le header_clusters e.first)
    (nat_le (e.first + e.count) clusters && nat_le (cluster_bytes * (e.first + e.count)) size) is in
    let end =
    leb-true (e.first + e.count) clusters (and_parts (nat_le (e.first + e.count) clusters) (nat_le (cluster_bytes * (e.first + e.count)) size) parts.1).0 in
    and_from (nat_lt e.first 65536) (nat_lt e.count 65536) (lt-ltb e.first 65536 (omega arith)) (lt-ltb e.count 65536 (omega arith))

name-short : (text : List ℕ) → is_name text ≡ true → nat_le (length text) 15 ≡ true
name-short text is = let name = name_from_test text is in le-leb (length text) 15 name.most

pub spellable : (next clusters size : ℕ) (entries : List (Option NamedSpace)) → clusters ≤ most_clusters → IsTable next clusters size entries
    → IsSpellable entries
spellable next clusters size entries few table =
    let holds = table_parts next clusters size entries table in
    let total = total-extents entries in
    let whole = holds.count in
    let ends = holds.ends in
    let test = entry_holds next clusters size in
    record {
      count = omega arith;
      ends = omega arith;
      short = each-space test (λ (o : Option NamedSpace). are_short (raw_of o).extents) entries refl
          (λ n is. all-weaker (is_extent clusters size) is_short n.extents (λ e lies. short-within clusters size e few lies) (entry_parts next clusters size n is).extents) holds.each;
      names =
          each-space test (λ (o : Option NamedSpace). nat_le (length (raw_of o).name) 15) entries refl
          (λ n is. name-short n.name (entry_parts next clusters size n is).name) holds.each;
    }
