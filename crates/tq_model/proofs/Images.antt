-- From the parts of an image to its reading, and to the site for which one device stands.
use Rattle.std.proofs.Common.{◌≡◌, ◌<◌, ◌≤◌, ℕ, ◌+◌, ◌*◌, List, [], ◌∷◌, ◌++◌, refl, sym, ◌∙◌, ap, subst, arith, Option, Some, None, Bool, true, false, length, get_or, cond, map, not, zero, suc}
use Rattle.std.specs.Prelude.{◌==◌, nat_lt, ◌&&◌, option_map, is_some, unwrap_or}
use Rattle.std.specs.List.{All, list_all, flat_map, find}
use Rattle.std.specs.Option.{option_and_then}
use Rattle.std.proofs.lemmas.Bool.{and_from, eq-eqb}
use Rattle.std.proofs.lemmas.Bool.Decides.{nat_tests}
use Rattle.std.proofs.lemmas.List.{append-nil}
use Rattle.std.proofs.lemmas.List.Elements.{All-nil, All-cons, All-head, All-tail, All-map}
use Rattle.std.proofs.lemmas.List.Folds.{list_all-append, list_all-map, map_fixed}
use Rattle.std.proofs.lemmas.Option.{same_Some}
use Rattle.tq_model.specs.DeviceForm.{Journal, bytes_of, first_page}
use Rattle.tq_model.specs.Space.{Space, Queue}
use Rattle.tq_model.specs.Moves.{IndexedQueue, IndexedSpace, the_queue, space_of}
use Rattle.tq_model.specs.Plain.{KeepsAllAtCrash}
use Rattle.tq_model.specs.SpaceForm.{raw_space, shape_of, empty_space, replayed}
use Rattle.tq_model.proofs.RecordMoves.{crashed_plain}
use Rattle.tq_model.proofs.Replays.{AreUpto, replayed_plain, empty_plain, replayed_upto, empty_upto}
use Rattle.tq_model.specs.Site.{Site, Volume, SpaceOnDevice, present, durable, durable_space, on_spaces}
use Rattle.tq_model.specs.Parts.{IsPart}
use Rattle.tq_model.specs.Reading.{Content, Reading, Blank, Holds, Damaged, reading, is_whole, content_of, content_with, site_read, site_in, site_found, combined, combined_by, is_damaged, goes_with, has_new_name, are_upto, is_upto, journal_epoch, volume_read, below, DevicePart, NamedSpace, device_part, device_tests, space_tests, page_tests, hold_all, replayed_in, placed_as, placed_in, Replayed, space_in, payloads_in, epoch_bound}

all_append : (xs ys : List Bool) → hold_all (xs ++ ys) ≡ (hold_all xs && hold_all ys)
all_append xs ys = list_all-append (λ test. test) xs ys

not_short : (n : ℕ) → 131072 ≤ n → nat_lt n 131072 ≡ false
not_short n le = grind (arith, nat_tests)

is_short : (n : ℕ) → n < 131072 → nat_lt n 131072 ≡ true
is_short n lt = grind (arith, nat_tests)

abbrev reading_by : ℕ → List ℕ → Bool → Bool → Reading
reading_by place image short whole = cond short Blank (cond whole (Holds (content_of place image)) Damaged)

pub short_reading : (image : List ℕ) → length image < 131072 → reading 0 image ≡ Blank
short_reading image lt = ap (λ b. reading_by 0 image b (is_whole 0 image)) (is_short (length image) lt)

-- the reading of an image that is not blank
long_reading : (image : List ℕ) (b : Bool) → 131072 ≤ length image → is_whole 0 image ≡ b → reading 0 image ≡ reading_by 0 image false b
long_reading image b le e = ap (λ short. reading_by 0 image short (is_whole 0 image)) (not_short (length image) le) ∙ ap (reading_by 0 image false) e

-- the tests of the spaces that these parts name
abbrev spaces_tests : DevicePart → List ℕ → List Bool
spaces_tests d image = flat_map (space_tests 0 d image) (present d.entries)

whole_is : (image : List ℕ) (d : DevicePart) (a b : Bool) → hold_all (device_tests 0 image) ≡ a → device_part 0 image ≡ d → hold_all (spaces_tests d image) ≡ b → is_whole 0 image ≡ (a && b)
whole_is image d a b tests part spaces =
    all_append (device_tests 0 image) (spaces_tests (device_part 0 image) image)
    ∙ ap (λ x. x && hold_all (spaces_tests (device_part 0 image) image)) tests
    ∙ ap (λ (p : DevicePart). a && hold_all (spaces_tests p image)) part ∙ ap (λ x. a && x) spaces

-- an image with parts, whose spaces pass their tests
part_reading : (d : DevicePart) (image : List ℕ) → IsPart d image → hold_all (spaces_tests d image) ≡ true → reading 0 image ≡ Holds (content_with d (map (placed_in 0 d image) d.entries))
part_reading d image is spaces =
    long_reading image true is.size (whole_is image d true true is.tests is.part spaces)
    ∙ ap (λ (p : DevicePart). Holds (content_with p (map (placed_in 0 p image) p.entries))) is.part

-- the parts are damaged, or a space is
pub damaged_parts : (image : List ℕ) → 131072 ≤ length image → hold_all (device_tests 0 image) ≡ false → reading 0 image ≡ Damaged
damaged_parts image le tests = long_reading image false le (whole_is image (device_part 0 image) false (hold_all (spaces_tests (device_part 0 image) image)) tests refl refl)

-- the parts stand, and a space is damaged
pub damaged_spaces : (d : DevicePart) (image : List ℕ) → IsPart d image → hold_all (spaces_tests d image) ≡ false → reading 0 image ≡ Damaged
damaged_spaces d image is spaces = long_reading image false is.size (whole_is image d true false is.tests is.part spaces)

-- ---- the spaces of a device

-- the tests of a space's own pages
abbrev pub has_pages : DevicePart → NamedSpace → List ℕ → Bool
has_pages d n image = hold_all (page_tests n.pages (raw_space (first_page (bytes_of n.extents image)))) && is_some (replayed_in 0 d n image)

one_space : (d : DevicePart) (n : NamedSpace) (image : List ℕ) → hold_all (space_tests 0 d image n) ≡ has_pages d n image
one_space d n image =
    let page = hold_all (page_tests n.pages (raw_space (first_page (bytes_of n.extents image)))) in
    let by_last : (b : Bool) → (page && (b && true)) ≡ (page && b) = λ b. elim b as (λ x. (page && (x && true)) ≡ (page && x)) [ true ↦ refl | false ↦ refl ] in
    all_append (page_tests n.pages (raw_space (first_page (bytes_of n.extents image)))) (is_some (replayed_in 0 d n image) ∷ []) ∙ by_last (is_some (replayed_in 0 d n image))

-- the tests of the spaces in these entries
abbrev pub entries_hold : DevicePart → List ℕ → List (Option NamedSpace) → Bool
entries_hold d image entries = hold_all (flat_map (space_tests 0 d image) (present entries))

entry_first : (d : DevicePart) (image : List ℕ) (n : NamedSpace) (entries : List (Option NamedSpace)) → entries_hold d image (Some n ∷ entries) ≡ (has_pages d n image && entries_hold d image entries)
entry_first d image n entries =
    all_append (space_tests 0 d image n) (flat_map (space_tests 0 d image) (present entries)) ∙ ap (λ b. b && entries_hold d image entries) (one_space d n image)

-- each space passes its tests, or one does not
pub each_space_holds : (d : DevicePart) (image : List ℕ) (entries : List (Option NamedSpace)) → ((i : ℕ) (n : NamedSpace) → get_or entries i None ≡ Some n → has_pages d n image ≡ true)
    → entries_hold d image entries ≡ true
each_space_holds d image [] each = refl
each_space_holds d image (None ∷ entries) each = each_space_holds d image entries (λ i n is. each (suc i) n is)
each_space_holds d image (Some n ∷ entries) each =
    entry_first d image n entries ∙ and_from (has_pages d n image) (entries_hold d image entries) (each 0 n refl) (each_space_holds d image entries (λ i m is. each (suc i) m is))

pub space_fails : (d : DevicePart) (image : List ℕ) (entries : List (Option NamedSpace)) (i : ℕ) (n : NamedSpace) → get_or entries i None ≡ Some n → has_pages d n image ≡ false
    → entries_hold d image entries ≡ false
space_fails d image [] i n is fails = absurd (cc)
space_fails d image (None ∷ entries) zero n is fails = absurd (cc)
space_fails d image (None ∷ entries) (suc i) n is fails = space_fails d image entries i n is fails
space_fails d image (Some m ∷ entries) zero n is fails =
    entry_first d image m entries ∙ ap (λ b. b && entries_hold d image entries) (ap (λ (k : NamedSpace). has_pages d k image) (same_Some m n is) ∙ fails)
space_fails d image (Some m ∷ entries) (suc i) n is fails =
    entry_first d image m entries ∙ ap (λ b. has_pages d m image && b) (space_fails d image entries i n is fails) ∙ none (has_pages d m image)
  where
    none : (b : Bool) → (b && false) ≡ false
    none true = refl
    none false = refl

-- ---- what one device stands for

pub found_blank : (images : ℕ → List ℕ) → reading 0 (images 0) ≡ Blank → site_found 1 images ≡ Some (site_read (Blank ∷ []))
found_blank images is = ap (λ (r : Reading). site_in (combined (r ∷ []))) is

pub found_damaged : (images : ℕ → List ℕ) → reading 0 (images 0) ≡ Damaged → site_found 1 images ≡ None
found_damaged images is = ap (λ (r : Reading). site_in (combined (r ∷ []))) is

found_holds : (images : ℕ → List ℕ) (c : Content) → goes_with (Some c) [] c ≡ true → reading 0 (images 0) ≡ Holds c → site_found 1 images ≡ Some (site_read (Holds c ∷ []))
found_holds images c goes is =
    ap (λ (r : Reading). site_in (combined (r ∷ []))) is ∙ ap (λ b. site_in (combined_by (Holds c ∷ []) (cond (not b) (Some 0) None))) goes

same_site : (n : ℕ) → (n == n) ≡ true
same_site n = eq-eqb n n refl

-- ---- what a log makes

-- what holds of a space without queues, and after each record, holds of what is read
space_in_keeps : (P : IndexedSpace → Type 0) (site number epoch pages : ℕ) (bytes : List ℕ) (r : Replayed)
    → ((ps : List (List ℕ)) (t : IndexedSpace) → replayed epoch ps (empty_space (shape_of pages (raw_space (first_page bytes))) site number) ≡ Some t → P t) → space_in site number epoch pages bytes ≡ Some r → P r.space
space_in_keeps P site number epoch pages bytes r keeps e = from_payloads (payloads_in pages bytes) e
  where
    start : IndexedSpace
    start = empty_space (shape_of pages (raw_space (first_page bytes))) site number

    from_space : (payloads : List (List ℕ)) (o : Option IndexedSpace) → replayed epoch payloads start ≡ o → option_map (λ s. record { payloads = payloads; space = s }) o ≡ Some r → P r.space
    from_space payloads None is e = absurd (cc)
    from_space payloads (Some t) is e = subst (λ (x : Replayed). P x.space) (same_Some (record { payloads = payloads; space = t }) r e) (keeps payloads t is)

    from_payloads : (o : Option (List (List ℕ))) → option_and_then (λ payloads. option_map (λ s. record { payloads = payloads; space = s }) (replayed epoch payloads start)) o ≡ Some r → P r.space
    from_payloads None e = absurd (cc)
    from_payloads (Some payloads) e = from_space payloads (replayed epoch payloads start) refl e

space_in_plain : (site number epoch pages : ℕ) (bytes : List ℕ) (r : Replayed) → space_in site number epoch pages bytes ≡ Some r → KeepsAllAtCrash r.space
space_in_plain site number epoch pages bytes r e =
    let shape = shape_of pages (raw_space (first_page bytes)) in
    space_in_keeps KeepsAllAtCrash site number epoch pages bytes r (λ ps t is. replayed_plain epoch ps (empty_space shape site number) t (empty_plain shape site number) is) e

-- the epochs of its entries
space_in_upto : (site number epoch pages : ℕ) (bytes : List ℕ) (r : Replayed) → space_in site number epoch pages bytes ≡ Some r → AreUpto epoch r.space
space_in_upto site number epoch pages bytes r e =
    let shape = shape_of pages (raw_space (first_page bytes)) in
    space_in_keeps (AreUpto epoch) site number epoch pages bytes r (λ ps t is. replayed_upto epoch ps (empty_space shape site number) t (empty_upto epoch shape site number) is) e

all_true : {X : Type 0} (test : X → Bool) (xs : List X) → All (λ x. test x ≡ true) xs → list_all test xs ≡ true
all_true test [] all = refl
all_true test (x ∷ xs) all = and_from (test x) (list_all test xs) (All-head (λ y. test y ≡ true) x xs all) (all_true test xs (All-tail (λ y. test y ≡ true) x xs all))

upto_tested : (epoch : ℕ) (s : IndexedSpace) → AreUpto epoch s → list_all (λ (q : Queue). list_all (is_upto epoch) q.items) (space_of s).queues ≡ true
upto_tested epoch s all =
    list_all-map (λ (q : Queue). list_all (is_upto epoch) q.items) the_queue s.queues
    ∙ all_true (λ (q : IndexedQueue). list_all (is_upto epoch) q.queue.items) s.queues (weaker s.queues all)
  where
    weaker : (qs : List IndexedQueue) → All (λ (q : IndexedQueue). All (λ item. is_upto epoch item ≡ true) q.queue.items) qs → All (λ (q : IndexedQueue). list_all (is_upto epoch) q.queue.items ≡ true) qs
    weaker [] all = All-nil (λ (q : IndexedQueue). list_all (is_upto epoch) q.queue.items ≡ true)
    weaker (q ∷ qs) all =
        All-cons (λ (q : IndexedQueue). list_all (is_upto epoch) q.queue.items ≡ true) q qs
        (all_true (is_upto epoch) q.queue.items (All-head (λ (q : IndexedQueue). All (λ item. is_upto epoch item ≡ true) q.queue.items) q qs all))
        (weaker qs (All-tail (λ (q : IndexedQueue). All (λ item. is_upto epoch item ≡ true) q.queue.items) q qs all))

-- each space that is read keeps to the epochs of its device
entries_upto : (d : DevicePart) (image : List ℕ) (entries : List (Option NamedSpace)) → are_upto (epoch_bound d) (present (map (placed_in 0 d image) entries)) ≡ true
entries_upto d image [] = refl
entries_upto d image (None ∷ entries) = entries_upto d image entries
entries_upto d image (Some n ∷ entries) = by_replay (replayed_in 0 d n image) refl (entries_upto d image entries)
  where
    by_replay : (o : Option Replayed) → replayed_in 0 d n image ≡ o → are_upto (epoch_bound d) (present (map (placed_in 0 d image) entries)) ≡ true
        → are_upto (epoch_bound d) (present (option_map (placed_as n) o ∷ map (placed_in 0 d image) entries)) ≡ true
    by_replay None is rest = rest
    by_replay (Some r) is rest =
        and_from (list_all (λ (q : Queue). list_all (is_upto (epoch_bound d)) q.items) (space_of r.space).queues) (are_upto (epoch_bound d) (present (map (placed_in 0 d image) entries)))
        (upto_tested (epoch_bound d) r.space (space_in_upto d.site (8 * n.ordinal + 0) (epoch_bound d) n.pages (bytes_of n.extents image) r is)) rest

all_new : (spaces : List SpaceOnDevice) → list_all (has_new_name []) spaces ≡ true
all_new [] = refl
all_new (p ∷ spaces) = all_new spaces

-- one device whose parts stand and whose spaces pass their tests
pub found_spaces : (d : DevicePart) (j : Journal) (images : ℕ → List ℕ) → IsPart d (images 0) → d.journal ≡ Some j → entries_hold d (images 0) d.entries ≡ true
    → site_found 1 images ≡ Some (site_read (Holds (content_with d (map (placed_in 0 d (images 0)) d.entries)) ∷ []))
found_spaces d j images is journal spaces =
    let entries = map (placed_in 0 d (images 0)) d.entries in
    let c = content_with d entries in
    let bound : epoch_bound d ≡ journal_epoch c = ap (λ (o : Option Journal). unwrap_or (option_map (λ (k : Journal). k.epoch) o) 4294967295) journal ∙ sym (ap (λ (o : Option Journal). unwrap_or (option_map (λ (k : Journal). k.epoch) o) 0) journal) in
    let upto : are_upto (journal_epoch c) (present entries) ≡ true = subst (λ e. are_upto e (present entries) ≡ true) bound (entries_upto d (images 0) d.entries) in
    let goes : goes_with (Some c) [] c ≡ true = (λ i. same_site d.site i && (all_new (present entries) i && upto i)) in
    found_holds images c goes (part_reading d (images 0) is spaces)

-- ---- what is found is durable

every : {X : Type 0} (P : X → Type 0) → ((x : X) → P x) → (xs : List X) → All P xs
every P each [] = All-nil P
every P each (x ∷ xs) = All-cons P x xs (each x) (every P each xs)

placed_durable : (place : ℕ) (d : DevicePart) (image : List ℕ) (named : Option NamedSpace) → option_map durable_space (placed_in place d image named) ≡ placed_in place d image named
placed_durable place d image None = refl
placed_durable place d image (Some n) = by_replay (replayed_in place d n image) refl
  where
    by_replay : (o : Option Replayed) → replayed_in place d n image ≡ o → option_map durable_space (option_map (placed_as n) o) ≡ option_map (placed_as n) o
    by_replay None is = refl
    by_replay (Some r) is =
        ap (λ (s : Space). Some (record (placed_as n r) { space = s })) (crashed_plain r.space (space_in_plain d.site (8 * n.ordinal + place) (epoch_bound d) n.pages (bytes_of n.extents image) r is))

content_durable : (place : ℕ) (image : List ℕ) → on_spaces durable_space (content_of place image).volume ≡ (content_of place image).volume
content_durable place image =
    let d = device_part place image in
    ap (λ (entries : List (Option SpaceOnDevice)). record { clusters = d.clusters; next_space = d.next_space; entries = entries })
    (map_fixed (option_map durable_space) (map (placed_in place d image) d.entries)
    (All-map (λ (o : Option SpaceOnDevice). option_map durable_space o ≡ o) (placed_in place d image) d.entries (every (λ named. option_map durable_space (placed_in place d image named) ≡ placed_in place d image named) (placed_durable place d image) d.entries)))

reading_durable : (place : ℕ) (image : List ℕ) → option_map (on_spaces durable_space) (volume_read (reading place image)) ≡ volume_read (reading place image)
reading_durable place image = by_tests (nat_lt (length image) 131072) (is_whole place image)
  where
    by_tests : (short whole : Bool) → option_map (on_spaces durable_space) (volume_read (reading_by place image short whole)) ≡ volume_read (reading_by place image short whole)
    by_tests true whole = refl
    by_tests false true = ap (λ (v : Volume). Some v) (content_durable place image)
    by_tests false false = refl

-- whatever devices stand for, a crash leaves it as it is
pub found_durable : (devices : ℕ) (images : ℕ → List ℕ) (s : Site) → site_found devices images ≡ Some s → durable s ≡ s
found_durable devices images s is =
    subst (λ (x : Site). durable x ≡ x) (by_damage (find (is_damaged readings) (below (length readings))) is)
    (ap (λ (volumes : List (Option Volume)). record (site_read readings) { devices = volumes })
    (map_fixed (option_map (on_spaces durable_space)) (map volume_read readings)
    (All-map (λ (o : Option Volume). option_map (on_spaces durable_space) o ≡ o) volume_read readings
    (All-map (λ (r : Reading). option_map (on_spaces durable_space) (volume_read r) ≡ volume_read r) (λ d. reading d (images d)) (below devices)
    (every (λ d. option_map (on_spaces durable_space) (volume_read (reading d (images d))) ≡ volume_read (reading d (images d))) (λ d. reading_durable d (images d)) (below devices))))))
  where
    readings : List Reading
    readings = map (λ d. reading d (images d)) (below devices)

    by_damage : (o : Option ℕ) → site_in (combined_by readings o) ≡ Some s → site_read readings ≡ s
    by_damage None e = same_Some (site_read readings) s e
    by_damage (Some d) e = absurd (cc)
