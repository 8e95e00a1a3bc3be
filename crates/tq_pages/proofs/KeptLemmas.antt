-- What calls on a store leave of its device, and the bytes of chains: those that stay, and those that were written.
use Rattle.std.proofs.Common.{◌≡◌, ◌≢◌, ◌<◌, ◌≤◌, ◌+◌, ◌-◌, ◌*◌, ◌/◌, ◌%◌, ℕ, List, [], ◌∷◌, ◌++◌, length, get_or, map, replicate, drop, true, refl, sym, ap, ◌∙◌, subst, arith}
use Rattle.std.proofs.lemmas.List.{length-map, length-take, length-drop, get_or-map, ext_get_or, get_or_append_left, get_or-append_right}
use Rattle.tq_field.specs.Digits.{digits}
use Rattle.tq_field.specs.Places.{run_at}
use Rattle.tq_field.proofs.Numbers.{length-digits}
use Rattle.tq_field.proofs.Runs.{get_or-run_at}
use Rattle.tq_host.specs.View.{View}
use Rattle.tq_host.specs.Within.{Within}
use Rattle.tq_host.proofs.Within.{wider}
use Rattle.tq_model.specs.DeviceForm.{page_bytes}
use Rattle.tq_model.specs.Site.{numbers_from}
use Rattle.tq_extent.specs.Bytes.{reaches, OnBytes, IsAny, AllReach}
use Rattle.tq_extent.proofs.BytesLemmas.{on_bytes_as}
use Rattle.tq_extent.proofs.ExtentLemmas.{length-numbers_from, get_or-numbers_from}
use Rattle.tq_pages.specs.Store.{Store, is_free, size_of, count_of, page_of, chain_pages, IsStore, HasAdded}
use Rattle.tq_pages.proofs.PageLemmas.{length-page_form}
use Rattle.tq_pages.specs.Content.{payload_bytes, page_form, number_behind, payload_place, chain_bytes, IsWritten, IsSameInUse, IsSameButFree, IsSameButPages, IsSameButChain}

-- on the pages of a chain an owner's bytes are the same
abbrev pub IsSameChain : Store → ℕ → List ℕ → List ℕ → Type 0
IsSameChain s g old new = (k : ℕ) → k < count_of s g → (i : ℕ) → i / page_bytes ≡ page_of s g k → get_or new i 0 ≡ get_or old i 0

-- two functions that agree below a number
map_same : (f h : ℕ → ℕ) (n : ℕ) → ((i : ℕ) → i < n → f i ≡ h i) → map f (numbers_from 0 n) ≡ map h (numbers_from 0 n)
map_same f h n same =
    let xs = numbers_from 0 n in
    let long = length-numbers_from 0 n in
    ext_get_or 0 (map f xs) (map h xs) (length-map xs f ∙ sym (length-map xs h)) (λ i lt.
    let below : i < length xs = let size = length-map xs f in omega arith in
    let inside : i < n = omega arith in
    let at : 0 + i ≡ i = omega arith in
    let here = get_or-numbers_from 0 n i 0 inside ∙ at in
    get_or-map f xs i 0 0 below ∙ ap f here ∙ same i inside ∙ sym (get_or-map h xs i 0 0 below ∙ ap h here))

-- what leaves the pages of a chain leaves its bytes
same_bytes : (s : Store) (g : ℕ) (a b : List ℕ) → IsSameChain s g a b → chain_bytes s g b ≡ chain_bytes s g a
same_bytes s g a b same =
    map_same (λ i. get_or b (payload_place s.next g i) 0) (λ i. get_or a (payload_place s.next g i) 0) (size_of s g) (λ i lt.
    let page : payload_place s.next g i / 1024 ≡ page_of s g (i / payload_bytes) = omega arith in
    same (i / payload_bytes) (omega arith) (payload_place s.next g i) page)

-- what is written on free pages leaves the pages of a chain
pub free_beside : (s : Store) (g : ℕ) (a b : List ℕ) → IsStore s → IsSameInUse s a b → IsSameChain s g a b
free_beside s g a b is same = λ k lt i page. same.outside i (ap (is_free s) page ∙ is.used g k lt)

-- so does what is written on the pages of another one
pub chain_beside : (s : Store) (first g : ℕ) (a b : List ℕ) → IsStore s → g ≢ first → IsSameButPages s.next first (count_of s first) a b → IsSameChain s g a b
chain_beside s first g a b is other same = λ k lt i page.
    same.outside i (λ j below at. other (is.apart g first k j lt below (sym page ∙ sym at)))

-- what is written on free pages leaves the bytes of a chain
pub bytes_kept : (s : Store) (g : ℕ) (a b : List ℕ) → IsStore s → IsSameInUse s a b → chain_bytes s g b ≡ chain_bytes s g a
bytes_kept s g a b is same = same_bytes s g a b (free_beside s g a b is same)

-- so does what is written on the pages of another one
pub others_kept : (s : Store) (first g : ℕ) (a b : List ℕ) → IsStore s → g ≢ first → IsSameButPages s.next first (count_of s first) a b
    → chain_bytes s g b ≡ chain_bytes s g a
others_kept s first g a b is other same = same_bytes s g a b (chain_beside s first g a b is other same)

module _ (old new : Store) (first size : ℕ) (added : HasAdded old first size new) where
  -- what is written on the pages of a chain was free before it was taken
  pub was_free : (a b : List ℕ) → IsSameButChain new first a b → IsSameButFree old a b
  was_free a b step =
      let pages = IsSameButPages new.next first (count_of new first) in
      let here = subst (λ cs. OnBytes cs pages a b) added.pages.clusters step in
      let count : count_of new first ≡ chain_pages size = ap chain_pages added.is in
      on_bytes_as old.clusters pages (IsSameInUse old) a b
      (λ same. record {
        size = same.size;
        outside = λ i used. same.outside i (λ k lt is.
            let free = added.pages.free k (omega arith) in
            let both = ap (is_free old) is in
            absurd (cc));
      }) here

  -- in each picture too
  pub stop_was_free : (v w : View) → AllReach old.dev old.clusters v
      → (AllReach new.dev new.clusters v → Within new.dev (IsSameButChain new first) IsAny v w) → Within old.dev (IsSameButFree old) IsAny v w
  stop_was_free v w reach stop =
      let reach_new : AllReach new.dev new.clusters v = λ image may.
      subst (λ cs. reaches cs image ≡ true) (sym added.pages.clusters) (reach image (subst (λ d. v.may_leave d image) added.pages.dev may)) in
      subst (λ d. Within d (IsSameButFree old) IsAny v w) added.pages.dev
      (wider new.dev (IsSameButChain new first) (IsSameButFree old) IsAny IsAny v w (λ b c may step any. (was_free b c step, tt)) (stop reach_new))

-- a chain that begins leaves the places of another one
pub places_kept : (old new : Store) (first size g : ℕ) (bytes : List ℕ) → HasAdded old first size new → 1 ≤ size_of old g
    → chain_bytes new g bytes ≡ chain_bytes old g bytes
places_kept old new first size g bytes added some =
    let other : g ≢ first = λ same. (let none = added.none in let size = ap (size_of old) same in omega arith) in
    let same_size = added.chains g other in
    let f : ℕ → ℕ = λ i. get_or bytes (payload_place new.next g i) 0 in
    ap (λ n. map f (numbers_from 0 n)) same_size
    ∙ map_same f (λ i. get_or bytes (payload_place old.next g i) 0) (size_of old g) (λ i lt.
    let page = added.others g (i / payload_bytes) (omega arith) in
    ap (λ p. get_or bytes (1024 * p + 8 + i % payload_bytes) 0) page)

-- a byte of a whole page
get_or-page_form : (next : ℕ) (bytes : List ℕ) (j : ℕ) → j < length bytes → get_or (page_form next bytes) (8 + j) 0 ≡ get_or bytes j 0
get_or-page_form next bytes j lt =
    let zeros : List ℕ = replicate (payload_bytes - length bytes) 0 in
    let tail : List ℕ = 0 ∷ 0 ∷ [] ++ (bytes ++ zeros) in
    let used : List ℕ = digits 2 (length bytes) in
    let a : 8 + j - 4 ≡ 4 + j = omega arith in
    let b : 4 + j - 2 ≡ 2 + j = omega arith in
    let c : 2 + j - 2 ≡ j = omega arith in
    get_or-append_right (digits 4 next) (used ++ tail) 4 (8 + j) 0 (length-digits 4 next) (omega arith) ∙ ap (λ i. get_or (used ++ tail) i 0) a
    ∙ get_or-append_right used tail 2 (4 + j) 0 (length-digits 2 (length bytes)) (omega arith) ∙ ap (λ i. get_or tail i 0) b
    ∙ get_or-append_right (0 ∷ 0 ∷ []) (bytes ++ zeros) 2 (2 + j) 0 refl (omega arith) ∙ ap (λ i. get_or (bytes ++ zeros) i 0) c
    ∙ get_or_append_left bytes zeros 0 j lt

-- whole pages have the bytes that they were made of
pub written_bytes : (s : Store) (first : ℕ) (written bytes : List ℕ) → size_of s first ≡ length written → IsWritten s first written bytes
    → chain_bytes s first bytes ≡ written
written_bytes s first written bytes size whole =
    let numbers = numbers_from 0 (size_of s first) in
    let f : ℕ → ℕ = λ i. get_or bytes (payload_place s.next first i) 0 in
    let long = length-numbers_from 0 (size_of s first) in
    let same_size = length-map numbers f in
    ext_get_or 0 (map f numbers) written (omega arith) (λ i lt.
    let within : i < length numbers = omega arith in
    let at : 0 + i ≡ i = omega arith in
    let k = i / payload_bytes in
    let j = i % payload_bytes in
    let run = run_at (payload_bytes * k) payload_bytes written in
    let short : j < payload_bytes = omega arith in
    let run_size = length-take payload_bytes (drop (payload_bytes * k) written) in
    let rest_size = length-drop (payload_bytes * k) written in
    let below : j < length run = omega arith in
    let number = number_behind s.next first (count_of s first) k in
    let form = page_form number run in
    let place : payload_place s.next first i ≡ 1024 * page_of s first k + (8 + j) = omega arith in
    let back : payload_bytes * k + j ≡ i = omega arith in
    let in_form : 8 + j < length form = omega (arith, length-page_form number run (omega arith)) in
    get_or-map f numbers i 0 0 within ∙ ap f (get_or-numbers_from 0 (size_of s first) i 0 (omega arith) ∙ at)
    ∙ ap (λ p. get_or bytes p 0) place ∙ whole k (omega arith) (8 + j) in_form ∙ get_or-page_form number run j below
    ∙ get_or-run_at (payload_bytes * k) payload_bytes written j 0 short ∙ ap (λ p. get_or written p 0) back)
