-- What a store of pages holds: which pages are free, and its chains, each with its pages and its bytes.
use Rattle.std.specs.Prelude.{◌≡◌, ◌≢◌, ◌⊎◌, ◌<◌, ◌≤◌, ◌+◌, ℕ, zero, suc, Bool, true, false, List, ◌++◌, length, get_or, set, replicate}
use Rattle.tq_model.specs.Space.{divided_up}
use Rattle.tq_model.specs.Site.{most_clusters}
use Rattle.tq_extent.specs.Pages.{page_count}
use Rattle.tq_pages.specs.FreePages.{free_count}

-- The pages of an owner by their numbers. Behind each page of a chain stands its next one, and at the first page the bytes of
-- the chain; 0 bytes stand where no chain begins.
pub record Store : Type 0 where
  pub dev : ℕ
  pub clusters : List ℕ
  pub free : List Bool
  pub next : List ℕ
  pub sizes : List ℕ

abbrev pub is_free : Store → ℕ → Bool
is_free s page = get_or s.free page false

abbrev pub free_pages : Store → ℕ
free_pages s = free_count s.free

-- the pages that so many bytes take
abbrev pub chain_pages : ℕ → ℕ
chain_pages size = divided_up size 1016

-- the page so many places behind this one
abbrev pub page_behind : List ℕ → ℕ → ℕ → ℕ
page_behind next page zero = page
page_behind next page (suc k) = get_or next (page_behind next page k) 0

-- The chain that begins at a page: its bytes, its pages, and the page at a place among them.

abbrev pub size_of : Store → ℕ → ℕ
size_of s first = get_or s.sizes first 0

abbrev pub count_of : Store → ℕ → ℕ
count_of s first = chain_pages (size_of s first)

abbrev pub page_of : Store → ℕ → ℕ → ℕ
page_of s first k = page_behind s.next first k

-- this is one of the first n pages from that one on
pub record IsAmong (next : List ℕ) (first n page : ℕ) : Type 0 where
  pub at : ℕ
  pub below : at < n
  pub is : page_behind next first at ≡ page

-- The pages of chains are not free, and no two chains share one.
pub record IsStore (s : Store) : Type 0 where
  pub next_size : length s.next ≡ length s.free
  pub sizes_size : length s.sizes ≡ length s.free
  pub mapped : length s.free ≤ page_count s.clusters
  pub few : length s.clusters ≤ most_clusters
  pub within : (f k : ℕ) → k < count_of s f → page_of s f k < length s.free
  pub used : (f k : ℕ) → k < count_of s f → is_free s (page_of s f k) ≡ false
  pub distinct : (f j k : ℕ) → j < count_of s f → k < count_of s f → page_of s f j ≡ page_of s f k → j ≡ k
  pub apart : (f g j k : ℕ) → j < count_of s f → k < count_of s g → page_of s f j ≡ page_of s g k → f ≡ g

-- a store of the pages from this one on, all of them free
abbrev pub new_store : ℕ → List ℕ → ℕ → ℕ → Store
new_store dev clusters first pages = record {
  dev = dev;
  clusters = clusters;
  free = replicate first false ++ replicate pages true;
  next = replicate (first + pages) 0;
  sizes = replicate (first + pages) 0;
}

-- the store with so many free pages more, on these clusters
abbrev pub extended : Store → List ℕ → ℕ → Store
extended s clusters pages = record {
  dev = s.dev;
  clusters = clusters;
  free = s.free ++ replicate pages true;
  next = s.next ++ replicate pages 0;
  sizes = s.sizes ++ replicate pages 0;
}

-- the store with this page taken, and that one behind it
abbrev pub with_taken : Store → ℕ → ℕ → Store
with_taken s page next = record s { free = set s.free page false; next = set s.next page next }

-- the store with this page free
abbrev pub with_free : Store → ℕ → Store
with_free s page = record s { free = set s.free page true }

-- the store with a chain of so many bytes that begins at this page
abbrev pub with_size : Store → ℕ → ℕ → Store
with_size s first size = record s { sizes = set s.sizes first size }

-- Pages from this one on are neither free nor of a chain.
pub record AreLoose (s : Store) (first n : ℕ) : Type 0 where
  pub within : (k : ℕ) → k < n → page_of s first k < length s.free
  pub used : (k : ℕ) → k < n → is_free s (page_of s first k) ≡ false
  pub distinct : (j k : ℕ) → j < n → k < n → page_of s first j ≡ page_of s first k → j ≡ k
  pub apart : (g j k : ℕ) → j < count_of s g → k < n → page_of s g j ≡ page_of s first k → ⊥

-- From the one store to the other n pages were taken that were free; they follow one another from this one on.
pub record HasTaken (old : Store) (first n : ℕ) (new : Store) : Type 0 where
  pub dev : new.dev ≡ old.dev
  pub clusters : new.clusters ≡ old.clusters
  pub size : length new.free ≡ length old.free
  pub free : (k : ℕ) → k < n → is_free old (page_of new first k) ≡ true
  pub taken : (k : ℕ) → k < n → is_free new (page_of new first k) ≡ false
  pub distinct : (j k : ℕ) → j < n → k < n → page_of new first j ≡ page_of new first k → j ≡ k
  pub left : (page : ℕ) → is_free new page ≡ true → is_free old page ≡ true
  pub others : (page : ℕ) → is_free old page ≡ true → (is_free new page ≡ true) ⊎ IsAmong new.next first n page
  pub behind : (page : ℕ) → is_free old page ≡ false → get_or new.next page 0 ≡ get_or old.next page 0
  pub count : free_pages new + n ≡ free_pages old

-- The one store and a chain of so many bytes that begins at this page, on pages that were free, are the other store.
pub record HasAdded (old : Store) (first size : ℕ) (new : Store) : Type 0 where
  pub pages : HasTaken old first (chain_pages size) new
  pub none : size_of old first ≡ 0
  pub is : size_of new first ≡ size
  pub chains : (g : ℕ) → g ≢ first → size_of new g ≡ size_of old g
  pub others : (g k : ℕ) → k < count_of old g → page_of new g k ≡ page_of old g k

-- Both have the same chains, and the same pages are free.
pub record IsSameStore (old new : Store) : Type 0 where
  pub dev : new.dev ≡ old.dev
  pub clusters : new.clusters ≡ old.clusters
  pub size : length new.free ≡ length old.free
  pub free : (page : ℕ) → is_free new page ≡ is_free old page
  pub count : free_pages new ≡ free_pages old
  pub chains : (g : ℕ) → size_of new g ≡ size_of old g
  pub pages : (g k : ℕ) → k < count_of old g → page_of new g k ≡ page_of old g k
