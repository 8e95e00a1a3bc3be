-- Places of slots: of those that are used by the arrivals of their messages, and of those that are empty.
use Rattle.std.specs.Prelude.{◌≡◌, ◌≢◌, ◌<◌, ◌≤◌, ℕ, List, length, Some, None, All, Contains, is_some, option_map, slice_index_or}
use Rattle.std.specs.List.{AllPairs, AllWithin, count_by}
use Rattle.std.specs.declared.cmp.Ordering.TheVariants.{Less}
use Rattle.tq_types.specs.Label.{arrival_cmp}
use Rattle.tq_types.specs.declared.identifiers.Arrival.{Arrival}
use Rattle.tq_slots.specs.MessageSlots.{UsedSlot, Slots, slot_arrival}
use Rattle.tq_slottable.specs.declared.places.UsedPlace.{UsedPlace}

abbrev pub IsOlder : UsedPlace → UsedPlace → Type 0
IsOlder p q = arrival_cmp p.arrival q.arrival ≡ Less

abbrev pub IsLower : UsedPlace → UsedPlace → Type 0
IsLower p q = p.index < q.index

abbrev pub IsAbove : ℕ → ℕ → Type 0
IsAbove i j = j < i

-- the used slots, each once, in an order
pub record ArePlaces (IsBefore : UsedPlace → UsedPlace → Type 0) (slots : Slots) (places : List UsedPlace) : Type 0 where
  pub ascending : AllPairs IsBefore places
  pub used : All (λ p. option_map slot_arrival (slice_index_or slots p.index None) ≡ Some p.arrival) places
  pub listed : (i : ℕ) (u : UsedSlot) → slice_index_or slots i None ≡ Some u → Contains places (record { arrival = u.arrival; index = i })
  pub count : length places ≡ count_by is_some slots

-- the older arrival first
abbrev pub AreUsedPlaces : Slots → List UsedPlace → Type 0
AreUsedPlaces = ArePlaces IsOlder

-- as the slots stand
abbrev pub AreListedPlaces : Slots → List UsedPlace → Type 0
AreListedPlaces = ArePlaces IsLower

-- the empty slots from an index on, each once, the lowest last
pub record AreEmptyPlaces (slots : Slots) (from : ℕ) (indices : List ℕ) : Type 0 where
  pub descending : AllPairs IsAbove indices
  pub empty : All (λ i. (from ≤ i) × (i < length slots) × (slice_index_or slots i None ≡ None)) indices
  pub listed : (i : ℕ) → from ≤ i → i < length slots → slice_index_or slots i None ≡ None → Contains indices i

-- where an arrival that is not among places would stand
pub record IsGap (used : List UsedPlace) (arrival : Arrival) (at : ℕ) : Type 0 where
  pub within : at ≤ length used
  pub older : AllWithin (λ p. arrival_cmp p.arrival arrival ≡ Less) used 0 at
  pub newer : AllWithin (λ p. arrival_cmp arrival p.arrival ≡ Less) used at (length used)

-- no used slot has the arrival
abbrev pub IsNewIn : Slots → Arrival → Type 0
IsNewIn slots arrival = (i : ℕ) (u : UsedSlot) → slice_index_or slots i None ≡ Some u → u.arrival ≢ arrival

-- no two used slots are of one arrival
abbrev pub HasDistinctArrivals : Slots → Type 0
HasDistinctArrivals slots =
    (i j : ℕ) (u v : UsedSlot) → slice_index_or slots i None ≡ Some u → slice_index_or slots j None ≡ Some v → u.arrival ≡ v.arrival → i ≡ j
