-- A space stays within its limits.
use Rattle.std.proofs.Common.{◌≡◌, ℕ, ◌+◌, ◌≤◌, suc, ⊎_elim, Bool, true, false, cond, not, List, [], ◌∷◌, map, take, drop, length, refl, ap, arith, Some, None, ltb-false, length-append, length-take, length-drop}
use Rattle.std.specs.Prelude.{filter, nat_lt}
use Rattle.std.specs.List.{position_or_len, remove, sum_by}
use Rattle.std.proofs.lemmas.Bool.{cases_lt}
use Rattle.std.proofs.lemmas.List.{length-map}
use Rattle.std.proofs.lemmas.List.Edits.{length-insert}
use Rattle.std.proofs.lemmas.List.Filters.{length-filter_both, sum_by-filter_both}
use Rattle.std.proofs.lemmas.List.Sums.{sum_by-cons, sum_by-insert, sum_by-remove}
use Rattle.tq_types.specs.declared.identifiers.MsgId.{MsgId}
use Rattle.tq_types.specs.declared.rooms.Lack.{Lack}
use Rattle.tq_types.specs.declared.rooms.Resource.TheVariants.{Messages, Pages}
use Rattle.tq_machine.specs.MachineViews.{IsWithinLimits}
use Rattle.tq_model.specs.Space.{Space, Queue, Entry, change_first, has_id, holds_id, is_named, is_expired, outlives, freed, stands_before, with_entry, with_entry_in, without_entry, space_without, purged, purged_queue, crashed, crashed_queue}
use Rattle.tq_model.specs.Room.{pages_of_entry, queue_pages, pages_held, messages_held, first_lacking, message_rooms}
use Rattle.tq_model.proofs.Maps.{sum_by-map}
use Rattle.tq_model.proofs.Places.{position_or_len-within}
use Rattle.tq_machine.proofs.QueueLists.{remove-past}

-- a sum of terms of which each is at most as large
pub sum-map-most : {X : Type 0} (g : X → ℕ) (f : X → X) → ((x : X) → g (f x) ≤ g x) → (xs : List X) → sum_by g (map f xs) ≤ sum_by g xs
sum-map-most g f less [] = omega arith
sum-map-most g f less (x ∷ xs) =
    let rest = sum-map-most g f less xs in
    let one = less x in
    omega (arith, sum_by-cons g (f x) (map f xs), sum_by-cons g x xs)

-- one term is more by at most n
pub sum-first-most : {X : Type 0} (g : X → ℕ) (test : X → Bool) (f : X → X) (n : ℕ) → ((x : X) → g (f x) ≤ g x + n) → (xs : List X)
    → sum_by g (change_first test f xs) ≤ sum_by g xs + n
sum-first-most g test f n more [] = omega arith
sum-first-most g test f n more (x ∷ xs) =
    let before = sum_by-cons g x xs in
    elim (test x) as (λ b. sum_by g (cond b (f x ∷ xs) (x ∷ change_first test f xs)) ≤ sum_by g (x ∷ xs) + n) [
      | true ↦ let one = more x in omega (arith, sum_by-cons g (f x) xs)
      | false ↦ let rest = sum-first-most g test f n more xs in omega (arith, sum_by-cons g x (change_first test f xs))
    ]

-- The parts of queues

abbrev length_of : Queue → ℕ
length_of queue = length queue.items

filter-most : {X : Type 0} (keep : X → Bool) (xs : List X) → length (filter keep xs) ≤ length xs
filter-most keep xs = omega (arith, length-filter_both keep (λ x. not (keep x)) (λ x. refl) xs)

filter-less : {X : Type 0} (g : X → ℕ) (keep : X → Bool) (xs : List X) → sum_by g (filter keep xs) ≤ sum_by g xs
filter-less g keep xs = omega (arith, sum_by-filter_both keep (λ x. not (keep x)) (λ x. refl) g xs)

remove-most : {X : Type 0} (xs : List X) (at : ℕ) → length (remove xs at) ≤ length xs
remove-most xs at = omega (arith, length-append (take at xs) (drop (suc at) xs), length-take at xs, length-drop (suc at) xs)

remove-less : {X : Type 0} (g : X → ℕ) (xs : List X) (at : ℕ) → sum_by g (remove xs at) ≤ sum_by g xs
remove-less g [] at = omega (arith, ap (sum_by g) (remove-past [] at (omega arith)))
remove-less g (x ∷ xs) at =
    ⊎_elim (λ within. omega (arith, sum_by-remove g (x ∷ xs) at x within))
    (λ past. omega (arith, ap (sum_by g) (remove-past (x ∷ xs) at past)))
    (cases_lt at (length (x ∷ xs)))

with_entry-length : (item : Entry) (queue : Queue) → length_of (with_entry item queue) ≤ length_of queue + 1
with_entry-length item queue =
    let place = position_or_len (stands_before queue.order item) queue.items in
    omega (arith, length-insert queue.items place item (position_or_len-within (stands_before queue.order item) queue.items))

with_entry-pages : (item : Entry) (queue : Queue) → queue_pages (with_entry item queue) ≤ queue_pages queue + pages_of_entry item
with_entry-pages item queue = omega (arith, sum_by-insert pages_of_entry queue.items (position_or_len (stands_before queue.order item) queue.items) item)

purged-length : (clock : ℕ) (queue : Queue) → length_of (purged_queue clock queue) ≤ length_of queue
purged-length clock queue = filter-most (λ item. not (is_expired clock item)) queue.items

purged-pages : (clock : ℕ) (queue : Queue) → queue_pages (purged_queue clock queue) ≤ queue_pages queue
purged-pages clock queue = filter-less pages_of_entry (λ item. not (is_expired clock item)) queue.items

crashed-length : (queue : Queue) → length_of (crashed_queue queue) ≤ length_of queue
crashed-length queue = omega (arith, length-map (filter outlives queue.items) freed, filter-most outlives queue.items)

crashed-pages : (queue : Queue) → queue_pages (crashed_queue queue) ≤ queue_pages queue
crashed-pages queue =
    let same : queue_pages (crashed_queue queue) ≡ sum_by pages_of_entry (filter outlives queue.items) = sum_by-map freed pages_of_entry (filter outlives queue.items) in
    omega (arith, filter-less pages_of_entry outlives queue.items)

-- Spaces

pub purged-messages : (clock : ℕ) (s : Space) → messages_held (purged clock s) ≤ messages_held s
purged-messages clock s = sum-map-most length_of (purged_queue clock) (purged-length clock) s.queues

purged-held : (clock : ℕ) (s : Space) → pages_held (purged clock s) ≤ pages_held s
purged-held clock s = sum-map-most queue_pages (purged_queue clock) (purged-pages clock) s.queues

pub within-crashed : (s : Space) → IsWithinLimits s → IsWithinLimits (crashed s)
within-crashed s within =
    record {
      messages = omega (arith, sum-map-most length_of crashed_queue crashed-length s.queues, within.messages);
      pages = omega (arith, sum-map-most queue_pages crashed_queue crashed-pages s.queues, within.pages);
    }

pub within-purged : (clock : ℕ) (s : Space) → IsWithinLimits s → IsWithinLimits (purged clock s)
within-purged clock s within =
    record {
      messages = omega (arith, purged-messages clock s, within.messages);
      pages = omega (arith, purged-held clock s, within.pages);
    }

pub within-taken : (id : MsgId) (clock : ℕ) (s : Space) → IsWithinLimits s → IsWithinLimits (space_without id (purged clock s))
within-taken id clock s within =
    let queues = map (purged_queue clock) s.queues in
    record {
      messages = omega (arith, sum-first-most length_of (holds_id id) (without_entry id) 0 (λ queue. omega (arith, remove-most queue.items (position_or_len (has_id id) queue.items))) queues, purged-messages clock s, within.messages);
      pages = omega (arith, sum-first-most queue_pages (holds_id id) (without_entry id) 0 (λ queue. omega (arith, remove-less pages_of_entry queue.items (position_or_len (has_id id) queue.items))) queues, purged-held clock s, within.pages);
    }

-- neither of two is lacking
none-lacking : (a b : Bool) (x y : Lack) → cond a (Some x) (cond b (Some y) None) ≡ None → (a ≡ false) × (b ≡ false)
none-lacking true b x y h = cc
none-lacking false true x y h = cc
none-lacking false false x y h = (refl, refl)

pub within-added : (name : List ℕ) (item : Entry) (clock need : ℕ) (s : Space) → IsWithinLimits s → pages_of_entry item ≡ need → first_lacking (message_rooms s (purged clock s) need) ≡ None
    → IsWithinLimits (record s { queues = with_entry_in name item (map (purged_queue clock) s.queues) })
within-added name item clock need s within pages enough =
    let queues = map (purged_queue clock) s.queues in
    let parts = none-lacking (nat_lt s.limits.messages (1 + messages_held (purged clock s))) (nat_lt s.limits.pages (need + pages_held s))
    (record { resource = Messages; need = 1; held = messages_held (purged clock s); limit = s.limits.messages }) (record { resource = Pages; need = need; held = pages_held s; limit = s.limits.pages }) enough in
    let messages_fit : 1 + messages_held (purged clock s) ≤ s.limits.messages = ltb-false s.limits.messages (1 + messages_held (purged clock s)) parts.0 in
    let pages_fit : need + pages_held s ≤ s.limits.pages = ltb-false s.limits.pages (need + pages_held s) parts.1 in
    record {
      messages = omega (arith, sum-first-most length_of (is_named name) (with_entry item) 1 (with_entry-length item) queues);
      pages = omega (arith, sum-first-most queue_pages (is_named name) (with_entry item) (pages_of_entry item) (with_entry-pages item) queues, purged-held clock s);
    }
