-- The pages of the chains that slots begin.
use Rattle.std.proofs.Common.{◌≡◌, ℕ, ◌+◌, ◌==◌, true, cond, List, [], ◌∷◌, map, refl, sym, ap, ◌∙◌, arith, inl, inr, Ordering}
use Rattle.std.specs.List.{filter, sum_by}
use Rattle.std.specs.Ordering.{is_lt}
use Rattle.std.proofs.lemmas.Bool.{cond_both}
use Rattle.std.proofs.lemmas.List.Sums.{sum_by-cons}
use Rattle.tq_model.specs.Room.{pages_of_entry, queue_pages, pages_held}
use Rattle.tq_model.specs.Space.{Entry, crashed, crashed_queue, outlives, freed}
use Rattle.tq_model.specs.Moves.{IndexedQueue, IndexedSpace, the_queue, space_of}
use Rattle.tq_types.specs.declared.identifiers.Arrival.{Arrival}
use Rattle.tq_slots.specs.MessageSlots.{IndexedEntry, Slots, Chains}
use Rattle.tq_slots.specs.SpaceOrder.{IsOneOf, IsAscending, by_name, in_place, in_order, by_label}
use Rattle.tq_slots.specs.QueueSlots.{QueueSlots, entries_said, entries_of, is_in_queue, the_entry}
use Rattle.tq_slots.specs.SlotsLaw.{HoldSpace, PagesLaw}
use Rattle.tq_slots.proofs.ListLemmas.{eq_itself, eq_other}
use Rattle.tq_slots.proofs.OrderedListLemmas.{in_place-cons, not_below_itself}
use Rattle.tq_slots.proofs.KeptLemmas.{kept_from_said, queue_read}
use Rattle.tq_slots.proofs.QueueSlotLemmas.{by_name_total}

-- ---- sums

pages : List Entry → ℕ
pages items = sum_by pages_of_entry items

pages-cons : (x : Entry) (items : List Entry) → pages (x ∷ items) ≡ pages_of_entry x + pages items
unfolding pages
pages-cons x items = sum_by-cons pages_of_entry x items

pages-placed : (R : Entry → Entry → Ordering) (x : Entry) (items : List Entry) → pages (in_place R x items) ≡ pages_of_entry x + pages items
pages-placed R x [] = pages-cons x []
pages-placed R x (y ∷ items) =
    let rest = pages-placed R x items in
    let first = pages-cons x (y ∷ items) in
    let second = pages-cons y items in
    let later = pages-cons y (in_place R x items) in
    ap pages (in_place-cons R x y items)
    ∙ cond_both (is_lt (R x y)) (x ∷ y ∷ items) (y ∷ in_place R x items) (λ xs. pages xs ≡ pages_of_entry x + pages (y ∷ items)) (λ t. first) (λ f. omega arith)

pages-in_order : (R : Entry → Entry → Ordering) (items : List Entry) → pages (in_order R items) ≡ pages items
pages-in_order R [] = refl
pages-in_order R (x ∷ items) =
    let placed = pages-placed R x (in_order R items) in
    let rest = pages-in_order R items in
    let first = pages-cons x items in
    omega arith

-- ---- queue by queue

-- of these queues, the pages of those entries that are in them
pages_in : List IndexedQueue → List IndexedEntry → ℕ
pages_in [] es = 0
pages_in (q ∷ queues) es = pages (entries_of q.index es) + pages_in queues es

pages_of : IndexedEntry → ℕ
pages_of e = pages_of_entry (the_entry e)

-- an entry that is in none of the queues adds nothing
adds_nothing : (queues : List IndexedQueue) (e : IndexedEntry) (es : List IndexedEntry) → ((q : IndexedQueue) → IsOneOf queues q → q.index ≡ e.queue → ⊥)
    → pages_in queues (e ∷ es) ≡ pages_in queues es
unfolding pages_in
adds_nothing [] e es none = refl
adds_nothing (q ∷ queues) e es none =
    let rest = adds_nothing queues e es (λ r h. none r (inr h)) in
    let here : pages (entries_of q.index (e ∷ es)) ≡ pages (entries_of q.index es) =
    ap (λ b. pages (map the_entry (cond b (e ∷ filter (is_in_queue q.index) es) (filter (is_in_queue q.index) es))))
    (eq_other e.queue q.index (λ s. none q (inl refl) (sym s))) in
    omega arith

-- no two have one index
AllDiffer : List IndexedQueue → Type 0
AllDiffer [] = Unit {0}
AllDiffer (q ∷ queues) = ((r : IndexedQueue) → IsOneOf queues r → q.index ≡ r.index → ⊥) × AllDiffer queues

indices_differ : (queues : List IndexedQueue) → IsAscending by_name queues
    → ((q r : IndexedQueue) → IsOneOf queues q → IsOneOf queues r → q.index ≡ r.index → q ≡ r) → AllDiffer queues
unfolding AllDiffer
indices_differ [] up one = tt
indices_differ (q ∷ queues) up one = (
  λ r h e. not_below_itself by_name_total q (ap (by_name q) (one q r (inl refl) (inr h) e) ∙ up.0 r h),
  indices_differ queues up.1 (λ a b h k. one a b (inr h) (inr k)),
)

adds_its_own : (queues : List IndexedQueue) (e : IndexedEntry) (es : List IndexedEntry) → AllDiffer queues → (q : IndexedQueue) → IsOneOf queues q
    → q.index ≡ e.queue
    → pages_in queues (e ∷ es) ≡ pages_of e + pages_in queues es
unfolding pages_in pages_of AllDiffer
adds_its_own [] e es differ q h index = absurd h
adds_its_own (r ∷ queues) e es differ q (inl s) index =
    let mine : r.index ≡ e.queue = ap (λ (x : IndexedQueue). x.index) s ∙ index in
    let found : (e.queue == r.index) ≡ true = ap (λ (n : ℕ). e.queue == n) mine ∙ eq_itself e.queue in
    let rest = adds_nothing queues e es (λ x k i. differ.0 x k (mine ∙ sym i)) in
    let more = pages-cons (the_entry e) (entries_of r.index es) in
    let here : pages (entries_of r.index (e ∷ es)) ≡ pages (the_entry e ∷ entries_of r.index es) =
    ap (λ b. pages (map the_entry (cond b (e ∷ filter (is_in_queue r.index) es) (filter (is_in_queue r.index) es)))) found in
    omega arith
adds_its_own (r ∷ queues) e es differ q (inr k) index =
    let rest = adds_its_own queues e es differ.1 q k index in
    let here : pages (entries_of r.index (e ∷ es)) ≡ pages (entries_of r.index es) =
    ap (λ b. pages (map the_entry (cond b (e ∷ filter (is_in_queue r.index) es) (filter (is_in_queue r.index) es))))
    (eq_other e.queue r.index (λ s. differ.0 q k (sym s ∙ sym index))) in
    omega arith

pages_of_none : (queues : List IndexedQueue) → pages_in queues [] ≡ 0
unfolding pages_in pages
pages_of_none [] = refl
pages_of_none (q ∷ queues) = ap (λ (n : ℕ). 0 + n) (pages_of_none queues)

by_queues : (queues : List IndexedQueue) → AllDiffer queues → (es : List IndexedEntry)
    → ((e : IndexedEntry) → IsOneOf es e → (q : IndexedQueue) × IsOneOf queues q × (q.index ≡ e.queue))
    → sum_by pages_of es ≡ pages_in queues es
by_queues queues differ [] own = sym (pages_of_none queues)
by_queues queues differ (e ∷ es) own =
    let mine = own e (inl refl) in
    let more = adds_its_own queues e es differ mine.0 mine.1 mine.2 in
    let sum = sum_by-cons pages_of e es in
    let rest = by_queues queues differ es (λ d h. own d (inr h)) in
    omega arith

module _ (site number : ℕ) (queue_slots : QueueSlots) (slots : Slots) (chains : Chains) (s : IndexedSpace)
    (hold : HoldSpace site number queue_slots slots chains s) where
  pages_crashed : (queues : List IndexedQueue) → ((q : IndexedQueue) → IsOneOf queues q → IsOneOf s.queues q)
      → pages_in queues (entries_said site number chains slots) ≡ sum_by queue_pages (map crashed_queue (map the_queue queues))
  unfolding pages_in pages
  pages_crashed [] sub = refl
  pages_crashed (q ∷ queues) sub =
      let es = entries_said site number chains slots in
      let rest = pages_crashed queues (λ r h. sub r (inr h)) in
      let sum = sum_by-cons queue_pages (crashed_queue q.queue) (map crashed_queue (map the_queue queues)) in
      let here : pages (entries_of q.index es) ≡ pages (map freed (filter outlives q.queue.items)) =
      sym (pages-in_order (by_label q.queue.order) (entries_of q.index es)) ∙ ap pages
      (queue_read site number chains slots s hold.order.entries hold.kept q (sub q (inl refl))) in
      omega arith

  all_pages : sum_by (λ e. pages_of_entry (the_entry e)) (entries_said site number chains slots) ≡ pages_held (crashed (space_of s))
  unfolding pages_of
  all_pages =
      let es = entries_said site number chains slots in
      by_queues s.queues (indices_differ s.queues hold.order.names hold.order.entries.indices) es (λ e h.
      let k = kept_from_said site number chains slots s hold.order.entries hold.kept e h in
      (k.queue, k.of_space, ap (λ (d : Arrival × IndexedEntry). d.1.queue) k.is))
      ∙ pages_crashed s.queues (λ q h. h)

pub pages_law : PagesLaw
pages_law site number queue_slots slots chains s hold = all_pages site number queue_slots slots chains s hold
