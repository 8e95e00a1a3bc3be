-- Queue slots after a plan, and the queues that queue slots say.
use Rattle.std.proofs.Common.{◌≡◌, ◌⊎◌, ℕ, zero, suc, ◌+◌, ◌≤◌, ◌==◌, ◌||◌, not, Bool, true, false, cond, List, [], ◌∷◌, ◌++◌, map, Option, Some, None}
use Rattle.std.proofs.Common.{Less, Equal, Greater, length, get_or, set, take, drop, refl, sym, ap, ◌∙◌, subst, arith, ⊎_elim, inl, inr, eqb-true}
use Rattle.std.specs.Prelude.{option_map}
use Rattle.std.specs.List.{find, flat_map, insert, position_or_len, list_any, list_all}
use Rattle.std.specs.Ordering.{nat_cmp, ordering_reverse}
use Rattle.std.specs.Cmp.{IsTotalOrder}
use Rattle.std.specs.Cmp.Lexicographic.{slice_cmp}
use Rattle.std.proofs.lemmas.List.{take-append-drop, get_or-set_same, get_or-set_other, length-set}
use Rattle.std.proofs.lemmas.Bool.{cases_Bool, or_parts, false≢true, cond_both, cases_lt, and_from, not_from_false, false_from_ne_true}
use Rattle.std.proofs.lemmas.Cmp.{on_total, lists_total, nat_cmp_total, tied_itself}
use Rattle.std.proofs.lemmas.Slice.Eq.{bytes_eq-Decides}
use Rattle.std.proofs.lemmas.Map.Lookups.{exact_bytes}
use Rattle.std.specs.Str.{bytes_eq}
use Rattle.std.proofs.Math.ListN.{get_or-eq_default}
use Rattle.tq_types.specs.declared.identifiers.MsgId.{MsgId}
use Rattle.tq_model.specs.declared.space.QueueDef.{QueueDef}
use Rattle.tq_model.specs.declared.space.SpaceMove.{SpaceMove}
use Rattle.tq_model.specs.declared.space.SpaceMove.TheVariants.{Insert, Remove, Replace, PutQueue, DropQueue}
use Rattle.tq_model.specs.declared.space.Change.{Change}
use Rattle.tq_model.specs.Reading.{no_two}
use Rattle.tq_model.specs.Space.{Owner, Entry, Queue, change_first, with_entry, without_entry}
use Rattle.tq_model.specs.Moves.{IndexedQueue, IndexedSpace, owner_in, entry_view, after_change, queue_of, has_index, on_queue, indexed_holds}
use Rattle.tq_model.specs.Moves.{entry_inserted, entry_removed, entry_with_id, entry_replaced, comes_before, queue_put, queue_dropped, queues_moved, moved}
use Rattle.tq_model.specs.Moves.{moved_by, purged_of}
use Rattle.tq_slots.specs.SlotTable.{each}
use Rattle.tq_slots.specs.KeptEntries.{SpacePlan, space_after}
use Rattle.tq_slots.specs.SpaceOrder.{IsOneOf, IsAscending, by_name}
use Rattle.tq_slots.specs.QueueSlots.{QueueSlots, def_of, the_def, def_at, queues_named, queue_slots_after, HaveQueues, queues_from, used_slots, have_one_name}
use Rattle.tq_slots.proofs.ListLemmas.{some_none, some_injective, eq_itself, of_map, to_map, of_find, none_of_two, to_all, no_two_parts, without_first}
use Rattle.tq_slots.proofs.OrderedListLemmas.{AreApart, ascending_apart, less_equal, one_list, of_placed, to_placed, placed_ascending}

-- ---- the queue of an index

def_more : (i : ℕ) (q : IndexedQueue) (xs ys : List IndexedQueue) → def_at i xs ≡ def_at i ys → def_at i (q ∷ xs) ≡ def_at i (q ∷ ys)
def_more i q xs ys rest =
    (elim (has_index i q) as (λ b. option_map the_def (cond b (Some q) (find (has_index i) xs)) ≡ option_map the_def
    (cond b (Some q) (find (has_index i) ys))) [ true ↦ refl | false ↦ rest ])

def_past : (i : ℕ) (q : IndexedQueue) → has_index i q ≡ false → (xs ys : List IndexedQueue) → def_at i (xs ++ q ∷ ys) ≡ def_at i (xs ++ ys)
def_past i q other [] ys = ap (λ b. option_map the_def (cond b (Some q) (find (has_index i) ys))) other
def_past i q other (x ∷ xs) ys = def_more i x (xs ++ q ∷ ys) (xs ++ ys) (def_past i q other xs ys)

def_changed : (i : ℕ) (test : IndexedQueue → Bool) (change : Queue → Queue)
    → ((q : IndexedQueue) → test q ≡ true → (has_index i q ≡ false) ⊎ (def_of (change q.queue) ≡ def_of q.queue))
    → (queues : List IndexedQueue) → def_at i (change_first test (on_queue change) queues) ≡ def_at i queues
def_changed i test change keeps [] = refl
def_changed i test change keeps (q ∷ queues) =
    let rest = change_first test (on_queue change) queues in
    cond_both (test q) (on_queue change q ∷ queues) (q ∷ rest) (λ qs. def_at i qs ≡ def_at i (q ∷ queues))
    (λ t. ⊎_elim
    (λ other. (λ j. option_map the_def (cond (other j) (Some (on_queue change q)) (find (has_index i) queues))) ∙ sym
    (λ j. option_map the_def (cond (other j) (Some q) (find (has_index i) queues))))
    (λ same. (elim (has_index i q) as (λ b. option_map the_def (cond b (Some (on_queue change q)) (find (has_index i) queues)) ≡ option_map the_def
    (cond b (Some q) (find (has_index i) queues))) [ true ↦ ap Some same | false ↦ refl ]))
    (keeps q t))
    (λ f. def_more i q rest queues (def_changed i test change keeps queues))

turned : (i index : ℕ) → (i == index) ≡ false → (index == i) ≡ false
turned i index other = false_from_ne_true (index == i) (λ e. false≢true (sym other ∙ ap (λ (n : ℕ). i == n) (eqb-true index i e) ∙ eq_itself i))

other_index : (i index : ℕ) (q : IndexedQueue) → (i == index) ≡ false → has_index index q ≡ true → has_index i q ≡ false
other_index i index q other at = ap (λ (n : ℕ). n == i) (eqb-true q.index index at) ∙ turned i index other

def_dropped : (i index : ℕ) → (i == index) ≡ false → (queues : List IndexedQueue) → def_at i (queue_dropped index queues) ≡ def_at i queues
def_dropped i index other [] = refl
def_dropped i index other (q ∷ queues) =
    ap (def_at i) (without_first (has_index index) q queues)
    ∙ cond_both (has_index index q) queues (q ∷ queue_dropped index queues) (λ qs. def_at i qs ≡ def_at i (q ∷ queues))
    (λ t. sym (def_past i q (other_index i index q other t) [] queues))
    (λ f. def_more i q (queue_dropped index queues) queues (def_dropped i index other queues))

pub def_inserted : (i index : ℕ) (x : Entry) (queues : List IndexedQueue) → def_at i (entry_inserted index x queues) ≡ def_at i queues
def_inserted i index x queues = def_changed i (has_index index) (with_entry x) (λ q t. inr refl) queues

def_removed : (i : ℕ) (id : MsgId) (queues : List IndexedQueue) → def_at i (entry_removed id queues) ≡ def_at i queues
def_removed i id queues = def_changed i (indexed_holds id) (without_entry id) (λ q t. inr refl) queues

def_replaced : (owners : ℕ → Owner) (i : ℕ) (c : Change) (found : Option Entry) (queues : List IndexedQueue)
    → def_at i (entry_replaced owners c found queues) ≡ def_at i queues
def_replaced owners i c None queues = refl
def_replaced owners i c (Some x) queues = def_inserted i c.queue (after_change owners c x) (entry_removed c.id queues) ∙ def_removed i c.id queues

pub def_put : (i index : ℕ) (d : QueueDef) → (i == index) ≡ false → (queues : List IndexedQueue) → def_at i (queue_put index d queues) ≡ def_at i queues
def_put i index d other queues =
    let made : IndexedQueue = record { index = index; queue = queue_of d [] } in
    let at = position_or_len (comes_before d.name) queues in
    cond_both (list_any (has_index index) queues) (change_first (has_index index) (on_queue (λ queue. queue_of d queue.items)) queues)
    (insert queues at made) (λ qs. def_at i qs ≡ def_at i queues)
    (λ t. def_changed i (has_index index) (λ queue. queue_of d queue.items) (λ q h. inl (other_index i index q other h)) queues)
    (λ f. def_past i made (turned i index other) (take at queues) (drop at queues) ∙ ap (def_at i) (take-append-drop at queues))

names_index : List ℕ → ℕ → Bool
names_index is i = list_any (λ k. i == k) is

def_moved : (owners : ℕ → Owner) (i : ℕ) (move : SpaceMove) (queues : List IndexedQueue) → names_index (queues_named move) i ≡ false
    → def_at i (queues_moved owners move queues) ≡ def_at i queues
unfolding names_index
def_moved owners i (Insert e) queues other = def_inserted i e.queue (entry_view owners e) queues
def_moved owners i (Remove id) queues other = def_removed i id queues
def_moved owners i (Replace c) queues other = def_replaced owners i c (entry_with_id c.id queues) queues
def_moved owners i (PutQueue index d) queues other = def_put i index d (or_parts (i == index) false other).0 queues
def_moved owners i (DropQueue index) queues other = def_dropped i index (or_parts (i == index) false other).0 queues

def_moved_by : (i : ℕ) (moves : List SpaceMove) (s : IndexedSpace) → names_index (flat_map queues_named moves) i ≡ false
    → def_at i (moved_by moves s).queues ≡ def_at i s.queues
unfolding names_index
def_moved_by i [] s other = refl
def_moved_by i (move ∷ moves) s other =
    let p = none_of_two (λ k. i == k) (queues_named move) (flat_map queues_named moves) other in
    def_moved_by i moves (moved move s) p.1 ∙ def_moved (owner_in s.owners) i move s.queues p.0

pub def_purged : (i : ℕ) (ids : List MsgId) (s : IndexedSpace) → def_at i (purged_of ids s).queues ≡ def_at i s.queues
def_purged i [] s = refl
def_purged i (id ∷ ids) s = def_purged i ids (moved (Remove id) s) ∙ def_removed i id s.queues

-- ---- the slots after a plan

module _ (queues : List IndexedQueue) where
  -- one slot gets the queue of its index
  slot_put : (slots : QueueSlots) → ((i : ℕ) → length slots ≤ i → def_at i queues ≡ None) → (k : ℕ)
      → get_or (set slots k (def_at k queues)) k None ≡ def_at k queues
  slot_put slots few k =
      ⊎_elim
      (λ within. get_or-set_same slots k (def_at k queues) None within)
      (λ past. get_or-eq_default (set slots k (def_at k queues)) None (subst (λ (n : ℕ). n ≤ k) (sym (length-set slots k (def_at k queues))) past) ∙ sym
      (few k past))
      (cases_lt k (length slots))

  slots_put : (is : List ℕ) (slots : QueueSlots) → ((i : ℕ) → length slots ≤ i → def_at i queues ≡ None)
      → ((i : ℕ) → (get_or slots i None ≡ def_at i queues) ⊎ (names_index is i ≡ true)) → HaveQueues (each (λ i t. set t i (def_at i queues)) is slots) queues
  unfolding names_index
  slots_put [] slots few ahead = λ i. ⊎_elim (λ h. h) (λ h. absurd (false≢true h)) (ahead i)
  slots_put (k ∷ is) slots few ahead =
      let d = def_at k queues in
      slots_put is (set slots k d) (λ i h. few i (subst (λ (n : ℕ). n ≤ i) (length-set slots k d) h)) (λ i. ⊎_elim
      (λ here. inl (subst (λ (n : ℕ). get_or (set slots k d) n None ≡ def_at n queues) (sym (eqb-true i k here)) (slot_put slots few k)))
      (λ other. ⊎_elim
      (λ h. inl (get_or-set_other slots k i d None (λ e. false≢true (sym other ∙ ap (λ (n : ℕ). n == k) e ∙ eq_itself k)) ∙ h))
      (λ h. inr (sym (ap (λ b. b || names_index is i) other) ∙ h))
      (ahead i))
      (cases_Bool (i == k)))

pub queue_slots_after_have : (p : SpacePlan) (s : IndexedSpace) (slots : QueueSlots) → HaveQueues slots s.queues
    → ((i : ℕ) → length slots ≤ i → def_at i (space_after p s).queues ≡ None) → HaveQueues (queue_slots_after p s slots) (space_after p s).queues
queue_slots_after_have p s slots have few =
    let named = flat_map queues_named p.moves in
    slots_put (space_after p s).queues named slots few (λ i. ⊎_elim
    (λ t. inr t)
    (λ f. inl (have i ∙ sym (def_moved_by i p.moves (purged_of p.purge s) f ∙ def_purged i p.purge s)))
    (cases_Bool (names_index named i)))

length_put : (queues : List IndexedQueue) (is : List ℕ) (slots : QueueSlots) → length (each (λ i t. set t i (def_at i queues)) is slots) ≡ length slots
length_put queues [] slots = refl
length_put queues (i ∷ is) slots = length_put queues is (set slots i (def_at i queues)) ∙ length-set slots i (def_at i queues)

pub length_queue_slots_after : (p : SpacePlan) (s : IndexedSpace) (slots : QueueSlots) → length (queue_slots_after p s slots) ≡ length slots
length_queue_slots_after p s slots = length_put (space_after p s).queues (flat_map queues_named p.moves) slots

-- ---- what queue slots say

pub by_name_total : IsTotalOrder by_name
by_name_total = on_total (λ q. q.queue.name) (lists_total nat_cmp_total)

pub not_named_alike : (q r : IndexedQueue) → q.queue.name ≡ r.queue.name → AreApart by_name q r → ⊥
not_named_alike q r names apart =
    let total = lists_total nat_cmp_total in
    ⊎_elim
    (λ less. less_equal (sym less ∙ ap (slice_cmp nat_cmp q.queue.name) (sym names) ∙ tied_itself total q.queue.name))
    (λ more. less_equal (sym more ∙ ap (slice_cmp nat_cmp r.queue.name) names ∙ tied_itself total r.queue.name))
    apart

pub names_apart : (q r : IndexedQueue) → (q.queue.name ≡ r.queue.name → ⊥) → AreApart by_name q r
names_apart q r differ =
    (elim (slice_cmp nat_cmp q.queue.name r.queue.name) as (λ o. slice_cmp nat_cmp q.queue.name r.queue.name ≡ o → AreApart by_name q r) [
      | Less ↦ λ h. inl h
      | Equal ↦ λ h. absurd (differ (exact_bytes q.queue.name r.queue.name h))
      | Greater ↦ λ h. inr (by_name_total.antisymm r q ∙ ap ordering_reverse h)
    ]) refl

same_bytes : (a b : List ℕ) → bytes_eq a b ≡ true → a ≡ b
same_bytes a b e = grind (arith, bytes_eq-Decides)

bytes_itself : (a : List ℕ) → bytes_eq a a ≡ true
bytes_itself a = grind (arith, bytes_eq-Decides)

abbrev pub made : ℕ → QueueDef → IndexedQueue
made index d = record { index = index; queue = queue_of d [] }

-- a queue without its entries
abbrev pub bare : IndexedQueue → IndexedQueue
bare q = made q.index (the_def q)

plus_one : (a b : ℕ) → a + suc b ≡ (a + 1) + b
plus_one a b = omega arith

plus_none : (a : ℕ) → a + 0 ≡ a
plus_none a = omega arith

pub zero_plus : (a : ℕ) → a ≡ 0 + a
zero_plus a = omega arith

further_on : (a b : ℕ) → a + 0 ≡ a + suc b → ⊥
further_on a b e = absurd (omega arith)

bare_ascending : (queues : List IndexedQueue) → IsAscending by_name queues → IsAscending by_name (map bare queues)
bare_ascending [] up = tt
bare_ascending (q ∷ queues) up = (
  λ z h. let r = of_map bare queues z h in subst (λ (w : IndexedQueue). by_name q w ≡ Less) r.2
      (up.0 r.0 r.1),
  bare_ascending queues up.1,
)

-- what the slots from that index on say
pub of_slots : (index : ℕ) (slots : QueueSlots) (z : IndexedQueue) → IsOneOf (queues_from index slots) z
    → (j : ℕ) × (d : QueueDef) × (get_or slots j None ≡ Some d) × (made (index + j) d ≡ z)
of_slots index [] z h = absurd h
of_slots index (None ∷ slots) z h = let r = of_slots (index + 1) slots z h in (suc r.0, r.1, r.2, ap (λ (n : ℕ). made n r.1) (plus_one index r.0) ∙ r.3)
of_slots index (Some d ∷ slots) z h =
    ⊎_elim
    (λ e. (0, d, refl, ap (λ (n : ℕ). made n d) (plus_none index) ∙ e))
    (λ k. let r = of_slots (index + 1) slots z k in (suc r.0, r.1, r.2, ap (λ (n : ℕ). made n r.1) (plus_one index r.0) ∙ r.3))
    (of_placed by_name_total (made index d) (queues_from (index + 1) slots) z h)

pub to_slots : (index : ℕ) (slots : QueueSlots) (j : ℕ) (d : QueueDef) → get_or slots j None ≡ Some d → IsOneOf (queues_from index slots) (made (index + j) d)
to_slots index [] j d at = absurd (some_none (sym at))
to_slots index (None ∷ slots) zero d at = absurd (some_none (sym at))
to_slots index (None ∷ slots) (suc j) d at = subst (λ (n : ℕ). IsOneOf (queues_from (index + 1) slots) (made n d)) (sym (plus_one index j))
    (to_slots (index + 1) slots j d at)
to_slots index (Some e ∷ slots) zero d at =
    to_placed by_name_total (made index e) (queues_from (index + 1) slots) (made (index + 0) d)
    (inl (λ i. made (sym (plus_none index) i) (some_injective at i)))
to_slots index (Some e ∷ slots) (suc j) d at =
    to_placed by_name_total (made index e) (queues_from (index + 1) slots) (made (index + suc j) d)
    (inr (subst (λ (n : ℕ). IsOneOf (queues_from (index + 1) slots) (made n d)) (sym (plus_one index j)) (to_slots (index + 1) slots j d at)))

of_used : (slots : QueueSlots) (d : QueueDef) → IsOneOf (used_slots slots) d → (j : ℕ) × (get_or slots j None ≡ Some d)
of_used [] d h = absurd h
of_used (None ∷ slots) d h = let r = of_used slots d h in (suc r.0, r.1)
of_used (Some e ∷ slots) d (inl s) = (0, ap Some s)
of_used (Some e ∷ slots) d (inr h) = let r = of_used slots d h in (suc r.0, r.1)

to_used : (slots : QueueSlots) (j : ℕ) (d : QueueDef) → get_or slots j None ≡ Some d → IsOneOf (used_slots slots) d
to_used [] j d at = absurd (some_none (sym at))
to_used (None ∷ slots) zero d at = absurd (some_none (sym at))
to_used (None ∷ slots) (suc j) d at = to_used slots j d at
to_used (Some e ∷ slots) zero d at = inl (some_injective at)
to_used (Some e ∷ slots) (suc j) d at = inr (to_used slots j d at)

pub slots_ascending : (index : ℕ) (slots : QueueSlots) → no_two have_one_name (used_slots slots) ≡ true → IsAscending by_name (queues_from index slots)
slots_ascending index [] differ = tt
slots_ascending index (None ∷ slots) differ = slots_ascending (index + 1) slots differ
slots_ascending index (Some d ∷ slots) differ =
    let p = no_two_parts have_one_name d (used_slots slots) differ in
    placed_ascending by_name_total (made index d) (queues_from (index + 1) slots) (slots_ascending (index + 1) slots p.1) (λ z h.
    let r = of_slots (index + 1) slots z h in
    subst (AreApart by_name (made index d)) r.3 (names_apart (made index d) (made (index + 1) r.1) (λ e.
    p.0 r.1 (to_used slots r.0 r.1 r.2) (ap (bytes_eq d.name) (sym e) ∙ bytes_itself d.name))))

pub of_def : (i : ℕ) (queues : List IndexedQueue) (d : QueueDef) → def_at i queues ≡ Some d
    → (q : IndexedQueue) × IsOneOf queues q × (q.index ≡ i) × (the_def q ≡ d)
of_def i queues d h =
    (elim (find (has_index i) queues) as (λ o. find (has_index i) queues ≡ o → option_map the_def o ≡ Some d → (q : IndexedQueue) × IsOneOf queues q ×
    (q.index ≡ i) × (the_def q ≡ d)) [
      | None ↦ λ e g. absurd (some_none (sym g))
      | Some q ↦ λ e g. let m = of_find (has_index i) queues q e in (q, m.0, eqb-true q.index i m.1, some_injective g)
    ]) refl h

pub to_def : (queues : List IndexedQueue) (q : IndexedQueue) → IsOneOf queues q → ((r : IndexedQueue) → IsOneOf queues r → r.index ≡ q.index → r ≡ q)
    → def_at q.index queues ≡ Some (the_def q)
to_def [] q h one = absurd h
to_def (r ∷ queues) q h one =
    cond_both (has_index q.index r) (Some r) (find (has_index q.index) queues) (λ o. option_map the_def o ≡ Some (the_def q))
    (λ t. ap (λ (x : IndexedQueue). Some (the_def x)) (one r (inl refl) (eqb-true r.index q.index t)))
    (λ f. ⊎_elim
    (λ same. absurd (false≢true (sym f ∙ ap (λ (x : IndexedQueue). has_index q.index x) same ∙ eq_itself q.index)))
    (λ k. to_def queues q k (λ x l. one x (inr l)))
    h)

-- the slots from that index on are those of queues
abbrev Fit : List IndexedQueue → ℕ → QueueSlots → Type 0
Fit queues index slots = (j : ℕ) (d : QueueDef) → get_or slots j None ≡ Some d → (q : IndexedQueue) × IsOneOf queues q × (q.index ≡ index + j) × (the_def q ≡ d)

module _ (queues : List IndexedQueue) (up : IsAscending by_name queues) where
  fit_rest : (index : ℕ) (o : Option QueueDef) (slots : QueueSlots) → Fit queues index (o ∷ slots) → Fit queues (index + 1) slots
  fit_rest index o slots fit j d at = let r = fit (suc j) d at in (r.0, r.1, r.2 ∙ plus_one index j, r.3)

  -- the queue of the first slot and one of a later slot are told apart by name
  first_apart : (index : ℕ) (d e : QueueDef) (slots : QueueSlots) (j : ℕ) → Fit queues index (Some d ∷ slots) → get_or slots j None ≡ Some e
      → AreApart by_name (made index d) (made (index + 1) e)
  first_apart index d e slots j fit at =
      let x = fit 0 d refl in
      let y = fit (suc j) e at in
      let name_x : x.0.queue.name ≡ d.name = ap (λ (a : QueueDef). a.name) x.3 in
      let name_y : y.0.queue.name ≡ e.name = ap (λ (a : QueueDef). a.name) y.3 in
      ⊎_elim
      (λ one. absurd (further_on index j (sym x.2 ∙ ap (λ (q : IndexedQueue). q.index) one ∙ y.2)))
      (λ apart. ⊎_elim
      (λ less. inl ((λ i. slice_cmp nat_cmp (sym name_x i) (sym name_y i)) ∙ less))
      (λ more. inr ((λ i. slice_cmp nat_cmp (sym name_y i) (sym name_x i)) ∙ more))
      apart)
      (ascending_apart by_name queues x.0 y.0 up x.1 y.1)

  names_all_differ : (index : ℕ) (slots : QueueSlots) → Fit queues index slots → no_two have_one_name (used_slots slots) ≡ true
  names_all_differ index [] fit = refl
  names_all_differ index (None ∷ slots) fit = names_all_differ (index + 1) slots (fit_rest index None slots fit)
  names_all_differ index (Some d ∷ slots) fit =
      and_from (list_all (λ e. not (have_one_name d e)) (used_slots slots)) (no_two have_one_name (used_slots slots))
      (to_all (λ e. not (have_one_name d e)) (used_slots slots) (λ e h. not_from_false (have_one_name d e) (false_from_ne_true (have_one_name d e) (λ t.
      let r = of_used slots e h in
      not_named_alike (made index d) (made (index + 1) e) (same_bytes d.name e.name t) (first_apart index d e slots r.0 fit r.1)))))
      (names_all_differ (index + 1) slots (fit_rest index (Some d) slots fit))

  module _ (slots : QueueSlots) (have : HaveQueues slots queues) where
    fits : Fit queues 0 slots
    fits j d at = let r = of_def j queues d (sym (have j) ∙ at) in (r.0, r.1, r.2 ∙ zero_plus j, r.3)

    pub names_differ : no_two have_one_name (used_slots slots) ≡ true
    names_differ = names_all_differ 0 slots fits

    -- the queues that the slots say are those of the space, without their entries
    pub queues_said : ((q r : IndexedQueue) → IsOneOf queues q → IsOneOf queues r → q.index ≡ r.index → q ≡ r) → queues_from 0 slots ≡ map bare queues
    queues_said indices =
        one_list by_name_total (queues_from 0 slots) (map bare queues) (slots_ascending 0 slots names_differ) (bare_ascending queues up)
        (λ z h.
        let r = of_slots 0 slots z h in
        let q = fits r.0 r.1 r.2 in
        subst (IsOneOf (map bare queues)) ((λ i. made (q.2 i) (q.3 i)) ∙ r.3) (to_map bare queues q.0 q.1))
        (λ z h.
        let q = of_map bare queues z h in
        let at = have q.0.index ∙ to_def queues q.0 q.1 (λ r k e. indices r q.0 k q.1 e) in
        subst (IsOneOf (queues_from 0 slots)) (ap (λ (n : ℕ). made n (the_def q.0)) (sym (zero_plus q.0.index)) ∙ q.2)
        (to_slots 0 slots q.0.index (the_def q.0) at))
