-- The clauses of the law.
use Rattle.std.proofs.Common.{◌≡◌, ℕ, true, zero, suc, List, [], ◌∷◌, map, Option, Some, None, get_or, refl, sym, ap, ◌∙◌, subst}
use Rattle.std.specs.Prelude.{replicate}
use Rattle.std.specs.List.{flat_map}
use Rattle.std.specs.Prelude.{is_some}
use Rattle.std.specs.FinMap.{empty, from_entries, get}
use Rattle.tq_types.specs.Label.{arrival_cmp}
use Rattle.tq_types.specs.declared.identifiers.Arrival.{Arrival}
use Rattle.tq_types.proofs.LabelOrder.{arrival_total}
use Rattle.tq_model.specs.declared.space.QueueDef.{QueueDef}
use Rattle.tq_model.specs.Space.{crashed_queue}
use Rattle.tq_model.specs.Moves.{IndexedQueue, the_queue, space_of}
use Rattle.tq_slots.specs.SlotTable.{table_of}
use Rattle.tq_slots.specs.MessageSlots.{IndexedEntry, UsedSlot, Slots, Chain, Chains, slot_arrival, says, said_with_chain, slot_of}
use Rattle.tq_slots.specs.KeptEntries.{KeptEntries, kept_of, kept_in, named_in, space_after}
use Rattle.tq_slots.specs.SpaceOrder.{AreOrdered, IsAscending, by_name}
use Rattle.tq_slots.specs.SlotsAfter.{first_of, slots_after}
use Rattle.tq_slots.specs.QueueSlots.{def_at, queue_slots_after, crashed_queues}
use Rattle.tq_slots.specs.SlotsLaw.{PlanLaw, PlaceLaw, ChainLaw, ReleaseLaw, FirstLaw, SetsLaw, CrashLaw, StartLaw}
use Rattle.tq_slots.proofs.ListLemmas.{some_injective}
use Rattle.tq_slots.proofs.TableLemmas.{emptied, place_stays, one_place, table_same, length_slots_for}
use Rattle.tq_slots.proofs.MessageSlotLemmas.{exact_arrivals, header_arrival, is_said}
use Rattle.tq_slots.proofs.SetLemmas.{made_by_sets}
use Rattle.tq_slots.proofs.QueueSlotLemmas.{queue_slots_after_have, length_queue_slots_after}
use Rattle.tq_slots.proofs.ReadingLemmas.{reads_crashed}
use Rattle.tq_slots.proofs.SlotsAfterLemmas.{slots_after_say, first_is}
use Rattle.tq_slots.proofs.KeptLemmas.{kept_arrival}
use Rattle.tq_slots.proofs.OrderLemmas.{plan_in_order}
use Rattle.tq_slots.proofs.ChainLemmas.{plan_has_chains}

pub plan_law : PlanLaw
plan_law site number queue_slots slots chains new p s hold can =
    let order = plan_in_order p s can.moves hold.order in
    let queues = queue_slots_after_have p s queue_slots hold.queues can.queue_room in
    let have = plan_has_chains site number chains new slots p s hold.order.entries hold.kept can.moves can.fits in
    let kept = slots_after_say site number chains new slots p s hold.kept can.moves can.room have in (
      record { queues = queues; kept = kept; order = order },
      reads_crashed site number (queue_slots_after p s queue_slots) (slots_after new p s slots) chains (space_after p s) order queues kept,
    )

pub place_law : PlaceLaw
place_law site number queue_slots slots chains new p s hold can i m e at kept =
    let after = kept_in (space_after p s) in
    let say = says site number chains in
    let write : Arrival → IndexedEntry → UsedSlot = λ a x. slot_of (first_of slots new a) x in
    let holds = (plan_law site number queue_slots slots chains new p s hold can).0 in
    let first = first_is site number chains new slots (kept_in s) i m hold.kept at in
    let stays = place_stays arrival_total exact_arrivals slot_arrival say write after (λ a x k. kept_arrival (space_after p s) a x k)
    (λ u. u.first ≡ m.first) m.arrival e i kept first (named_in p) slots m at refl refl in
    let there = emptied arrival_total exact_arrivals slot_arrival say (slots_after new p s slots) i stays.0 after holds.kept stays.1 in
    let says_e : say stays.0 ≡ Some e = there.says ∙ sym there.had ∙ ap (get after) stays.2 ∙ kept in
    stays.1 ∙ ap Some (sym (is_said site number chains stays.0 e says_e).slot ∙ ap (λ (n : ℕ). slot_of n e) stays.3)

pub chain_law : ChainLaw
chain_law site number queue_slots slots chains chains' s hold same =
    record {
      queues = hold.queues;
      kept = table_same slot_arrival (says site number chains) (says site number chains') slots (λ i m e. ap (said_with_chain site number m) (same i m e))
          ∙ hold.kept;
      order = hold.order;
    }

-- a used slot begins the chain of its own message, which is kept
slot_kept : (site number : ℕ) (slots : Slots) (chains : Chains) (m : KeptEntries) → table_of arrival_cmp slot_arrival (says site number chains) slots ≡ Some m
    → (i : ℕ) (u : UsedSlot) → get_or slots i None ≡ Some u → (c : Chain) × (chains u.first ≡ Some c) × (is_some (get m c.arrival) ≡ true) ×
    (c.arrival ≡ u.arrival)
slot_kept site number slots chains m t i u at =
    let h = emptied arrival_total exact_arrivals slot_arrival (says site number chains) slots i u m t at in
    let said = is_said site number chains u h.old h.says in
    let c = said.chain.chain in
    let own : c.arrival ≡ u.arrival = header_arrival h.old.entry c said.chain.fits ∙ said.arrival in
    let there : is_some (get m u.arrival) ≡ true = ap is_some h.had in
    (c, said.chain.at, subst (λ (a : Arrival). is_some (get m a) ≡ true) (sym own) there, own)

pub release_law : ReleaseLaw
release_law site number queue_slots slots chains chains' s hold same =
    chain_law site number queue_slots slots chains chains' s hold (λ i u at.
    let k = slot_kept site number slots chains (kept_in s) hold.kept i u at in
    same u.first k.0 k.1 k.2)

pub first_law : FirstLaw
first_law site number queue_slots slots chains s hold i j m r a b firsts =
    let x = slot_kept site number slots chains (kept_in s) hold.kept i m a in
    let y = slot_kept site number slots chains (kept_in s) hold.kept j r b in
    let one : x.0 ≡ y.0 = some_injective (sym x.1 ∙ ap chains firsts ∙ y.1) in
    one_place arrival_total exact_arrivals slot_arrival (says site number chains) slots (kept_in s) hold.kept i j m r a b
    (sym x.3 ∙ ap (λ (c : Chain). c.arrival) one ∙ y.3)

pub sets_law : SetsLaw
sets_law queue_slots slots new p s = (
  made_by_sets queue_slots (queue_slots_after p s queue_slots) (sym (length_queue_slots_after p s queue_slots)),
  made_by_sets slots (slots_after new p s slots)
      (sym (length_slots_for slot_arrival (λ a e. slot_of (first_of slots new a) e) (kept_in (space_after p s)) (named_in p) slots)),
)

crashed-queues : (queues : List IndexedQueue) → map the_queue (crashed_queues queues) ≡ map crashed_queue (map the_queue queues)
crashed-queues [] = refl
crashed-queues (q ∷ queues) = ap (λ rest. crashed_queue q.queue ∷ rest) (crashed-queues queues)

pub crash_law : CrashLaw
crash_law s = ap (λ queues. record (space_of s) { queues = queues }) (crashed-queues s.queues)

nothing_said : (site number messages : ℕ) (chains : Chains) → table_of arrival_cmp slot_arrival (says site number chains) (replicate messages None) ≡ Some empty
nothing_said site number zero chains = refl
nothing_said site number (suc messages) chains = nothing_said site number messages chains

abbrev no_queue : Option QueueDef
no_queue = None

none_there : (n i : ℕ) → get_or (replicate n no_queue) i None ≡ None
none_there zero i = refl
none_there (suc n) zero = refl
none_there (suc n) (suc i) = none_there n i

none_ordered : AreOrdered []
none_ordered = record { ascending = λ q h. absurd h; own = λ q x h k. absurd h; once = λ q r x y h k h' k' e. absurd h; indices = λ q r h h' e. absurd h }

pub start_law : StartLaw
start_law site number queues messages chains s none =
    record {
      queues = λ i. none_there queues i ∙ ap (def_at i) (sym none);
      kept = nothing_said site number messages chains ∙ ap (λ qs. Some (from_entries (flat_map kept_of qs))) (sym none);
      order = record { entries = subst AreOrdered (sym none) none_ordered; names = subst (IsAscending by_name) (sym none) tt };
    }
