-- A space with the message of one slot more.
use Rattle.std.proofs.Common.{◌≡◌, ℕ, ◌+◌, ◌&&◌, ◌||◌, not, Bool, true, false, cond, List, [], ◌∷◌, ◌++◌, length, drop, Option, Some, None, refl, sym, ap}
use Rattle.std.proofs.Common.{◌∙◌, subst, arith, ⊎_elim, inl, inr, eqb-true}
use Rattle.std.specs.Prelude.{is_some}
use Rattle.std.specs.List.{All, list_any, position_or_len}
use Rattle.std.specs.FinMap as maps
use Rattle.std.specs.FinMap.{get, same_map}
use Rattle.std.specs.Ordering.{eq_by_cmp}
use Rattle.std.proofs.lemmas.Bool.{and_parts, cases_Bool, false≢true}
use Rattle.std.proofs.lemmas.List.{length-drop, length-append}
use Rattle.std.proofs.lemmas.List.Elements.{All-head, All-tail}
use Rattle.tq_types.specs.Label.{arrival_cmp}
use Rattle.tq_types.specs.declared.identifiers.Arrival.{Arrival}
use Rattle.tq_types.specs.declared.identifiers.MsgId.{MsgId}
use Rattle.tq_types.specs.declared.messages.Entry.{Entry as HeldEntry}
use Rattle.tq_types.specs.declared.messages.Mark.{Mark as HeldMark}
use Rattle.tq_types.specs.declared.messages.Mark.TheVariants as marks
use Rattle.tq_types.proofs.LabelOrder.{arrival_total}
use Rattle.tq_model.specs.declared.space.Shape.{Shape}
use Rattle.tq_model.specs.declared.space.SpaceMove.TheVariants.{Insert}
use Rattle.tq_model.specs.Space.{Entry, Free, freed, has_id, is_adding, is_persistent, outlives, same_id, stands_before, with_entry}
use Rattle.tq_model.specs.Moves.{IndexedQueue, IndexedSpace, NumberedOwner, entry_inserted, entry_view, has_index, indexed_holds, mark_view, message_view}
use Rattle.tq_model.specs.Moves.{moved, on_queue, owner_in, session_owners, space_of}
use Rattle.tq_model.specs.Room.{messages_held, pages_held, pages_at, pages_of_entry, queue_pages}
use Rattle.tq_model.specs.SpaceForm.{holds_arrival, id_in}
use Rattle.tq_model.proofs.RecordMoves.{All-change_first, All-insert}
use Rattle.tq_pages.specs.Store.{chain_pages}
use Rattle.tq_space.specs.Plain.{IsPlainEntry}
use Rattle.tq_space.proofs.Counts.{length_more, length_of, pages_more, total_inserted}
use Rattle.tq_space.proofs.OptionLemmas.{some_of}
use Rattle.tq_slots.specs.declared.message.Header.{Header}
use Rattle.tq_slots.specs.declared.record.MessageSlot.{MessageSlot}
use Rattle.tq_slots.specs.declared.record.QueueSlot.{QueueSlot}
use Rattle.tq_slots.specs.KeptEntries.{SpacePlan, kept_in}
use Rattle.tq_slots.specs.MessageForm as form
use Rattle.tq_slots.specs.MessageForm.{header_read}
use Rattle.tq_slots.specs.MessageSlots.{IndexedEntry, UsedSlot, Slots, Chain, Chains, arrival_of, slot_arrival, says}
use Rattle.tq_slots.specs.SlotImages.{used_in}
use Rattle.tq_slots.specs.SlotTable.{table_of}
use Rattle.tq_slots.specs.SpaceOrder.{IsOneOf, IsInOrder, IsNew, MovesFit}
use Rattle.tq_slots.specs.SpaceReading.{chain_with, is_bare_label, is_bare_message, message_in}
use Rattle.tq_slots.proofs.FrameLemmas.{changes_named}
use Rattle.tq_slots.proofs.KeptLemmas.{by_label_total, kept_from, kept_there}
use Rattle.tq_slots.proofs.ListLemmas.{eq_itself, of_any, to_any}
use Rattle.tq_slots.proofs.MapLemmas.{get_inserted, get_inserted_other, same_keys}
use Rattle.tq_slots.proofs.MessageSlotLemmas.{IsSaid, exact_arrivals, is_said, same_arrivals}
use Rattle.tq_slots.proofs.OrderLemmas.{plan_in_order}
use Rattle.tq_slots.proofs.OrderedListLemmas.{to_placed}
use Rattle.tq_slots.proofs.QueueSlotLemmas.{def_inserted}
use Rattle.tq_slots.proofs.TableLemmas.{filled}
use Rattle.tq_store.specs.Filling.{IsLoaded, IsLoadedEntry, IsLoadedQueue, IsMessage}
use Rattle.tq_store.proofs.SnocLemmas.{snoc-at, snoc-set, table-none}
use Rattle.tq_store.proofs.SaidLemmas.{header_long}

-- ---- lists of queues

-- what holds of each holds of one of them
pub of_each : {X : Type 0} (P : X → Type 0) (xs : List X) (x : X) → All P xs → IsOneOf xs x → P x
of_each P [] x all h = absurd h
of_each P (y ∷ xs) x all (inl e) = subst P e (All-head P y xs all)
of_each P (y ∷ xs) x all (inr h) = of_each P xs x (All-tail P y xs all) h

-- an entry that comes in is in the queue of its index
pub inserted_there : (index : ℕ) (x : Entry) (queues : List IndexedQueue) → list_any (has_index index) queues ≡ true
    → (q : IndexedQueue) × IsOneOf (entry_inserted index x queues) q × (q.index ≡ index) × IsOneOf q.queue.items x
inserted_there index x [] = λ there. absurd (false≢true there)
inserted_there index x (q ∷ queues) =
    (elim (has_index index q) as (λ b. has_index index q ≡ b → b || list_any (has_index index) queues ≡ true
    → (r : IndexedQueue) × IsOneOf (cond b (on_queue (with_entry x) q ∷ queues) (q ∷ entry_inserted index x queues)) r × (r.index ≡ index)
    × IsOneOf r.queue.items x) [
      | true ↦ λ e there. (on_queue (with_entry x) q, inl refl, eqb-true q.index index e, to_placed (by_label_total q.queue.order) x q.queue.items x (inl refl))
      | false ↦ λ e there. let r = inserted_there index x queues there in (r.0, inr r.1, r.2, r.3)
    ]) refl

id_itself : (a b : MsgId) → a ≡ b → same_id a b ≡ true
id_itself a b e = subst (λ (x : MsgId). same_id a x ≡ true) e (λ i. eq_itself a.site i && eq_itself a.space i && eq_itself a.epoch i && eq_itself a.number i)

-- ---- a space that is loaded

module _ (site number : ℕ) (shape : Shape) (queues : List QueueSlot) (s : IndexedSpace) (loaded : IsLoaded site number shape queues s) where
  -- it has its site, its number and its owners
  site_is : s.site ≡ site
  site_is = ap (λ (x : IndexedSpace). x.site) loaded.is

  number_is : s.number ≡ number
  number_is = ap (λ (x : IndexedSpace). x.number) loaded.is

  owners_none : s.owners ≡ []
  owners_none = ap (λ (x : IndexedSpace). x.owners) loaded.is

  pub entry_loaded : (q : IndexedQueue) (x : Entry) → IsOneOf s.queues q → IsOneOf q.queue.items x → IsLoadedEntry site number x
  entry_loaded q x in_q in_x = of_each (IsLoadedEntry site number) q.queue.items x (of_each (IsLoadedQueue site number) s.queues q loaded.each in_q).items in_x

  -- an arrival that no entry has is new
  pub arrival_new : (a : Arrival) → holds_arrival s a ≡ false → IsNew a s.queues
  arrival_new a none q x in_q in_x same =
      let own = (entry_loaded q x in_q in_x).own in
      let id_is : x.message.id ≡ id_in s a =
      λ i. record { site = (own.0 ∙ sym site_is) i; space = (own.1 ∙ sym number_is) i; epoch = (sym same i).epoch; number = (sym same i).number } in
      let here : indexed_holds (id_in s a) q ≡ true = to_any (has_id (id_in s a)) q.queue.items x in_x (id_itself x.message.id (id_in s a) id_is) in
      false≢true (sym none ∙ to_any (indexed_holds (id_in s a)) s.queues q in_q here)

  -- and an arrival that an entry has is kept
  pub arrival_kept : (a : Arrival) → holds_arrival s a ≡ true → (e : IndexedEntry) × (get (kept_in s) a ≡ Some e)
  arrival_kept a some =
      let q = of_any (indexed_holds (id_in s a)) s.queues some in
      let x = of_any (has_id (id_in s a)) q.0.queue.items q.2 in
      let lasts = (entry_loaded q.0 x.0 q.1 x.1).lasts in
      let lives : outlives x.0 ≡ true = λ i. is_persistent (lasts.persistent i) && not (is_adding (lasts.free i)) in
      let there = kept_there s loaded.order.entries q.0 x.0 q.1 x.1 lives in
      (record { queue = q.0.index; entry = freed x.0 }, ap (get (kept_in s)) (sym (same_arrivals x.0.message.id (id_in s a) x.2)) ∙ there)

-- ---- an entry that a slot says

abbrev entry_said : HeldEntry → IndexedEntry
entry_said item = record { queue = item.queue; entry = entry_view session_owners item }

-- the one chain there is
abbrev one_chain : List ℕ → Chains
one_chain stored = λ first. message_in stored

mark_free : (mark : HeldMark) → mark_view session_owners mark ≡ Free → mark ≡ marks.Free
mark_free marks.Free e = refl
mark_free (marks.Adding n) e = cc
mark_free (marks.Taking n) e = cc

not_some : {X : Type 0} (o : Option X) → not (is_some o) ≡ true → o ≡ None
not_some None h = refl
not_some (Some x) h = absurd (false≢true h)

module _ (site number : ℕ) (slot : MessageSlot) (stored : List ℕ) (item : HeldEntry) (m : IsMessage site number slot stored item) where
  pub said_of : IsSaid site number (one_chain stored) (used_in slot) (entry_said item)
  said_of = is_said site number (one_chain stored) (used_in slot) (entry_said item) m.said

  pub queue_is : item.queue ≡ slot.queue
  queue_is = said_of.queue

  -- its body is what stands behind the header
  pub body_is : item.message.body ≡ drop 256 stored
  body_is =
      let c = some_of (λ (h : Header). chain_with h (drop 256 stored)) (header_read (length stored) stored) said_of.chain.chain said_of.chain.at in
      sym (ap (λ (d : Chain). d.body) c.2 ∙ ap (λ (d : Chain). d.body) said_of.chain.fits.rest)

  -- and its pages are those of its chain
  pub pages_are : pages_at item.message.qos (length item.message.body) ≡ chain_pages (length stored)
  pages_are =
      let c = some_of (λ (h : Header). chain_with h (drop 256 stored)) (header_read (length stored) stored) said_of.chain.chain said_of.chain.at in
      let long = header_long (length stored) stored c.0 c.1 in
      let rest = length-drop 256 stored in
      let all : 256 + length (drop 256 stored) ≡ length stored = omega arith in
      (λ i. pages_at (said_of.chain.stands.persistent i) (length (body_is i))) ∙ ap chain_pages all

  pub plain_entry : IsPlainEntry item
  plain_entry =
      let whole = and_parts (is_bare_label item.label) (is_bare_message (message_view item.message)) m.bare in
      record {
        mark = mark_free item.mark said_of.chain.stands.free;
        expiration = not_some item.message.expiration (and_parts _ _ (and_parts _ _ (and_parts _ _ whole.1).0).0).1;
      }

-- ---- one slot more

module _ (site number : ℕ) (shape : Shape) (queues : List QueueSlot) (s : IndexedSpace) (loaded : IsLoaded site number shape queues s)
    (slot : MessageSlot) (stored : List ℕ) (item : HeldEntry) (m : IsMessage site number slot stored item)
    (there : list_any (has_index slot.queue) s.queues ≡ true) (first_one : holds_arrival s (form.slot_arrival slot) ≡ false) where
  abbrev u : UsedSlot
  u = used_in slot

  abbrev said_entry : IndexedEntry
  said_entry = entry_said item

  said : IsSaid site number (one_chain stored) u said_entry
  said = said_of site number slot stored item m

  abbrev after : IndexedSpace
  after = moved (Insert item) s

  -- the entry as it is held in the space
  abbrev x : Entry
  x = entry_view (owner_in s.owners) item

  x_is : x ≡ said_entry.entry
  x_is = ap (λ (os : List NumberedOwner). entry_view (owner_in os) item) (owners_none site number shape queues s loaded)

  there_too : list_any (has_index item.queue) s.queues ≡ true
  there_too = ap (λ (n : ℕ). list_any (has_index n) s.queues) said.queue ∙ there

  is_new : IsNew (arrival_of item.message.id) s.queues
  is_new = subst (λ (a : Arrival). IsNew a s.queues) (sym said.arrival) (arrival_new site number shape queues s loaded (form.slot_arrival slot) first_one)

  abbrev plan : SpacePlan
  plan = record { purge = []; moves = Insert item ∷ [] }

  fits : MovesFit plan.moves s
  fits = ((said.chain.stands.own, is_new), tt)

  order : IsInOrder after
  order = plan_in_order plan s fits loaded.order

  x_loaded : IsLoadedEntry site number x
  x_loaded =
      let stands = said.chain.stands in
      subst (IsLoadedEntry site number) (sym x_is)
      (record { bare = m.bare; lasts = record { free = stands.free; persistent = stands.persistent }; own = (stands.of_site, stands.of_space) })

  pub loaded_more : IsLoaded site number shape queues after
  loaded_more =
      record {
        is = ap (λ (t : IndexedSpace). record t { queues = after.queues }) loaded.is;
        have = λ i. loaded.have i ∙ sym (def_inserted i item.queue x s.queues);
        order = order;
        each = All-change_first (IsLoadedQueue site number) (has_index item.queue) (on_queue (with_entry x))
            (λ q is. record {
              def = is.def;
              items = All-insert (IsLoadedEntry site number) q.queue.items (position_or_len (stands_before q.queue.order x) q.queue.items) x x_loaded is.items;
            })
            s.queues loaded.each;
      }

  pub messages_more : messages_held (space_of after) ≡ messages_held (space_of s) + 1
  messages_more = total_inserted length_of 1 x (length_more x) item.queue s.queues there_too

  pub pages_more_by : pages_held (space_of after) ≡ pages_held (space_of s) + chain_pages (length stored)
  pages_more_by = total_inserted queue_pages (pages_of_entry x) x (pages_more x) item.queue s.queues there_too
      ∙ ap (λ (n : ℕ). pages_held (space_of s) + n) (pages_are site number slot stored item m)

  -- ---- what is kept

  entry_kept : get (kept_in after) u.arrival ≡ Some said_entry
  entry_kept =
      let t = inserted_there item.queue x s.queues there_too in
      let stands = said.chain.stands in
      let free : x.mark ≡ _ = ap (λ (y : Entry). y.mark) x_is ∙ stands.free in
      let lives : outlives x ≡ true = λ i. is_persistent (stands.persistent i) && not (is_adding (free i)) in
      let kept = kept_there after order.entries t.0 x t.1 t.3 lives in
      ap (get (kept_in after)) (sym said.arrival) ∙ kept
      ∙ (λ i. Some (record { queue = t.2 i; entry = record x { mark = sym stands.free i } }))

  none_kept : get (kept_in s) u.arrival ≡ None
  none_kept =
      (elim (get (kept_in s) u.arrival) as (λ o. get (kept_in s) u.arrival ≡ o → o ≡ None) [
        | None ↦ λ e. refl
        | Some y ↦ λ e.
            let k = kept_from s u.arrival y e in
            absurd (is_new k.queue k.entry k.of_space k.of_queue (said.arrival ∙ sym (ap (λ (d : Arrival × IndexedEntry). d.0) k.is)))
      ]) refl

  kept_more : maps.insert (kept_in s) u.arrival said_entry ≡ kept_in after
  kept_more =
      same_map arrival_total exact_arrivals (maps.insert (kept_in s) u.arrival said_entry) (kept_in after) (λ q.
      ⊎_elim
      (λ one.
      let q_is = same_keys exact_arrivals q u.arrival one in
      ap (get (maps.insert (kept_in s) u.arrival said_entry)) q_is ∙ get_inserted arrival_total exact_arrivals (kept_in s) u.arrival said_entry
      ∙ sym entry_kept ∙ ap (get (kept_in after)) (sym q_is))
      (λ other.
      let apart : eq_by_cmp arrival_cmp q (arrival_of item.message.id) || false ≡ false = ap (λ (a : Arrival). eq_by_cmp arrival_cmp q a || false) said.arrival
      ∙ ap (λ (b : Bool). b || false) other in
      get_inserted_other arrival_total exact_arrivals (kept_in s) u.arrival said_entry q other ∙ changes_named plan s fits q apart)
      (cases_Bool (eq_by_cmp arrival_cmp q u.arrival)))

  pub table_more : (chains : Chains) (slots : Slots) → chains u.first ≡ message_in stored
      → table_of arrival_cmp slot_arrival (says site number chains) slots ≡ Some (kept_in s)
      → table_of arrival_cmp slot_arrival (says site number chains) (slots ++ Some u ∷ []) ≡ Some (kept_in after)
  table_more chains slots chain_is t =
      let say = says site number chains in
      let more = slots ++ None ∷ [] in
      let size = length-append slots (None ∷ []) in
      ap (table_of arrival_cmp slot_arrival say) (sym (snoc-set slots None (Some u)))
      ∙ filled arrival_total exact_arrivals slot_arrival say more (length slots) u said_entry (kept_in s) (table-none slot_arrival say slots ∙ t)
      (omega (arith, size))
      (snoc-at slots None None)
      (ap (λ (c : Option Chain). says site number (λ n. c) u) chain_is ∙ m.said) none_kept
      ∙ ap Some kept_more
