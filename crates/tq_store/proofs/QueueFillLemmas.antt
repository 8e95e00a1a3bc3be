-- A space with the queue of one slot more, and slots of queues that stand for no space.
use Rattle.std.proofs.Common.{◌≡◌, ℕ, zero, suc, ◌+◌, ◌<◌, ◌==◌, ◌&&◌, not, Bool, true, false, cond, List, [], ◌∷◌, ◌++◌, map, length, get_or, Option, Some}
use Rattle.std.proofs.Common.{None, refl, sym, ap, ◌∙◌, subst, arith, ⊎_elim, inl, eqb-true}
use Rattle.std.specs.Prelude.{is_some, option_map}
use Rattle.std.specs.List.{All, list_any, find, position_or_len}
use Rattle.std.specs.FinMap.{same_map}
use Rattle.std.proofs.lemmas.Bool.{and_parts, cases_Bool, false≢true}
use Rattle.std.proofs.lemmas.List.{map-append, length-map, length-append}
use Rattle.std.proofs.lemmas.List.Elements.{All-nil}
use Rattle.std.proofs.Math.ListN.{get_or-eq_default, get_or-append}
use Rattle.std.specs.Str.{bytes_eq}
use Rattle.std.proofs.lemmas.Slice.Eq.{bytes_eq-Decides}
use Rattle.tq_types.proofs.LabelOrder.{arrival_total}
use Rattle.tq_model.specs.declared.space.QueueDef.{QueueDef}
use Rattle.tq_model.specs.declared.space.Shape.{Shape}
use Rattle.tq_model.specs.declared.space.SpaceMove.TheVariants.{PutQueue}
use Rattle.tq_model.specs.Space.{Queue, change_first}
use Rattle.tq_model.specs.Moves.{IndexedQueue, IndexedSpace, comes_before, has_index, moved, on_queue, queue_added, queue_of}
use Rattle.tq_model.specs.Room.{queue_pages}
use Rattle.tq_model.specs.SpaceForm.{holds_name}
use Rattle.tq_model.proofs.RecordMoves.{All-insert}
use Rattle.tq_space.proofs.Counts.{any-find, total, total_added, length_of}
use Rattle.tq_slots.specs.declared.record.BranchSlot.{BranchSlot}
use Rattle.tq_slots.specs.declared.record.MessageSlot.{MessageSlot}
use Rattle.tq_slots.specs.declared.record.QueueSlot.{QueueSlot}
use Rattle.tq_slots.specs.KeptEntries.{SpacePlan, kept_in}
use Rattle.tq_slots.specs.QueueForm.{queue_of_slot}
use Rattle.tq_slots.specs.QueueSlots.{QueueSlots, HaveQueues, def_at, the_def}
use Rattle.tq_slots.specs.SpaceOrder.{IsOneOf, IsInOrder, MovesFit, by_name}
use Rattle.tq_slots.specs.SpaceReading.{is_bare_queue, space_by}
use Rattle.tq_slots.proofs.FrameLemmas.{changes_named}
use Rattle.tq_slots.proofs.ListLemmas.{eq_itself, of_any, some_none, to_any}
use Rattle.tq_slots.proofs.MessageSlotLemmas.{exact_arrivals}
use Rattle.tq_slots.proofs.OrderLemmas.{plan_in_order}
use Rattle.tq_slots.proofs.OrderedListLemmas.{ascending_apart, to_placed}
use Rattle.tq_slots.proofs.QueueSlotLemmas.{by_name_total, def_put, made, not_named_alike, of_def, to_def}
use Rattle.tq_store.specs.Filling.{IsLoadedQueue, IsLoadedEntry, HasQueues, can_take, queue_taken, slots_of}
use Rattle.tq_store.proofs.SnocLemmas.{snoc-at, snoc-other, snoc-none}
use Rattle.tq_store.proofs.ReadSpaceLemmas.{IsReadAs, none_by, read_parts, bare_slot}

same_name : (a b : List ℕ) → bytes_eq a b ≡ true → a ≡ b
same_name a b e = grind (arith, bytes_eq-Decides)

name_itself : (a b : List ℕ) → a ≡ b → bytes_eq a b ≡ true
name_itself a b e = grind (arith, bytes_eq-Decides)

not_true : (b : Bool) → not b ≡ true → b ≡ false
not_true true h = absurd (false≢true h)
not_true false h = refl

none_found : {X Y : Type 0} (f : X → Y) (o : Option X) → None ≡ option_map f o → is_some o ≡ false
none_found f None h = refl
none_found f (Some x) h = cc

-- an index of no slot is one of no queue
pub index_unused : (queue_slots : QueueSlots) (queues : List IndexedQueue) (index : ℕ) → HaveQueues queue_slots queues → get_or queue_slots index None ≡ None
    → list_any (has_index index) queues ≡ false
index_unused queue_slots queues index have none = any-find (has_index index) queues ∙ none_found the_def (find (has_index index) queues) (sym none ∙ have index)

-- ---- a queue that is put

module _ (index : ℕ) (d : QueueDef) (s : IndexedSpace) (unused : list_any (has_index index) s.queues ≡ false)
    (new : list_any (holds_name d.name) s.queues ≡ false) (was : IsInOrder s) where
  abbrev put_plan : SpacePlan
  put_plan = record { purge = []; moves = PutQueue index d ∷ [] }

  abbrev put_after : IndexedSpace
  put_after = moved (PutQueue index d) s

  no_name : (q : IndexedQueue) → IsOneOf s.queues q → q.queue.name ≡ d.name → ⊥
  no_name q h same = false≢true (sym new ∙ to_any (holds_name d.name) s.queues q h (name_itself q.queue.name d.name same))

  pub put_fits : MovesFit put_plan.moves s
  put_fits = (
    record {
      kept = λ q h e. absurd (false≢true (sym unused ∙ to_any (has_index index) s.queues q h (ap (λ (n : ℕ). n == index) e ∙ eq_itself index)));
      new = λ u q h e. no_name q h e;
    },
    tt,
  )

  pub put_is : put_after.queues ≡ queue_added index d s.queues
  put_is =
      ap (λ (b : Bool). cond b (change_first (has_index index) (on_queue (λ (queue : Queue). queue_of d queue.items)) s.queues)
      (queue_added index d s.queues)) unused

  pub put_order : IsInOrder put_after
  put_order = plan_in_order put_plan s put_fits was

  put_there : IsOneOf put_after.queues (made index d)
  put_there = subst (λ (qs : List IndexedQueue). IsOneOf qs (made index d)) (sym put_is)
      (to_placed by_name_total (made index d) s.queues (made index d) (inl refl))

  pub put_def : def_at index put_after.queues ≡ Some d
  put_def = to_def put_after.queues (made index d) put_there (λ r h e. put_order.entries.indices r (made index d) h put_there e)

  -- nothing else is kept
  pub put_kept : kept_in put_after ≡ kept_in s
  put_kept = same_map arrival_total exact_arrivals (kept_in put_after) (kept_in s) (λ a. sym (changes_named put_plan s put_fits a refl))

-- ---- one slot more

module _ (site number : ℕ) (shape : Shape) (slots : List QueueSlot) (slot : QueueSlot) (s : IndexedSpace) (has : HasQueues site number shape slots s) where
  abbrev queue_slots : QueueSlots
  queue_slots = map queue_of_slot slots

  abbrev index : ℕ
  index = length slots

  defs-snoc : map queue_of_slot (slots ++ slot ∷ []) ≡ queue_slots ++ queue_of_slot slot ∷ []
  defs-snoc = map-append queue_of_slot slots (slot ∷ [])

  long : length queue_slots ≡ index
  long = length-map slots queue_of_slot

  none_more : queue_of_slot slot ≡ None → HasQueues site number shape (slots ++ slot ∷ []) s
  none_more none =
      let l = has.loaded in
      record {
        loaded = record {
          is = l.is;
          have = λ i. ap (λ (o : QueueSlots). get_or o i None) (defs-snoc ∙ ap (λ (x : Option QueueDef). queue_slots ++ x ∷ []) none)
              ∙ snoc-none queue_slots i ∙ l.have i;
          order = l.order;
          each = l.each;
        };
        messages = has.messages;
        pages = has.pages;
        kept = has.kept;
      }

  module _ (d : QueueDef) (is : queue_of_slot slot ≡ Some d) (can : can_take (Some d) s ≡ true) where
    abbrev after : IndexedSpace
    after = moved (PutQueue index d) s

    unused : list_any (has_index index) s.queues ≡ false
    unused = index_unused queue_slots s.queues index has.loaded.have (get_or-eq_default queue_slots None (omega (arith, long)))

    new_name : list_any (holds_name d.name) s.queues ≡ false
    new_name = not_true (list_any (holds_name d.name) s.queues)
        (and_parts (not (list_any (holds_name d.name) s.queues)) (is_bare_queue (queue_of d [])) can).0

    is_added : after.queues ≡ queue_added index d s.queues
    is_added = put_is index d s unused new_name has.loaded.order

    order : IsInOrder after
    order = put_order index d s unused new_name has.loaded.order

    def_new : def_at index after.queues ≡ Some d
    def_new = put_def index d s unused new_name has.loaded.order

    have_more : HaveQueues (map queue_of_slot (slots ++ slot ∷ [])) after.queues
    have_more i =
        let slots_are = ap (λ (o : QueueSlots). get_or o i None) (defs-snoc ∙ ap (λ (x : Option QueueDef). queue_slots ++ x ∷ []) is) in
        ⊎_elim
        (λ here.
        let at : i ≡ length queue_slots = eqb-true i index here ∙ sym long in
        slots_are ∙ ap (λ (n : ℕ). get_or (queue_slots ++ Some d ∷ []) n None) at ∙ snoc-at queue_slots (Some d) None ∙ sym def_new
        ∙ ap (λ (n : ℕ). def_at n after.queues) (sym (eqb-true i index here)))
        (λ other.
        slots_are
        ∙ snoc-other queue_slots (Some d) None i (λ e. false≢true (sym other ∙ ap (λ (n : ℕ). n == index) (e ∙ long) ∙ eq_itself index))
        ∙ has.loaded.have i ∙ sym (def_put i index d other s.queues))
        (cases_Bool (i == index))

    counted : (g : Queue → ℕ) → g (queue_of d []) ≡ 0 → total g after.queues ≡ total g s.queues
    counted g none = ap (total g) is_added ∙ total_added g index d none s.queues

    some_more : HasQueues site number shape (slots ++ slot ∷ []) after
    some_more =
        let l = has.loaded in
        record {
          loaded = record {
            is = ap (λ (x : IndexedSpace). record x { queues = after.queues }) l.is;
            have = have_more;
            order = order;
            each = subst (All (IsLoadedQueue site number)) (sym is_added)
                (All-insert (IsLoadedQueue site number) s.queues (position_or_len (comes_before d.name) s.queues) (made index d)
                (record {
                  def = (and_parts (not (list_any (holds_name d.name) s.queues)) (is_bare_queue (queue_of d [])) can).1;
                  items = All-nil (IsLoadedEntry site number);
                }) l.each);
          };
          messages = counted length_of refl ∙ has.messages;
          pages = counted queue_pages refl ∙ has.pages;
          kept = put_kept index d s unused new_name has.loaded.order ∙ has.kept;
        }

  pub queue_more : can_take (queue_of_slot slot) s ≡ true → HasQueues site number shape (slots ++ slot ∷ []) (queue_taken index (queue_of_slot slot) s)
  queue_more can =
      (elim (queue_of_slot slot) as (λ o. queue_of_slot slot ≡ o → can_take o s ≡ true
      → HasQueues site number shape (slots ++ slot ∷ []) (queue_taken index o s)) [
        | None ↦ λ e c. none_more e
        | Some d ↦ λ e c. some_more d e c
      ]) refl can

  -- ---- no space

  module _ (all rest : List QueueSlot) (parts : all ≡ (slots ++ slot ∷ []) ++ rest) (bytes : List ℕ) (messages : List MessageSlot)
      (branches : List BranchSlot) where
    in_part : (i : ℕ) → i < index + 1 → get_or (map queue_of_slot all) i None ≡ get_or (queue_slots ++ queue_of_slot slot ∷ []) i None
    in_part i below =
        let front = slots ++ slot ∷ [] in
        let size : length (map queue_of_slot front) ≡ index + 1 = length-map front queue_of_slot ∙ length-append slots (slot ∷ []) in
        ap (λ (l : List QueueSlot). get_or (map queue_of_slot l) i None) parts
        ∙ ap (λ (l : QueueSlots). get_or l i None) (map-append queue_of_slot front rest)
        ∙ get_or-append (map queue_of_slot front) (map queue_of_slot rest) None i (omega (arith, size, below))
        ∙ ap (λ (l : QueueSlots). get_or l i None) defs-snoc

    here_is : (d : QueueDef) → queue_of_slot slot ≡ Some d → get_or (map queue_of_slot all) index None ≡ Some d
    here_is d is =
        in_part index (omega arith) ∙ ap (λ (n : ℕ). get_or (queue_slots ++ queue_of_slot slot ∷ []) n None) (sym long)
        ∙ snoc-at queue_slots (queue_of_slot slot) None ∙ is

    module _ (t : IndexedSpace) (read : IsReadAs site number shape bytes (slots_of all messages branches) t) where
      taken_no : (d : QueueDef) → queue_of_slot slot ≡ Some d → list_any (holds_name d.name) s.queues ≡ true → ⊥
      taken_no d is taken =
          let a = of_any (holds_name d.name) s.queues taken in
          let r = a.0 in
          let j = r.index in
          let def : get_or queue_slots j None ≡ Some (the_def r) =
          has.loaded.have j ∙ to_def s.queues r a.1 (λ q h e. has.loaded.order.entries.indices q r h a.1 e) in
          let below : j < length queue_slots = some_below queue_slots j (the_def r) def in
          let other : j ≡ length queue_slots → ⊥ = λ e. absurd (omega (arith, e, below)) in
          let there = in_part j (omega (arith, long, below)) ∙ snoc-other queue_slots (queue_of_slot slot) None j other ∙ def in
          let x = of_def j t.queues (the_def r) (sym (read.holds.queues j) ∙ there) in
          let y = of_def index t.queues d (sym (read.holds.queues index) ∙ here_is d is) in
          let names : x.0.queue.name ≡ y.0.queue.name =
          ap (λ (a : QueueDef). a.name) x.3 ∙ same_name r.queue.name d.name a.2 ∙ sym (ap (λ (a : QueueDef). a.name) y.3) in
          ⊎_elim
          (λ one. other (sym x.2 ∙ ap (λ (q : IndexedQueue). q.index) one ∙ y.2 ∙ sym long))
          (λ apart. not_named_alike x.0 y.0 names apart)
          (ascending_apart by_name t.queues x.0 y.0 read.holds.order.names x.1 y.1)
        where
          some_below : (l : QueueSlots) (i : ℕ) (d : QueueDef) → get_or l i None ≡ Some d → i < length l
          some_below [] i d at = absurd (some_none (sym at))
          some_below (x ∷ l) zero d at = omega arith
          some_below (x ∷ l) (suc i) d at = omega (arith, some_below l i d at)

      no_queue : (d : QueueDef) → queue_of_slot slot ≡ Some d → can_take (Some d) s ≡ false → ⊥
      no_queue d is cannot =
          ⊎_elim
          (λ taken. taken_no d is taken)
          (λ new.
          let bare = bare_slot site number shape bytes (slots_of all messages branches) t read index d (here_is d is) in
          false≢true (sym cannot ∙ (λ i. not (new i) && bare i)))
          (cases_Bool (list_any (holds_name d.name) s.queues))

    pub queue_unread : can_take (queue_of_slot slot) s ≡ false → space_by site number shape bytes (slots_of all messages branches) ≡ None
    queue_unread cannot =
        none_by (space_by site number shape bytes (slots_of all messages branches)) (λ t h.
        let read = read_parts site number shape bytes (slots_of all messages branches) t h in
        (elim (queue_of_slot slot) as (λ o. queue_of_slot slot ≡ o → can_take o s ≡ false → ⊥) [
          | None ↦ λ e c. false≢true (sym c)
          | Some d ↦ λ e c. no_queue t read d e c
        ]) refl cannot)
