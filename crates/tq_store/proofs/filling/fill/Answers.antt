use Rattle.std.proofs.Common.{◌≡◌, ◌≢◌, ◌<◌, ◌≤◌, ◌+◌, ◌-◌, ◌*◌, ◌||◌, ◌++◌, ℕ, Bool, true, cond, List, [], ◌∷◌, length, take, drop, get_or, Some, None, Err}
use Rattle.std.proofs.Common.{refl, sym, ap, ◌∙◌, subst, arith}
use Rattle.std.proofs.lemmas.Bool.{and_parts, eq-eqb, ne_eqb}
use Rattle.std.proofs.lemmas.List.{take_all}
use Rattle.std.specs.List.{list_all}
use Rattle.tq_host.specs.View.{View}
use Rattle.tq_host.specs.Calls.{HasCauseOf}
use Rattle.tq_host.proofs.Causes.{cause_of_same, kept_count}
use Rattle.tq_extent.specs.Bytes.{owned_bytes, reaches, IsQuiet}
use Rattle.tq_extent.proofs.BytesLemmas.{length-owned}
use Rattle.tq_extent.proofs.ReadOnlyLemmas.{quiet_on, quiet_start}
use Rattle.tq_model.specs.declared.space.Shape.{Shape}
use Rattle.tq_model.specs.Moves.{IndexedSpace}
use Rattle.tq_pages.specs.Store.{IsStore, Store}
use Rattle.tq_space.specs.State.{SpaceState}
use Rattle.tq_slots.specs.declared.record.MessageSlot.{MessageSlot}
use Rattle.tq_slots.specs.declared.record.QueueSlot.{QueueSlot}
use Rattle.tq_slots.specs.MessageForm.{is_free_slot}
use Rattle.tq_slots.specs.SlotImages.{used_in, used_of}
use Rattle.tq_slots.specs.SpaceReading.{is_message_or_empty}
use Rattle.tq_slots.proofs.ListLemmas.{of_all}
use Rattle.tq_store.specs.declared.fault.FileError.TheVariants as file
use Rattle.tq_store.specs.declared.place.SpacePlace.{SpacePlace}
use Rattle.tq_store.specs.Filling.{HasEntered, HasFilled, HasRead, IsUnfit}
use Rattle.tq_store.specs.Place.{IsCreation, IsPlace}
use Rattle.tq_store.proofs.BadChainLemmas.{at_place}
use Rattle.tq_store.proofs.ErrorLemmas.{handed_back, handed_on, no_error}
use Rattle.tq_store.proofs.FillLemmas.{begun_filled, begun_read, message_filled, message_filled_from, none_filled, none_read, unfit_unread, whole_filled}
use Rattle.tq_store.proofs.HeldLemmas.{held_of_slots}
use Rattle.tq_store.proofs.SnocLemmas.{part-more, part-next}
use Rattle.tq_store.proofs.filling.fill.Goals.{then-slot-ne0+in_ok-take_message, else-slot-ne0}
use Rattle.tq_store.proofs.filling.fill.Goals as goal

-- what stands past the end of slots
abbrev past : MessageSlot
past =
    record {
      mark = 0;
      branch = 0;
      queue = 0;
      bits = 0;
      priority = 0;
      root_priority = 0;
      numbers = 0;
      retries = 0;
      first = 0;
      epoch = 0;
      number = 0;
      available = 0;
      expiration = 0;
      root_available = 0;
      root_expiration = 0;
      root_epoch = 0;
      root_number = 0;
    }

used_none : (m : MessageSlot) → m.mark ≡ 0 → used_of m ≡ None
used_none m is = ap (λ (b : Bool). cond b None (Some (used_in m))) (eq-eqb m.mark 0 is)

used_some : (m : MessageSlot) → m.mark ≢ 0 → used_of m ≡ Some (used_in m)
used_some m is = ap (λ (b : Bool). cond b None (Some (used_in m))) (ne_eqb m.mark 0 is)

free_is : (all : List MessageSlot) (i : ℕ) → list_all is_message_or_empty all ≡ true → i < length all → (get_or all i past).mark ≢ 0
    → is_free_slot (get_or all i past) ≡ true
free_is all i judged below used =
    let m = get_or all i past in
    sym (ap (λ (b : Bool). b || is_free_slot m) (ne_eqb m.mark 0 used)) ∙ of_all is_message_or_empty all m judged (at_place all i past below)

-- the bytes of the pages of a space
long_bytes : (place : SpacePlace) (shape : Shape) (clusters image : List ℕ) → IsPlace place clusters → IsCreation place shape → reaches clusters image ≡ true
    → 1024 * shape.pages ≤ length (owned_bytes clusters image)
long_bytes place shape clusters image is creation reach = let size = length-owned clusters image reach in omega (arith, is.enough, creation.pages, size)

module _ (place : SpacePlace) (shape : Shape) (clusters : List ℕ) (queues : List QueueSlot) (all : List MessageSlot) (i : ℕ) (below : i < length all)
    (s : IndexedSpace)
    (store : Store) (has : HasFilled place shape clusters queues (take i all) s store) where
  abbrev next : MessageSlot
  next = get_or all i past

  part : take (i + 1) all ≡ take i all ++ next ∷ []
  part = part-more all i (i + 1) past below refl

  next_none : next.mark ≡ 0 → HasFilled place shape clusters queues (take (i + 1) all) s store
  next_none none =
      subst (λ (l : List MessageSlot). HasFilled place shape clusters queues l s store) (sym part)
      (none_filled place shape clusters queues (take i all) next s store has (used_none next none))

  next_none_read : (bytes : List ℕ) → next.mark ≡ 0 → HasRead place.site place.number shape (take i all) s store bytes
      → HasRead place.site place.number shape (take (i + 1) all) s store bytes
  next_none_read bytes none read =
      subst (λ (l : List MessageSlot). HasRead place.site place.number shape l s store bytes) (sym part)
      (none_read place shape clusters queues (take i all) next s store has bytes (used_none next none) read)

  module _ (used : next.mark ≢ 0) (bytes : List ℕ) (s' : IndexedSpace) (new : Store) (told : Type 0)
      (e : HasEntered place.site place.number next s s' store new told bytes) where
    next_some : HasFilled place shape clusters queues (take (i + 1) all) s' new
    next_some =
        subst (λ (l : List MessageSlot). HasFilled place shape clusters queues l s' new) (sym part)
        (message_filled place shape clusters queues (take i all) next s store has (used_some next used) bytes s' new told e)

    next_some_read : told → 1024 * shape.pages ≤ length bytes → HasRead place.site place.number shape (take i all) s store bytes
        → HasRead place.site place.number shape (take (i + 1) all) s' new bytes
    next_some_read t long read =
        subst (λ (l : List MessageSlot). HasRead place.site place.number shape l s' new bytes) (sym part)
        (message_filled_from place shape clusters queues (take i all) next s store has (used_some next used) bytes s' new told e t long read)

-- the bytes of a store are those that were there at the start
same_bytes : (place : SpacePlace) (clusters : List ℕ) (store : Store) (start now : View) → IsQuiet place.dev start now → store.clusters ≡ clusters
    → store.dev ≡ place.dev
    → owned_bytes store.clusters (now.reads store.dev) ≡ owned_bytes clusters (start.reads place.dev)
same_bytes place clusters store start now quiet clusters_are dev =
    (λ i. owned_bytes (clusters_are i) (now.reads (dev i))) ∙ ap (owned_bytes clusters) (quiet.still.reads place.dev)

pub loop-slot-init : goal.loop-slot-init
loop-slot-init g c =
    let place = c.args.place.now in
    let shape = c.args.shape.now in
    let map = c.args.map in
    let queues = c.args.queues.now in
    let held = c.in_ok-space.space.held in
    let start = g.H.Host.view c.args.host.now in
    let first = c.overhead_pages-overhead.result in
    let overhead = c.overhead_pages-overhead.ensures in
    let creation = c.requires.creation in
    let all : first + (place.pages - first) ≡ shape.pages = omega (arith, overhead, creation.pages, creation.overhead) in
    let is = subst IsStore c.in_ok-store.ensures c.free_count-free.ensures.store in
    let has = c.in_ok-space.ensures.queues in
    record {
      filled = subst (λ (t : Store). HasFilled place shape map queues [] held t) (sym c.in_ok-store.ensures)
          (begun_filled place shape map queues held has first (place.pages - first) overhead all is);
      read = λ told. subst (λ (t : Store). HasRead place.site place.number shape [] held t (owned_bytes map (start.reads place.dev)))
          (sym c.in_ok-store.ensures)
          (begun_read place shape map queues held has first (place.pages - first) overhead all is (owned_bytes map (start.reads place.dev)));
      quiet = quiet_start place.dev start;
      faults = refl;
    }

pub take_message-requires-clause-free : goal.take_message-requires-clause-free
take_message-requires-clause-free g c =
    let judged = and_parts _ _ (and_parts _ _ c.requires.judged).1 in
    free_is c.args.messages.now c.loop-slot.slot-index judged.0 c.loop-slot-test.true c.if-slot-ne0.true

pub returns-in_err-take_message-clause-damaged : goal.returns-in_err-take_message-clause-damaged
returns-in_err-take_message-clause-damaged g c = λ is told branches.
    let place = c.args.place.now in
    let shape = c.args.shape.now in
    let map = c.args.map in
    let all = c.args.messages.now in
    let i = c.loop-slot.slot-index in
    let store = c.loop-slot.store in
    let held = c.loop-slot.space.held in
    let start = g.H.Host.view c.args.host.now in
    let now = g.H.Host.view c.loop-slot.host in
    let has = c.loop-slot.invariant.filled in
    let bytes = owned_bytes map (start.reads place.dev) in
    let refused = handed_on c.take_message.result c.from_residual-in_err-take_message.result c.in_err-take_message.field-0.0 file.Damaged
    c.in_err-take_message.was
    c.from_residual-in_err-take_message.ensures.1 is in
    let unfit = subst (IsUnfit place.site place.number (get_or all i past) held store)
    (same_bytes place map store start now c.loop-slot.invariant.quiet has.store.clusters_are has.dev)
    (c.take_message.ensures.damaged refused told) in
    unfit_unread place shape map c.args.queues.now (take i all) (get_or all i past) held store has (used_some (get_or all i past) c.if-slot-ne0.true) bytes
    (c.loop-slot.invariant.read told) (long_bytes place shape map (start.reads place.dev) c.requires.place c.requires.creation (c.requires.reach told)) all
    (drop (i + 1) all)
    (part-next all i past c.loop-slot-test.true) branches unfit

pub returns-in_err-take_message-clause-cause : goal.returns-in_err-take_message-clause-cause
returns-in_err-take_message-clause-cause g c =
    let start = g.H.Host.view c.args.host.now in
    let end = g.H.Host.view c.take_message.new.host in
    let r = c.take_message.result in
    let s = c.from_residual-in_err-take_message.result in
    let e = c.in_err-take_message.field-0.0 in
    subst (λ (n : ℕ). HasCauseOf (s ≡ Err file.Device) n end.faults) c.loop-slot.invariant.faults
    (cause_of_same (r ≡ Err file.Device) (s ≡ Err file.Device) _ end.faults
    (handed_back r s e file.Device c.in_err-take_message.was c.from_residual-in_err-take_message.ensures.1)
    (handed_on r s e file.Device c.in_err-take_message.was c.from_residual-in_err-take_message.ensures.1) c.take_message.ensures.cause)

pub loop-slot-preserved : goal.loop-slot-preserved
loop-slot-preserved g c =
    let place = c.args.place.now in
    let shape = c.args.shape.now in
    let map = c.args.map in
    let queues = c.args.queues.now in
    let all = c.args.messages.now in
    let i = c.loop-slot.slot-index in
    let below = c.loop-slot-test.true in
    let store = c.loop-slot.store in
    let held = c.loop-slot.space.held in
    let start = g.H.Host.view c.args.host.now in
    let now = g.H.Host.view c.loop-slot.host in
    let inv = c.loop-slot.invariant in
    let has = inv.filled in
    let bytes = owned_bytes map (start.reads place.dev) in
    elim c.if-slot-ne0.branch [
      | then-slot-ne0+in_ok-take_message w ↦
          let end = g.H.Host.view w.take_message.new.host in
          let s' = w.take_message.new.space.held in
          let new = w.take_message.new.store in
          let entered = subst (HasEntered place.site place.number (get_or all i past) held s' store new g.H.Host.tells.reads)
          (same_bytes place map store start now inv.quiet has.store.clusters_are has.dev) w.in_ok-take_message.ensures.entered in
          let filled = next_some place shape map queues all i below held store has w.if-slot-ne0.true bytes s' new g.H.Host.tells.reads entered in
          let quiet = quiet_on place.dev start now end inv.quiet (subst (λ (d : ℕ). IsQuiet d now end) has.dev w.take_message.ensures.quiet) in
          let fine = no_error w.take_message.result w.in_ok-take_message.field-0 file.Device w.in_ok-take_message.was in
          record {
            filled = subst (λ (t : Store). HasFilled place shape map queues (take (i + 1) all) c.if-slot-ne0.space.held t) (sym w.store-is)
                (subst (λ (x : SpaceState). HasFilled place shape map queues (take (i + 1) all) x.held new) (sym w.space-is) filled);
            read = λ told.
                let long = long_bytes place shape map (start.reads place.dev) c.requires.place c.requires.creation (c.requires.reach told) in
                let read = next_some_read place shape map queues all i below held store has w.if-slot-ne0.true bytes s' new g.H.Host.tells.reads entered
                told long (inv.read told) in
                subst (λ (t : Store). HasRead place.site place.number shape (take (i + 1) all) c.if-slot-ne0.space.held t bytes) (sym w.store-is)
                (subst (λ (x : SpaceState). HasRead place.site place.number shape (take (i + 1) all) x.held new bytes) (sym w.space-is) read);
            quiet = subst (λ h. IsQuiet place.dev start (g.H.Host.view h)) (sym w.host-is) quiet;
            faults = ap (λ h. (g.H.Host.view h).faults) w.host-is
                ∙ kept_count (w.take_message.result ≡ Err file.Device) now.faults end.faults w.take_message.ensures.cause fine ∙ inv.faults;
          }
      | else-slot-ne0 w ↦
          let filled = next_none place shape map queues all i below held store has w.if-slot-ne0.false in
          record {
            filled = subst (λ (t : Store). HasFilled place shape map queues (take (i + 1) all) c.if-slot-ne0.space.held t) (sym w.store-is)
                (subst (λ (x : SpaceState). HasFilled place shape map queues (take (i + 1) all) x.held store) (sym w.space-is) filled);
            read = λ told.
                let read = next_none_read place shape map queues all i below held store has bytes w.if-slot-ne0.false (inv.read told) in
                subst (λ (t : Store). HasRead place.site place.number shape (take (i + 1) all) c.if-slot-ne0.space.held t bytes) (sym w.store-is)
                (subst (λ (x : SpaceState). HasRead place.site place.number shape (take (i + 1) all) x.held store bytes) (sym w.space-is) read);
            quiet = subst (λ h. IsQuiet place.dev start (g.H.Host.view h)) (sym w.host-is) inv.quiet;
            faults = ap (λ h. (g.H.Host.view h).faults) w.host-is ∙ inv.faults;
          }
    ]

pub returns-clause-filled : goal.returns-clause-filled
returns-clause-filled g c =
    let place = c.args.place.now in
    let all = c.args.messages.now in
    let done = take_all c.loop-slot.slot-index all c.loop-slot-test.false in
    whole_filled place c.args.shape.now c.args.map c.args.queues.now all c.loop-slot.space.held c.loop-slot.store
    (subst (λ (l : List MessageSlot). HasFilled place c.args.shape.now c.args.map c.args.queues.now l c.loop-slot.space.held c.loop-slot.store) done
    c.loop-slot.invariant.filled)
    c.requires.message_count

pub returns-clause-from : goal.returns-clause-from
returns-clause-from g c = λ told branches judged.
    let place = c.args.place.now in
    let shape = c.args.shape.now in
    let all = c.args.messages.now in
    let held = c.loop-slot.space.held in
    let store = c.loop-slot.store in
    let start = g.H.Host.view c.args.host.now in
    let bytes = owned_bytes c.args.map (start.reads place.dev) in
    let done = take_all c.loop-slot.slot-index all c.loop-slot-test.false in
    let read = subst (λ (l : List MessageSlot). HasRead place.site place.number shape l held store bytes) done (c.loop-slot.invariant.read told) in
    let loaded = c.loop-slot.invariant.filled.loaded in
    record {
      holds = record { holds = record { queues = loaded.have; kept = read.kept; order = loaded.order }; slots = judged };
      chains = λ i m at. read.chains i m at;
    }

pub returns-clause-held : goal.returns-clause-held
returns-clause-held g c = λ branches.
    let place = c.args.place.now in
    let queues = c.args.queues.now in
    let all = c.args.messages.now in
    let held = c.loop-slot.space.held in
    let store = c.loop-slot.store in
    let done = take_all c.loop-slot.slot-index all c.loop-slot-test.false in
    let filled = subst (λ (l : List MessageSlot). HasFilled place c.args.shape.now c.args.map queues l held store) done c.loop-slot.invariant.filled in
    held_of_slots place.site place.number queues all [] branches store held filled.held
