-- Each move is a change of a space.
use Rattle.std.proofs.Common.{◌≡◌, inl, inr, ◌<◌, ◌≤◌, ◌+◌, ◌==◌, ℕ, ℤ, pos, negsuc, true, not, List, [], ◌∷◌, length, drop, Option, Some, None}
use Rattle.std.proofs.Common.{refl, sym, ap, ◌∙◌, subst, arith, eqb-true}
use Rattle.std.specs.Prelude.{is_some, option_map, slice_index_or, slice_set}
use Rattle.std.specs.List.{AllByRecursion, find, flat_map, list_any, position}
use Rattle.std.proofs.lemmas.Bool.{and_parts, cases_eq, cases_lt, false≢true}
use Rattle.std.proofs.lemmas.List.{drop_at, length-append, length-map, map-set}
use Rattle.std.proofs.Math.ListN.{get_or-eq_default}
use Rattle.tq_field.proofs.Numbers.{length-digits}
use Rattle.tq_types.specs.Label.{arrival_cmp}
use Rattle.tq_types.specs.declared.identifiers.Arrival.{Arrival}
use Rattle.tq_types.specs.declared.identifiers.CorrId.{CorrId}
use Rattle.tq_types.specs.declared.identifiers.MsgId.{MsgId}
use Rattle.tq_types.specs.declared.messages.Entry.{Entry as HeldEntry}
use Rattle.tq_model.specs.declared.space.QueueDef.{QueueDef}
use Rattle.tq_model.specs.declared.space.SpaceMove.TheVariants.{Insert, PutQueue, Remove}
use Rattle.tq_model.specs.Moves.{IndexedQueue, IndexedSpace, entry_view, has_index, message_view, moved, session_owners, space_of}
use Rattle.tq_model.specs.Room.{pages_held}
use Rattle.tq_model.specs.Space.{Entry, Limits}
use Rattle.tq_extent.specs.Bytes.{owned_bytes}
use Rattle.tq_pages.specs.Content.{HasChain, chain_bytes}
use Rattle.tq_pages.specs.Store.{Store, HasAdded, IsStore, chain_pages, size_of}
use Rattle.tq_pages.proofs.NumberLemmas.{others_left, others_stay}
use Rattle.tq_slots.specs.declared.message.Header.{Header}
use Rattle.tq_slots.specs.MessageForm.{IsArrival, IsCode, IsHeader, IsNameOrNone, arrival_bytes, corr_bytes, header_fields, header_of, header_read}
use Rattle.tq_slots.specs.MessageForm.{header_size, header_spelt, name_bytes}
use Rattle.tq_slots.specs.MessageSlots.{Chains, Slots, UsedSlot, arrival_of, chain_of, slot_arrival}
use Rattle.tq_slots.specs.QueueForm.{queue_of_slot, slot_of_queue}
use Rattle.tq_slots.specs.QueueSlots.{HaveQueues, QueueSlots, the_def}
use Rattle.tq_slots.specs.SlotImages.{RawSlots, queue_slots_in, slots_in, used_of}
use Rattle.tq_slots.specs.SlotTable.{has_key, lowest_empty}
use Rattle.tq_slots.specs.SlotsLaw.{HoldSpace}
use Rattle.tq_slots.specs.SpaceReading.{chain_with, is_bare_entry, is_bare_label, is_bare_message, is_zero, message_at, message_in}
use Rattle.tq_slots.proofs.FieldLemmas.{length-all}
use Rattle.tq_slots.proofs.HeaderLemmas.{filled-wide, header-again}
use Rattle.tq_slots.proofs.ListLemmas.{some_injective, some_none, the_some}
use Rattle.tq_slots.proofs.QueueFormLemmas.{queue-again}
use Rattle.tq_space.proofs.Counts.{any-find}
use Rattle.tq_store.specs.Change.{HasNewChain, IsChange, IsPut, IsRecordOf}
use Rattle.tq_store.specs.Commit.{CanBeMade, CanComeIn, CanGo}
use Rattle.tq_store.specs.Draft.{HasArrival, HasReleased, HasSlotAt, entry_slot, message_of, slots_with_entry, slots_with_queue, with_message}
use Rattle.tq_store.specs.File.{FileState, IsSound, clusters_of}
use Rattle.tq_store.specs.Stored.{HasStored, HoldsSpace, IsUsedAt}
use Rattle.tq_store.proofs.ChainReadingLemmas.{store_long}
use Rattle.tq_store.proofs.PlanSlotLemmas.{can_spell, insert_held, insert_holds, insert_place, queue_held, queue_holds, remove_held, remove_holds, remove_place, remove_room, said_with}
use Rattle.tq_store.proofs.SoundMoveLemmas.{insert_few, insert_sound, queue_sound, remove_sound, set_elsewhere, set_there, used_within}
use Rattle.tq_store.proofs.StoreChangeLemmas.{added_message}

-- ---- the bytes of a message that has nothing that is not built

not_some : {X : Type 0} (o : Option X) → not (is_some o) ≡ true → o ≡ None
not_some None h = refl
not_some (Some x) h = absurd (false≢true h)

none_of : {X : Type 0} (xs : List X) → (length xs == 0) ≡ true → xs ≡ []
none_of [] h = refl
none_of (x ∷ xs) h = let none = eqb-true (length (x ∷ xs)) 0 h in absurd (omega arith)

zero_code : (n : ℤ) → is_zero n ≡ true → IsCode n
zero_code (pos n) h = let none = eqb-true n 0 h in omega arith
zero_code (negsuc n) h = absurd (false≢true h)

record IsBareHeader (h : Header) : Type 0 where
  path : h.path ≡ []
  corr : h.corr ≡ None
  replyq : h.replyq ≡ None
  failq : h.failq ≡ None
  urcode : IsCode h.urcode

bare_header : (x : Entry) → is_bare_entry x ≡ true → IsBareHeader (header_of x.label x.message)
bare_header x bare =
    let both = and_parts (is_bare_label x.label) (is_bare_message x.message) bare in
    let path = and_parts _ _ both.0 in
    let message = and_parts _ _ both.1 in
    let front = and_parts _ _ message.0 in
    let names = and_parts _ _ front.1 in
    let first = and_parts _ _ names.0 in
    let ends = and_parts _ _ message.1 in
    record {
      path = none_of x.label.path path.1;
      corr = not_some x.message.corr first.0;
      replyq = not_some x.message.replyq first.1;
      failq = not_some x.message.failq names.1;
      urcode = zero_code x.message.urcode ends.1;
    }

-- a header without a path, a correlation and names can be spelt, and has its bytes
is_header_of : (h : Header) → IsBareHeader h → IsArrival h.arrival → h.body_length ≤ 65536 → IsHeader h
is_header_of h bare arrival body =
    let none = ap (λ (p : List Arrival). length p) bare.path in
    record {
      arrival = arrival;
      body = body;
      corr = ap (λ (c : Option CorrId). length (corr_bytes c)) bare.corr ∙ length-digits 32 0;
      replyq = subst IsNameOrNone (sym bare.replyq) tt;
      failq = subst IsNameOrNone (sym bare.failq) tt;
      urcode = bare.urcode;
      short = omega arith;
      path = subst (AllByRecursion IsArrival) (sym bare.path) tt;
    }

header_long : (h : Header) → IsBareHeader h → IsHeader h → length (header_spelt h) ≡ 256
header_long h bare is =
    let reply = ap (λ (o : Option (List ℕ)). length (name_bytes o)) bare.replyq in
    let fail = ap (λ (o : Option (List ℕ)). length (name_bytes o)) bare.failq in
    let path = ap (λ (p : List Arrival). length (flat_map arrival_bytes p)) bare.path in
    let reply_wide = filled-wide 15 (name_bytes h.replyq) (omega arith) in
    let fail_wide = filled-wide 15 (name_bytes h.failq) (omega arith) in
    let path_wide = filled-wide 128 (flat_map arrival_bytes h.path) (omega arith) in
    length-all (header_fields h)
    (tt, (tt, (tt, (tt, (tt, (tt, (tt, (is.corr, (tt, (reply_wide, (tt, (fail_wide, (tt, (tt, (path_wide, (tt, tt))))))))))))))))

module _ (e : HeldEntry) (s : IndexedSpace) (can : CanComeIn e s) (arrival : HasArrival e) where
  abbrev header : Header
  header = header_of e.label (message_view e.message)

  bare : IsBareHeader header
  bare = bare_header (entry_view session_owners e) can.bare

  is_header : IsHeader header
  is_header = is_header_of header bare (arrival.epoch, arrival.number) can.body

  own_long : length (header_spelt header) ≡ 256
  own_long = header_long header bare is_header

  pub message_long : length (message_of e) ≡ header_size + length e.message.body
  message_long = length-append (header_spelt header) e.message.body ∙ ap (λ (n : ℕ). n + length e.message.body) own_long

  -- they are read as its header and its body
  pub message_again : message_in (message_of e) ≡ Some (chain_of (entry_view session_owners e))
  message_again =
      let body = e.message.body in
      let read : header_read (length (message_of e)) (message_of e) ≡ Some header =
      ap (λ (n : ℕ). header_read n (message_of e)) message_long ∙ header-again header body is_header in
      let rest : drop 256 (message_of e) ≡ body = drop_at (header_spelt header) body 256 own_long in
      ap (option_map (λ h. chain_with h (drop 256 (message_of e)))) read ∙ ap (λ (l : List ℕ). Some (chain_with header l)) rest

-- ---- a chain comes, or none does

chain_comes : (old new : Store) (first : ℕ) (message : List ℕ) → HasAdded old first (length message) new → HasNewChain old first message new
chain_comes old new first [] added = tt
chain_comes old new first (b ∷ message) added = added

put_parts : (store : Store) (first : ℕ) (message bytes : List ℕ) → 1 ≤ length message → IsPut store first message bytes
    → HasChain store first bytes × (chain_bytes store first bytes ≡ message)
put_parts store first [] bytes some put = absurd (omega (arith, some))
put_parts store first (b ∷ message) bytes some put = put

-- ---- an entry comes in

module _ (f : FileState) (sound : IsSound f) (e : HeldEntry) (can : CanComeIn e f.space) where
  abbrev place : ℕ
  place = lowest_empty (slots_in f.raw)

  own_place : (place < length (slots_in f.raw)) × (slice_index_or (slots_in f.raw) place None ≡ None)
      × (position (has_key arrival_cmp slot_arrival (arrival_of e.message.id)) (slots_in f.raw) ≡ None)
  own_place =
      insert_place f.place.site f.place.number (queue_slots_in f.raw) (slots_in f.raw) sound.held.chains e f.space sound.held.holds can
      (insert_few f sound e can)

  -- there is an empty slot, and none of its arrival
  pub insert_there : (place < length f.raw.messages)
      × (position (has_key arrival_cmp slot_arrival (arrival_of e.message.id)) (slots_in f.raw) ≡ None)
  insert_there =
      let size = length-map f.raw.messages used_of in
      let below = own_place.0 in
      (omega arith, own_place.2)

  module _ (arrival : HasArrival e) (first : ℕ) (store' : Store) (is : IsStore store')
      (added : HasAdded f.store first (header_size + length e.message.body) store') where
    abbrev raw' : RawSlots
    raw' = slots_with_entry first e f.raw

    abbrev slot : UsedSlot
    slot = entry_slot first e

    some_bytes : 1 ≤ length (message_of e)
    some_bytes = let long = message_long e f.space can arrival in omega arith

    insert_chains : (bytes : List ℕ) → ((i : ℕ) (m : UsedSlot) → IsUsedAt f.raw i m → HasChain f.store m.first bytes)
        → IsPut store' first (message_of e) bytes → (i : ℕ) (m : UsedSlot) → IsUsedAt raw' i m → HasChain store' m.first bytes
    insert_chains bytes old put i m at = elim (cases_eq i place) [
      | inl here ↦
          let there : slice_index_or (slots_in raw') place None ≡ Some slot = set_there f.raw place (Some slot) own_place.0 in
          let m_is : slot ≡ m = some_injective (sym there ∙ ap (λ (n : ℕ). slice_index_or (slots_in raw') n None) (sym here) ∙ at) in
          subst (λ (n : ℕ). HasChain store' n bytes) (ap (λ (u : UsedSlot). u.first) m_is) (put_parts store' first (message_of e) bytes some_bytes put).0
      | inr other ↦
          let was : IsUsedAt f.raw i m = sym (set_elsewhere f.raw place i (Some slot) other) ∙ at in
          others_stay f.store store' first (header_size + length e.message.body) m.first bytes added (sound.store.chains i m was).1 (old i m was)
    ]

    insert_on : (image : List ℕ) → HasStored f.shape (clusters_of f) f.raw f.store image
        → HoldsSpace f.place.site f.place.number f.shape (clusters_of f) f.raw f.space image
        → IsPut store' first (message_of e) (owned_bytes (clusters_of f) image)
        → HoldSpace f.place.site f.place.number (queue_slots_in raw') (slots_in raw') (message_at f.shape (owned_bytes (clusters_of f) image))
        (moved (Insert e) f.space)
    insert_on image stored holds put =
        let bytes = owned_bytes (clusters_of f) image in
        let chains = message_at f.shape bytes in
        let parts = put_parts store' first (message_of e) bytes some_bytes put in
        let long = store_long f.shape (clusters_of f) f.raw f.store sound.store image stored.reach in
        let chain : chains first ≡ Some (chain_of (entry_view session_owners e)) =
        added_message f.shape (clusters_of f) f.raw f.store store' first (header_size + length e.message.body) sound.store is added bytes parts.0 (omega arith) long
        ∙ ap message_in parts.1 ∙ message_again e f.space can arrival in
        subst (λ (l : Slots). HoldSpace f.place.site f.place.number (queue_slots_in f.raw) l chains (moved (Insert e) f.space))
        (sym (said_with f.raw place (Some slot)))
        (insert_holds f.place.site f.place.number (queue_slots_in f.raw) (slots_in f.raw) chains e f.space holds.holds can (insert_few f sound e can) first
        sound.space.site sound.space.number chain)

    pub insert_change : (payload : List ℕ) → IsRecordOf f.raw raw' payload
        → IsChange f (moved (Insert e) f.space) raw' store' first (message_of e) payload
    insert_change payload record_is = record {
      old = sound;
      new = insert_sound f sound e place first store' can is added own_place.0 own_place.1
          (insert_held f.shape (clusters_of f) f.place.site f.place.number first f.raw f.store store' e f.space sound.held sound.space.site
          sound.space.number can (insert_few f sound e can) sound.store added);
      clusters = added.pages.clusters;
      chain = chain_comes f.store store' first (message_of e)
          (subst (λ (n : ℕ). HasAdded f.store first n store') (sym (message_long e f.space can arrival)) added);
      record_is = record_is;
      chains = insert_chains;
      holds = insert_on;
    }

-- ---- an entry goes

module _ (f : FileState) (sound : IsSound f) (id : MsgId) (can : CanGo id f.space) where
  -- it has its slot
  pub remove_there : (index : ℕ) × (m : UsedSlot) × HasSlotAt id f.raw index m
  remove_there =
      let place =
      remove_place f.place.site f.place.number (queue_slots_in f.raw) (slots_in f.raw) sound.held.chains id f.space sound.held.holds sound.space.plain can in
      (place.0, place.1, record { place = place.2; at = place.3 })

  module _ (index : ℕ) (m : UsedSlot) (slot : HasSlotAt id f.raw index m) (store' : Store) (is : IsStore store') (released : HasReleased f.store m store') where
    abbrev left : RawSlots
    left = with_message index None f.raw

    remove_chains : (bytes : List ℕ) → ((i : ℕ) (u : UsedSlot) → IsUsedAt f.raw i u → HasChain f.store u.first bytes) → (i : ℕ) (u : UsedSlot)
        → IsUsedAt left i u → HasChain store' u.first bytes
    remove_chains bytes old i u at = elim (cases_eq i index) [
      | inl here ↦
          let none = set_there f.raw index None (used_within f.raw index m slot.at) in
          absurd (some_none (sym at ∙ ap (λ (n : ℕ). slice_index_or (slots_in left) n None) here ∙ none))
      | inr other ↦
          let was : IsUsedAt f.raw i u = sym (set_elsewhere f.raw index i None other) ∙ at in
          others_left f.store store' m.first (size_of f.store m.first) u.first bytes released (old i u was)
    ]

    remove_pages : pages_held (space_of (moved (Remove id) f.space)) + chain_pages (size_of f.store m.first) ≡ pages_held (space_of f.space)
    remove_pages =
        let room =
        remove_room f.place.site f.place.number (queue_slots_in f.raw) (slots_in f.raw) sound.held.chains id f.space sound.held.holds sound.space.plain can
        index m slot.place slot.at in
        let size = sound.held.sizes index m room.0 slot.at room.1 in
        ap (λ (n : ℕ). pages_held (space_of (moved (Remove id) f.space)) + chain_pages n) size ∙ room.2

    remove_on : (image : List ℕ) → HoldsSpace f.place.site f.place.number f.shape (clusters_of f) f.raw f.space image
        → HoldSpace f.place.site f.place.number (queue_slots_in left) (slots_in left) (message_at f.shape (owned_bytes (clusters_of f) image))
        (moved (Remove id) f.space)
    remove_on image holds =
        let chains = message_at f.shape (owned_bytes (clusters_of f) image) in
        subst (λ (l : Slots). HoldSpace f.place.site f.place.number (queue_slots_in f.raw) l chains (moved (Remove id) f.space)) (sym (said_with f.raw index None))
        (remove_holds f.place.site f.place.number (queue_slots_in f.raw) (slots_in f.raw) chains id f.space holds.holds sound.space.plain can index m slot.place
        slot.at)

    pub remove_change : (payload : List ℕ) → IsRecordOf f.raw left payload → IsChange f (moved (Remove id) f.space) left store' 0 [] payload
    remove_change payload record_is = record {
      old = sound;
      new = remove_sound f sound id index m store' slot.at is released remove_pages
          (remove_held f.place.site f.place.number f.raw f.store store' id f.space sound.held sound.space.plain can index m slot.place slot.at released);
      clusters = sym released.pages.clusters;
      chain = tt;
      record_is = record_is;
      chains = λ bytes old put. remove_chains bytes old;
      holds = λ image stored holds put. remove_on image holds;
    }

-- ---- queues

-- a queue that is there has an index of one byte
indexed_below : (slots : QueueSlots) (queues : List IndexedQueue) (index : ℕ) → HaveQueues slots queues → list_any (has_index index) queues ≡ true
    → index < length slots
indexed_below slots queues index have there =
    let q = the_some (find (has_index index) queues) (sym (any-find (has_index index) queues) ∙ there) in
    let said : slice_index_or slots index None ≡ Some (the_def q.0) = have index ∙ ap (option_map the_def) q.1 in
    elim (cases_lt index (length slots)) [
      | inl below ↦ below
      | inr past ↦ absurd (some_none (sym said ∙ get_or-eq_default slots None past))
    ]

pub insert_queue : (f : FileState) → IsSound f → (e : HeldEntry) → CanComeIn e f.space → e.queue < 256
insert_queue f sound e can =
    let below = indexed_below (queue_slots_in f.raw) f.space.queues e.queue sound.held.holds.queues can.can.there in
    let size = length-map f.raw.queues queue_of_slot in
    let count = sound.size.queues in
    let most = sound.creation.queues.1 in
    omega arith

-- ---- a queue is made

module _ (f : FileState) (sound : IsSound f) (index : ℕ) (d : QueueDef) (can : CanBeMade index d f.space) where
  -- there is a slot for it
  pub queue_within : index < length f.raw.queues
  queue_within =
      let below = can.within in
      let limit = ap (λ (l : Limits). l.queues) sound.space.limits in
      let count = sound.size.queues in
      omega arith

  abbrev made : RawSlots
  made = slots_with_queue index d f.raw

  queue_on : (chains : Chains) → HoldSpace f.place.site f.place.number (queue_slots_in f.raw) (slots_in f.raw) chains f.space
      → HoldSpace f.place.site f.place.number (queue_slots_in made) (slots_in made) chains (moved (PutQueue index d) f.space)
  queue_on chains hold =
      let size = length-map f.raw.queues queue_of_slot in
      let within = queue_within in
      let spelt = can_spell f.place.site f.place.number index f.raw f.store d f.space sound.held can within in
      let said : queue_slots_in made ≡ slice_set (queue_slots_in f.raw) index (Some d) =
      map-set queue_of_slot f.raw.queues index (slot_of_queue d) ∙ ap (slice_set (queue_slots_in f.raw) index) (queue-again d spelt) in
      subst (λ (l : QueueSlots). HoldSpace f.place.site f.place.number l (slots_in f.raw) chains (moved (PutQueue index d) f.space)) (sym said)
      (queue_holds f.place.site f.place.number index (queue_slots_in f.raw) (slots_in f.raw) chains d f.space hold can (omega (arith, size, within)))

  pub queue_change : (payload : List ℕ) → IsRecordOf f.raw made payload → IsChange f (moved (PutQueue index d) f.space) made f.store 0 [] payload
  queue_change payload record_is = record {
    old = sound;
    new = queue_sound f sound index d can (queue_held f.place.site f.place.number index f.raw f.store d f.space sound.held can queue_within);
    clusters = refl;
    chain = tt;
    record_is = record_is;
    chains = λ bytes old put i m at. old i m at;
    holds = λ image stored holds put. queue_on (message_at f.shape (owned_bytes (clusters_of f) image)) holds.holds;
  }
