-- What a changed definition of a queue, and a dropped queue, leave.
use Rattle.std.proofs.Common.{◌≡◌, ℕ, suc, ◌+◌, ◌<◌, ◌≤◌, ◌==◌, List, [], ◌∷◌, map, length, get_or, set, take, drop, refl, sym, ap, ◌∙◌, subst, arith, Option, Some, None, vec_len, vec_capacity}
use Rattle.std.specs.List.{find, position, position_or_len, remove, count_by}
use Rattle.std.proofs.lemmas.List.{map-set, get_or-map, length-map}
use Rattle.std.proofs.lemmas.List.Elements.{All-append, All-take, All-drop}
use Rattle.std.proofs.lemmas.List.Sums.{sum_by-remove}
use Rattle.tq_types.specs.declared.messages.Entry.{Entry}
use Rattle.tq_model.specs.declared.space.QueueDef.{QueueDef}
use Rattle.tq_model.specs.Space.{Queue, change_first}
use Rattle.tq_model.specs.Moves.{queue_of, has_index, on_queue, queue_dropped}
use Rattle.tq_space.specs.declared.shelf.HeldQueue.{HeldQueue}
use Rattle.tq_space.specs.Slots.{entry_at}
use Rattle.tq_space.specs.Plain.{HasNoEntries}
use Rattle.tq_space.specs.Shelf.{indexed_at, IsListed}
use Rattle.tq_space.specs.Grown.{HasRoomIn}
use Rattle.tq_model.proofs.Places.{position_or_len-map, position-found, position-none, change_first-at, change_first-past, map-remove, find-at}
use Rattle.tq_space.proofs.Places.{remove-past}
use Rattle.tq_space.proofs.Keys.{hit, counted, same_indices}

module _ (slots : List (Option Entry)) (queues : List HeldQueue) (index : ℕ) (none : position (λ (q : HeldQueue). q.index == index) queues ≡ None) where
  past : length (map (indexed_at slots) queues) ≤ position_or_len (has_index index) (map (indexed_at slots) queues)
  past =
      let end = position-none (λ (q : HeldQueue). q.index == index) queues none in
      omega (arith, position_or_len-map (indexed_at slots) (has_index index) queues, length-map queues (indexed_at slots))

  pub changed_nothing : (f : Queue → Queue) → change_first (has_index index) (on_queue f) (map (indexed_at slots) queues) ≡ map (indexed_at slots) queues
  changed_nothing f = change_first-past (has_index index) (on_queue f) (map (indexed_at slots) queues) past

  pub dropped_nothing : queue_dropped index (map (indexed_at slots) queues) ≡ map (indexed_at slots) queues
  dropped_nothing = remove-past (map (indexed_at slots) queues) (position_or_len (has_index index) (map (indexed_at slots) queues)) past

module _ (slots : List (Option Entry)) (queues : List HeldQueue) (listed : IsListed slots queues) (index at : ℕ) (d : HeldQueue)
    (is_d : d ≡ get_or queues at d) (found : position (λ (q : HeldQueue). q.index == index) queues ≡ Some at) where
  within : at < length queues
  within = (position-found (λ (q : HeldQueue). q.index == index) queues at found).1

  first : position_or_len (has_index index) (map (indexed_at slots) queues) ≡ at
  first = position_or_len-map (indexed_at slots) (has_index index) queues ∙ (position-found (λ (q : HeldQueue). q.index == index) queues at found).0

  there : get_or (map (indexed_at slots) queues) at (indexed_at slots d) ≡ indexed_at slots d
  there = get_or-map (indexed_at slots) queues at d (indexed_at slots d) within ∙ ap (indexed_at slots) (sym is_d)

  module _ (q' : HeldQueue) (same_index : q'.index ≡ d.index) (same_keys : q'.keys.items ≡ d.keys.items) where
    pub changed_listed : IsListed slots (set queues at q')
    changed_listed = record {
      keys = λ key.
          let whole = counted queues at d within q' key in
          let same : count_by (λ x. x == key) q'.keys.items ≡ count_by (λ x. x == key) (get_or queues at d).keys.items =
          ap (λ (l : List ℕ). count_by (λ x. x == key) l) (same_keys ∙ ap (λ (q : HeldQueue). q.keys.items) is_d) in
          let before = listed.keys key in
          omega arith;
      indices = λ i.
          let same = same_indices queues at d within q' (same_index ∙ ap (λ (q : HeldQueue). q.index) is_d) i in
          let before = listed.indices i in
          omega arith;
      plain = listed.plain;
    }

    pub changed_seen : (def : QueueDef) → q'.def ≡ def
        → map (indexed_at slots) (set queues at q') ≡ change_first (has_index index) (on_queue (λ queue. queue_of def queue.items)) (map (indexed_at slots) queues)
    changed_seen def is_def =
        let view = map (indexed_at slots) queues in
        let change : Queue → Queue = λ (queue : Queue). queue_of def queue.items in
        map-set (indexed_at slots) queues at q'
        ∙ (λ i. set view at (record { index = same_index i; queue = queue_of (is_def i) (map (entry_at slots) (same_keys i)) }))
        ∙ (λ i. set view (sym first i) (on_queue change (sym there i)))
        ∙ ap (λ (n : ℕ). set view (position_or_len (has_index index) view) (on_queue change (get_or view n (indexed_at slots d)))) (sym first)
        ∙ sym (change_first-at (has_index index) (on_queue change) (indexed_at slots d) view)

  -- ---- the queue goes

  no_keys : (keys : List ℕ) → map (entry_at slots) keys ≡ [] → keys ≡ []
  no_keys [] h = refl
  no_keys (k ∷ keys) h = cc

  module _ (empty : HasNoEntries (find (has_index index) (map (indexed_at slots) queues))) where
    none_listed : d.keys.items ≡ []
    none_listed =
        let view = map (indexed_at slots) queues in
        let below : position_or_len (has_index index) view < length view = omega (arith, first, within, length-map queues (indexed_at slots)) in
        let is_found : find (has_index index) view ≡ Some (indexed_at slots d) =
        find-at (has_index index) (indexed_at slots d) view below ∙ ap (λ (n : ℕ). Some (get_or view n (indexed_at slots d))) first ∙ ap Some there in
        no_keys d.keys.items (subst HasNoEntries is_found empty)

    pub dropped_listed : IsListed slots (remove queues at)
    dropped_listed = record {
      keys = λ key.
          let less = sum_by-remove (λ (q : HeldQueue). count_by (λ k. k == key) q.keys.items) queues at d within in
          let none : count_by (λ k. k == key) (get_or queues at d).keys.items ≡ 0 =
          ap (λ (l : List ℕ). count_by (λ k. k == key) l) (ap (λ (q : HeldQueue). q.keys.items) (sym is_d) ∙ none_listed) in
          let before = listed.keys key in
          omega arith;
      indices = λ i.
          let less = sum_by-remove (λ (q : HeldQueue). hit (q.index == i)) queues at d within in
          let before = listed.indices i in
          omega arith;
      plain = listed.plain;
    }

  pub dropped_seen : map (indexed_at slots) (remove queues at) ≡ queue_dropped index (map (indexed_at slots) queues)
  dropped_seen = map-remove (indexed_at slots) queues at ∙ ap (λ (n : ℕ). remove (map (indexed_at slots) queues) n) (sym first)

pub room_dropped : (n : ℕ) (queues : List HeldQueue) (at : ℕ) → HasRoomIn n queues → HasRoomIn n (remove queues at)
room_dropped n queues at room =
    let P : HeldQueue → Type 0 = λ (x : HeldQueue). vec_len x.keys + n ≤ vec_capacity x.keys in
    All-append P (take at queues) (drop (suc at) queues) (All-take P at queues room) (All-drop P (suc at) queues room)
