-- What plans and refusals have to do with the machine's steps.
use Rattle.std.proofs.Common.{◌≡◌, ℕ, ◌+◌, ◌≤◌, ◌||◌, ◌&&◌, Bool, true, false, cond, not, List, [], ◌∷◌, map, filter, length, get_or, refl, sym, ap, ◌∙◌, subst, arith, Option, Some, None, option_map, Ok, Err, eq-eqb, ltb-false}
use Rattle.std.specs.Prelude.{if◌then◌else◌, option_to_list}
use Rattle.std.specs.List.{All, list_any, find, count_by}
use Rattle.std.proofs.lemmas.List.Elements.{All-head, All-tail}
use Rattle.std.proofs.lemmas.List.Sums.{sum_by-cons}
use Rattle.tq_types.specs.declared.identifiers.MsgId.{MsgId}
use Rattle.tq_types.specs.declared.rooms.Lack.{Lack}
use Rattle.tq_model.specs.declared.calls.EnqueueAsk.{EnqueueAsk}
use Rattle.tq_model.specs.declared.calls.DequeueAsk.{DequeueAsk}
use Rattle.tq_model.specs.declared.calls.DequeueCall.{DequeueCall}
use Rattle.tq_model.specs.declared.calls.CallAnswer.{CallAnswer}
use Rattle.tq_model.specs.declared.calls.CallAnswer.TheVariants.{Enqueued, BadQueue, NoSpace, NoMessage}
use Rattle.tq_model.specs.declared.space.SpaceMove.{SpaceMove}
use Rattle.tq_model.specs.declared.space.SpaceMove.TheVariants.{Insert, Remove}
use Rattle.tq_model.specs.Space.{Space, Queue, Entry, change_first, is_named, queue_named, is_free, is_past, is_expired, purged, purged_queue, with_entry, without, without_entry, holds_id, space_without}
use Rattle.tq_model.specs.Moves.{IndexedQueue, IndexedSpace, the_queue, space_of, has_index, on_queue, entry_removed, moved_by, purged_of}
use Rattle.tq_model.specs.Room.{is_lacking, first_lacking, message_rooms, messages_held, pages_held, pages_at}
use Rattle.tq_model.specs.EnqueueStep.{CallOutcome, quality, next_id, entry_to_come, enqueue_refusal, enqueue_refusal_at, enqueue_step, enqueued, with_message, unless_refused}
use Rattle.tq_model.specs.DequeueStep.{found_in, delivered, dequeue_answer, taken_from, dequeue_step, dequeue_refusal, refusal_at}
use Rattle.tq_space.specs.declared.plans.Plan.{Plan}
use Rattle.tq_space.specs.declared.plans.Refusal.TheVariants.{Refused}
use Rattle.tq_space.specs.Plain.{IsPlainEnqueue, HasNoExpirations, CanInsert, CanMoveBy}
use Rattle.tq_space.specs.Planned.{MeetsStep, IsInsertOf}
use Rattle.tq_space.specs.NewEntry.{entry_of}
use Rattle.tq_space.specs.Reads.{indexed_named, HasDistinctIndices}
use Rattle.tq_space.specs.Reading.{answer_in}
use Rattle.tq_space.proofs.Keys.{hit}

-- ---- nothing expires

filter_kept : {X : Type 0} (p : X → Bool) (xs : List X) → All (λ x. p x ≡ true) xs → filter p xs ≡ xs
filter_kept p [] h = refl
filter_kept p (x ∷ xs) h =
    let first : p x ≡ true = All-head (λ y. p y ≡ true) x xs h in
    let rest = filter_kept p xs (All-tail (λ y. p y ≡ true) x xs h) in
    λ i. cond (first i) (x ∷ rest i) (rest i)

stays : (t : ℕ) (item : Entry) → item.message.expiration ≡ None → not (is_expired t item) ≡ true
stays t item h =
    let none : is_past t item.message.expiration ≡ false = ap (is_past t) h in
    elim (is_free item.mark) as (λ b. not (b && is_past t item.message.expiration) ≡ true) [ true ↦ ap not none | false ↦ refl ]

purged_queues : (t : ℕ) (qs : List IndexedQueue) → HasNoExpirations qs → map (purged_queue t) (map the_queue qs) ≡ map the_queue qs
purged_queues t [] h = refl
purged_queues t (q ∷ qs) h =
    let P : IndexedQueue → Type 0 = λ (x : IndexedQueue). All (λ (item : Entry). item.message.expiration ≡ None) x.queue.items in
    let first = All-head P q qs h in
    let rest = purged_queues t qs (All-tail P q qs h) in
    let items : filter (λ (item : Entry). not (is_expired t item)) q.queue.items ≡ q.queue.items =
    filter_kept (λ (item : Entry). not (is_expired t item)) q.queue.items (λ k d lt. stays t (get_or q.queue.items k d) (first k d lt)) in
    λ i. record q.queue { items = items i } ∷ rest i

pub purged_same : (t : ℕ) (s : IndexedSpace) → HasNoExpirations s.queues → purged t (space_of s) ≡ space_of s
purged_same t s h = let same = purged_queues t s.queues h in λ i. record (space_of s) { queues = same i }

-- ---- names and indices

find-map : {X Y : Type 0} (f : X → Y) (p : Y → Bool) (xs : List X) → find p (map f xs) ≡ option_map f (find (λ x. p (f x)) xs)
find-map f p [] = refl
find-map f p (x ∷ xs) =
    elim (p (f x)) as (λ b. cond b (Some (f x)) (find p (map f xs)) ≡ option_map f (cond b (Some x) (find (λ y. p (f y)) xs))) [
      | true ↦ refl
      | false ↦ find-map f p xs
    ]

or_true : (b : Bool) → b || true ≡ true
or_true true = refl
or_true false = refl

hit_zero : (b : Bool) → hit b ≤ 0 → b ≡ false
hit_zero true h = absurd (omega arith)
hit_zero false h = refl

found_any : (name : List ℕ) (q : IndexedQueue) (qs : List IndexedQueue) → find (indexed_named name) qs ≡ Some q → list_any (has_index q.index) qs ≡ true
found_any name q [] = λ h. cc
found_any name q (x ∷ xs) =
    elim (indexed_named name x) as (λ b. cond b (Some x) (find (indexed_named name) xs) ≡ Some q → has_index q.index x || list_any (has_index q.index) xs ≡ true) [
      | true ↦ λ h.
          let same : x ≡ q = cc in
          ap (λ (b : Bool). b || list_any (has_index q.index) xs) (eq-eqb x.index q.index (ap (λ (y : IndexedQueue). y.index) same))
      | false ↦ λ h. ap (λ (b : Bool). has_index q.index x || b) (found_any name q xs h) ∙ or_true (has_index q.index x)
    ]

any_count : (p : IndexedQueue → Bool) (xs : List IndexedQueue) → list_any p xs ≡ true → 1 ≤ count_by p xs
any_count p [] = λ h. cc
any_count p (x ∷ xs) =
    let sum : count_by p (x ∷ xs) ≡ hit (p x) + count_by p xs = sum_by-cons (λ y. hit (p y)) x xs in
    elim (p x) as (λ b. count_by p (x ∷ xs) ≡ hit b + count_by p xs → b || list_any p xs ≡ true → 1 ≤ count_by p (x ∷ xs)) [
      | true ↦ λ s h. omega arith
      | false ↦ λ s h. let rest = any_count p xs h in omega arith
    ] sum

change_named : (name : List ℕ) (f : Queue → Queue) (q : IndexedQueue) (qs : List IndexedQueue) → HasDistinctIndices qs → find (indexed_named name) qs ≡ Some q
    → map the_queue (change_first (has_index q.index) (on_queue f) qs) ≡ change_first (is_named name) f (map the_queue qs)
change_named name f q [] distinct = λ h. cc
change_named name f q (x ∷ xs) distinct =
    let sum : (i : ℕ) → count_by (has_index i) (x ∷ xs) ≡ hit (has_index i x) + count_by (has_index i) xs = λ i. sum_by-cons (λ (y : IndexedQueue). hit (has_index i y)) x xs in
    let rest : HasDistinctIndices xs = λ i. let s = sum i in let most = distinct i in omega arith in
    let choice = λ (b : Bool). map the_queue (cond b (on_queue f x ∷ xs) (x ∷ change_first (has_index q.index) (on_queue f) xs)) in
    elim (indexed_named name x) as (λ b. cond b (Some x) (find (indexed_named name) xs) ≡ Some q
    → choice (has_index q.index x) ≡ cond b (f x.queue ∷ map the_queue xs) (x.queue ∷ change_first (is_named name) f (map the_queue xs))) [
      | true ↦ λ h.
          let same : x ≡ q = cc in
          ap choice (eq-eqb x.index q.index (ap (λ (y : IndexedQueue). y.index) same))
      | false ↦ λ h.
          let once = any_count (has_index q.index) xs (found_any name q xs h) in
          let most = distinct q.index in
          let s = sum q.index in
          ap choice (hit_zero (has_index q.index x) (omega arith)) ∙ ap (λ (l : List Queue). x.queue ∷ l) (change_named name f q xs rest h)
    ]

-- ---- room

no_lack : (a b : Lack) → first_lacking (a ∷ b ∷ []) ≡ None → (a.need + a.held ≤ a.limit) × (b.need + b.held ≤ b.limit)
no_lack a b =
    elim (is_lacking a) as (λ t. is_lacking a ≡ t → cond t (Some a) (cond (is_lacking b) (Some b) None) ≡ None → (a.need + a.held ≤ a.limit) × (b.need + b.held ≤ b.limit)) [
      | true ↦ λ e h. cc
      | false ↦ λ e.
          elim (is_lacking b) as (λ t. is_lacking b ≡ t → cond t (Some b) None ≡ None → (a.need + a.held ≤ a.limit) × (b.need + b.held ≤ b.limit)) [
            | true ↦ λ e' h. cc
            | false ↦ λ e' h. (ltb-false a.limit (a.need + a.held) e, ltb-false b.limit (b.need + b.held) e')
          ] refl
    ] refl

-- ---- refusals

-- one that leaves the space as it is
refusal_meets : (held : IndexedSpace) (outcome : CallOutcome) (refusal : Option CallAnswer) (answer : CallAnswer) (purge : List MsgId) → purge ≡ []
    → refusal ≡ Some answer → outcome ≡ record { space = space_of held; answer = answer } → MeetsStep (Err (Refused answer purge)) outcome refusal held
refusal_meets held outcome refusal answer purge nothing refused step = (
  refused,
  sym (ap (λ (o : CallOutcome). o.answer) step),
  ap (λ (p : List MsgId). space_of (purged_of p held)) nothing ∙ sym (ap (λ (o : CallOutcome). o.space) step),
  nothing,
)

pub not_both : {X : Type 0} {o : Option X} {x : X} → o ≡ Some x → o ≡ None → ⊥
not_both some none = cc

-- ---- the enqueue step

module _ (held : IndexedSpace) (lasting : HasNoExpirations held.queues) (ask : EnqueueAsk) where
  refusal_found : (o : Option IndexedQueue) → find (indexed_named ask.call.queue) held.queues ≡ o
      → enqueue_refusal (space_of held) ask ≡ enqueue_refusal_at (space_of held) (space_of held) ask.call (option_map the_queue o)
  refusal_found o found =
      ap (λ (s : Space). enqueue_refusal_at (space_of held) s ask.call (queue_named ask.call.queue s.queues)) (purged_same ask.clock held lasting)
      ∙ ap (enqueue_refusal_at (space_of held) (space_of held) ask.call) (find-map the_queue (is_named ask.call.queue) held.queues ∙ ap (option_map the_queue) found)

  step_by : (r : Option CallAnswer) → enqueue_refusal (space_of held) ask ≡ r
      → enqueue_step (space_of held) ask ≡ unless_refused r (space_of held) (enqueued (space_of held) ask.call ask.next)
  step_by r refused = λ i. let s = purged_same ask.clock held lasting i in unless_refused (refused i) s (enqueued s ask.call ask.next)

  refused_by : (answer : CallAnswer) (purge : List MsgId) → purge ≡ [] → enqueue_refusal (space_of held) ask ≡ Some answer
      → MeetsStep (Err (Refused answer purge)) (enqueue_step (space_of held) ask) (enqueue_refusal (space_of held) ask) held
  refused_by answer purge nothing refused = refusal_meets held _ _ answer purge nothing refused (step_by (Some answer) refused)

  pub no_queue : find (indexed_named ask.call.queue) held.queues ≡ None → (purge : List MsgId) → purge ≡ []
      → MeetsStep (Err (Refused BadQueue purge)) (enqueue_step (space_of held) ask) (enqueue_refusal (space_of held) ask) held
  no_queue found purge nothing = refused_by BadQueue purge nothing (refusal_found None found)

  module _ (q : IndexedQueue) (found : find (indexed_named ask.call.queue) held.queues ≡ Some q) (lack : Option Lack)
      (first : first_lacking (message_rooms (space_of held) (space_of held) (pages_at (quality ask.call.qos q.queue.qos) (length ask.call.body))) ≡ lack) where
    refused_room : enqueue_refusal (space_of held) ask ≡ option_map NoSpace lack
    refused_room = refusal_found (Some q) found ∙ ap (option_map NoSpace) first

    pub no_room : (x : Lack) → lack ≡ Some x → (purge : List MsgId) → purge ≡ []
        → MeetsStep (Err (Refused (NoSpace x) purge)) (enqueue_step (space_of held) ask) (enqueue_refusal (space_of held) ask) held
    no_room x is purge nothing = refused_by (NoSpace x) purge nothing (refused_room ∙ ap (option_map NoSpace) is)

  pub enqueue_planned : (plan : Plan) (insert : IsInsertOf ask held plan) (lack : Option Lack)
      → first_lacking (message_rooms (space_of held) (space_of held) (pages_at (quality ask.call.qos insert.queue.queue.qos) (length ask.call.body))) ≡ lack
      → lack ≡ None → HasDistinctIndices held.queues → IsPlainEnqueue ask
      → plan.answer ≡ Some (Enqueued (if ask.call.want_id then Some (next_id (space_of held) ask.next) else None))
      → MeetsStep (Ok plan) (enqueue_step (space_of held) ask) (enqueue_refusal (space_of held) ask) held
  enqueue_planned plan insert lack first fits distinct plain is_answer =
      let call = ask.call in
      let q = insert.queue in
      let S = space_of held in
      let e = entry_of ask q.index (quality call.qos q.queue.qos) (next_id S ask.next) in
      let item = entry_to_come S q.queue call ask.next in
      let none : enqueue_refusal S ask ≡ None = refused_room q insert.found lack first ∙ ap (option_map NoSpace) fits in
      let step = step_by None none in
      let after = ap (with_message S call ask.next) (find-map the_queue (is_named call.queue) held.queues ∙ ap (option_map the_queue) insert.found) in
      let inserted = change_named call.queue (with_entry item) q held.queues distinct insert.found in
      let bounds = no_lack (record { resource = _; need = 1; held = messages_held S; limit = held.limits.messages })
      (record { resource = _; need = pages_at (quality call.qos q.queue.qos) (length call.body); held = pages_held S; limit = held.limits.pages }) (first ∙ fits) in
      let can : CanInsert e held = record {
        plain = record { mark = refl; expiration = plain.expiration };
        there = found_any call.queue q held.queues insert.found;
        messages = omega (arith, bounds.0);
        pages = omega (arith, bounds.1);
      } in (
        record {
          answer = is_answer ∙ ap (λ (o : CallOutcome). Some o.answer) (sym step);
          space =
              (λ i. space_of (moved_by (insert.moves i) (purged_of (insert.purge i) held)))
              ∙ (λ i. record S { queues = inserted i })
              ∙ sym after ∙ ap (λ (o : CallOutcome). o.space) (sym step);
          can = subst (λ (moves : List SpaceMove). CanMoveBy moves (purged_of plan.purge held)) (sym insert.moves)
              (subst (λ (purge : List MsgId). CanMoveBy (Insert e ∷ []) (purged_of purge held)) (sym insert.purge) (can, tt));
        },
        none,
      )

-- ---- the dequeue step

without_seen : (id : MsgId) (qs : List IndexedQueue) → map the_queue (entry_removed id qs) ≡ without id (map the_queue qs)
without_seen id [] = refl
without_seen id (q ∷ qs) =
    elim (holds_id id q.queue) as (λ b. map the_queue (cond b (on_queue (without_entry id) q ∷ qs) (q ∷ entry_removed id qs))
    ≡ cond b (without_entry id q.queue ∷ map the_queue qs) (q.queue ∷ without id (map the_queue qs))) [
      | true ↦ refl
      | false ↦ ap (λ (l : List Queue). q.queue ∷ l) (without_seen id qs)
    ]

found_same : (call : DequeueCall) (clock : ℕ) (o : Option IndexedQueue) → found_in call clock (option_map the_queue o) ≡ answer_in call clock o
found_same call clock None = refl
found_same call clock (Some q) = refl

module _ (held : IndexedSpace) (lasting : HasNoExpirations held.queues) (ask : DequeueAsk) (o : Option IndexedQueue)
    (found : find (indexed_named ask.call.queue) held.queues ≡ o) (r : Option Entry) (answering : answer_in ask.call ask.clock (find (indexed_named ask.call.queue) held.queues) ≡ r) where
  named : queue_named ask.call.queue (space_of held).queues ≡ option_map the_queue o
  named = find-map the_queue (is_named ask.call.queue) held.queues ∙ ap (option_map the_queue) found

  in_queue : found_in ask.call ask.clock (queue_named ask.call.queue (space_of held).queues) ≡ r
  in_queue = ap (found_in ask.call ask.clock) named ∙ found_same ask.call ask.clock o ∙ ap (answer_in ask.call ask.clock) (sym found) ∙ answering

  step_is : dequeue_step (space_of held) ask ≡ record { space = taken_from (space_of held) ask.call r; answer = dequeue_answer ask.call (option_map the_queue o) r }
  step_is =
      (λ i.
      let s = purged_same ask.clock held lasting i in
      let queue = queue_named ask.call.queue s.queues in
      record { space = taken_from s ask.call (found_in ask.call ask.clock queue); answer = dequeue_answer ask.call queue (found_in ask.call ask.clock queue) })
      ∙ λ i. record { space = taken_from (space_of held) ask.call (in_queue i); answer = dequeue_answer ask.call (named i) (in_queue i) }

  refusal_is : dequeue_refusal (space_of held) ask ≡ refusal_at (option_map the_queue o) r
  refusal_is =
      (λ i.
      let s = purged_same ask.clock held lasting i in
      let queue = queue_named ask.call.queue s.queues in
      refusal_at queue (found_in ask.call ask.clock queue))
      ∙ λ i. refusal_at (named i) (in_queue i)

pub nothing_named : (held : IndexedSpace) (lasting : HasNoExpirations held.queues) (ask : DequeueAsk) → find (indexed_named ask.call.queue) held.queues ≡ None → (purge : List MsgId) → purge ≡ []
    → MeetsStep (Err (Refused BadQueue purge)) (dequeue_step (space_of held) ask) (dequeue_refusal (space_of held) ask) held
nothing_named held lasting ask found purge nothing =
    let none : answer_in ask.call ask.clock (find (indexed_named ask.call.queue) held.queues) ≡ None = ap (answer_in ask.call ask.clock) found in
    refusal_meets held _ _ BadQueue purge nothing (refusal_is held lasting ask None found None none) (step_is held lasting ask None found None none)

pub nothing_answers : (held : IndexedSpace) (lasting : HasNoExpirations held.queues) (ask : DequeueAsk) (q : IndexedQueue) → find (indexed_named ask.call.queue) held.queues ≡ Some q
    → answer_in ask.call ask.clock (find (indexed_named ask.call.queue) held.queues) ≡ None → (purge : List MsgId) → purge ≡ []
    → MeetsStep (Err (Refused NoMessage purge)) (dequeue_step (space_of held) ask) (dequeue_refusal (space_of held) ask) held
nothing_answers held lasting ask q found none purge nothing =
    refusal_meets held _ _ NoMessage purge nothing (refusal_is held lasting ask (Some q) found None none) (step_is held lasting ask (Some q) found None none)

pub dequeue_planned : (held : IndexedSpace) (lasting : HasNoExpirations held.queues) (ask : DequeueAsk) (q : IndexedQueue) → find (indexed_named ask.call.queue) held.queues ≡ Some q
    → (item : Entry) → answer_in ask.call ask.clock (find (indexed_named ask.call.queue) held.queues) ≡ Some item → (plan : Plan)
    → plan.purge ≡ [] → plan.moves ≡ option_to_list (if ask.call.peek then None else Some (Remove item.message.id)) → plan.answer ≡ Some (delivered ask.call item)
    → MeetsStep (Ok plan) (dequeue_step (space_of held) ask) (dequeue_refusal (space_of held) ask) held
dequeue_planned held lasting ask q found item answering plan no_purge is_moves is_answer =
    let S = space_of held in
    let step = step_is held lasting ask (Some q) found (Some item) answering in
    let moves_at = λ (b : Bool). option_to_list (if b then None else Some (Remove item.message.id)) in
    let after : space_of (moved_by (moves_at ask.call.peek) held) ≡ taken_from S ask.call (Some item) =
    elim ask.call.peek as (λ b. space_of (moved_by (moves_at b) held) ≡ (if b then S else space_without item.message.id S)) [
      | true ↦ refl
      | false ↦ λ i. record S { queues = without_seen item.message.id held.queues i }
    ] in
    let can : CanMoveBy (moves_at ask.call.peek) held =
    elim ask.call.peek as (λ b. CanMoveBy (moves_at b) held) [ true ↦ tt | false ↦ (tt, tt) ] in (
      record {
        answer = is_answer ∙ ap (λ (o : CallOutcome). Some o.answer) (sym step);
        space = (λ i. space_of (moved_by (is_moves i) (purged_of (no_purge i) held))) ∙ after ∙ ap (λ (o : CallOutcome). o.space) (sym step);
        can = subst (λ (moves : List SpaceMove). CanMoveBy moves (purged_of plan.purge held)) (sym is_moves)
            (subst (λ (purge : List MsgId). CanMoveBy (moves_at ask.call.peek) (purged_of purge held)) (sym no_purge) can);
      },
      refusal_is held lasting ask (Some q) found (Some item) answering,
    )
