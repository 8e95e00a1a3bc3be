-- What comes of a call on a space, and on the site.
use Rattle.std.proofs.Common.{◌≡◌, ℕ, ◌+◌, ◌<◌, ◌≤◌, ⊎_elim, length, Bool, true, false, cond, List, set, get_or, refl, sym, ap, subst, ◌∙◌, Option, Some, None, option_map, ltb-false}
use Rattle.std.specs.Prelude.{MatchOption, IsSome, nat_lt}
use Rattle.std.proofs.lemmas.Bool.{cases_lt}
use Rattle.std.proofs.lemmas.List.{get_or_past}
use Rattle.tq_model.specs.declared.answer.Answer.{Answer}
use Rattle.tq_model.specs.declared.answer.Answer.TheVariants as answers
use Rattle.tq_model.specs.declared.calls.CallAnswer.{CallAnswer}
use Rattle.tq_model.specs.declared.calls.EnqueueAsk.{EnqueueAsk}
use Rattle.tq_model.specs.declared.calls.DequeueAsk.{DequeueAsk}
use Rattle.tq_model.specs.Space.{Space, Queue, Entry, purged, queue_named}
use Rattle.tq_model.specs.SpaceForm.{log_bytes}
use Rattle.tq_model.specs.EnqueueStep.{enqueue_step, enqueue_refusal, enqueued, unless_refused}
use Rattle.tq_model.specs.DequeueStep.{dequeue_step, dequeue_refusal, refusal_at, found_in, taken_from}
use Rattle.tq_model.specs.Site.{Site, Volume, SpaceOnDevice, has_name, site_spaces, space_named, with_space}
use Rattle.tq_model.specs.Step.{SpaceOutcome, through_log, unless_refused_by, unless_full, with_outcome, queue_refusal, space_unless, with_queue, log_refusal, on_space, on_space_found, after_call as after_step}
use Rattle.tq_machine.specs.declared.space_call.SpaceCall.{SpaceCall}
use Rattle.tq_machine.specs.declared.space_call.Reply.{Reply}
use Rattle.tq_machine.specs.SpaceCalls.{IsReply, space_name, outcome_of, logged_outcome, after_call}
use Rattle.tq_machine.specs.Tables.{AreSound, entry_of, entry_changed}
use Rattle.tq_machine.proofs.Sites.{devices-changed, changed-alike, find-passes, sound-changed}

-- The log

module _ (pages logged : ℕ) (s : Space) (c : SpaceOutcome) where
  pub log-refused : (r : Answer) → c.refusal ≡ Some r → through_log pages logged s c ≡ record { answer = r; space = c.space; logged = logged; numbers = 0 }
  log-refused r is = ap (unless_refused_by pages logged s c) is

  pub log-full : (full : Answer) → c.refusal ≡ None → log_refusal pages logged c.size ≡ Some full → through_log pages logged s c ≡ record { answer = full; space = s; logged = logged; numbers = 0 }
  log-full full none is = ap (unless_refused_by pages logged s c) none ∙ ap (unless_full logged s c) is

  pub log-granted : c.refusal ≡ None → log_refusal pages logged c.size ≡ None
      → through_log pages logged s c ≡ record { answer = c.answer; space = c.space; logged = logged + (5 + c.size); numbers = c.numbers }
  log-granted none is = ap (unless_refused_by pages logged s c) none ∙ ap (unless_full logged s c) is

not-chosen : {X : Type 0} (b : Bool) (x : X) → cond b (Some x) None ≡ None → b ≡ false
not-chosen true x h = cc
not-chosen false x h = refl

-- a payload fits that the log does not refuse
pub log-room : (pages logged size : ℕ) → log_refusal pages logged size ≡ None → logged + (size + 6) ≤ log_bytes pages
log-room pages logged size none = ltb-false (log_bytes pages) (logged + (size + 6)) (not-chosen (nat_lt (log_bytes pages) (logged + (size + 6))) _ none)

-- A space after a refusal

some-answer : (o : Option CallAnswer) → IsSome (option_map answers.Call o) → (r : CallAnswer) × (o ≡ Some r)
some-answer None h = cc
some-answer (Some r) h = (r, refl)

pub enqueue-refused : (s : Space) (ask : EnqueueAsk) → IsSome (option_map answers.Call (enqueue_refusal s ask)) → (enqueue_step s ask).space ≡ purged ask.clock s
enqueue-refused s ask some =
    let before : Space = purged ask.clock s in
    ap (λ (o : Option CallAnswer). (unless_refused o before (enqueued before ask.call ask.next)).space) (some-answer (enqueue_refusal s ask) some).1

pub dequeue-refused : (s : Space) (ask : DequeueAsk) → IsSome (option_map answers.Call (dequeue_refusal s ask)) → (dequeue_step s ask).space ≡ purged ask.clock s
dequeue-refused s ask =
    let before : Space = purged ask.clock s in
    left (queue_named ask.call.queue before.queues) (found_in ask.call ask.clock (queue_named ask.call.queue before.queues)) refl
  where
    left : (queue : Option Queue) (found : Option Entry) → found ≡ found_in ask.call ask.clock queue → IsSome (option_map answers.Call (refusal_at queue found))
        → taken_from (purged ask.clock s) ask.call found ≡ purged ask.clock s
    left None found is some = ap (taken_from (purged ask.clock s) ask.call) is
    left (Some queue) None is some = refl
    left (Some queue) (Some entry) is some = cc

pub queue-granted : (name : List ℕ) (s : Space) → queue_refusal name s ≡ None → space_unless (queue_refusal name s) s (with_queue name s) ≡ with_queue name s
queue-granted name s none = ap (λ (o : Option Answer). space_unless o s (with_queue name s)) none

-- The site

pub some-of : {X : Type 0} (o : Option X) → IsSome o → (x : X) × (o ≡ Some x)
some-of None h = cc
some-of (Some x) h = (x, refl)

-- a place with something in it is one of the list
pub some-within : {X : Type 0} (xs : List (Option X)) (at : ℕ) → IsSome (get_or xs at None) → at < length xs
some-within xs at some =
    ⊎_elim (λ within. within) (λ past. let clash = subst IsSome (get_or_past xs at None past) some in cc) (cases_lt at (length xs))

-- the place of a space is one of a device
pub device-within : (ds : List (Option Volume)) (dev entry : ℕ) → IsSome (entry_of (get_or ds dev None) entry) → dev < length ds
device-within ds dev entry some =
    ⊎_elim
    (λ within. within)
    (λ past. let clash = subst (λ (d : Option Volume). IsSome (entry_of d entry)) (get_or_past ds dev None past) some in cc)
    (cases_lt dev (length ds))

pub called-devices : (call : SpaceCall) (s : Site) (dev entry : ℕ) (p : SpaceOnDevice) → AreSound s.devices → space_named (space_name call) s ≡ Some p
    → space_named (space_name call) s ≡ entry_of (get_or s.devices dev None) entry
    → set s.devices dev (option_map (entry_changed entry (after_call call)) (get_or s.devices dev None))
    ≡ (with_space (space_name call) (with_outcome (logged_outcome call p)) s).devices
called-devices call s dev entry p sound named there =
    let is = sym there ∙ named in
    let change = with_outcome (logged_outcome call p) in
    ap (set s.devices dev) (changed-alike (after_call call) change s.devices dev entry p is refl)
    ∙ devices-changed (space_name call) change s.devices dev entry p sound is (find-passes (has_name (space_name call)) (site_spaces s) p named)

-- A call on the space of a place: `name` is the space's, `dev` and `entry` the place, `ds` the devices of the site.
module _ (call : SpaceCall) (s t : Site) (name : List ℕ) (dev entry : ℕ) (is_site : s ≡ t) (is_name : name ≡ space_name call)
    (there : space_named name t ≡ entry_of (get_or t.devices dev None) entry) (some : IsSome (space_named name t)) (sound : AreSound s.devices)
    (ds : List (Option Volume)) (are : ds ≡ s.devices) (after : List (Option Volume))
    (changed : after ≡ set ds dev (option_map (entry_changed entry (after_call call)) (get_or ds dev None))) where
  place_there : space_named (space_name call) s ≡ entry_of (get_or s.devices dev None) entry
  place_there =
      (λ i. space_named (sym is_name i) (is_site i)) ∙ there ∙ ap (λ (u : Site). entry_of (get_or u.devices dev None) entry) (sym is_site)

  found : (p : SpaceOnDevice) × (space_named (space_name call) s ≡ Some p)
  found =
      let known = some-of (space_named name t) some in
      (known.0, (λ i. space_named (sym is_name i) (is_site i)) ∙ known.1)

  devices-called : after ≡ (with_space (space_name call) (with_outcome (logged_outcome call found.0)) s).devices
  devices-called =
      changed ∙ ap (λ (l : List (Option Volume)). set l dev (option_map (entry_changed entry (after_call call)) (get_or l dev None))) are
      ∙ called-devices call s dev entry found.0 sound found.1 place_there

  pub sound-called : AreSound after
  sound-called =
      subst AreSound (sym devices-called) (sound-changed (space_name call) (with_outcome (logged_outcome call found.0)) (λ p. refl) s.devices sound)

  pub site-called : (reply : Reply) → MatchOption (entry_of (get_or ds dev None) entry) ⊥ (λ p. IsReply (logged_outcome call p) reply)
      → record s { next = s.next + reply.numbers; devices = after } ≡ (on_space (space_name call) (outcome_of call) t).site
  site-called reply replied =
      let name = space_name call in
      let is : entry_of (get_or ds dev None) entry ≡ Some found.0 = ap (λ (l : List (Option Volume)). entry_of (get_or l dev None) entry) are ∙ sym place_there ∙ found.1 in
      let reply_is : IsReply (logged_outcome call found.0) reply =
      subst (λ (o : Option SpaceOnDevice). MatchOption o ⊥ (λ p. IsReply (logged_outcome call p) reply)) is replied in
      let same : record s { next = s.next + reply.numbers; devices = after } ≡ (after_step name (logged_outcome call found.0) s).site =
      λ i. record s { next = s.next + reply_is.numbers i; devices = devices-called i } in
      same
      ∙ ap (λ (o : Option SpaceOnDevice). (on_space_found name (outcome_of call) s o).site) (sym found.1)
      ∙ ap (λ (u : Site). (on_space name (outcome_of call) u).site) is_site
