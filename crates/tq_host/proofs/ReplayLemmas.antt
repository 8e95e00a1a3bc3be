-- One more call in the record: what it leads to.
use Rattle.std.proofs.Common.{◌≡◌, ◌≢◌, ◌⊎◌, inl, inr, ⊎_elim, ◌<◌, ◌≤◌, ℕ, zero, suc, List, [], ◌∷◌, ◌++◌, length, get_or, set, Vec, Result, Ok, Err, OnOk, OnErr, refl, sym, ◌∙◌, ap, subst, arith}
use Rattle.std.proofs.lemmas.List.{append-nil, get_or-set_same, get_or-set_other}
use Rattle.std.proofs.lemmas.Bool.{cases_eq}
use Rattle.std.proofs.lemmas.Bool.Decides.{nat_tests}
use Rattle.std.specs.declared.alloc.Global.{Global}
use Rattle.tq_host.specs.declared.call.Call.{Call}
use Rattle.tq_host.specs.View.{Picture}
use Rattle.tq_host.specs.Disk.{Disk, IsImage}
use Rattle.tq_host.specs.Events.{Event, load, write, lost_write, resize, lost_resize, sync, attach, take_some, give_all, pass, event_of, events_of, State, blank, put, step, replay, IsShot, IsDuring, LeftSince, IsFine, Shows, LeadsTo, LeavesAll}

pub put_own : {A : Type 0} (dev : ℕ) (one : A) (all : ℕ → A) → put dev one all dev ≡ one
put_own dev one all = grind (arith, nat_tests)

pub put_other : {A : Type 0} (dev : ℕ) (one : A) (all : ℕ → A) (d : ℕ) → d ≢ dev → put dev one all d ≡ all d
put_other dev one all d ne = grind (arith, nat_tests)

pub replay_push : (events : List Event) (s : State) (event : Event) → replay s (events ++ event ∷ []) ≡ step event (replay s events)
replay_push [] s event = refl
replay_push (first ∷ events) s event = replay_push events (step first s) event

pub events_push : (calls : List Call) (call : Call) → events_of (calls ++ call ∷ []) ≡ events_of calls ++ event_of call ∷ []
events_push [] call = refl
events_push (first ∷ calls) call = ap (λ (l : List Event). event_of first ∷ l) (events_push calls call)

-- the events after one more call
pub events_after : (calls later : List Call) (call : Call) → later ≡ calls ++ call ∷ [] → events_of later ≡ events_of calls ++ event_of call ∷ []
events_after calls later call is = ap events_of is ∙ events_push calls call

-- the state after one more event
pub after : (events later : List Event) (event : Event) → later ≡ events ++ event ∷ [] → replay blank later ≡ step event (replay blank events)
after events later event is = ap (replay blank) is ∙ replay_push events blank event

-- and after one more call
pub after_call : (calls later : List Call) (call : Call) → later ≡ calls ++ call ∷ [] → replay blank (events_of later) ≡ step (event_of call) (replay blank (events_of calls))
after_call calls later call is = after (events_of calls) (events_of later) (event_of call) (events_after calls later call is)

-- Pictures

one_more : (events : List Event) (s : State) (event : Event) (t : ℕ) (p : Picture) → t ≤ length events → LeftSince s t (events ++ event ∷ []) p
    → LeftSince s t events p ⊎ (IsDuring event (replay s events) p ⊎ IsShot (step event (replay s events)) p)
one_more [] s event zero p le left = inr left
one_more [] s event (suc t) p le left = absurd (omega arith)
one_more (first ∷ events) s event zero p le (inl here) = inl (inl here)
one_more (first ∷ events) s event zero p le (inr there) = ⊎_elim (λ old. inl (inr old)) (λ new. inr new) (one_more events (step first s) event zero p (omega arith) there)
one_more (first ∷ events) s event (suc t) p le left = one_more events (step first s) event t p (omega arith) left

-- a picture since then was one before this event, or is of its time, or of the moment after it
pub since : (events later : List Event) (event : Event) → later ≡ events ++ event ∷ [] → (t : ℕ) (p : Picture) → t ≤ length events → LeftSince blank t later p
    → LeftSince blank t events p ⊎ (IsDuring event (replay blank events) p ⊎ IsShot (replay blank later) p)
since events later event is t p le left =
    elim (one_more events blank event t p le (subst (λ (l : List Event). LeftSince blank t l p) is left)) [
      | inl old ↦ inl old
      | inr new ↦ inr (⊎_elim (λ within. inl within) (λ now. inr (subst (λ (s : State). IsShot s p) (sym (after events later event is)) now)) new)
    ]

-- a picture of the moment before is one within each event
within_more : (event : Event) (s : State) (p : Picture) → IsShot s p → IsDuring event s p
within_more (load dev image) s p shot = shot
within_more (write dev at bytes) s p shot = shot
within_more (lost_write dev at bytes) s p shot = shot
within_more (resize dev n) s p shot = shot
within_more (lost_resize dev n) s p shot = shot
within_more (sync dev) s p shot = shot
within_more (take_some n) s p shot = shot
within_more (attach dev path) s p shot = shot
within_more (give_all bytes clock faults) s p shot = record { images = shot.images; count = 0; output = shot.output ∙ sym (append-nil s.output) }
within_more (pass kind) s p shot = shot

keeps_more : (events : List Event) (s : State) (event : Event) (t : ℕ) (p : Picture) → LeftSince s t events p → LeftSince s t (events ++ event ∷ []) p
keeps_more [] s event zero p shot = inl (within_more event s p shot)
keeps_more [] s event (suc t) p none = absurd none
keeps_more (first ∷ events) s event zero p (inl here) = inl here
keeps_more (first ∷ events) s event zero p (inr there) = inr (keeps_more events (step first s) event zero p there)
keeps_more (first ∷ events) s event (suc t) p left = keeps_more events (step first s) event t p left

-- no picture is forgotten
pub keeps_later : (events later : List Event) (event : Event) → later ≡ events ++ event ∷ [] → (t : ℕ) (p : Picture) → LeftSince blank t events p → LeftSince blank t later p
keeps_later events later event is t p left = subst (λ (l : List Event). LeftSince blank t l p) (sym is) (keeps_more events blank event t p left)

-- One device

module _ (s : State) (event : Event) (dev : ℕ) (disk : Disk) (puts : (step event s).disks ≡ put dev disk s.disks) where
  own_after : (step event s).disks dev ≡ disk
  own_after = ap (λ (f : ℕ → Disk). f dev) puts ∙ put_own dev disk s.disks

  other_after : (d : ℕ) → d ≢ dev → (step event s).disks d ≡ s.disks d
  other_after d ne = ap (λ (f : ℕ → Disk). f d) puts ∙ put_other dev disk s.disks d ne

  fine_after : IsFine s → IsImage disk.pending disk.seen → IsFine (step event s)
  fine_after fine good d = elim (cases_eq d dev) [
    | inl same ↦
        let Fine : ℕ → Type 0 = λ k. IsImage ((step event s).disks k).pending ((step event s).disks k).seen in
        subst Fine (sym same) (subst (λ (k : Disk). IsImage k.pending k.seen) (sym own_after) good)
    | inr ne ↦ subst (λ (k : Disk). IsImage k.pending k.seen) (sym (other_after d ne)) (fine d)
  ]

  -- an event that puts a disk which reads these bytes
  pub leads : (step event s).output ≡ s.output → (step event s).taken ≡ s.taken → IsFine s → IsImage disk.pending disk.seen → (bytes : List ℕ) → disk.seen ≡ bytes → LeadsTo dev bytes s (step event s)
  leads output taken fine good bytes is = record {
    own = ap (λ (k : Disk). k.seen) own_after ∙ is;
    others = λ d ne. ap (λ (k : Disk). k.seen) (other_after d ne);
    output = output;
    taken = taken;
    fine = fine_after fine good;
  }

  -- and one that puts a disk which reads what it did
  pub leaves : (step event s).output ≡ s.output → (step event s).taken ≡ s.taken → IsFine s → IsImage disk.pending disk.seen → disk.seen ≡ (s.disks dev).seen → LeavesAll s (step event s)
  leaves output taken fine good is = record {
    seen = λ d. elim (cases_eq d dev) [
      | inl same ↦
          let Same : ℕ → Type 0 = λ k. ((step event s).disks k).seen ≡ (s.disks k).seen in
          subst Same (sym same) (ap (λ (k : Disk). k.seen) own_after ∙ is)
      | inr ne ↦ ap (λ (k : Disk). k.seen) (other_after d ne)
    ];
    output = output;
    taken = taken;
    fine = fine_after fine good;
  }

-- the vectors after one of them is replaced
pub shows_next : (devices : List (Vec ℕ Global)) (dev : ℕ) (next : Vec ℕ Global) (s later : State) → length devices ≡ 8 → dev < 8 → Shows devices s → (later.disks dev).seen ≡ next.items
    → ((d : ℕ) → d ≢ dev → (later.disks d).seen ≡ (s.disks d).seen) → Shows (set devices dev next) later
shows_next devices dev next s later eight lt shows own others d other below = elim (cases_eq d dev) [
  | inl same ↦
      let Here : ℕ → Type 0 = λ k. (get_or (set devices dev next) k other).items ≡ (later.disks k).seen in
      subst Here (sym same) (ap (λ (v : Vec ℕ Global). v.items) (get_or-set_same devices dev next other (omega (arith, eight))) ∙ sym own)
  | inr ne ↦ ap (λ (v : Vec ℕ Global). v.items) (get_or-set_other devices dev d next other ne) ∙ shows d other below ∙ sym (others d ne)
]

pub either : {T E : Type 0} (r : Result T E) (A B G : Type 0) → OnOk r A → OnErr r B → (A → G) → (B → G) → G
either (Ok x) A B G a b f g = f a
either (Err x) A B G a b f g = g b
