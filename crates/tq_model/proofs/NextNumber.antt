-- A step takes one number at most.
use Rattle.std.proofs.Common.{ℕ, List, ◌+◌, ◌≤◌, ◌==◌, true, false, arith, Option, Some, None, Result, Ok, Err}
use Rattle.std.specs.Prelude.{if◌then◌else◌, set, option_map}
use Rattle.tq_model.specs.declared.answer.Answer.{Answer}
use Rattle.tq_model.specs.declared.answer.Answer.TheVariants as answers
use Rattle.tq_model.specs.declared.request.Request.{Request}
use Rattle.tq_model.specs.declared.request.Request.TheVariants.{Nothing, Boot, Bad, TooLong, Device, Space, Call}
use Rattle.tq_model.specs.declared.request.DeviceRequest.TheVariants as devices
use Rattle.tq_model.specs.declared.request.SpaceRequest.TheVariants as spaces
use Rattle.tq_model.specs.declared.request.CallRequest.TheVariants as calls
use Rattle.tq_model.specs.declared.request.Creation.{Creation}
use Rattle.tq_model.specs.declared.request.SpaceCreation.{SpaceCreation}
use Rattle.tq_model.specs.declared.request.SpaceRemoval.{SpaceRemoval}
use Rattle.tq_model.specs.declared.calls.CallRefusal.{CallRefusal}
use Rattle.tq_model.specs.CallChecks.{enqueue_checked, dequeue_checked}
use Rattle.tq_model.specs.Space.{Space as QueueSpace}
use Rattle.tq_model.specs.Site.{Site, Volume, SpaceOnDevice, durable, space_named, volume_of}
use Rattle.tq_model.specs.Step.{Outcome, SpaceOutcome, boot, can_boot, booted, ready, creation_refusal, new_volume, site_asked, with_new_device, unless, log_refusal, unless_full, unless_refused_by, on_space, on_space_found, queue_outcome, enqueue_outcome, dequeue_outcome, enqueue_ask, dequeue_ask, if_checked, space_made, space_refusal, erasure_refusal, with_blank_device, remove_found, removal_refusal, step}

-- the number after an outcome is at most the next
abbrev takes_one : Site → Outcome → Type 0
takes_one s o = o.site.next ≤ s.next + 1

boot-next : (s : Site) → takes_one s (boot s)
boot-next s = elim (can_boot s) as (λ b. takes_one s (if b then record { site = booted s; answer = ready (booted s) } else record { site = durable s; answer = answers.Damaged 0 })) [ true ↦ omega arith | false ↦ omega arith ]

abbrev made : Creation → Site → Site
made c s = record s { devices = set s.devices c.dev (Some (new_volume c.clusters)) }

new_device-next : (c : Creation) (s : Site) → (with_new_device c s).next ≤ s.next + 1
new_device-next c s =
    elim (c.dev == 0) as (λ b. (if b then record (made c s) { identity = Some (record { site = site_asked c; epoch = 1 }); next = 0 } else made c s).next ≤ s.next + 1) [ true ↦ omega arith | false ↦ omega arith ]

unless-next : (o : Option Answer) (s : Site) (granted : Outcome) → takes_one s granted → takes_one s (unless o s granted)
unless-next None s granted h = h
unless-next (Some refusal) s granted h = omega arith

space-next : (c : SpaceCreation) (s : Site) (v : Option Volume) → takes_one s (space_made c s v)
space-next c s None = omega arith
space-next c s (Some v) = omega arith

blank_device-next : (dev : ℕ) (s : Site) → (with_blank_device dev s).next ≤ s.next + 1
blank_device-next dev s =
    let erased = record s { devices = set s.devices dev None } in
    elim (dev == 0) as (λ b. (if b then record erased { identity = None; next = 0 } else erased).next ≤ s.next + 1) [ true ↦ omega arith | false ↦ omega arith ]

removal-next : (r : SpaceRemoval) (s : Site) (o : Option SpaceOnDevice) → takes_one s (remove_found r s o)
removal-next r s None = omega arith
removal-next r s (Some p) = unless-next (removal_refusal r.force s p) s _ (omega arith)

-- A call on a space takes no more numbers than its space says.
full-numbers : (logged : ℕ) (before : QueueSpace) (c : SpaceOutcome) (full : Option Answer) → (unless_full logged before c full).numbers ≤ c.numbers
full-numbers logged before c None = omega arith
full-numbers logged before c (Some answer) = omega arith

logged-numbers : (pages logged : ℕ) (before : QueueSpace) (c : SpaceOutcome) (refusal : Option Answer) → (unless_refused_by pages logged before c refusal).numbers ≤ c.numbers
logged-numbers pages logged before c None = full-numbers logged before c (log_refusal pages logged c.size)
logged-numbers pages logged before c (Some answer) = omega arith

call-next : (name : List ℕ) (call : QueueSpace → SpaceOutcome) → ((space : QueueSpace) → (call space).numbers ≤ 1)
    → (s : Site) (o : Option SpaceOnDevice) → takes_one s (on_space_found name call s o)
call-next name call one s None = omega arith
call-next name call one s (Some p) =
    let c = call p.space in
    omega (arith, logged-numbers p.pages p.logged p.space c c.refusal, one p.space)

checked-next : {C : Type 0} (r : Result C CallRefusal) (s : Site) (does : C → Outcome) → ((c : C) → takes_one s (does c)) → takes_one s (if_checked r s does)
checked-next (Ok c) s does one = one c
checked-next (Err refusal) s does one = omega arith

pub step-next : (s : Site) (request : Request) → (step s request).site.next ≤ s.next + 1
step-next s Nothing = omega arith
step-next s Boot = boot-next s
step-next s (Bad column) = omega arith
step-next s TooLong = omega arith
step-next s (Device (devices.Create c)) = unless-next (option_map answers.Device (creation_refusal c s)) s _ (new_device-next c s)
step-next s (Device (devices.Erase dev)) = unless-next (option_map answers.Device (erasure_refusal dev s)) s _ (blank_device-next dev s)
step-next s (Device (devices.List dev)) = omega arith
step-next s (Space (spaces.Create c)) = unless-next (space_refusal c s) s _ (space-next c s (volume_of s c.dev))
step-next s (Space (spaces.Remove r)) = removal-next r s (space_named r.space s)
step-next s (Space (spaces.CreateQueue c)) = call-next c.space (queue_outcome c.queue) (λ space. omega arith) s (space_named c.space s)
step-next s (Call (calls.Enqueue session w)) =
    checked-next (enqueue_checked w s.clock) s (λ call. on_space call.space (enqueue_outcome (enqueue_ask session call s)) s)
    (λ call. call-next call.space (enqueue_outcome (enqueue_ask session call s)) (λ space. omega arith) s (space_named call.space s))
step-next s (Call (calls.Dequeue session w)) =
    checked-next (dequeue_checked w) s (λ call. on_space call.space (dequeue_outcome (dequeue_ask session call s)) s)
    (λ call. call-next call.space (dequeue_outcome (dequeue_ask session call s)) (λ space. omega arith) s (space_named call.space s))
