-- A run whose devices may fail: the states of the machine, as a function of what the host tells at the end of the run and of
-- the steps in which a device failed.
use Rattle.std.specs.Prelude.{◌≡◌, ℕ, ◌+◌, ◌-◌, ◌==◌, nat_lt, Bool, true, false, if◌then◌else◌, List, [], ◌∷◌, ◌++◌, length, get_or, take, filter, map, Option, Some, None, Any}
use Rattle.tq_model.specs.declared.answer.Answer.{Answer}
use Rattle.tq_model.specs.declared.answer.Answer.TheVariants.{Done, Syntax, SystemError, TooLong as TooLongLine}
use Rattle.tq_model.specs.declared.request.Request.{Request}
use Rattle.tq_model.specs.declared.request.Request.TheVariants.{Nothing, Boot, Bad, TooLong, Device, Space, Call}
use Rattle.tq_model.specs.Site.{Site, durable}
use Rattle.tq_model.specs.Step.{step, can_boot, booted, boot}
use Rattle.tq_model.specs.Text.{line_text}
use Rattle.tq_model.specs.Reading.{site_found}

-- up with a site, or down with the durable sites of which the devices may stand for any
pub data Condition : Type 0 where
  Up : Site → Condition
  Down : List Site → Condition

-- What a host tells of a run: the device count when it began and when it ended, and with each byte of the run's output the
-- device count and what each device read then.
pub record Trace : Type 0 where
  pub devices : ℕ  -- the number of device words
  pub before : ℕ
  pub counts : List ℕ
  pub reads : List (ℕ → List ℕ)
  pub after : ℕ

-- the count told with the last byte before this one
abbrev pub count_before : Trace → ℕ → ℕ
count_before trace at = if at == 0 then trace.before else get_or trace.counts (at - 1) trace.after

-- the count told with this byte
abbrev pub count_at : Trace → ℕ → ℕ
count_at trace at = get_or trace.counts at trace.after

-- whether the device count rose in the step whose text begins at this byte of the output
abbrev pub rose_at : Trace → ℕ → Bool
rose_at trace at = nat_lt (count_before trace at) (count_at trace at)

-- the site for which the devices stood when the last byte before this one was given
abbrev pub found_at : Trace → ℕ → Option Site
found_at trace at = site_found trace.devices (get_or trace.reads (at - 1) (λ d. []))

pub record Turn : Type 0 where
  pub condition : Condition
  pub answer : Answer

-- A boot: up again, or down where the epoch cannot be raised.
abbrev pub boot_turn : Site → Turn
boot_turn s = let outcome = boot s in record { condition = if can_boot s then Up outcome.site else Down (outcome.site ∷ []); answer = outcome.answer }

-- Up, and no device fails: the machine's own step.
abbrev pub steady_turn : Site → Request → Turn
steady_turn s Boot = boot_turn s
steady_turn s request = let outcome = step s request in record { condition = Up outcome.site; answer = outcome.answer }

-- Up, and a device fails: down, before or after the step.
abbrev pub failing_turn : Site → Request → Turn
failing_turn s request = record { condition = Down (durable s ∷ durable (step s request).site ∷ []); answer = SystemError }

-- Down, and a boot is asked for: it takes what the devices stand for, or fails and may have raised an epoch.
abbrev pub reboot_turn : Bool → Option Site → List Site → Turn
reboot_turn true found sites = record { condition = Down (sites ++ map booted (filter can_boot sites)); answer = SystemError }
reboot_turn false None sites = record { condition = Down sites; answer = SystemError }
reboot_turn false (Some s) sites = boot_turn s

-- Down, and anything else is asked for: only what asks for nothing is answered as ever.
abbrev pub down_answer : Request → Answer
down_answer Nothing = Done
down_answer (Bad column) = Syntax column
down_answer TooLong = TooLongLine
down_answer Boot = SystemError
down_answer (Device request) = SystemError
down_answer (Space request) = SystemError
down_answer (Call request) = SystemError

abbrev pub down_turn : Bool → Option Site → List Site → Request → Turn
down_turn failed found sites Boot = reboot_turn failed found sites
down_turn failed found sites request = record { condition = Down sites; answer = down_answer request }

-- The turn of a request, from whether a device fails in it and the site for which the devices stood before it.
abbrev pub turn_at : Bool → Option Site → Condition → Request → Turn
turn_at failed found (Up s) request = if failed then failing_turn s request else steady_turn s request
turn_at failed found (Down sites) request = down_turn failed found sites request

-- whether a device failed in a step, each step by the byte of the output at which its text begins
abbrev pub Failures : Type 0
Failures = ℕ → Bool

-- the turn of a request whose text begins at this byte of the output
abbrev pub turn : Trace → Failures → ℕ → Condition → Request → Turn
turn trace failed at condition request = turn_at (failed at) (found_at trace at) condition request

-- how far a run is
pub record Progress : Type 0 where
  pub condition : Condition
  pub text : List ℕ  -- the texts of all answers so far
  pub line : ℕ  -- the number of the next line

abbrev pub advance : Trace → Failures → Progress → Request → Progress
advance trace failed p request = let t = turn trace failed (length p.text) p.condition request in record { condition = t.condition; text = p.text ++ line_text p.line t.answer; line = p.line + 1 }

abbrev pub after : Trace → Failures → Progress → List Request → Progress
after trace failed p [] = p
after trace failed p (request ∷ requests) = after trace failed (advance trace failed p request) requests

-- before line 0, which is a boot of the site that is found
abbrev pub beginning : Site → Progress
beginning s = record { condition = Up s; text = []; line = 0 }

-- The machine after the first k steps over these requests, the boot of line 0 being the first.
abbrev pub machine_after : Trace → Failures → Site → List Request → ℕ → Progress
machine_after trace failed s requests k = after trace failed (beginning s) (take k (Boot ∷ requests))

-- Images, one per device, stand for a site.
abbrev pub HaveSite : ℕ → (ℕ → List ℕ) → Site → Type 0
HaveSite devices images s = site_found devices images ≡ Some (durable s)

-- they stand for a state: its site, or one of its sites
abbrev pub HaveCondition : ℕ → (ℕ → List ℕ) → Condition → Type 0
HaveCondition devices images (Up s) = HaveSite devices images s
HaveCondition devices images (Down sites) = Any (HaveSite devices images) sites
