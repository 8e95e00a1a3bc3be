-- Lines that leave alone what lasts, and answers that are given in one call.
use Rattle.std.specs.Prelude.{◌≡◌, ◌≢◌, ◌<◌, ◌≤◌, ℕ, ◌-◌, List, [], ◌∷◌, ◌++◌, length, get_or, map}
use Rattle.tq_host.specs.View.{Stamp}
use Rattle.tq_host.specs.Calls.{next_count}
use Rattle.tq_model.specs.declared.request.Request.{Request}
use Rattle.tq_model.specs.declared.request.Request.TheVariants.{Boot}
use Rattle.tq_model.specs.Site.{Site, durable}
use Rattle.tq_model.specs.Step.{step}
use Rattle.tq_model.specs.MachineWithFaults.{Condition, Up, Down, Failures}
use Rattle.tq_run.specs.Turns.{Origin, told_after}

-- No boot is asked for, and what a crash leaves of the site is the same before and after the step: a comment, a bad line, a
-- listing, a refusal that drops nothing. Without a site, all but a boot is so.
abbrev pub IsIdle : Condition → Request → Type 0
IsIdle (Up s) request = (request ≢ Boot) × (durable (step s request).site ≡ durable s)
IsIdle (Down sites) request = request ≢ Boot

-- the clock that was told with this byte of the output
abbrev pub clock_at : List Stamp → ℕ → ℕ
clock_at added at = get_or (map (λ (s : Stamp). s.clock) added) at 0

-- An idle line makes no call of the host but the one that gives its answer: from the last byte of the answer before to the
-- first of its own, the clock went on by the one call that gave that answer. The script is read before line 1, so from line 2 on.
abbrev pub AreIdleLines : Origin → ℕ → List Stamp → Failures → Site → List Request → Type 0
AreIdleLines o now added failed found requests =
    (front rest : List Request) (request : Request) → requests ≡ front ++ request ∷ rest → 2 ≤ length front
    → IsIdle (told_after o now added failed found front).condition request
    → clock_at added (length (told_after o now added failed found front).text) ≡ next_count (clock_at added (length (told_after o now added failed found front).text - 1))

-- Each answer is given in one call: all of its bytes are told with the clock of the first.
abbrev pub AreWhole : Origin → ℕ → List Stamp → Failures → Site → List Request → Type 0
AreWhole o now added failed found requests =
    (front rest : List Request) (request : Request) (at : ℕ) → requests ≡ front ++ request ∷ rest
    → length (told_after o now added failed found front).text ≤ at → at < length (told_after o now added failed found (front ++ request ∷ [])).text
    → clock_at added at ≡ clock_at added (length (told_after o now added failed found front).text)
