-- Pictures of calls that change the length of a device.
use Rattle.std.proofs.Common.{◌<◌, inl, ℕ, ◌-◌, List, sym, subst, arith, Result, Ok, Err}
use Rattle.std.specs.Prelude.{OnOk}
use Rattle.tq_host.specs.View.{Told, View, IsLawful, IsSettled}
use Rattle.tq_host.specs.Calls.{IsPulled}
use Rattle.tq_host.specs.Within.{Within}
use Rattle.tq_host.proofs.Steps.{IsSteps}
use Rattle.tq_host.proofs.Within.{wider, weaker, in_a_row}
use Rattle.tq_model.specs.DeviceForm.{header_bytes}
use Rattle.tq_model.specs.Reading.{DevicePart}
use Rattle.tq_devtab.specs.Device.{IsBlank, IsBlankOr, IsAny, IsAnyStep}

pub any_steps : IsSteps IsAnyStep
any_steps = record { none = λ c. tt; both = λ a b c first second. tt }

-- where it is so in any case, it is so at Ok
pub at_ok : {T E : Type 0} (r : Result T E) {P : Type 0} → P → OnOk r P
at_ok (Ok x) p = p
at_ok (Err e) p = tt

-- more follows at Ok
pub on_ok : {T E : Type 0} (r : Result T E) {P Q : Type 0} → OnOk r P → (P → Q) → OnOk r Q
on_ok (Ok x) p to = to p
on_ok (Err e) p to = tt

-- what is read where nothing is pending is what each image has
pub settled_has : {tells : Told} (P : List ℕ → Type 0) (dev : ℕ) (v : View) → IsLawful tells v → IsSettled dev v → (tells.reads → P (v.reads dev))
    → (c : List ℕ) → v.may_leave dev c → P c
settled_has P dev v lawful settled has c may = subst P (sym (settled c may)) (has (lawful.reads_told (lawful.stops_told dev c may)))

-- one call, from images with P to images with Q
pub leads : (dev : ℕ) (step : List ℕ → List ℕ → Type 0) (P Q : List ℕ → Type 0) (start now : View) → ((b c : List ℕ) → P b → step b c → Q c)
    → ((c : List ℕ) → start.may_leave dev c → P c) → Within dev step IsAny start now → Within dev IsAnyStep Q start now
leads dev step P Q start now to has call = wider dev step IsAnyStep IsAny Q start now (λ b c may stepped any. (tt, to b c (has b may) stepped)) call

-- one call more
pub leads_on : (dev : ℕ) (step : List ℕ → List ℕ → Type 0) (P Q : List ℕ → Type 0) (start mid now : View) → ((b c : List ℕ) → P b → step b c → Q c)
    → Within dev IsAnyStep Q start mid → ((c : List ℕ) → mid.may_leave dev c → P c) → Within dev step IsAny mid now → Within dev IsAnyStep Q start now
leads_on dev step P Q start mid now to so_far has call = in_a_row dev IsAnyStep any_steps Q start mid now so_far (leads dev step P Q mid now to has call)

-- a device that stays below the length of its header
pub pulled_below : (size : ℕ) (b c : List ℕ) → size < header_bytes → IsBlank b → IsPulled size b c → IsBlank c
pulled_below size b c below blank pulled = omega (arith, blank, below, pulled.no_longer)

-- a device that is blank in each picture
pub blank_pictures : (dev place : ℕ) (d : DevicePart) (start now : View) → Within dev IsAnyStep IsBlank start now
    → Within dev IsAnyStep (IsBlankOr place d) start now
blank_pictures dev place d start now blank = weaker dev IsAnyStep any_steps IsBlank (IsBlankOr place d) start now (λ b c may is. inl is) blank

-- one that is made too short, and then stays blank
pub still_blank : (dev : ℕ) (start mid now : View) → ((c : List ℕ) → start.may_leave dev c → IsBlank c)
    → Within dev (IsPulled (header_bytes - 1)) IsAny start mid
    → (((c : List ℕ) → mid.may_leave dev c → IsBlank c) → Within dev IsAnyStep IsBlank mid now) → Within dev IsAnyStep IsBlank start now
still_blank dev start mid now blank call more =
    let below = λ (b c : List ℕ) (is : IsBlank b) (pulled : IsPulled (header_bytes - 1) b c). pulled_below (header_bytes - 1) b c (omega arith) is pulled in
    let first = leads dev (IsPulled (header_bytes - 1)) IsBlank IsBlank start mid below blank call in
    in_a_row dev IsAnyStep any_steps IsBlank start mid now first (more (λ c may. (first.own c may).now))
