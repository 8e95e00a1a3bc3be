-- A space that is refused nothing has a new name, and its device is there.
use Rattle.std.proofs.Common.{◌≡◌, ◌<◌, ltb-true, Bool, true, false, cond, refl, Option, Some, None}
use Rattle.std.specs.Prelude.{is_some, nat_lt, length}
use Rattle.tq_model.specs.declared.answer.Answer.TheVariants as answers
use Rattle.tq_model.specs.declared.answer.DeviceAnswer.TheVariants.{NoDevice}
use Rattle.tq_model.specs.declared.request.SpaceCreation.{SpaceCreation}
use Rattle.tq_model.specs.Site.{Site, Volume, space_named, volume_of}
use Rattle.tq_model.specs.Step.{space_refusal, on_volume_refusal}

not-taken : {X : Type 0} (b : Bool) (x : X) (o : Option X) → cond b (Some x) o ≡ None → b ≡ false
not-taken true x o h = cc
not-taken false x o h = refl

none-there : {X : Type 0} (o : Option X) → is_some o ≡ false → o ≡ None
none-there None h = refl
none-there (Some x) h = cc

new-on : (c : SpaceCreation) (s : Site) (o : Option Volume) → on_volume_refusal c s o ≡ None → space_named c.name s ≡ None
new-on c s None h = cc
new-on c s (Some v) h = none-there (space_named c.name s) (not-taken (is_some (space_named c.name s)) _ _ h)

pub new-name : (c : SpaceCreation) (s : Site) → space_refusal c s ≡ None → space_named c.name s ≡ None
new-name c s =
    elim (nat_lt c.dev (length s.devices)) as (λ b. cond b (on_volume_refusal c s (volume_of s c.dev)) (Some (answers.Device NoDevice)) ≡ None → space_named c.name s ≡ None) [
      | true ↦ λ h. new-on c s (volume_of s c.dev) h
      | false ↦ λ h. cc
    ]

-- its device is one of those that there are
pub device-there : (c : SpaceCreation) (s : Site) → space_refusal c s ≡ None → c.dev < length s.devices
device-there c s =
    elim (nat_lt c.dev (length s.devices)) as (λ b. nat_lt c.dev (length s.devices) ≡ b → cond b (on_volume_refusal c s (volume_of s c.dev)) (Some (answers.Device NoDevice)) ≡ None → c.dev < length s.devices) [
      | true ↦ λ is h. ltb-true c.dev (length s.devices) is
      | false ↦ λ is h. cc
    ] refl
