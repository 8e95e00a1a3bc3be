use Rattle.std.proofs.Common.{◌≡◌, ◌∙◌, ◌<◌, Option, None, sym, ap, subst, get_or, length, arith}
use Rattle.std.specs.Prelude.{IsSome}
use Rattle.std.proofs.lemmas.List.{get_or_default}
use Rattle.std.specs.List.{find}
use Rattle.tq_model.specs.Site.{Volume, has_name}
use Rattle.tq_machine.specs.Tables.{device_spaces, entry_of}
use Rattle.tq_machine.proofs.Sites.{sought-further, sought-here}
use Rattle.tq_machine.proofs.machine.place_in.Goals as goal

pub returns-in-Some : goal.returns-in-Some
returns-in-Some c =
    let name = c.args.name.now in
    let ds = c.args.devices.now in
    let dev = c.loop-dev.dev in
    let d = c.index-devices-dev.result in
    let entry = c.in-Some.entry in
    let within : dev < length ds = omega arith in
    let at = c.index-devices-dev.is ∙ get_or_default ds dev d None within in
    let here : find (has_name name) (device_spaces (get_or ds dev d)) ≡ entry_of (get_or ds dev None) entry =
    ap (λ (x : Option Volume). find (has_name name) (device_spaces x)) (sym c.index-devices-dev.is) ∙ c.in-Some.ensures.0 ∙ ap (λ (x : Option Volume). entry_of x entry) at in
    let some : IsSome (entry_of (get_or ds dev None) entry) = subst (λ (x : Option Volume). IsSome (entry_of x entry)) at c.in-Some.ensures.1 in
    let found = sym c.loop-dev.invariant ∙ sought-here name ds dev d within (entry_of (get_or ds dev None) entry) here some in
    (found, subst IsSome (sym found) some)

pub loop-dev-preserved : goal.loop-dev-preserved
loop-dev-preserved c =
    let name = c.args.name.now in
    let ds = c.args.devices.now in
    let dev = c.loop-dev.dev in
    let d = c.index-devices-dev.result in
    let within : dev < length ds = omega arith in
    let none = ap (λ (x : Option Volume). find (has_name name) (device_spaces x)) (sym c.index-devices-dev.is) ∙ c.in_default.ensures in
    sym (sought-further name ds dev d within none) ∙ c.loop-dev.invariant
