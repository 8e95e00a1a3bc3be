use Rattle.std.proofs.Common.{◌≡◌, ℕ, List, None, Result, Ok, Err, refl, sym, subst}
use Rattle.tq_host.proofs.Causes.{cause_of_on, cause_of_same, cause_of_none}
use Rattle.tq_extent.proofs.ReadOnlyLemmas.{quiet_on}
use Rattle.tq_gate.specs.Loaded.{content_of}
use Rattle.tq_gate.specs.Log.{IsLog}
use Rattle.tq_gate.specs.Reading.{content_on}
use Rattle.tq_slots.specs.SpaceReading.{slots_by}
use Rattle.tq_store.specs.declared.fault.FileError.{FileError}
use Rattle.tq_store.specs.declared.fault.FileError.TheVariants.{Damaged, Device}
use Rattle.tq_store.specs.declared.reading.Read.{Read}
use Rattle.tq_store.specs.Place.{log_layout}
use Rattle.tq_store.specs.Reading.{sound_slots_of}
use Rattle.tq_store.specs.SlotReading.{IsMissing}
use Rattle.tq_store.proofs.ReadingLemmas.{error_is, same_error, no_error, no_log, unsound_content, has_read, sound_are}
use Rattle.tq_store.proofs.reading.read_pages.Goals as goal

pub returns-in_err-loaded-clause-damaged : goal.returns-in_err-loaded-clause-damaged
returns-in_err-loaded-clause-damaged g c = λ is told.
    let place = c.args.place.now in
    let shape = c.in_ok-shape.shape in
    let image = (g.H.Host.view c.args.host.now).reads place.dev in
    let none = c.load_log.ensures.damaged ((same_error c.load_log.result c.from_residual-in_err-loaded.result c.in_err-loaded.field-0.0 Damaged c.in_err-loaded.was c.from_residual-in_err-loaded.ensures.1).1 is) told in
    no_log place c.args.map image shape c.requires.place c.in_ok-shape.ensures.creation (c.requires.reach told) (c.in_ok-shape.ensures.shape told)
    (subst (λ (i : List ℕ). content_on (log_layout place shape c.args.map) i ≡ None) (c.read_shape.ensures.quiet.still.reads place.dev) none)

pub returns-in_err-loaded-clause-cause : goal.returns-in_err-loaded-clause-cause
returns-in_err-loaded-clause-cause g c =
    let before = (g.H.Host.view c.args.host.now).faults in
    let mid = (g.H.Host.view c.read_shape.new.host).faults in
    let after = (g.H.Host.view c.load_log.new.host).faults in
    let same = same_error c.load_log.result c.from_residual-in_err-loaded.result c.in_err-loaded.field-0.0 Device c.in_err-loaded.was c.from_residual-in_err-loaded.ensures.1 in
    cause_of_on (c.read_shape.result ≡ Err Device) (c.from_residual-in_err-loaded.result ≡ Err Device) before mid after c.read_shape.ensures.cause (no_error c.read_shape.result c.in_ok-shape.shape Device c.in_ok-shape.was)
    (cause_of_same (c.load_log.result ≡ Err Device) (c.from_residual-in_err-loaded.result ≡ Err Device) mid after same.0 same.1 c.load_log.ensures.cause)

pub returns-in_err-read-clause-damaged : goal.returns-in_err-read-clause-damaged
returns-in_err-read-clause-damaged g c = λ is told.
    let place = c.args.place.now in
    let shape = c.in_ok-shape.shape in
    let loaded = c.in_ok-loaded.loaded in
    let image = (g.H.Host.view c.args.host.now).reads place.dev in
    let log : IsLog loaded.log (content_of loaded) image =
    subst (λ (i : List ℕ). IsLog loaded.log (content_of loaded) i) (c.read_shape.ensures.quiet.still.reads place.dev) (c.in_ok-loaded.ensures.loaded told) in
    let found = sound_slots_of shape (content_of loaded) in
    let none : found ≡ None =
    subst (IsMissing found) (sym (error_is c.from_residual-in_err-read.result c.in_err-read.field-0.0 Damaged c.from_residual-in_err-read.ensures.1 is)) c.in_err-read.ensures.slots in
    unsound_content place c.args.map image shape c.requires.place c.in_ok-shape.ensures.creation (c.requires.reach told) (c.in_ok-shape.ensures.shape told)
    loaded c.in_ok-loaded.ensures.layout log none

pub returns-in_err-read-clause-cause : goal.returns-in_err-read-clause-cause
returns-in_err-read-clause-cause g c =
    let before = (g.H.Host.view c.args.host.now).faults in
    let mid = (g.H.Host.view c.read_shape.new.host).faults in
    let after = (g.H.Host.view c.load_log.new.host).faults in
    let failed = c.from_residual-in_err-read.result ≡ Err Device in
    let found = sound_slots_of c.in_ok-shape.shape (content_of c.in_ok-loaded.loaded) in
    let no : failed → ⊥ = λ is.
    subst (IsMissing found) (sym (error_is c.from_residual-in_err-read.result c.in_err-read.field-0.0 Device c.from_residual-in_err-read.ensures.1 is)) c.in_err-read.ensures.slots in
    cause_of_on (c.read_shape.result ≡ Err Device) failed before mid after c.read_shape.ensures.cause (no_error c.read_shape.result c.in_ok-shape.shape Device c.in_ok-shape.was)
    (cause_of_on (c.load_log.result ≡ Err Device) failed mid after after c.load_log.ensures.cause (no_error c.load_log.result c.in_ok-loaded.loaded Device c.in_ok-loaded.was)
    (cause_of_none failed after no))

pub returns-clause-tests : goal.returns-clause-tests
returns-clause-tests g c =
    let k = content_of c.in_ok-loaded.loaded in
    (sound_are (slots_by c.in_ok-shape.shape k.base k.payloads) c.in_ok-read.read.slots c.in_ok-read.ensures.slots).1

pub returns-clause-read : goal.returns-clause-read
returns-clause-read g c = λ told.
    let place = c.args.place.now in
    let loaded = c.in_ok-loaded.loaded in
    let image = (g.H.Host.view c.args.host.now).reads place.dev in
    let log : IsLog loaded.log (content_of loaded) image =
    subst (λ (i : List ℕ). IsLog loaded.log (content_of loaded) i) (c.read_shape.ensures.quiet.still.reads place.dev) (c.in_ok-loaded.ensures.loaded told) in
    has_read place c.args.map image c.in_ok-shape.shape c.requires.place c.in_ok-shape.ensures.creation (c.requires.reach told) (c.in_ok-shape.ensures.shape told)
    loaded c.in_ok-loaded.ensures.layout log c.in_ok-read.read c.in_ok-read.ensures.opened c.in_ok-read.ensures.slots

pub returns-clause-quiet : goal.returns-clause-quiet
returns-clause-quiet g c =
    quiet_on c.args.place.now.dev (g.H.Host.view c.args.host.now) (g.H.Host.view c.read_shape.new.host) (g.H.Host.view c.load_log.new.host)
    c.read_shape.ensures.quiet c.load_log.ensures.quiet

pub returns-clause-cause : goal.returns-clause-cause
returns-clause-cause g c =
    let before = (g.H.Host.view c.args.host.now).faults in
    let mid = (g.H.Host.view c.read_shape.new.host).faults in
    let after = (g.H.Host.view c.load_log.new.host).faults in
    let done : Result Read FileError = Ok c.in_ok-read.read in
    let failed = done ≡ Err Device in
    cause_of_on (c.read_shape.result ≡ Err Device) failed before mid after c.read_shape.ensures.cause (no_error c.read_shape.result c.in_ok-shape.shape Device c.in_ok-shape.was)
    (cause_of_on (c.load_log.result ≡ Err Device) failed mid after after c.load_log.ensures.cause (no_error c.load_log.result c.in_ok-loaded.loaded Device c.in_ok-loaded.was)
    (cause_of_none failed after (no_error done c.in_ok-read.read Device refl)))
