use Rattle.std.proofs.Common.{◌≡◌, ℕ, List, None, Some, Result, Ok, Err, refl, sym, ap, subst, ◌∙◌}
use Rattle.tq_host.proofs.Causes.{cause_of_on, cause_of_same, cause_of_none}
use Rattle.tq_gate.specs.declared.layout.Layout.{Layout}
use Rattle.tq_gate.specs.Loaded.{content_of}
use Rattle.tq_gate.specs.Log.{IsLog}
use Rattle.tq_gate.specs.Reading.{content_on}
use Rattle.tq_extent.proofs.ReadOnlyLemmas.{quiet_on}
use Rattle.tq_spacefile.specs.declared.fault.FileError.{FileError}
use Rattle.tq_spacefile.specs.declared.fault.FileError.TheVariants.{Damaged, Device}
use Rattle.tq_spacefile.specs.declared.file.SpaceFile.{SpaceFile}
use Rattle.tq_spacefile.specs.Place.{IsPlace, log_layout}
use Rattle.tq_spacefile.specs.Loading.{IsUnread, loaded_space}
use Rattle.tq_spacefile.proofs.Loads.{error_is, same_error, no_error, loaded_at, no_page, no_log, no_replay}
use Rattle.tq_spacefile.proofs.file.SpaceFile.load.Goals as goal

pub returns-in_err-shape-clause-damaged : goal.returns-in_err-shape-clause-damaged
returns-in_err-shape-clause-damaged g c = λ is told.
    let place = c.args.place.now in
    let image = (g.H.Host.view c.args.host.now).reads place.dev in
    no_page place c.args.map c.args.epoch image (c.read_shape.ensures.damaged ((same_error c.read_shape.result c.from_residual.result c.in_err-shape.field-0.0 Damaged c.in_err-shape.was c.from_residual.ensures.1).1 is) told)

pub returns-in_err-loaded-clause-damaged : goal.returns-in_err-loaded-clause-damaged
returns-in_err-loaded-clause-damaged g c = λ is told.
    let place = c.args.place.now in
    let image = (g.H.Host.view c.args.host.now).reads place.dev in
    let asked = c.requires in
    let at : IsPlace place c.args.map = record { dev = asked.dev; least = asked.least; most = asked.most; enough = asked.enough } in
    let none = c.load_log.ensures.damaged ((same_error c.load_log.result c.from_residual-in_err-loaded.result c.in_err-loaded.field-0.0 Damaged c.in_err-loaded.was c.from_residual-in_err-loaded.ensures.1).1 is) told in
    no_log place c.args.map c.args.epoch image at (asked.reach told) (subst (λ (i : List ℕ). content_on (log_layout place c.args.map) i ≡ None) (c.read_shape.ensures.quiet.still.reads place.dev) none)

pub returns-in_err-loaded-clause-quiet : goal.returns-in_err-loaded-clause-quiet
returns-in_err-loaded-clause-quiet g c =
    quiet_on c.args.place.now.dev (g.H.Host.view c.args.host.now) (g.H.Host.view c.read_shape.new.host) (g.H.Host.view c.load_log.new.host) c.read_shape.ensures.quiet c.load_log.ensures.quiet

pub returns-in_err-loaded-clause-cause : goal.returns-in_err-loaded-clause-cause
returns-in_err-loaded-clause-cause g c =
    let before = (g.H.Host.view c.args.host.now).faults in
    let mid = (g.H.Host.view c.read_shape.new.host).faults in
    let after = (g.H.Host.view c.load_log.new.host).faults in
    let same = same_error c.load_log.result c.from_residual-in_err-loaded.result c.in_err-loaded.field-0.0 Device c.in_err-loaded.was c.from_residual-in_err-loaded.ensures.1 in
    cause_of_on (c.read_shape.result ≡ Err Device) (c.from_residual-in_err-loaded.result ≡ Err Device) before mid after c.read_shape.ensures.cause (no_error c.read_shape.result c.in_ok-shape.shape Device c.in_ok-shape.was)
    (cause_of_same (c.load_log.result ≡ Err Device) (c.from_residual-in_err-loaded.result ≡ Err Device) mid after same.0 same.1 c.load_log.ensures.cause)

pub returns-in_err-file-clause-damaged : goal.returns-in_err-file-clause-damaged
returns-in_err-file-clause-damaged g c = λ is told.
    let place = c.args.place.now in
    let image = (g.H.Host.view c.args.host.now).reads place.dev in
    let asked = c.requires in
    let at : IsPlace place c.args.map = record { dev = asked.dev; least = asked.least; most = asked.most; enough = asked.enough } in
    let log : IsLog c.in_ok-loaded.loaded.log (content_of c.in_ok-loaded.loaded) image = subst (λ (i : List ℕ). IsLog c.in_ok-loaded.loaded.log (content_of c.in_ok-loaded.loaded) i) (c.read_shape.ensures.quiet.still.reads place.dev) (c.in_ok-loaded.ensures.loaded told) in
    let found = loaded_space c.args.epoch c.in_ok-shape.shape place (content_of c.in_ok-loaded.loaded) in
    let none : found ≡ None = subst (IsUnread found) (sym (error_is c.from_residual-in_err-file.result c.in_err-file.field-0.0 Damaged c.from_residual-in_err-file.ensures.1 is)) c.in_err-file.ensures.refused in
    let holds : content_on (log_layout place c.args.map) image ≡ Some (content_of c.in_ok-loaded.loaded) = sym (ap (λ (l : Layout). content_on l image) c.in_ok-loaded.ensures.layout) ∙ log.is.reads in
    no_replay place c.args.map c.args.epoch image at (asked.reach told) (content_of c.in_ok-loaded.loaded) holds c.in_ok-shape.shape (c.in_ok-shape.ensures.shape told) none

pub returns-in_err-file-clause-quiet : goal.returns-in_err-file-clause-quiet
returns-in_err-file-clause-quiet g c =
    quiet_on c.args.place.now.dev (g.H.Host.view c.args.host.now) (g.H.Host.view c.read_shape.new.host) (g.H.Host.view c.load_log.new.host) c.read_shape.ensures.quiet c.load_log.ensures.quiet

pub returns-in_err-file-clause-cause : goal.returns-in_err-file-clause-cause
returns-in_err-file-clause-cause g c =
    let before = (g.H.Host.view c.args.host.now).faults in
    let mid = (g.H.Host.view c.read_shape.new.host).faults in
    let after = (g.H.Host.view c.load_log.new.host).faults in
    let failed = c.from_residual-in_err-file.result ≡ Err Device in
    let found = loaded_space c.args.epoch c.in_ok-shape.shape c.args.place.now (content_of c.in_ok-loaded.loaded) in
    let no : failed → ⊥ = λ is. subst (IsUnread found) (sym (error_is c.from_residual-in_err-file.result c.in_err-file.field-0.0 Device c.from_residual-in_err-file.ensures.1 is)) c.in_err-file.ensures.refused in
    cause_of_on (c.read_shape.result ≡ Err Device) failed before mid after c.read_shape.ensures.cause (no_error c.read_shape.result c.in_ok-shape.shape Device c.in_ok-shape.was)
    (cause_of_on (c.load_log.result ≡ Err Device) failed mid after after c.load_log.ensures.cause (no_error c.load_log.result c.in_ok-loaded.loaded Device c.in_ok-loaded.was) (cause_of_none failed after no))

pub returns-in_err-shape-clause-cause : goal.returns-in_err-shape-clause-cause
returns-in_err-shape-clause-cause g c =
    let before = (g.H.Host.view c.args.host.now).faults in
    let mid = (g.H.Host.view c.read_shape.new.host).faults in
    let same = same_error c.read_shape.result c.from_residual.result c.in_err-shape.field-0.0 Device c.in_err-shape.was c.from_residual.ensures.1 in
    cause_of_same (c.read_shape.result ≡ Err Device) (c.from_residual.result ≡ Err Device) before mid same.0 same.1 c.read_shape.ensures.cause

pub returns-clause-quiet : goal.returns-clause-quiet
returns-clause-quiet g c =
    quiet_on c.args.place.now.dev (g.H.Host.view c.args.host.now) (g.H.Host.view c.read_shape.new.host) (g.H.Host.view c.load_log.new.host) c.read_shape.ensures.quiet c.load_log.ensures.quiet

pub returns-clause-cause : goal.returns-clause-cause
returns-clause-cause g c =
    let before = (g.H.Host.view c.args.host.now).faults in
    let mid = (g.H.Host.view c.read_shape.new.host).faults in
    let after = (g.H.Host.view c.load_log.new.host).faults in
    let done : Result SpaceFile FileError = Ok c.in_ok-file.file in
    let failed = done ≡ Err Device in
    cause_of_on (c.read_shape.result ≡ Err Device) failed before mid after c.read_shape.ensures.cause (no_error c.read_shape.result c.in_ok-shape.shape Device c.in_ok-shape.was)
    (cause_of_on (c.load_log.result ≡ Err Device) failed mid after after c.load_log.ensures.cause (no_error c.load_log.result c.in_ok-loaded.loaded Device c.in_ok-loaded.was) (cause_of_none failed after (no_error done c.in_ok-file.file Device refl)))

pub returns-clause-loaded : goal.returns-clause-loaded
returns-clause-loaded g c = λ told.
    let place = c.args.place.now in
    let image = (g.H.Host.view c.args.host.now).reads place.dev in
    let log : IsLog c.in_ok-loaded.loaded.log (content_of c.in_ok-loaded.loaded) image = subst (λ (i : List ℕ). IsLog c.in_ok-loaded.loaded.log (content_of c.in_ok-loaded.loaded) i) (c.read_shape.ensures.quiet.still.reads place.dev) (c.in_ok-loaded.ensures.loaded told) in
    loaded_at place c.args.map c.in_ok-loaded.loaded.log c.in_ok-file.file c.in_ok-shape.shape c.args.epoch image (content_of c.in_ok-loaded.loaded) c.in_ok-file.ensures.place c.in_ok-file.ensures.log c.in_ok-loaded.ensures.layout (c.in_ok-shape.ensures.shape told) log c.in_ok-file.ensures.held

pub returns-clause-damaged : goal.returns-clause-damaged
returns-clause-damaged g c = λ is told. cc
