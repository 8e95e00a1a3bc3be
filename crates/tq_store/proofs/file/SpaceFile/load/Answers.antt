use Rattle.std.proofs.Common.{◌≡◌, ℕ, true, List, [], None, Err, refl, sym, subst}
use Rattle.tq_host.proofs.Causes.{cause_of_none, cause_of_on, cause_of_same}
use Rattle.tq_extent.specs.Bytes.{owned_bytes}
use Rattle.tq_extent.proofs.ReadOnlyLemmas.{quiet_on}
use Rattle.tq_slots.specs.declared.record.BranchSlot.{BranchSlot}
use Rattle.tq_slots.specs.SpaceReading.{slot_tests, space_by}
use Rattle.tq_model.specs.Reading.{hold_all}
use Rattle.tq_store.specs.declared.fault.FileError.TheVariants.{Damaged, Device, NoMemory}
use Rattle.tq_store.specs.Filling.{IsFilledFrom, slots_of}
use Rattle.tq_store.specs.Reading.{HasRead}
use Rattle.tq_slots.specs.SlotImages.{RawSlots}
use Rattle.tq_store.specs.File.{FileState, IsFile, IsHeld, IsSound}
use Rattle.tq_store.specs.Place.{IsPlace}
use Rattle.tq_store.specs.Stored.{HasSpace}
use Rattle.tq_store.proofs.FileStepLemmas.{in_space}
use Rattle.tq_store.proofs.LoadedLemmas.{held_once, judged_too, loaded_file, loaded_sound, none_loaded}
use Rattle.tq_store.proofs.ReadingLemmas.{error_is, no_error, same_error}
use Rattle.tq_store.proofs.file.SpaceFile.load.Goals as goal

pub fill-requires-clause-judged : goal.fill-requires-clause-judged
fill-requires-clause-judged g c =
    judged_too c.in_ok-read.read.slots c.queues-queues.result.now c.messages-messages.result.now c.in_ok-read.ensures.tests c.queues-queues.ensures c.messages-messages.ensures

pub returns-in_err-filled-clause-damaged : goal.returns-in_err-filled-clause-damaged
returns-in_err-filled-clause-damaged g c = λ is told.
    let place = c.args.place.now in
    let read = c.in_ok-read.read in
    let image = (g.H.Host.view c.args.host.now).reads place.dev in
    let none = c.fill.ensures.damaged ((same_error c.fill.result c.from_residual-in_err-filled.result c.in_err-filled.field-0.0 Damaged c.in_err-filled.was c.from_residual-in_err-filled.ensures.1).1 is) told in
    none_loaded place c.args.map image read (subst (λ (m : List ℕ). HasRead place m read image) c.in_ok-own.ensures (c.in_ok-read.ensures.read told)) c.queues-queues.result.now c.messages-messages.result.now c.queues-queues.ensures c.messages-messages.ensures
    (subst (λ (i : List ℕ). (branches : List BranchSlot) → space_by place.site place.number read.shape (owned_bytes c.args.map i) (slots_of c.queues-queues.result.now c.messages-messages.result.now branches) ≡ None)
    (c.read_pages.ensures.quiet.still.reads place.dev) none)

pub returns-in_err-filled-clause-cause : goal.returns-in_err-filled-clause-cause
returns-in_err-filled-clause-cause g c =
    let before = (g.H.Host.view c.args.host.now).faults in
    let mid = (g.H.Host.view c.read_pages.new.host).faults in
    let after = (g.H.Host.view c.fill.new.host).faults in
    let same = same_error c.fill.result c.from_residual-in_err-filled.result c.in_err-filled.field-0.0 Device c.in_err-filled.was c.from_residual-in_err-filled.ensures.1 in
    cause_of_on (c.read_pages.result ≡ Err Device) (c.from_residual-in_err-filled.result ≡ Err Device) before mid after c.read_pages.ensures.cause
    (no_error c.read_pages.result c.in_ok-read.read Device c.in_ok-read.was)
    (cause_of_same (c.fill.result ≡ Err Device) (c.from_residual-in_err-filled.result ≡ Err Device) mid after same.0 same.1 c.fill.ensures.cause)

pub into_table-requires-clause-once : goal.into_table-requires-clause-once
into_table-requires-clause-once g c =
    let place = c.args.place.now in
    let read = c.in_ok-read.read in
    let filled = c.in_ok-filled.filled in
    let raw = slots_of c.queues-queues.result.now c.messages-messages.result.now read.slots.branches in
    let these : raw ≡ read.slots = λ i. slots_of (c.queues-queues.ensures i) (c.messages-messages.ensures i) read.slots.branches in
    held_once place.site place.number read.slots filled.store filled.space.held
    (subst (λ (r : RawSlots). IsHeld place.site place.number r filled.store filled.space.held) these (c.in_ok-filled.ensures.held read.slots.branches))

pub invariant_of-result : goal.invariant_of-result
invariant_of-result g c =
    let place = c.args.place.now in
    let map = c.args.map in
    let own = c.in_ok-own.own in
    let read = c.in_ok-read.read in
    let queues = c.queues-queues.result.now in
    let messages = c.messages-messages.result.now in
    let space = c.in_ok-filled.filled.space.held in
    let store = c.in_ok-filled.filled.store in
    let asked = c.requires in
    let at : IsPlace place map = record { dev = asked.dev; least = asked.least; most = asked.most; enough = asked.enough } in
    subst (λ (raw : RawSlots). IsSound (record { place = place; shape = read.shape; space = space; raw = raw; store = store; log = read.log }))
    (sym c.in_ok-table.ensures)
    (loaded_sound place map own read queues messages c.queues-queues.ensures c.messages-messages.ensures space store at
    c.in_ok-read.ensures.creation c.in_ok-read.ensures.layout c.in_ok-own.ensures c.in_ok-read.ensures.size c.in_ok-read.ensures.tests
    c.in_ok-filled.ensures.filled c.in_ok-filled.ensures.held)

pub returns-clause-clusters : goal.returns-clause-clusters
returns-clause-clusters g c = (c.in_ok-filled.ensures.filled.store []).clusters_are

pub returns-clause-file : goal.returns-clause-file
returns-clause-file g c = λ told.
    let place = c.args.place.now in
    let map = c.args.map in
    let own = c.in_ok-own.own in
    let read = c.in_ok-read.read in
    let queues = c.queues-queues.result.now in
    let messages = c.messages-messages.result.now in
    let space = c.in_ok-filled.filled.space.held in
    let store = c.in_ok-filled.filled.store in
    let asked = c.requires in
    let at : IsPlace place map = record { dev = asked.dev; least = asked.least; most = asked.most; enough = asked.enough } in
    let image = (g.H.Host.view c.args.host.now).reads place.dev in
    let has = subst (λ (m : List ℕ). HasRead place m read image) c.in_ok-own.ensures (c.in_ok-read.ensures.read told) in
    let from = subst (λ (i : List ℕ). (branches : List BranchSlot) → hold_all (slot_tests (slots_of queues messages branches)) ≡ true
    → IsFilledFrom place read.shape map (slots_of queues messages branches) space store i) (c.read_pages.ensures.quiet.still.reads place.dev)
    (c.in_ok-filled.ensures.from told) in
    subst (λ (raw : RawSlots). IsFile (record { place = place; shape = read.shape; space = space; raw = raw; store = store; log = read.log }) image)
    (sym c.in_ok-table.ensures)
    (loaded_file place map own read queues messages c.queues-queues.ensures c.messages-messages.ensures space store at
    c.in_ok-read.ensures.creation c.in_ok-read.ensures.layout c.in_ok-own.ensures c.in_ok-read.ensures.size c.in_ok-read.ensures.tests
    c.in_ok-filled.ensures.filled c.in_ok-filled.ensures.held image has (asked.reach told) from)

pub returns-clause-space : goal.returns-clause-space
returns-clause-space g c = λ told.
    let place = c.args.place.now in
    let map = c.args.map in
    let own = c.in_ok-own.own in
    let read = c.in_ok-read.read in
    let queues = c.queues-queues.result.now in
    let messages = c.messages-messages.result.now in
    let space = c.in_ok-filled.filled.space.held in
    let store = c.in_ok-filled.filled.store in
    let asked = c.requires in
    let at : IsPlace place map = record { dev = asked.dev; least = asked.least; most = asked.most; enough = asked.enough } in
    let image = (g.H.Host.view c.args.host.now).reads place.dev in
    let has = subst (λ (m : List ℕ). HasRead place m read image) c.in_ok-own.ensures (c.in_ok-read.ensures.read told) in
    let from = subst (λ (i : List ℕ). (branches : List BranchSlot) → hold_all (slot_tests (slots_of queues messages branches)) ≡ true
    → IsFilledFrom place read.shape map (slots_of queues messages branches) space store i) (c.read_pages.ensures.quiet.still.reads place.dev)
    (c.in_ok-filled.ensures.from told) in
    let file = loaded_file place map own read queues messages c.queues-queues.ensures c.messages-messages.ensures space store at
    c.in_ok-read.ensures.creation c.in_ok-read.ensures.layout c.in_ok-own.ensures c.in_ok-read.ensures.size c.in_ok-read.ensures.tests
    c.in_ok-filled.ensures.filled c.in_ok-filled.ensures.held image has (asked.reach told) from in
    let sound = loaded_sound place map own read queues messages c.queues-queues.ensures c.messages-messages.ensures space store at
    c.in_ok-read.ensures.creation c.in_ok-read.ensures.layout c.in_ok-own.ensures c.in_ok-read.ensures.size c.in_ok-read.ensures.tests
    c.in_ok-filled.ensures.filled c.in_ok-filled.ensures.held in
    let whole : FileState = record { place = place; shape = read.shape; space = space; raw = read.slots; store = store; log = read.log } in
    subst (λ (cs : List ℕ). HasSpace place cs space image) (c.in_ok-filled.ensures.filled.store []).clusters_are (in_space whole image sound file)

pub returns-clause-quiet : goal.returns-clause-quiet
returns-clause-quiet g c =
    quiet_on c.args.place.now.dev (g.H.Host.view c.args.host.now) (g.H.Host.view c.read_pages.new.host) (g.H.Host.view c.fill.new.host)
    c.read_pages.ensures.quiet c.fill.ensures.quiet

pub returns-in_err-table-clause-cause : goal.returns-in_err-table-clause-cause
returns-in_err-table-clause-cause g c =
    let before = (g.H.Host.view c.args.host.now).faults in
    let mid = (g.H.Host.view c.read_pages.new.host).faults in
    let after = (g.H.Host.view c.fill.new.host).faults in
    let result = c.from_residual-in_err-table.result in
    let no : result ≡ Err Device → ⊥ = λ is.
    let memory : Device ≡ NoMemory = error_is result NoMemory Device c.from_residual-in_err-table.ensures.1 is in
    cc in
    cause_of_on (c.read_pages.result ≡ Err Device) (result ≡ Err Device) before mid after c.read_pages.ensures.cause
    (no_error c.read_pages.result c.in_ok-read.read Device c.in_ok-read.was)
    (cause_of_on (c.fill.result ≡ Err Device) (result ≡ Err Device) mid after after c.fill.ensures.cause
    (no_error c.fill.result c.in_ok-filled.filled Device c.in_ok-filled.was) (cause_of_none (result ≡ Err Device) after no))

pub returns-clause-cause : goal.returns-clause-cause
returns-clause-cause g c =
    let before = (g.H.Host.view c.args.host.now).faults in
    let mid = (g.H.Host.view c.read_pages.new.host).faults in
    let after = (g.H.Host.view c.fill.new.host).faults in
    cause_of_on (c.read_pages.result ≡ Err Device) _ before mid after c.read_pages.ensures.cause
    (no_error c.read_pages.result c.in_ok-read.read Device c.in_ok-read.was)
    (cause_of_on (c.fill.result ≡ Err Device) _ mid after after c.fill.ensures.cause (no_error c.fill.result c.in_ok-filled.filled Device c.in_ok-filled.was)
    (cause_of_none _ after (no_error _ _ Device refl)))
