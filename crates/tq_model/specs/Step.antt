-- One step of the serial queue machine: a request and its answer.
use Rattle.std.specs.Prelude.{ℕ, ◌+◌, ◌-◌, ◌*◌, ◌==◌, ◌&&◌, ◌||◌, not, nat_lt, nat_le, Bool, true, is_some, if◌then◌else◌, List, [], length, set, map, Option, Some, None, unwrap_or, option_map, Result, Ok, Err}
use Rattle.std.specs.List.{list_any}
use Rattle.tq_types.specs.declared.identifiers.Arrival.{Arrival}
use Rattle.tq_model.specs.declared.answer.Identity.{Identity}
use Rattle.tq_model.specs.declared.answer.Extent.{Extent}
use Rattle.tq_model.specs.declared.answer.SpaceLine.{SpaceLine}
use Rattle.tq_model.specs.declared.answer.SpacePages.{SpacePages}
use Rattle.tq_model.specs.declared.answer.LogRoom.{LogRoom}
use Rattle.tq_model.specs.declared.answer.Answer.{Answer}
use Rattle.tq_model.specs.declared.answer.Answer.TheVariants as answers
use Rattle.tq_model.specs.declared.answer.DeviceAnswer.{DeviceAnswer}
use Rattle.tq_model.specs.declared.answer.DeviceAnswer.TheVariants as device_answers
use Rattle.tq_model.specs.declared.answer.SpaceAnswer.TheVariants as space_answers
use Rattle.tq_model.specs.declared.answer.Field.{Field}
use Rattle.tq_model.specs.declared.answer.Field.TheVariants as fields
use Rattle.tq_model.specs.declared.calls.EnqueueCall.{EnqueueCall}
use Rattle.tq_model.specs.declared.calls.EnqueueWords.{EnqueueWords}
use Rattle.tq_model.specs.declared.calls.EnqueueAsk.{EnqueueAsk}
use Rattle.tq_model.specs.declared.calls.DequeueCall.{DequeueCall}
use Rattle.tq_model.specs.declared.calls.DequeueWords.{DequeueWords}
use Rattle.tq_model.specs.declared.calls.DequeueAsk.{DequeueAsk}
use Rattle.tq_model.specs.declared.calls.CallRefusal.{CallRefusal}
use Rattle.tq_model.specs.declared.calls.CallRefusal.TheVariants.{TooLarge}
use Rattle.tq_model.specs.declared.space.Shape.{Shape}
use Rattle.tq_model.specs.declared.request.Request.{Request}
use Rattle.tq_model.specs.declared.request.Request.TheVariants.{Nothing, Boot, Bad, TooLong, Device, Space as OfSpace, Call as OfCall}
use Rattle.tq_model.specs.declared.request.DeviceRequest.{DeviceRequest}
use Rattle.tq_model.specs.declared.request.DeviceRequest.TheVariants.{Create, Erase, List as ListDevice}
use Rattle.tq_model.specs.declared.request.Creation.{Creation}
use Rattle.tq_model.specs.declared.request.SpaceRequest.{SpaceRequest}
use Rattle.tq_model.specs.declared.request.SpaceRequest.TheVariants as space_requests
use Rattle.tq_model.specs.declared.request.SpaceCreation.{SpaceCreation}
use Rattle.tq_model.specs.declared.request.SpaceRemoval.{SpaceRemoval}
use Rattle.tq_model.specs.declared.request.QueueCreation.{QueueCreation}
use Rattle.tq_model.specs.declared.request.CallRequest.{CallRequest}
use Rattle.tq_model.specs.declared.request.CallRequest.TheVariants as call_requests
use Rattle.tq_model.specs.CallChecks.{enqueue_checked, dequeue_checked}
use Rattle.tq_model.specs.Space.{Space, is_named, overhead_pages, new_space, queues_with}
use Rattle.tq_model.specs.Room.{messages_held}
use Rattle.tq_model.specs.SpaceForm.{log_bytes, added_length, gone_length, made_length, default_queue}
use Rattle.tq_model.specs.Moves.{queue_of}
use Rattle.tq_model.specs.EnqueueStep.{enqueue_step, enqueue_refusal}
use Rattle.tq_model.specs.DequeueStep.{dequeue_step, dequeue_refusal}
use Rattle.tq_model.specs.Site.{Site, Volume, SpaceOnDevice, last_epoch, last_space, least_clusters, most_clusters, most_pages, most_queues, most_transactions, most_messages, most_memory, volume_of, is_created, present, capacity_of, durable, space_count, space_named, with_space, without_space, spaces_on, in_doubt_count, table_entries, no_entries, clusters_for, free_clusters, lowest_free, as_extents, entries_with}

pub record Outcome : Type 0 where
  pub site : Site
  pub answer : Answer

-- refused with this answer, the site as it was
abbrev pub refused : Site → Answer → Outcome
refused s answer = record { site = s; answer = answer }

-- an outcome, or a refusal that leaves the site as it was
abbrev pub unless : Option Answer → Site → Outcome → Outcome
unless (Some refusal) s granted = refused s refusal
unless None s granted = granted

-- A boot

-- an epoch that can be raised, or none while device 0 is blank
abbrev pub can_boot : Site → Bool
can_boot s = unwrap_or (option_map (λ (i : Identity). nat_lt i.epoch last_epoch) s.identity) true

abbrev pub with_next_epoch : Identity → Identity
with_next_epoch i = record i { epoch = i.epoch + 1 }

-- the site after a boot of what a crash left of it
abbrev pub booted : Site → Site
booted s = let d = durable s in record d { identity = option_map with_next_epoch d.identity }

abbrev pub ready : Site → Answer
ready s = answers.Ready (record { identity = s.identity; spaces = space_count s; in_doubt = in_doubt_count s })

abbrev pub boot : Site → Outcome
boot s = if can_boot s then record { site = booted s; answer = ready (booted s) } else record { site = durable s; answer = answers.Damaged 0 }

-- Devices

-- the site number that is asked for; a device is made in site 1 where none is given
abbrev pub site_asked : Creation → ℕ
site_asked c = unwrap_or c.site 1

abbrev pub new_volume : ℕ → Volume
new_volume clusters = record { clusters = clusters; next_space = 1; entries = no_entries }

-- the site with that device made anew; with device 0 it begins
abbrev pub with_new_device : Creation → Site → Site
with_new_device c s =
    let made = record s { devices = set s.devices c.dev (Some (new_volume c.clusters)) } in
    if c.dev == 0 then record made { identity = Some (record { site = site_asked c; epoch = 1 }); next = 0 } else made

-- the first reason not to make a device
abbrev pub creation_refusal : Creation → Site → Option DeviceAnswer
creation_refusal c s =
    if not (nat_lt c.dev (length s.devices)) then Some device_answers.NoDevice
    else (if is_created s c.dev then Some device_answers.Exists
    else (if not (c.dev == 0) && not (is_some s.identity) then Some device_answers.NoSite
    else (if not (nat_le least_clusters c.clusters && nat_le c.clusters most_clusters) then Some (device_answers.Range fields.Clusters)
    else (if not (nat_le 1 (site_asked c) && nat_le (site_asked c) 4294967295) then Some (device_answers.Range fields.Site)
    else None))))

abbrev pub create_device : Creation → Site → Outcome
create_device c s = unless (option_map answers.Device (creation_refusal c s)) s (record {
  site = with_new_device c s;
  answer = answers.Device (device_answers.Created (capacity_of (new_volume c.clusters)));
})

-- how many devices beside that one are created
abbrev pub others_created : ℕ → Site → ℕ
others_created dev s = length (present (set s.devices dev None))

abbrev pub erasure_refusal_of : ℕ → Site → Option Volume → Option DeviceAnswer
erasure_refusal_of dev s None = Some device_answers.NotCreated
erasure_refusal_of dev s (Some v) =
    if nat_lt 0 (length (spaces_on v)) then Some (device_answers.NotEmpty (length (spaces_on v)))
    else (if dev == 0 && nat_lt 0 (others_created dev s) then Some (device_answers.SiteInUse (others_created dev s)) else None)

-- the first reason not to make a device blank
abbrev pub erasure_refusal : ℕ → Site → Option DeviceAnswer
erasure_refusal dev s = if nat_lt dev (length s.devices) then erasure_refusal_of dev s (volume_of s dev) else Some device_answers.NoDevice

-- the site with that device made blank; with device 0 it ends
abbrev pub with_blank_device : ℕ → Site → Site
with_blank_device dev s =
    let erased = record s { devices = set s.devices dev None } in
    if dev == 0 then record erased { identity = None; next = 0 } else erased

abbrev pub erase_device : ℕ → Site → Outcome
erase_device dev s = unless (option_map answers.Device (erasure_refusal dev s)) s (record { site = with_blank_device dev s; answer = answers.Done })

-- what is said of a space in its device's listing
abbrev pub space_line : SpaceOnDevice → SpaceLine
space_line p = record { name = p.name; number = p.space.number; pages = p.pages; extents = p.extents }

abbrev pub listing_of : Option Volume → DeviceAnswer
listing_of None = device_answers.NotCreated
listing_of (Some v) = device_answers.Listed (record { capacity = capacity_of v; spaces = map space_line (spaces_on v) })

abbrev pub list_device : ℕ → Site → DeviceAnswer
list_device dev s = if nat_lt dev (length s.devices) then listing_of (volume_of s dev) else device_answers.NoDevice

abbrev pub device_step : Site → DeviceRequest → Outcome
device_step s (Create c) = create_device c s
device_step s (Erase dev) = erase_device dev s
device_step s (ListDevice dev) = record { site = s; answer = answers.Device (list_device dev s) }

-- Spaces

abbrev pub shape_asked : SpaceCreation → Shape
shape_asked c = record { pages = c.pages; queues = c.queues; messages = c.messages; transactions = c.transactions; memory = c.memory; error = c.error }

abbrev pub is_within : ℕ → ℕ → ℕ → Bool
is_within low high n = nat_le low n && nat_le n high

-- the first field that is out of its limit
abbrev pub field_refused : SpaceCreation → Option Field
field_refused c =
    if not (is_within 1 most_pages c.pages) then Some fields.Pages
    else (if not (is_within 1 most_queues c.queues) then Some fields.Queues
    else (if not (is_within 1 most_transactions c.transactions) then Some fields.Transactions
    else (if not (is_within 1 most_messages c.messages) then Some fields.Messages
    else (if not (nat_le c.memory most_memory) then Some fields.Memory
    else None))))

abbrev pub pages_asked : SpaceCreation → SpacePages
pages_asked c = record { overhead = overhead_pages (shape_asked c); pages = c.pages }

-- A device has no entry for a further space, or no ordinal.
abbrev pub is_table_full : Volume → Bool
is_table_full v = nat_le table_entries (length (spaces_on v)) || nat_le last_space v.next_space

-- the first reason of its device not to make a space
abbrev pub placing_refusal : SpaceCreation → Volume → Option Answer
placing_refusal c v =
    if is_table_full v then Some (answers.Space space_answers.TableFull)
    else (if nat_lt (free_clusters v) (clusters_for c.pages) then Some (answers.Space (space_answers.Lack (record { need = clusters_for c.pages; free = free_clusters v })))
    else None)

abbrev pub pages_refusal : SpaceCreation → Volume → Option Answer
pages_refusal c v = if nat_le c.pages (overhead_pages (shape_asked c)) then Some (answers.Space (space_answers.Small (pages_asked c))) else placing_refusal c v

abbrev pub limits_refusal : SpaceCreation → Option Field → Volume → Option Answer
limits_refusal c (Some field) v = Some (answers.Device (device_answers.Range field))
limits_refusal c None v = pages_refusal c v

abbrev pub on_volume_refusal : SpaceCreation → Site → Option Volume → Option Answer
on_volume_refusal c s None = Some (answers.Device device_answers.NotCreated)
on_volume_refusal c s (Some v) = if is_some (space_named c.name s) then Some (answers.Space space_answers.Taken) else limits_refusal c (field_refused c) v

-- the first reason not to make a space
abbrev pub space_refusal : SpaceCreation → Site → Option Answer
space_refusal c s = if nat_lt c.dev (length s.devices) then on_volume_refusal c s (volume_of s c.dev) else Some (answers.Device device_answers.NoDevice)

-- the number of a space: its ordinal on the device, and the device
abbrev pub number_of : ℕ → ℕ → ℕ
number_of dev ordinal = 8 * ordinal + dev

abbrev pub site_number : Site → ℕ
site_number s = unwrap_or (option_map (λ (i : Identity). i.site) s.identity) 0

-- a new space, by its site's number, its ordinal and its clusters
abbrev pub placed_new : SpaceCreation → ℕ → ℕ → List Extent → SpaceOnDevice
placed_new c site ordinal extents =
    record {
      name = c.name;
      pages = c.pages;
      extents = extents;
      logged = 0;
      space = new_space (shape_asked c) site (number_of c.dev ordinal);
    }

-- the device with the space in its lowest free clusters
abbrev pub with_space_made : SpaceCreation → ℕ → Volume → Volume
with_space_made c site v =
    record v { next_space = v.next_space + 1; entries = entries_with (placed_new c site v.next_space (as_extents (lowest_free (clusters_for c.pages) v))) v.entries }

abbrev pub with_new_space : SpaceCreation → Site → Volume → Site
with_new_space c s v = record s { devices = set s.devices c.dev (Some (with_space_made c (site_number s) v)) }

abbrev pub space_made : SpaceCreation → Site → Option Volume → Outcome
space_made c s None = refused s (answers.Device device_answers.NotCreated)
space_made c s (Some v) = record { site = with_new_space c s v; answer = answers.Space (space_answers.Created (record { number = number_of c.dev v.next_space; pages = pages_asked c })) }

abbrev pub create_space : SpaceCreation → Site → Outcome
create_space c s = unless (space_refusal c s) s (space_made c s (volume_of s c.dev))

-- how many transactions count in a space; no line begins one yet
abbrev pub transaction_count : SpaceOnDevice → Site → ℕ
transaction_count p s = 0

-- the first reason not to remove a space
abbrev pub removal_refusal : Bool → Site → SpaceOnDevice → Option Answer
removal_refusal force s p =
    if nat_lt 0 (transaction_count p s) then Some (answers.Space (space_answers.Busy (transaction_count p s)))
    else (if not force && nat_lt 0 (messages_held p.space) then Some (answers.Space (space_answers.NotEmpty (messages_held p.space)))
    else None)

abbrev pub remove_found : SpaceRemoval → Site → Option SpaceOnDevice → Outcome
remove_found r s None = refused s answers.NoEntry
remove_found r s (Some p) = unless (removal_refusal r.force s p) s (record { site = without_space r.space s; answer = answers.Done })

abbrev pub remove_space : SpaceRemoval → Site → Outcome
remove_space r s = remove_found r s (space_named r.space s)

-- The log

abbrev pub log_room : ℕ → ℕ → ℕ → LogRoom
log_room pages logged size = record { need = size + 6; free = log_bytes pages - logged }

-- a payload of so many bytes does not fit in the log of a space with so many pages, of which so many bytes are taken
abbrev pub log_refusal : ℕ → ℕ → ℕ → Option Answer
log_refusal pages logged size = if nat_lt (log_bytes pages) (logged + (size + 6)) then Some (answers.LogFull (log_room pages logged size)) else None

-- Calls on a space

-- What a space makes of a call.
pub record SpaceOutcome : Type 0 where
  pub refusal : Option Answer  -- the first reason against it
  pub answer : Answer  -- what it is answered where there is none
  pub space : Space  -- the space afterwards; a refusal leaves what the purge of the call left
  pub size : ℕ  -- the bytes of the payload that says the change
  pub numbers : ℕ  -- the numbers of messages that it takes

-- What a space and its log make of a call.
pub record LoggedOutcome : Type 0 where
  pub answer : Answer
  pub space : Space
  pub logged : ℕ
  pub numbers : ℕ

-- For now a change is one payload in one log; where that has no room for it, nothing is changed.
abbrev pub unless_full : ℕ → Space → SpaceOutcome → Option Answer → LoggedOutcome
unless_full logged before c (Some full) = record { answer = full; space = before; logged = logged; numbers = 0 }
unless_full logged before c None = record { answer = c.answer; space = c.space; logged = logged + (5 + c.size); numbers = c.numbers }

abbrev pub unless_refused_by : ℕ → ℕ → Space → SpaceOutcome → Option Answer → LoggedOutcome
unless_refused_by pages logged before c (Some refusal) = record { answer = refusal; space = c.space; logged = logged; numbers = 0 }
unless_refused_by pages logged before c None = unless_full logged before c (log_refusal pages logged c.size)

-- of a space with so many pages, and so many bytes of its log taken
abbrev pub through_log : ℕ → ℕ → Space → SpaceOutcome → LoggedOutcome
through_log pages logged before c = unless_refused_by pages logged before c c.refusal

-- the arrival of the next message
abbrev pub next_arrival : Site → Arrival
next_arrival s = record { epoch = unwrap_or (option_map (λ (i : Identity). i.epoch) s.identity) 0; number = s.next }

abbrev pub take_numbers : ℕ → Site → Site
take_numbers n s = record s { next = s.next + n }

abbrev pub with_outcome : LoggedOutcome → SpaceOnDevice → SpaceOnDevice
with_outcome o p = record p { logged = o.logged; space = o.space }

abbrev pub after_call : List ℕ → LoggedOutcome → Site → Outcome
after_call name o s = record { site = take_numbers o.numbers (with_space name (with_outcome o) s); answer = o.answer }

abbrev pub on_space_found : List ℕ → (Space → SpaceOutcome) → Site → Option SpaceOnDevice → Outcome
on_space_found name call s None = refused s answers.NoEntry
on_space_found name call s (Some p) = after_call name (through_log p.pages p.logged p.space (call p.space)) s

-- a call on the space of that name, by what it makes of the space
abbrev pub on_space : List ℕ → (Space → SpaceOutcome) → Site → Outcome
on_space name call s = on_space_found name call s (space_named name s)

-- Queues

-- whether the space has a queue of that name
abbrev pub has_queue : List ℕ → Space → Bool
has_queue name s = list_any (is_named name) s.queues

abbrev pub with_queue : List ℕ → Space → Space
with_queue name s = record s { queues = queues_with (queue_of (default_queue name) []) s.queues }

-- the first reason not to make a queue of that name
abbrev pub queue_refusal : List ℕ → Space → Option Answer
queue_refusal name s =
    if has_queue name s then Some (answers.Space space_answers.Taken)
    else (if nat_le s.limits.queues (length s.queues) then Some (answers.Space (space_answers.QueueFull s.limits.queues)) else None)

-- a space that a refusal leaves as it was, or one that is changed
abbrev pub space_unless : Option Answer → Space → Space → Space
space_unless (Some refusal) before after = before
space_unless None before after = after

abbrev pub queue_outcome : List ℕ → Space → SpaceOutcome
queue_outcome name s =
    record {
      refusal = queue_refusal name s;
      answer = answers.Done;
      space = space_unless (queue_refusal name s) s (with_queue name s);
      size = made_length name;
      numbers = 0;
    }

abbrev pub create_queue : QueueCreation → Site → Outcome
create_queue c s = on_space c.space (queue_outcome c.queue) s

abbrev pub space_step : Site → SpaceRequest → Outcome
space_step s (space_requests.Create c) = create_space c s
space_step s (space_requests.Remove r) = remove_space r s
space_step s (space_requests.CreateQueue c) = create_queue c s

-- Calls

-- the transaction of a session; no line begins one yet
abbrev pub transaction_of : ℕ → Site → Option ℕ
transaction_of session s = None

-- how many branches of a space count without an entry; no line makes one yet
abbrev pub heuristic_count : Site → ℕ
heuristic_count s = 0

-- what a space is asked in a session
abbrev pub enqueue_ask : ℕ → EnqueueCall → Site → EnqueueAsk
enqueue_ask session call s =
    record {
      call = call;
      clock = s.clock;
      owner = transaction_of session s;
      transactional = is_some (transaction_of session s) && not call.notran;
      heuristic = heuristic_count s;
      next = next_arrival s;
    }

abbrev pub dequeue_ask : ℕ → DequeueCall → Site → DequeueAsk
dequeue_ask session call s =
    record {
      call = call;
      clock = s.clock;
      owner = transaction_of session s;
      transactional = is_some (transaction_of session s) && not call.notran;
      heuristic = heuristic_count s;
    }

abbrev pub enqueue_outcome : EnqueueAsk → Space → SpaceOutcome
enqueue_outcome ask s =
    let step = enqueue_step s ask in
    record {
      refusal = option_map answers.Call (enqueue_refusal s ask);
      answer = answers.Call step.answer;
      space = step.space;
      size = added_length ask.call.body;
      numbers = 1;
    }

abbrev pub dequeue_outcome : DequeueAsk → Space → SpaceOutcome
dequeue_outcome ask s =
    let step = dequeue_step s ask in
    record {
      refusal = option_map answers.Call (dequeue_refusal s ask);
      answer = answers.Call step.answer;
      space = step.space;
      size = gone_length;
      numbers = 0;
    }

-- what words are answered that make no call
abbrev pub refusal_answer : CallRefusal → Answer
refusal_answer (TooLarge n) = answers.Invalid n

-- a call that its words make, or their refusal
abbrev pub if_checked : {C : Type 0} → Result C CallRefusal → Site → (C → Outcome) → Outcome
if_checked (Ok call) s does = does call
if_checked (Err refusal) s does = refused s (refusal_answer refusal)

abbrev pub enqueue : ℕ → EnqueueWords → Site → Outcome
enqueue session w s = if_checked (enqueue_checked w s.clock) s (λ call. on_space call.space (enqueue_outcome (enqueue_ask session call s)) s)

abbrev pub dequeue : ℕ → DequeueWords → Site → Outcome
dequeue session w s = if_checked (dequeue_checked w) s (λ call. on_space call.space (dequeue_outcome (dequeue_ask session call s)) s)

abbrev pub call_step : Site → CallRequest → Outcome
call_step s (call_requests.Enqueue session w) = enqueue session w s
call_step s (call_requests.Dequeue session w) = dequeue session w s

-- One step.
abbrev pub step : Site → Request → Outcome
step s Nothing = record { site = s; answer = answers.Done }
step s Boot = boot s
step s (Bad column) = record { site = s; answer = answers.Syntax column }
step s TooLong = record { site = s; answer = answers.TooLong }
step s (Device request) = device_step s request
step s (OfSpace request) = space_step s request
step s (OfCall request) = call_step s request
