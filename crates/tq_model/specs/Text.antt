-- The bytes of an answer.
use Rattle.std.specs.Prelude.{ℕ, ◌/◌, ◌%◌, ◌==◌, ◌||◌, if◌then◌else◌, false, List, [], ◌∷◌, ◌++◌, length, codes, decimal, Option, Some, None}
use Rattle.std.specs.List.{flat_map}
use Rattle.std.specs.Fmt.{digit_glyph, signed_decimal}
use Rattle.tq_types.specs.declared.identifiers.MsgId.{MsgId}
use Rattle.tq_types.specs.declared.rooms.Lack.{Lack}
use Rattle.tq_types.specs.declared.rooms.Resource.{Resource}
use Rattle.tq_types.specs.declared.rooms.Resource.TheVariants as resources
use Rattle.tq_model.specs.declared.answer.Identity.{Identity}
use Rattle.tq_model.specs.declared.answer.Capacity.{Capacity}
use Rattle.tq_model.specs.declared.answer.Extent.{Extent}
use Rattle.tq_model.specs.declared.answer.SpaceLine.{SpaceLine}
use Rattle.tq_model.specs.declared.answer.Readiness.{Readiness}
use Rattle.tq_model.specs.declared.answer.LogRoom.{LogRoom}
use Rattle.tq_model.specs.declared.answer.SpacePages.{SpacePages}
use Rattle.tq_model.specs.declared.answer.Answer.{Answer}
use Rattle.tq_model.specs.declared.answer.Answer.TheVariants.{Done, Syntax, TooLong, SystemError, Ready, Damaged, Invalid, NoEntry, LogFull, Device, Space, Call}
use Rattle.tq_model.specs.declared.answer.DeviceAnswer.{DeviceAnswer}
use Rattle.tq_model.specs.declared.answer.DeviceAnswer.TheVariants.{Created, Listed, NoDevice, NotCreated, Exists, NoSite, NotEmpty, SiteInUse, Range}
use Rattle.tq_model.specs.declared.answer.SpaceAnswer.{SpaceAnswer}
use Rattle.tq_model.specs.declared.answer.SpaceAnswer.TheVariants as spaces
use Rattle.tq_model.specs.declared.answer.Field.{Field}
use Rattle.tq_model.specs.declared.answer.Field.TheVariants as fields
use Rattle.tq_model.specs.declared.calls.CallAnswer.{CallAnswer}
use Rattle.tq_model.specs.declared.calls.CallAnswer.TheVariants.{Enqueued, Dequeued, BadQueue, NoMessage, NoSpace}
use Rattle.tq_model.specs.declared.calls.Delivery.{Delivery}
use Rattle.tq_model.specs.Grammar.{is_printable}

-- a number that stands behind its name
abbrev pub named : List ℕ → ℕ → List ℕ
named name n = name ++ decimal n

abbrev pub field_text : Field → List ℕ
field_text fields.Clusters = codes "clusters"
field_text fields.Site = codes "site"
field_text fields.Pages = codes "pages"
field_text fields.Queues = codes "queues"
field_text fields.Transactions = codes "trans"
field_text fields.Messages = codes "msgs"
field_text fields.Memory = codes "memory"

abbrev pub identity_text : Option Identity → List ℕ
identity_text None = codes "site=- epoch=-"
identity_text (Some i) = named (codes "site=") i.site ++ named (codes " epoch=") i.epoch

abbrev pub ready_text : Readiness → List ℕ
ready_text r = codes "READY " ++ identity_text r.identity ++ named (codes " spaces=") r.spaces ++ named (codes " indoubt=") r.in_doubt

-- Devices

abbrev pub capacity_text : Capacity → List ℕ
capacity_text c = named (codes "OK clusters=") c.clusters ++ named (codes " free=") c.free

-- extents with commas between them
abbrev pub extents_text : List Extent → List ℕ
extents_text [] = []
extents_text (e ∷ []) = decimal e.first ++ named (codes "+") e.count
extents_text (e ∷ more) = decimal e.first ++ named (codes "+") e.count ++ codes "," ++ extents_text more

-- a line of a listing begins with a line end and two spaces
abbrev pub space_line_text : SpaceLine → List ℕ
space_line_text line = 10 ∷ 32 ∷ 32 ∷ line.name ++ named (codes " number=") line.number ++ named (codes " pages=") line.pages ++ codes " extents=" ++ extents_text line.extents

abbrev pub device_text : DeviceAnswer → List ℕ
device_text (Created capacity) = capacity_text capacity
device_text (Listed listing) = capacity_text listing.capacity ++ named (codes " spaces=") (length listing.spaces) ++ flat_map space_line_text listing.spaces
device_text NoDevice = codes "NODEVICE"
device_text NotCreated = codes "NOTCREATED"
device_text Exists = codes "EXISTS"
device_text NoSite = codes "NOSITE"
device_text (NotEmpty spaces) = named (codes "NOTEMPTY spaces=") spaces
device_text (SiteInUse devices) = named (codes "SITEINUSE devices=") devices
device_text (Range field) = codes "RANGE field=" ++ field_text field

-- Spaces

abbrev pub pages_text : SpacePages → List ℕ
pages_text p = named (codes " overhead=") p.overhead ++ named (codes " pages=") p.pages

abbrev pub space_text : SpaceAnswer → List ℕ
space_text (spaces.Created space) = named (codes "OK number=") space.number ++ pages_text space.pages
space_text spaces.Taken = codes "TAKEN"
space_text (spaces.Small pages) = codes "SMALL" ++ pages_text pages
space_text spaces.TableFull = codes "TABLEFULL"
space_text (spaces.Lack room) = named (codes "LACK need=") room.need ++ named (codes " free=") room.free
space_text (spaces.QueueFull limit) = named (codes "QUEUEFULL limit=") limit
space_text (spaces.Busy transactions) = named (codes "BUSY transactions=") transactions
space_text (spaces.NotEmpty messages) = named (codes "NOTEMPTY messages=") messages

-- Calls

-- how a byte stands in a text: as itself, behind a backslash, or as a backslash and two digits
abbrev pub byte_text : ℕ → List ℕ
byte_text b =
    if b == 34 || b == 92 then 92 ∷ b ∷ []
    else (if is_printable b then b ∷ [] else 92 ∷ digit_glyph false (b / 16) ∷ digit_glyph false (b % 16) ∷ [])

abbrev pub body_text : List ℕ → List ℕ
body_text bytes = 34 ∷ flat_map byte_text bytes ++ 34 ∷ []

abbrev pub id_text : MsgId → List ℕ
id_text id = decimal id.site ++ named (codes ".") id.space ++ named (codes ".") id.epoch ++ named (codes ".") id.number

-- the identifier where it was asked for
abbrev pub asked_id_text : Option MsgId → List ℕ
asked_id_text None = []
asked_id_text (Some id) = codes " msgid=" ++ id_text id

abbrev pub delivery_text : Delivery → List ℕ
delivery_text d = codes "OK data=" ++ body_text d.body ++ codes " urcode=" ++ signed_decimal d.urcode ++ asked_id_text d.id

abbrev pub resource_text : Resource → List ℕ
resource_text resources.Transactions = codes "transactions"
resource_text resources.Messages = codes "messages"
resource_text resources.Depth = codes "depth"
resource_text resources.Pages = codes "pages"
resource_text resources.Memory = codes "memory"

abbrev pub lack_text : Lack → List ℕ
lack_text l = codes "QMENOSPACE resource=" ++ resource_text l.resource ++ named (codes " need=") l.need ++ named (codes " held=") l.held ++ named (codes " limit=") l.limit

abbrev pub call_text : CallAnswer → List ℕ
call_text (Enqueued id) = codes "OK" ++ asked_id_text id
call_text (Dequeued delivery) = delivery_text delivery
call_text BadQueue = codes "TPEDIAGNOSTIC QMEBADQUEUE"
call_text NoMessage = codes "TPEDIAGNOSTIC QMENOMSG"
call_text (NoSpace lack) = codes "TPEDIAGNOSTIC " ++ lack_text lack

abbrev pub log_text : LogRoom → List ℕ
log_text room = named (codes "LOGFULL need=") room.need ++ named (codes " free=") room.free

abbrev pub answer_text : Answer → List ℕ
answer_text Done = codes "OK"
answer_text (Syntax column) = named (codes "SYNTAX column=") column
answer_text TooLong = codes "TOOLONG"
answer_text SystemError = codes "TPESYSTEM"
answer_text (Ready readiness) = ready_text readiness
answer_text (Damaged dev) = named (codes "DAMAGED ") dev
answer_text (Invalid size) = named (codes "TPEINVAL size=") size
answer_text NoEntry = codes "TPENOENT"
answer_text (LogFull room) = log_text room
answer_text (Device answer) = device_text answer
answer_text (Space answer) = space_text answer
answer_text (Call answer) = call_text answer

-- what a line is answered: its number, a space, the answer and a line end
abbrev pub line_text : ℕ → Answer → List ℕ
line_text line answer = decimal line ++ 32 ∷ [] ++ answer_text answer ++ 10 ∷ []
