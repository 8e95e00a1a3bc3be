-- What the bytes of a script spell: one request a line. The verbs stand in a table; another verb is another row.
use Rattle.std.specs.Prelude.{ℕ, zero, suc, ◌+◌, ◌*◌, ◌==◌, ◌&&◌, ◌||◌, nat_lt, nat_le, Bool, true, false, if◌then◌else◌, List, [], ◌∷◌, length, take, drop, get_or, map, codes, Option, Some, None, option_map, unwrap_or}
use Rattle.std.specs.List.{list_all, list_any, before_first, after_first}
use Rattle.std.specs.Char.{is_ascii_digit, is_ascii_hexdigit, digit_value}
use Rattle.std.specs.Str.{bytes_eq}
use Rattle.std.specs.Str.Parse.{digits_value}
use Rattle.tq_model.specs.declared.calls.Flag.{Flag}
use Rattle.tq_model.specs.declared.calls.Flag.TheVariants as flags
use Rattle.tq_model.specs.declared.grammar.Verb.{Verb}
use Rattle.tq_model.specs.declared.grammar.Verb.TheVariants.{Boot, CreateDevice, EraseDevice, ListDevice, CreateSpace, RemoveSpace, CreateQueue, Enqueue, Dequeue}
use Rattle.tq_model.specs.declared.grammar.Kind.{Kind}
use Rattle.tq_model.specs.declared.grammar.Kind.TheVariants as kinds
use Rattle.tq_model.specs.declared.grammar.Key.{Key}
use Rattle.tq_model.specs.declared.grammar.Key.TheVariants as keys
use Rattle.tq_model.specs.declared.grammar.Value.{Value}
use Rattle.tq_model.specs.declared.grammar.Value.TheVariants.{Number, Name, ErrorName, Text, Flags, Yes}
use Rattle.tq_model.specs.declared.request.Request.{Request}
use Rattle.tq_model.specs.declared.request.Request.TheVariants.{Nothing, Boot as BootAsked, Bad, TooLong, Device, Space, Call}
use Rattle.tq_model.specs.declared.request.DeviceRequest.TheVariants.{Create, Erase, List as ListOf}
use Rattle.tq_model.specs.declared.request.SpaceRequest.TheVariants as space_requests
use Rattle.tq_model.specs.declared.request.CallRequest.TheVariants as call_requests
use Rattle.tq_model.specs.declared.request.Creation.{Creation}
use Rattle.tq_model.specs.declared.request.SpaceCreation.{SpaceCreation}
use Rattle.tq_model.specs.declared.request.SpaceRemoval.{SpaceRemoval}
use Rattle.tq_model.specs.declared.calls.EnqueueWords.{EnqueueWords}
use Rattle.tq_model.specs.declared.calls.DequeueWords.{DequeueWords}
use Rattle.tq_model.specs.Names.{is_name}

-- Lines

-- one byte more at the head of the first line
abbrev pub with_byte : ℕ → List (List ℕ) → List (List ℕ)
with_byte b [] = (b ∷ []) ∷ []
with_byte b (line ∷ lines) = (b ∷ line) ∷ lines

-- The lines of a script: each ends at a byte 10, which belongs to none; bytes after the last one are a last line.
abbrev pub script_lines : List ℕ → List (List ℕ)
script_lines [] = []
script_lines (b ∷ bytes) = if b == 10 then [] ∷ script_lines bytes else with_byte b (script_lines bytes)

-- Words

pub record Word : Type 0 where
  pub column : ℕ  -- of its first byte, from 1
  pub bytes : List ℕ

-- where in a word a byte stands: outside quotes, inside them, or inside behind a backslash
pub data Place : Type 0 where
  Plain : Place
  Quoted : Place
  Escaped : Place

-- the place behind a byte
abbrev pub place_after : Place → ℕ → Place
place_after Plain b = if b == 34 then Quoted else Plain
place_after Quoted b = if b == 92 then Escaped else (if b == 34 then Plain else Quoted)
place_after Escaped b = Quoted

-- a space outside quotes ends a word
abbrev pub ends_word : Place → ℕ → Bool
ends_word Plain b = b == 32
ends_word Quoted b = false
ends_word Escaped b = false

-- how many of these bytes belong to the word in which they stand
abbrev pub word_length : Place → List ℕ → ℕ
word_length place [] = 0
word_length place (b ∷ bytes) = if ends_word place b then 0 else suc (word_length (place_after place b) bytes)

-- at most so many words of bytes of which the first has that column
abbrev pub words_from : ℕ → ℕ → List ℕ → List Word
words_from zero column bytes = []
words_from (suc most) column [] = []
words_from (suc most) column (b ∷ bytes) = if b == 32 then words_from most (column + 1) bytes else
    let n = word_length Plain (b ∷ bytes) in
    record { column = column; bytes = take n (b ∷ bytes) } ∷ words_from most (column + n) (drop n (b ∷ bytes))

-- a line has no more words than bytes
abbrev pub line_words : List ℕ → List Word
line_words line = words_from (length line) 1 line

-- Kinds

-- one to twenty decimal digits
abbrev pub is_numeral : List ℕ → Bool
is_numeral word = nat_le 1 (length word) && nat_le (length word) 20 && list_all is_ascii_digit word

abbrev pub number_between : ℕ → ℕ → List ℕ → Option Value
number_between low high word =
    let n = digits_value 10 word in
    if is_numeral word && nat_le low n && nat_le n high then Some (Number n) else None

abbrev pub name_value : List ℕ → Option Value
name_value word = if is_name word then Some (Name word) else None

-- `-` for none
abbrev pub error_value : List ℕ → Option Value
error_value word = if bytes_eq word (codes "-") then Some (ErrorName None) else (if is_name word then Some (ErrorName (Some word)) else None)

-- where in a text a byte stands: at an item's begin, behind a backslash, or behind the first of two hexadecimal digits
pub data TextPlace : Type 0 where
  Item : TextPlace
  Backslash : TextPlace
  HalfByte : ℕ → TextPlace

abbrev pub is_printable : ℕ → Bool
is_printable b = nat_le 32 b && nat_le b 126

abbrev pub is_empty_list : List ℕ → Bool
is_empty_list [] = true
is_empty_list (b ∷ bytes) = false

abbrev pub with_text_byte : ℕ → Option (List ℕ) → Option (List ℕ)
with_text_byte b text = option_map (λ bytes. b ∷ bytes) text

-- What stands behind a text's first quote. An item is a printable byte, or a backslash with a quote, a backslash or two
-- hexadecimal digits; the quote that ends the text is the last byte.
abbrev pub text_from : TextPlace → List ℕ → Option (List ℕ)
text_from place [] = None
text_from Item (b ∷ bytes) =
    if b == 34 then (if is_empty_list bytes then Some [] else None)
    else (if b == 92 then text_from Backslash bytes
    else (if is_printable b then with_text_byte b (text_from Item bytes) else None))
text_from Backslash (b ∷ bytes) =
    if b == 34 || b == 92 then with_text_byte b (text_from Item bytes)
    else (if is_ascii_hexdigit b then text_from (HalfByte (digit_value b)) bytes else None)
text_from (HalfByte high) (b ∷ bytes) = if is_ascii_hexdigit b then with_text_byte (16 * high + digit_value b) (text_from Item bytes) else None

abbrev pub text_of : List ℕ → Option (List ℕ)
text_of [] = None
text_of (b ∷ bytes) = if b == 34 then text_from Item bytes else None

abbrev pub flag_word : Flag → List ℕ
flag_word flags.NoFlags = codes "TPNOFLAGS"
flag_word flags.MessageId = codes "TPQMSGID"

-- the flags that a script may name
abbrev pub known_flags : List Flag
known_flags = flags.NoFlags ∷ flags.MessageId ∷ []

abbrev pub flag_among : List Flag → List ℕ → Option Flag
flag_among [] word = None
flag_among (flag ∷ flags) word = if bytes_eq word (flag_word flag) then Some flag else flag_among flags word

-- the pieces between the bytes `|`, of which there is one more than of these bytes
abbrev pub pieces : List ℕ → List (List ℕ)
pieces [] = [] ∷ []
pieces (b ∷ bytes) = if b == 124 then [] ∷ pieces bytes else with_byte b (pieces bytes)

abbrev pub with_flag : Option Flag → Option (List Flag) → Option (List Flag)
with_flag None flags = None
with_flag (Some flag) flags = option_map (λ rest. flag ∷ rest) flags

-- names of flags, each at most once
abbrev pub flags_from : List (List ℕ) → Option (List Flag)
flags_from [] = Some []
flags_from (word ∷ words) = if list_any (bytes_eq word) words then None else with_flag (flag_among known_flags word) (flags_from words)

abbrev pub yes_value : List ℕ → Option Value
yes_value word = if bytes_eq word (codes "yes") then Some Yes else None

-- what a word of a kind spells, and None where it is not of that kind
abbrev pub value_of : Kind → List ℕ → Option Value
value_of kinds.Device word = number_between 0 7 word
value_of kinds.Session word = number_between 1 32 word
value_of kinds.Number word = number_between 0 18446744073709551615 word
value_of kinds.Name word = name_value word
value_of kinds.ErrorName word = error_value word
value_of kinds.Text word = option_map Text (text_of word)
value_of kinds.Flags word = option_map Flags (flags_from (pieces word))
value_of kinds.Yes word = yes_value word

-- The table

abbrev pub verb_word : Verb → List ℕ
verb_word Boot = codes "boot"
verb_word CreateDevice = codes "crdl"
verb_word EraseDevice = codes "dsdl"
verb_word ListDevice = codes "lidl"
verb_word CreateSpace = codes "qspacecreate"
verb_word RemoveSpace = codes "qspacedestroy"
verb_word CreateQueue = codes "qcreate"
verb_word Enqueue = codes "tpenqueue"
verb_word Dequeue = codes "tpdequeue"

abbrev pub key_word : Key → List ℕ
key_word keys.Site = codes "site"
key_word keys.Dev = codes "dev"
key_word keys.Pages = codes "pages"
key_word keys.Queues = codes "queues"
key_word keys.Transactions = codes "trans"
key_word keys.Messages = codes "msgs"
key_word keys.Error = codes "error"
key_word keys.Memory = codes "memory"
key_word keys.Flags = codes "flags"
key_word keys.Data = codes "data"
key_word keys.Force = codes "force"

-- a key of a verb
pub record KeyRow : Type 0 where
  pub key : Key
  pub kind : Kind
  pub required : Bool

-- a verb: its positional words and its keys
pub record Row : Type 0 where
  pub positional : List Kind
  pub keyed : List KeyRow

abbrev pub needed : Key → Kind → KeyRow
needed key kind = record { key = key; kind = kind; required = true }

abbrev pub optional : Key → Kind → KeyRow
optional key kind = record { key = key; kind = kind; required = false }

abbrev pub space_keys : List KeyRow
space_keys =
    needed keys.Dev kinds.Device ∷ needed keys.Pages kinds.Number ∷ needed keys.Queues kinds.Number ∷ needed keys.Transactions kinds.Number
    ∷ needed keys.Messages kinds.Number ∷ needed keys.Error kinds.ErrorName ∷ needed keys.Memory kinds.Number ∷ []

abbrev pub row_of : Verb → Row
row_of Boot = record { positional = []; keyed = [] }
row_of CreateDevice = record { positional = kinds.Device ∷ kinds.Number ∷ []; keyed = optional keys.Site kinds.Number ∷ [] }
row_of EraseDevice = record { positional = kinds.Device ∷ []; keyed = [] }
row_of ListDevice = record { positional = kinds.Device ∷ []; keyed = [] }
row_of CreateSpace = record { positional = kinds.Name ∷ []; keyed = space_keys }
row_of RemoveSpace = record { positional = kinds.Name ∷ []; keyed = optional keys.Force kinds.Yes ∷ [] }
row_of CreateQueue = record { positional = kinds.Name ∷ kinds.Name ∷ []; keyed = [] }
row_of Enqueue = record { positional = kinds.Session ∷ kinds.Name ∷ kinds.Name ∷ []; keyed = optional keys.Flags kinds.Flags ∷ needed keys.Data kinds.Text ∷ [] }
row_of Dequeue = record { positional = kinds.Session ∷ kinds.Name ∷ kinds.Name ∷ []; keyed = optional keys.Flags kinds.Flags ∷ [] }

abbrev pub verbs : List Verb
verbs = Boot ∷ CreateDevice ∷ EraseDevice ∷ ListDevice ∷ CreateSpace ∷ RemoveSpace ∷ CreateQueue ∷ Enqueue ∷ Dequeue ∷ []

abbrev pub verb_among : List Verb → List ℕ → Option Verb
verb_among [] word = None
verb_among (verb ∷ verbs) word = if bytes_eq word (verb_word verb) then Some verb else verb_among verbs word

abbrev pub verb_named : List ℕ → Option Verb
verb_named word = verb_among verbs word

-- Reading the words behind a verb, from left to right

pub record Given : Type 0 where
  pub key : Key
  pub value : Value

pub data Scan : Type 0 where
  Misfit : ℕ → Scan  -- the column of the first word that does not fit
  Missing : Scan  -- all words fit, and one is missing
  Spelt : List Value → List Given → Scan

abbrev pub with_value : Value → Scan → Scan
with_value v (Misfit column) = Misfit column
with_value v Missing = Missing
with_value v (Spelt values given) = Spelt (v ∷ values) given

abbrev pub with_given : Given → Scan → Scan
with_given g (Misfit column) = Misfit column
with_given g Missing = Missing
with_given g (Spelt values given) = Spelt values (g ∷ given)

-- the key of that name among the rows
abbrev pub key_among : List KeyRow → List ℕ → Option KeyRow
key_among [] name = None
key_among (row ∷ rows) name = if bytes_eq name (key_word row.key) then Some row else key_among rows name

-- keys are one where they are spelt alike
abbrev pub is_same_key : Key → Key → Bool
is_same_key one other = bytes_eq (key_word one) (key_word other)

-- the rows without that key, which may be given only once
abbrev pub rows_without : Key → List KeyRow → List KeyRow
rows_without key [] = []
rows_without key (row ∷ rows) = if is_same_key key row.key then rows_without key rows else row ∷ rows_without key rows

abbrev pub given_of : Option KeyRow → List ℕ → Option Given
given_of None text = None
given_of (Some row) text = option_map (λ v. record { key = row.key; value = v }) (value_of row.kind text)

-- what a keyed word gives: a key that is still to be had, an equals sign and a value of the key's kind
abbrev pub keyed_value : List KeyRow → List ℕ → Option Given
keyed_value rows word = if list_any (λ b. b == 61) word then given_of (key_among rows (before_first (λ b. b == 61) word)) (after_first (λ b. b == 61) word) else None

abbrev pub after_key : Option Given → ℕ → (Key → Scan) → Scan
after_key None column rest = Misfit column
after_key (Some g) column rest = with_given g (rest g.key)

-- the keyed words; the rows are of the keys that may still be given
abbrev pub scan_keyed : List KeyRow → List Word → Scan
scan_keyed rows [] = if list_any (λ (row : KeyRow). row.required) rows then Missing else Spelt [] []
scan_keyed rows (w ∷ words) = after_key (keyed_value rows w.bytes) w.column (λ key. scan_keyed (rows_without key rows) words)

abbrev pub after_value : Option Value → ℕ → Scan → Scan
after_value None column rest = Misfit column
after_value (Some v) column rest = with_value v rest

-- the positional words, and then the keyed ones
abbrev pub scan : List Kind → List KeyRow → List Word → Scan
scan [] rows words = scan_keyed rows words
scan (kind ∷ positional) rows [] = Missing
scan (kind ∷ positional) rows (w ∷ words) = after_value (value_of kind w.bytes) w.column (scan positional rows words)

-- Requests

-- the value that was given with a key
abbrev pub value_given : Key → List Given → Option Value
value_given key [] = None
value_given key (g ∷ given) = if is_same_key key g.key then Some g.value else value_given key given

-- What stands in the value of a key: None where it is of another kind, and where nothing was given, unless the key may be left out.

abbrev pub number_in : Option Value → Option ℕ
number_in (Some (Number n)) = Some n
number_in _ = None

abbrev pub optional_number_in : Option Value → Option (Option ℕ)
optional_number_in None = Some None
optional_number_in (Some (Number n)) = Some (Some n)
optional_number_in _ = None

abbrev pub error_in : Option Value → Option (Option (List ℕ))
error_in (Some (ErrorName name)) = Some name
error_in _ = None

abbrev pub text_in : Option Value → Option (List ℕ)
text_in (Some (Text bytes)) = Some bytes
text_in _ = None

abbrev pub flags_in : Option Value → Option (List Flag)
flags_in None = Some []
flags_in (Some (Flags flags)) = Some flags
flags_in _ = None

-- whether a key is given that takes no other value
abbrev pub yes_in : Option Value → Option Bool
yes_in None = Some false
yes_in (Some Yes) = Some true
yes_in _ = None

-- what is made of a value that may be missing
abbrev pub and_then : {X Y : Type 0} → Option X → (X → Option Y) → Option Y
and_then None rest = None
and_then (Some x) rest = rest x

abbrev pub number_given : Key → List Given → Option ℕ
number_given key given = number_in (value_given key given)

abbrev pub space_creation : List ℕ → List Given → Option SpaceCreation
space_creation name given =
    and_then (number_given keys.Dev given) (λ dev.
    and_then (number_given keys.Pages given) (λ pages.
    and_then (number_given keys.Queues given) (λ queues.
    and_then (number_given keys.Transactions given) (λ transactions.
    and_then (number_given keys.Messages given) (λ messages.
    and_then (error_in (value_given keys.Error given)) (λ error.
    and_then (number_given keys.Memory given) (λ memory.
    Some (record {
      name = name;
      dev = dev;
      pages = pages;
      queues = queues;
      transactions = transactions;
      messages = messages;
      error = error;
      memory = memory;
    }))))))))

abbrev pub space_removal : List ℕ → List Given → Option SpaceRemoval
space_removal space given = option_map (λ force. record { space = space; force = force }) (yes_in (value_given keys.Force given))

abbrev pub enqueue_words : List ℕ → List ℕ → List Given → Option EnqueueWords
enqueue_words space queue given =
    and_then (flags_in (value_given keys.Flags given)) (λ flags.
    and_then (text_in (value_given keys.Data given)) (λ body.
    Some (record { space = space; queue = queue; flags = flags; body = body })))

abbrev pub dequeue_words : List ℕ → List ℕ → List Given → Option DequeueWords
dequeue_words space queue given =
    option_map (λ flags. record { space = space; queue = queue; flags = flags }) (flags_in (value_given keys.Flags given))

abbrev pub device_creation : ℕ → ℕ → List Given → Option Creation
device_creation dev clusters given =
    option_map (λ site. record { dev = dev; clusters = clusters; site = site }) (optional_number_in (value_given keys.Site given))

-- what a verb with these words asks for, and None where they are not of its row
abbrev pub request_of : Verb → List Value → List Given → Option Request
request_of Boot [] given = Some BootAsked
request_of CreateDevice (Number dev ∷ Number clusters ∷ []) given = option_map (λ creation. Device (Create creation)) (device_creation dev clusters given)
request_of EraseDevice (Number dev ∷ []) given = Some (Device (Erase dev))
request_of ListDevice (Number dev ∷ []) given = Some (Device (ListOf dev))
request_of CreateSpace (Name name ∷ []) given = option_map (λ creation. Space (space_requests.Create creation)) (space_creation name given)
request_of RemoveSpace (Name space ∷ []) given = option_map (λ removal. Space (space_requests.Remove removal)) (space_removal space given)
request_of CreateQueue (Name space ∷ Name queue ∷ []) given = Some (Space (space_requests.CreateQueue (record { space = space; queue = queue })))
request_of Enqueue (Number session ∷ Name space ∷ Name queue ∷ []) given = option_map (λ words. Call (call_requests.Enqueue session words)) (enqueue_words space queue given)
request_of Dequeue (Number session ∷ Name space ∷ Name queue ∷ []) given = option_map (λ words. Call (call_requests.Dequeue session words)) (dequeue_words space queue given)
request_of verb values given = None

-- the column behind a line of that length is where a missing word should begin
abbrev pub scanned : ℕ → Verb → Scan → Request
scanned size verb (Misfit column) = Bad column
scanned size verb Missing = Bad (size + 1)
scanned size verb (Spelt values given) = unwrap_or (request_of verb values given) (Bad (size + 1))

abbrev pub verb_request : ℕ → ℕ → Option Verb → List Word → Request
verb_request size column None words = Bad column
verb_request size column (Some verb) words = scanned size verb (scan (row_of verb).positional (row_of verb).keyed words)

abbrev pub words_request : ℕ → List Word → Request
words_request size [] = Nothing
words_request size (w ∷ words) = if get_or w.bytes 0 0 == 35 then Nothing else verb_request size w.column (verb_named w.bytes) words

-- the most bytes of a line, its end left out
abbrev pub longest_line : ℕ
longest_line = 262144

abbrev pub line_request : List ℕ → Request
line_request line = if nat_lt longest_line (length line) then TooLong else words_request (length line) (line_words line)

-- what a script asks for, line by line
abbrev pub script_requests : List ℕ → List Request
script_requests script = map line_request (script_lines script)
