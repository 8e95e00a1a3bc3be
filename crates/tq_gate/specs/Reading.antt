-- What a gated log reads as, by the bytes of its owner.
use Rattle.std.specs.Prelude.{◌≡◌, ◌<◌, ◌≤◌, ℕ, ◌+◌, nat_le, if◌then◌else◌, Option, None, List, [], ◌∷◌, length, get_or}
use Rattle.std.specs.Option.{option_map}
use Rattle.tq_field.specs.Places.{run_at, number_at}
use Rattle.tq_field.specs.GatedLog.{log_reading, end_of}
use Rattle.tq_gate.specs.declared.layout.Layout.{Layout}
use Rattle.tq_gate.specs.declared.layout.Areas.{Areas}
use Rattle.tq_gate.specs.declared.layout.Areas.TheVariants.{One, Two}
use Rattle.tq_gate.specs.Layout.{bytes_in, first_area, base_length, log_length, area_by, layout_end}

-- a payload stands behind an open gate at place p of a log, and a further byte behind it
pub record IsRecord (log : List ℕ) (p : ℕ) (payload : List ℕ) : Type 0 where
  pub gate : get_or log p 0 ≡ 79
  pub number : number_at (p + 1) 4 log ≡ length payload
  pub run : run_at (p + 5) (length payload) log ≡ payload
  pub fits : p + 6 + length payload ≤ length log

-- these payloads stand from place p on
abbrev pub AreRecords : List ℕ → ℕ → List (List ℕ) → Type 0
AreRecords log p [] = Unit {0}
AreRecords log p (payload ∷ payloads) = IsRecord log p payload × AreRecords log (p + (5 + length payload)) payloads

-- Behind some payloads stands an open gate at place p, and the log ends before its payload and the gate behind that do.
pub record IsDamagedAt (log : List ℕ) (p : ℕ) : Type 0 where
  pub before : List (List ℕ)
  pub records : AreRecords log 0 before
  pub ends : p ≡ end_of before
  pub gate : get_or log p 0 ≡ 79
  pub past : length log < p + 6 + number_at (p + 1) 4 log

-- a base and the payloads of its log
pub record Content : Type 0 where
  pub base : List ℕ
  pub payloads : List (List ℕ)

-- the byte at which the chosen area begins
abbrev pub chosen : Layout → Areas → List ℕ → ℕ
chosen layout One bytes = first_area layout
chosen layout (Two selector) bytes = area_by layout (get_or bytes selector 0)

abbrev pub area_of : Layout → List ℕ → ℕ
area_of layout bytes = chosen layout layout.areas bytes

-- the base of the area that begins at this byte, and its log
abbrev pub base_in : Layout → ℕ → List ℕ → List ℕ
base_in layout area bytes = run_at area (base_length layout) bytes

abbrev pub log_in : Layout → ℕ → List ℕ → List ℕ
log_in layout area bytes = run_at (area + base_length layout) (log_length layout) bytes

-- The content that an owner has there; none where its bytes are too few, or where its log has no reading.
abbrev pub content : Layout → List ℕ → Option Content
content layout bytes =
    if nat_le (layout_end layout) (length bytes)
    then option_map (λ payloads. record { base = base_in layout (area_of layout bytes) bytes; payloads = payloads }) (log_reading (log_in layout (area_of layout bytes) bytes))
    else None

-- the content in an image of the device
abbrev pub content_on : Layout → List ℕ → Option Content
content_on layout image = content layout (bytes_in layout image)
