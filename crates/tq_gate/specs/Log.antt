-- A gated log that is open.
use Rattle.std.specs.Prelude.{◌≡◌, ◌⊎◌, ◌≤◌, ◌<◌, ◌≢◌, ℕ, true, ◌+◌, ◌-◌, Some, List, [], ◌∷◌, ◌++◌, length, get_or}
use Rattle.std.specs.Option.{option_map}
use Rattle.tq_host.specs.View.{View}
use Rattle.tq_host.specs.Calls.{HasBytesAt, IsSameBut}
use Rattle.tq_field.specs.Digits.{digits}
use Rattle.tq_field.specs.GatedLog.{end_of}
use Rattle.tq_extent.specs.Bytes.{OnBytes, reaches}
use Rattle.tq_gate.specs.declared.log.GateLog.{GateLog}
use Rattle.tq_gate.specs.declared.layout.Layout.{Layout}
use Rattle.tq_gate.specs.Layout.{clusters_of, bytes_in, first_area, areas_end, log_length, log_place, other_area, IsSelector}
use Rattle.tq_gate.specs.Reading.{Content, content, content_on, area_of, base_in, log_in}

-- An owner's bytes have this content, in the area that begins at that byte; its payloads end there.
pub record IsOpen (layout : Layout) (area end : ℕ) (k : Content) (bytes : List ℕ) : Type 0 where
  pub reads : content layout bytes ≡ Some k
  pub area_is : area ≡ area_of layout bytes
  pub end_is : end ≡ end_of k.payloads

-- An image reaches to the end of the owner's clusters and has this content there, and the log in memory is that of the image.
pub record IsLog (log : GateLog) (k : Content) (image : List ℕ) : Type 0 where
  pub reach : reaches (clusters_of log.layout) image ≡ true
  pub is : IsOpen log.layout log.area log.end k (bytes_in log.layout image)

-- each image that a stop may leave has this content, and the log in memory is that of the image
abbrev pub AreLog : GateLog → Content → View → Type 0
AreLog log k v = (image : List ℕ) → v.may_leave log.layout.dev image → IsLog log k image

-- the content with one payload more
abbrev pub added : Content → List ℕ → Content
added k payload = record k { payloads = k.payloads ++ payload ∷ [] }

-- the content of a base alone
abbrev pub replaced : List ℕ → Content
replaced base = record { base = base; payloads = [] }

abbrev pub layout_of : GateLog → Layout
layout_of log = log.layout

-- the bytes of the log behind its payloads
abbrev pub free_in : GateLog → ℕ
free_in log = log_length log.layout - log.end

-- nothing is changed
pub record IsSameLog (old new : GateLog) : Type 0 where
  pub layout : new.layout ≡ old.layout
  pub area : new.area ≡ old.area
  pub end : new.end ≡ old.end

-- a payload of so many bytes fits: its gate, its length, itself and a closed gate
abbrev pub FitsIn : GateLog → ℕ → Type 0
FitsIn log n = log.end + 6 + n ≤ log_length log.layout

-- Frames

-- an owner's bytes are the same outside the log of that area
abbrev pub IsSameButIn : Layout → ℕ → List ℕ → List ℕ → Type 0
IsSameButIn layout area old new = IsSameBut (log_place layout area 0) (log_length layout) old new

-- an image is the same outside the log
abbrev pub IsSameButLog : GateLog → List ℕ → List ℕ → Type 0
IsSameButLog log old new = OnBytes (clusters_of log.layout) (IsSameButIn log.layout log.area) old new

-- an owner's bytes are the same outside the areas and the selector
pub record IsSameBeside (layout : Layout) (old new : List ℕ) : Type 0 where
  pub outside : (i : ℕ) → (i < first_area layout) ⊎ (areas_end layout ≤ i) → (IsSelector layout.areas i → ⊥) → get_or new i 0 ≡ get_or old i 0
  pub size : length new ≡ length old

-- an image is the same outside the areas and the selector
abbrev pub IsSameButAreas : GateLog → List ℕ → List ℕ → Type 0
IsSameButAreas log old new = OnBytes (clusters_of log.layout) (IsSameBeside log.layout) old new

-- Within a call

-- The content and the closed gate, and behind that a payload with its length and a closed gate.
pub record IsStagedIn (layout : Layout) (area end : ℕ) (k : Content) (payload bytes : List ℕ) : Type 0 where
  pub fits : end + 6 + length payload ≤ log_length layout
  pub is : IsOpen layout area end k bytes
  pub number : HasBytesAt (log_place layout area (end + 1)) (digits 4 (length payload)) bytes
  pub run : HasBytesAt (log_place layout area (end + 5)) payload bytes
  pub shut : get_or bytes (log_place layout area (end + 5 + length payload)) 0 ≡ 0

pub record IsStaged (log : GateLog) (k : Content) (payload image : List ℕ) : Type 0 where
  pub reach : reaches (clusters_of log.layout) image ≡ true
  pub is : IsStagedIn log.layout log.area log.end k payload (bytes_in log.layout image)

-- each image that a stop may leave has a payload staged, and outside the log the bytes of this one
abbrev pub AreStagedOver : GateLog → Content → List ℕ → List ℕ → View → Type 0
AreStagedOver log k payload read v = (image : List ℕ) → v.may_leave log.layout.dev image → IsStaged log k payload image × IsSameButLog log read image

-- The content, and in the other area this base with a closed gate behind it.
pub record IsFilledIn (layout : Layout) (area end : ℕ) (k : Content) (base bytes : List ℕ) : Type 0 where
  pub is : IsOpen layout area end k bytes
  pub base_is : base_in layout (other_area layout area) bytes ≡ base
  pub shut : get_or (log_in layout (other_area layout area) bytes) 0 0 ≢ 79

pub record IsFilled (log : GateLog) (k : Content) (base image : List ℕ) : Type 0 where
  pub reach : reaches (clusters_of log.layout) image ≡ true
  pub is : IsFilledIn log.layout log.area log.end k base (bytes_in log.layout image)

-- each image that a stop may leave has the other area filled, and outside the areas the bytes of this one
abbrev pub AreFilledOver : GateLog → Content → List ℕ → List ℕ → View → Type 0
AreFilledOver log k base read v = (image : List ℕ) → v.may_leave log.layout.dev image → IsFilled log k base image × IsSameButAreas log read image

-- An image with some content, and the log in memory is that of the image.
pub record HasLog (log : GateLog) (image : List ℕ) : Type 0 where
  pub holds : Content
  pub is : IsLog log holds image

-- each image that a stop may leave has some content, and the log in memory is that of the image
abbrev pub HaveLog : GateLog → View → Type 0
HaveLog log v = (image : List ℕ) → v.may_leave log.layout.dev image → HasLog log image

-- The image comes by this step from one that a stop might leave before; both have the same content, and the log in memory is theirs.
pub record IsKeptLog (log : GateLog) (S : List ℕ → List ℕ → Type 0) (before : View) (image : List ℕ) : Type 0 where
  pub was : List ℕ
  pub left : before.may_leave log.layout.dev was
  pub outside : S was image
  pub holds : Content
  pub old : IsLog log holds was
  pub now : IsLog log holds image

-- Beside the log this image's bytes, in the log this content, or that with the payload more.
abbrev pub IsOpening : GateLog → Content → List ℕ → List ℕ → List ℕ → Type 0
IsOpening log k payload read image = IsSameButLog log read image × ((content_on log.layout image ≡ Some k) ⊎ (content_on log.layout image ≡ Some (added k payload)))

-- Beside the areas this image's bytes, in them this content, or the base alone.
abbrev pub IsChoosing : GateLog → Content → List ℕ → List ℕ → List ℕ → Type 0
IsChoosing log k base read image = IsSameButAreas log read image × ((content_on log.layout image ≡ Some k) ⊎ (content_on log.layout image ≡ Some (replaced base)))

-- Pictures

-- The image has the content of one that a stop might leave before, from which it comes by this step.
pub record IsAsLeft (log : GateLog) (S : List ℕ → List ℕ → Type 0) (before : View) (image : List ℕ) : Type 0 where
  pub was : List ℕ
  pub left : before.may_leave log.layout.dev was
  pub outside : S was image
  pub reads : content_on log.layout image ≡ content_on log.layout was

-- The image has the content of this one with a payload more, and differs from it in the log alone.
pub record HasAdded (log : GateLog) (payload read image : List ℕ) : Type 0 where
  pub outside : IsSameButLog log read image
  pub reads : content_on log.layout image ≡ option_map (λ k. added k payload) (content_on log.layout read)

-- The image has the base alone, and differs from this one in the areas and the selector alone.
pub record HasReplaced (log : GateLog) (base read image : List ℕ) : Type 0 where
  pub outside : IsSameButAreas log read image
  pub reads : content_on log.layout image ≡ Some (replaced base)

-- An old content, or that of what was read with the payload more.
abbrev pub IsOldOrNew : GateLog → View → List ℕ → List ℕ → Type 0
IsOldOrNew log before payload image = IsAsLeft log (IsSameButLog log) before image ⊎ HasAdded log payload (before.reads log.layout.dev) image

-- An old content, or the base alone.
abbrev pub IsOldOrReplaced : GateLog → View → List ℕ → List ℕ → Type 0
IsOldOrReplaced log before base image = IsAsLeft log (IsSameButAreas log) before image ⊎ HasReplaced log base (before.reads log.layout.dev) image
