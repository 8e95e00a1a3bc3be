-- What a call on one device does, and one on all devices, seen at each moment of it.
use Rattle.std.specs.Prelude.{◌≡◌, ◌≢◌, ◌⊎◌, ◌≤◌, ℕ, List}
use Rattle.tq_host.specs.View.{View, Picture, Images, AreNow}

-- a call on one device leaves the rest of the outside, and the paths that the devices are attached by
pub record KeepsRest (dev : ℕ) (old new : View) : Type 0 where
  pub later : old.clock ≤ new.clock
  pub streams : new.streams ≡ old.streams
  pub others_read : (d : ℕ) → d ≢ dev → new.reads d ≡ old.reads d
  pub attached : new.attached ≡ old.attached

-- an image that has Q, and is one from the start of the call but for a step S
pub record Came (dev : ℕ) (S : List ℕ → List ℕ → Type 0) (Q : List ℕ → Type 0) (start : View) (c : List ℕ) : Type 0 where
  pub image : List ℕ
  pub was : start.may_leave dev image
  pub step : S image c
  pub now : Q c

-- a picture of a call on one device
pub record IsOfCall (dev : ℕ) (S : List ℕ → List ℕ → Type 0) (Q : List ℕ → Type 0) (start : View) (p : Picture) : Type 0 where
  pub own : Came dev S Q start (p.images dev)
  pub others : (d : ℕ) → d ≢ dev → start.may_leave d (p.images d)
  pub output : p.output ≡ start.streams.output

-- From start to now a call on one device: in each picture of it, and now, the device has Q and differs by S from ONE
-- image at the start. The other devices, the input and the output are as they were.
pub record Within (dev : ℕ) (S : List ℕ → List ℕ → Type 0) (Q : List ℕ → Type 0) (start now : View) : Type 0 where
  pub later : start.clock ≤ now.clock
  pub own : (c : List ℕ) → now.may_leave dev c → Came dev S Q start c
  pub others : (d : ℕ) (c : List ℕ) → d ≢ dev → now.may_leave d c → start.may_leave d c
  pub others_read : (d : ℕ) → d ≢ dev → now.reads d ≡ start.reads d
  pub streams : now.streams ≡ start.streams
  pub pictures : (t : ℕ) (p : Picture) → t ≤ start.clock → now.left_since t p → start.left_since t p ⊎ IsOfCall dev S Q start p

-- from start to now a run: each picture of it has P
pub record Ran (P : Picture → Type 0) (start now : View) : Type 0 where
  pub later : start.clock ≤ now.clock
  pub pictures : (t : ℕ) (p : Picture) → t ≤ start.clock → now.left_since t p → start.left_since t p ⊎ P p

-- a call on devices leaves the streams, and the paths that the devices are attached by
pub record KeepsBeside (old new : View) : Type 0 where
  pub later : old.clock ≤ new.clock
  pub streams : new.streams ≡ old.streams
  pub attached : new.attached ≡ old.attached

-- a picture whose images, of all devices at once, have P
pub record IsOfAll (P : Images → Type 0) (start : View) (p : Picture) : Type 0 where
  pub images : P p.images
  pub output : p.output ≡ start.streams.output

-- From start to now: in each picture of it, and now, the images of all devices at once have P. The input and the output are
-- as they were.
pub record WithinAll (P : Images → Type 0) (start now : View) : Type 0 where
  pub later : start.clock ≤ now.clock
  pub images : (images : Images) → AreNow now images → P images
  pub streams : now.streams ≡ start.streams
  pub pictures : (t : ℕ) (p : Picture) → t ≤ start.clock → now.left_since t p → start.left_since t p ⊎ IsOfAll P start p
