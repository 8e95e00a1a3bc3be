-- What an image of device 0 says outside its spaces' own pages.
use Rattle.std.specs.Prelude.{◌≡◌, ◌≤◌, ℕ, true, List, length}
use Rattle.tq_model.specs.Reading.{DevicePart, device_part, device_tests, hold_all}

-- An image of device 0 that is not blank has these parts outside its spaces' own pages.
pub record IsPart (d : DevicePart) (image : List ℕ) : Type 0 where
  pub size : 131072 ≤ length image
  pub tests : hold_all (device_tests 0 image) ≡ true
  pub part : device_part 0 image ≡ d
