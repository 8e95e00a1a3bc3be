-- Where nothing is pending on a device, each image that a stop may leave is what is read.
use Rattle.std.proofs.Common.{ℕ, List, sym, subst}
use Rattle.tq_host.specs.View.{Told, View, IsLawful, IsSettled}

-- where a device is settled, each image has what is read
pub settled_images : {tells : Told} (dev : ℕ) (P : List ℕ → Type 0) (v : View) → IsLawful tells v → IsSettled dev v → (tells.reads → P (v.reads dev))
    → (c : List ℕ) → v.may_leave dev c → P c
settled_images dev P v lawful settled done c may = subst P (sym (settled c may)) (done (lawful.reads_told (lawful.stops_told dev c may)))

-- what is read is one of the images
pub read_image : {tells : Told} (dev : ℕ) (P : List ℕ → Type 0) (v : View) → IsLawful tells v → tells.reads → ((c : List ℕ) → v.may_leave dev c → P c)
    → P (v.reads dev)
read_image dev P v lawful t on = on (v.reads dev) (lawful.reads_an_image (lawful.stops_too t) dev)
