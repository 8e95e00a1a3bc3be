-- What calls leave alone beside the devices that the words name.
use Rattle.std.proofs.Common.{◌≢◌, inl, inr, ⊎_elim, ◌≤◌, ℕ, List, Option, refl, ◌∙◌, ap, arith}
use Rattle.tq_host.specs.View.{Told, View, IsLawful}
use Rattle.tq_host.specs.Within.{KeepsRest, Within}
use Rattle.tq_coord.specs.Frame.{LeavesOthers, device_count}

not_first : (d : ℕ) → device_count ≤ d → d ≢ 0
not_first d le e = absurd (omega (arith, le, e))

-- where nothing is done
pub others_here : (v : View) → LeavesOthers v v
others_here v = record { later = omega arith; reads = λ d le. refl; attached = λ d le. refl; images = λ d c le may. may; pictures = λ t p le left. inl left }

-- two parts in a row
pub others_on : (a b c : View) → LeavesOthers a b → LeavesOthers b c → LeavesOthers a c
others_on a b c first second = record {
  later = omega (arith, first.later, second.later);
  reads = λ d le. second.reads d le ∙ first.reads d le;
  attached = λ d le. second.attached d le ∙ first.attached d le;
  images = λ d image le may. first.images d image le (second.images d image le may);
  pictures = λ t p le left. ⊎_elim (λ before. first.pictures t p le before)
      (λ here. inr (λ d beside. first.images d (p.images d) beside (here d beside))) (second.pictures t p (omega (arith, le, first.later)) left);
}

-- a call on device 0
pub others_of_call : (S : List ℕ → List ℕ → Type 0) (Q : List ℕ → Type 0) (a b : View) → Within 0 S Q a b → KeepsRest 0 a b → LeavesOthers a b
others_of_call S Q a b call rest = record {
  later = call.later;
  reads = λ d le. call.others_read d (not_first d le);
  attached = λ d le. ap (λ (f : ℕ → Option (List ℕ)). f d) rest.attached;
  images = λ d c le may. call.others d c (not_first d le) may;
  pictures = λ t p le left. ⊎_elim (λ before. inl before) (λ here. inr (λ d beside. here.others d (not_first d beside))) (call.pictures t p le left);
}

-- a host that tells no images has none to show
pub others_told : {tells : Told} (a b : View) → IsLawful tells b → KeepsRest 0 a b → (tells.stops → LeavesOthers a b) → LeavesOthers a b
others_told a b lawful rest told = record {
  later = rest.later;
  reads = λ d le. rest.others_read d (not_first d le);
  attached = λ d le. ap (λ (f : ℕ → Option (List ℕ)). f d) rest.attached;
  images = λ d c le may. (told (lawful.stops_told d c may)).images d c le may;
  pictures = λ t p le left. (told (lawful.left_told t p left)).pictures t p le left;
}
