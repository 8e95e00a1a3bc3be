-- Where one of two paths ends.
use Rattle.std.proofs.Common.{◌≡◌, ◌<◌, ◌≤◌, ℕ, List, length, drop, Less, Greater, refl}
use Rattle.std.proofs.Math.Seq.{drop-cons}
use Rattle.std.proofs.lemmas.List.{drop_all}
use Rattle.tq_types.specs.Label.{path_cmp}
use Rattle.tq_types.specs.Path.{unset}
use Rattle.tq_types.specs.declared.identifiers.Arrival.{Arrival}

pub goes_on : (a b : List Arrival) (at : ℕ) → at < length a → length b ≤ at → path_cmp (drop at a) (drop at b) ≡ Less
goes_on a b at in_a past_b = rw (drop-cons a at unset in_a, drop_all at b) refl

pub ends : (a b : List Arrival) (at : ℕ) → length a ≤ at → at < length b → path_cmp (drop at a) (drop at b) ≡ Greater
ends a b at past_a in_b = rw (drop-cons b at unset in_b, drop_all at a) refl
