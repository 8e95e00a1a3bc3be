use Rattle.std.proofs.Common.{◌≡◌, ◌<◌, inl, ℕ, ◌+◌, List, length, get_or, ◌∙◌, arith}
use Rattle.std.specs.Prelude.{codes, slice_set}
use Rattle.std.proofs.lemmas.List.{get_or-set_other, get_or-set_same}
use Rattle.tq_field.specs.Places.{number_at}
use Rattle.tq_host.specs.Calls.{IsSameOutside}
use Rattle.tq_devtab.specs.Made.{IsHeaderStart}
use Rattle.tq_devtab.proofs.SameByteLemmas.{same_runs, same_numbers}
use Rattle.tq_devtab.proofs.pages.header_start.Goals as goal

-- the mark, then the device, then the two numbers
written : (place site clusters : ℕ) (a b c : List ℕ) → length a ≡ 20 → ((i : ℕ) → get_or a i 0 ≡ get_or (codes "TQDEV001") i 0)
    → length b ≡ 20 → number_at 12 4 b ≡ site → IsSameOutside 12 4 (slice_set a 8 place) b
    → length c ≡ 20 → number_at 16 4 c ≡ clusters → IsSameOutside 16 4 b c → IsHeaderStart place site clusters c
written place site clusters a b c size_a start size_b site_is outside_b size_c clusters_are outside_c =
    let front = λ (i : ℕ) (lt : i < 12). outside_c i (inl (omega arith)) ∙ outside_b i (inl lt) in
    record {
      size = size_c;
      mark = same_runs 0 0 8 c (codes "TQDEV001") (omega arith) (omega arith) (λ j lt.
          front (0 + j) (omega arith) ∙ get_or-set_other a 8 (0 + j) place 0 (omega arith) ∙ start (0 + j));
      device = front 8 (omega arith) ∙ get_or-set_same a 8 place 0 (omega arith);
      site_is = same_numbers 12 12 4 c b (omega arith) (omega arith) (λ j lt. outside_c (12 + j) (inl (omega arith))) ∙ site_is;
      clusters_are = clusters_are;
    }

pub returns : goal.returns
returns c =
    written c.args.dev c.args.site c.args.clusters c.padded-start.result c.set_number.new.bytes c.set_number-2.new.bytes (omega arith) c.padded-start.ensures
    (omega arith) c.set_number.ensures.number c.set_number.ensures.outside (omega arith) c.set_number-2.ensures.number c.set_number-2.ensures.outside
