use Rattle.std.proofs.Common.{◌≡◌, ⊎_elim, inl, inr, ℕ, ◌+◌, ◌<◌, List, length, get_or, ap, ◌∙◌, arith}
use Rattle.tq_devtab.specs.Table.{entry_view}
use Rattle.tq_devtab.proofs.SpellingLemmas.{beside_entry, kept_number}
use Rattle.tq_devtab.proofs.encoding.set_space.Goals as goal

pub returns-clause-spelt : goal.returns-clause-spelt
returns-clause-spelt c =
    let at = c.args.at in
    let short = c.as_bytes-name.ensures.name.most in
    let same = ap (λ (l : List ℕ). length l) c.as_bytes-name.ensures.bytes in
    let here : at ≡ at + 0 = omega arith in
    let low : (i : ℕ) → i < at + 132 → get_or c.set_number-3.new.bytes i 0 ≡ get_or c.set_run-2.new.bytes i 0 =
    λ i lt. c.set_number-3.ensures.outside i (inl (omega arith)) ∙ c.set_number-2.ensures.outside i (inl (omega arith))
    ∙ c.set_number.ensures.outside i (inl lt) in
    record {
      used =
          low at (omega arith) ∙ c.set_run-2.ensures.outside at (inl (omega arith)) ∙ ap (λ k. get_or c.set_run.new.bytes k 0) here
          ∙ c.set_run.ensures.stands 0 (omega arith);
      size = low (at + 1) (omega arith) ∙ c.set_run-2.ensures.outside (at + 1) (inl (omega arith)) ∙ c.set_run.ensures.stands 1 (omega arith) ∙ same;
      name =
          λ i lt. low (at + 2 + i) (omega arith) ∙ c.set_run-2.ensures.stands i (omega arith)
          ∙ ap (λ (l : List ℕ). get_or l i 0) c.as_bytes-name.ensures.bytes;
      ordinal =
          kept_number (at + 140) 4 (at + 132) 4 c.set_number-2.new.bytes c.set_number-3.new.bytes (omega arith) c.set_number-3.ensures.outside
          (inl (omega arith))
          ∙ kept_number (at + 136) 4 (at + 132) 4 c.set_number.new.bytes c.set_number-2.new.bytes (omega arith) c.set_number-2.ensures.outside
          (inl (omega arith))
          ∙ c.set_number.ensures.number;
      pages =
          kept_number (at + 140) 4 (at + 136) 4 c.set_number-2.new.bytes c.set_number-3.new.bytes (omega arith) c.set_number-3.ensures.outside
          (inl (omega arith))
          ∙ c.set_number-2.ensures.number;
      extents = c.set_number-3.ensures.number ∙ ap length c.as_slice.ensures;
    }

pub returns-clause-between : goal.returns-clause-between
returns-clause-between c = λ i lt none.
    let at = c.args.at in
    let k = at + i in
    let apart = beside_entry (entry_view c.args.space.now) i none in
    let same = ap (λ (l : List ℕ). length l) c.as_bytes-name.ensures.bytes in
    let behind = apart.0 in
    c.set_number-3.ensures.outside k (⊎_elim (λ before. inl (omega arith)) (λ past. inr (omega arith)) apart.1)
    ∙ c.set_number-2.ensures.outside k (⊎_elim (λ before. inl (omega arith)) (λ past. inr (omega arith)) apart.1)
    ∙ c.set_number.ensures.outside k (⊎_elim (λ before. inl (omega arith)) (λ past. inr (omega arith)) apart.1)
    ∙ c.set_run-2.ensures.outside k (inr (omega arith))
    ∙ c.set_run.ensures.outside k (inr (omega arith))
