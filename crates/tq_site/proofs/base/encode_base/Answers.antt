use Rattle.std.proofs.Common.{◌≡◌, ◌<◌, ◌≤◌, inl, inr, ℕ, ◌+◌, ◌-◌, List, [], ◌++◌, length, get_or, drop, Some, None, Result, Ok, Err, ◌∙◌, ap, arith}
use Rattle.std.specs.Prelude.{◌==◌, codes, replicate, if◌then◌else◌, nat_le, OnOk, OnErr}
use Rattle.std.proofs.lemmas.Bool.{cases_lt}
use Rattle.std.proofs.lemmas.List.{get_or-append_right, get_or-drop, get_or-replicate, get_or_past, length-append, length-drop, length-replicate}
use Rattle.std.specs.Str.{bytes_eq}
use Rattle.tq_field.specs.Places.{run_at, number_at, with_number}
use Rattle.tq_field.proofs.Runs.{length-with_number, run_at-with_number_below, get_or-with_number_above}
use Rattle.tq_model.specs.DeviceForm.{decision_at}
use Rattle.tq_site.specs.Base.{SaysEpoch}
use Rattle.tq_site.proofs.base.encode_base.Goals as goal

-- what stands where there is room for it
placed : {T E : Type 0} (r : Result T E) {P Q : Type 0} → OnOk r P → OnErr r Q → (Q → ⊥) → P
placed (Ok t) stands short room = stands
placed (Err e) stands short room = absurd (room short)

zeros_at : (n i : ℕ) → get_or (replicate {A = ℕ} n 0) i 0 ≡ 0
zeros_at n i = elim (cases_lt i n) [
  | inl within ↦ get_or-replicate n i 0 0 within
  | inr past ↦ get_or_past (replicate {A = ℕ} n 0) i 0 (let size = length-replicate {A = ℕ} n 0 in omega (arith, size))
]

-- a mark, and zeros behind it
module _ (n : ℕ) (head filled : List ℕ) (size : n ≡ 1024) (mark : head ≡ codes "TQSJ") (zero : filled ≡ replicate n 0) where
  long : length (head ++ drop 4 filled) ≡ 1024
  long = omega (arith, length-append head (drop 4 filled), length-drop 4 filled, ap length zero, ap length mark, length-replicate {A = ℕ} n 0, size)

  -- with this epoch
  module _ (epoch : ℕ) (new : List ℕ) (written : new ≡ with_number 4 4 epoch (head ++ drop 4 filled)) where
    behind : (i : ℕ) → 8 ≤ i → get_or new i 0 ≡ 0
    behind i le =
        ap (λ bytes. get_or bytes i 0) written
        ∙ get_or-with_number_above 4 4 epoch (head ++ drop 4 filled) i 0 (omega (arith, long)) le
        ∙ get_or-append_right head (drop 4 filled) 4 i 0 (ap length mark) (omega arith)
        ∙ get_or-drop 4 filled (i - 4) 0
        ∙ ap (λ bytes. get_or bytes (4 + (i - 4)) 0) zero
        ∙ zeros_at n (4 + (i - 4))

    marked : run_at 0 4 new ≡ codes "TQSJ"
    marked =
        ap (run_at 0 4) written
        ∙ run_at-with_number_below 0 4 4 4 epoch (head ++ drop 4 filled) (omega arith) (omega (arith, long))
        ∙ ap (λ bytes. run_at 0 4 (bytes ++ drop 4 filled)) mark

    says_epoch : number_at 4 4 new ≡ epoch → 1 ≤ epoch → SaysEpoch epoch new []
    says_epoch number some =
        let undecided = behind 8 (omega arith) in
        let decision = decision_at 12 new in
        record {
          is_base = record {
            size = ap length written ∙ length-with_number 4 4 epoch (head ++ drop 4 filled) (omega (arith, long)) ∙ long;
            mark = ap (λ bytes. bytes_eq bytes (codes "TQSJ")) marked;
            decided = ap (λ byte. nat_le byte 1) undecided;
          };
          says =
              ap (λ byte. Some (record { epoch = number_at 4 4 new; decision = if byte == 1 then Some decision else None })) undecided
              ∙ ap (λ k. Some (record { epoch = k; decision = None })) number;
          some = some;
        }

pub returns-clause-says : goal.returns-clause-says
returns-clause-says c =
    let n = length c.args.base.now in
    let filled = c.fill.ensures.after (λ y is. is) in
    let room : length (c.copy_from_slice.new.self ++ drop 4 c.fill.new.self) < 8 → ⊥ = λ short. let all = long n c.copy_from_slice.new.self c.fill.new.self c.requires.size c.copy_from_slice.ensures.after filled in omega (arith, short, all) in
    says_epoch n c.copy_from_slice.new.self c.fill.new.self c.requires.size c.copy_from_slice.ensures.after filled c.args.epoch c.put_u32-fits.new.bytes
    (placed c.put_u32-fits.result c.put_u32-fits.ensures.written c.put_u32-fits.ensures.short room) (placed c.put_u32-fits.result c.put_u32-fits.ensures.read_back c.put_u32-fits.ensures.short room) c.requires.some

pub returns-clause-zeros : goal.returns-clause-zeros
returns-clause-zeros c =
    let n = length c.args.base.now in
    let filled = c.fill.ensures.after (λ y is. is) in
    let room : length (c.copy_from_slice.new.self ++ drop 4 c.fill.new.self) < 8 → ⊥ = λ short. let all = long n c.copy_from_slice.new.self c.fill.new.self c.requires.size c.copy_from_slice.ensures.after filled in omega (arith, short, all) in
    behind n c.copy_from_slice.new.self c.fill.new.self c.requires.size c.copy_from_slice.ensures.after filled c.args.epoch c.put_u32-fits.new.bytes (placed c.put_u32-fits.result c.put_u32-fits.ensures.written c.put_u32-fits.ensures.short room)
