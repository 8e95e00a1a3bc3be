-- From what `byteorder` reads and writes to the numbers of this crate.
use Rattle.std.proofs.Common.{◌≡◌, ℕ, ◌+◌, ◌-◌, ◌^◌, ◌<◌, ◌≤◌, List, ◌++◌, length, take, drop, ap, ◌∙◌, arith}
use Rattle.std.proofs.lemmas.List.{append-nil, drop_all, drop-drop}
use Rattle.std.specs.Int.{bytes_high_first}
use Rattle.byteorder.specs.Endian.{big_from}
use borrow.Rule.Slice.PartMut.{put_mid}
use Rattle.tq_field.specs.Digits.{AreBytes, number_of, digits}
use Rattle.tq_field.specs.Places.{run_at, number_at, with_run, with_number}
use Rattle.tq_field.proofs.Numbers.{big_from-number_of, bytes_high_first-digits, digits-number_of_width, length-digits}
use Rattle.tq_field.proofs.Runs.{length-run_at, run_at-with_run, number_at-with_number, with_number-number_at}

-- what is read in a run is the number at its place
pub read-number_at : (at width x : ℕ) (bytes field : List ℕ) → at + width ≤ length bytes → field ≡ run_at at width bytes → x ≡ big_from 0 width field → x ≡ number_at at width bytes
read-number_at at width x bytes field within is_run read =
    read ∙ big_from-number_of width field (ap length is_run ∙ length-run_at at width bytes within) ∙ ap number_of is_run

-- what is written over a run is the number at its place
pub put_mid-with_number : (at width x : ℕ) (bytes field : List ℕ) → at + width ≤ length bytes
    → field ≡ bytes_high_first width x ++ drop width (run_at at (at + width - at) bytes)
    → put_mid at (at + width - at) bytes field ≡ with_number at width x bytes
put_mid-with_number at width x bytes field within wrote =
    let wide : at + width - at ≡ width = omega arith in
    let long = length-run_at at width bytes within in
    let none = ap (λ (k : ℕ). drop width (run_at at k bytes)) wide ∙ drop_all width (run_at at width bytes) (omega arith) in
    let spelt : field ≡ digits width x =
    wrote ∙ ap (λ (rest : List ℕ). bytes_high_first width x ++ rest) none ∙ append-nil (bytes_high_first width x) ∙ bytes_high_first-digits width x in
    ap (λ (k : ℕ). put_mid at k bytes field) wide
    ∙ ap (λ (rest : List ℕ). take at bytes ++ (field ++ rest)) (drop-drop width at bytes)
    ∙ ap (λ (run : List ℕ). with_run at width run bytes) spelt

-- what was written is read back
pub put_mid-number_at : (at width x : ℕ) (bytes field : List ℕ) → at + width ≤ length bytes
    → field ≡ bytes_high_first width x ++ drop width (run_at at (at + width - at) bytes)
    → x < 256 ^ width → number_at at width (put_mid at (at + width - at) bytes field) ≡ x
put_mid-number_at at width x bytes field within wrote fits =
    ap (number_at at width) (put_mid-with_number at width x bytes field within wrote)
    ∙ number_at-with_number at width x bytes within fits

-- the digits of a number that bytes spell are those bytes
pub put_mid-copied : (at width x : ℕ) (bytes field source : List ℕ) → at + width ≤ length bytes
    → field ≡ bytes_high_first width x ++ drop width (run_at at (at + width - at) bytes)
    → length source ≡ width → AreBytes source → x ≡ number_of source
    → run_at at width (put_mid at (at + width - at) bytes field) ≡ source
put_mid-copied at width x bytes field source within wrote long are is =
    ap (run_at at width) (put_mid-with_number at width x bytes field within wrote)
    ∙ run_at-with_run at width (digits width x) bytes (length-digits width x) within
    ∙ ap (digits width) is ∙ digits-number_of_width width source long are

-- the number that was read there is written there again
pub put_mid-same : (at width x : ℕ) (bytes field : List ℕ) → at + width ≤ length bytes
    → field ≡ bytes_high_first width x ++ drop width (run_at at (at + width - at) bytes)
    → x ≡ number_at at width bytes → AreBytes bytes → put_mid at (at + width - at) bytes field ≡ bytes
put_mid-same at width x bytes field within wrote is are =
    put_mid-with_number at width x bytes field within wrote
    ∙ ap (λ (n : ℕ). with_number at width n bytes) is ∙ with_number-number_at at width bytes within are
