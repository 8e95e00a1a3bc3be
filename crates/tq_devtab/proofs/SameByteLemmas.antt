-- What two images with the same bytes say.
use Rattle.std.proofs.Common.{◌≡◌, ◌<◌, ◌≤◌, ℕ, ◌+◌, List, length, get_or, sym, ◌∙◌, ap, arith}
use Rattle.std.proofs.lemmas.List.{ext_get_or}
use Rattle.tq_field.specs.Digits.{number_of}
use Rattle.tq_field.specs.Places.{run_at, number_at}
use Rattle.tq_field.proofs.Runs.{length-run_at, get_or-run_at}
use Rattle.tq_model.specs.DeviceForm.{raw_header, raw_journal, page_bytes, journal_log_bytes}
use Rattle.tq_devtab.specs.Device.{IsSameBelow}

-- two runs are one where their bytes are
pub same_runs : (i k n : ℕ) (xs ys : List ℕ) → i + n ≤ length xs → k + n ≤ length ys → ((j : ℕ) → j < n → get_or xs (i + j) 0 ≡ get_or ys (k + j) 0)
    → run_at i n xs ≡ run_at k n ys
same_runs i k n xs ys fits_x fits_y same =
    let long_x = length-run_at i n xs fits_x in
    let long_y = length-run_at k n ys fits_y in
    ext_get_or 0 (run_at i n xs) (run_at k n ys) (long_x ∙ sym long_y) (λ j lt.
    let below : j < n = omega (arith, lt, long_x) in
    get_or-run_at i n xs j 0 below ∙ same j below ∙ sym (get_or-run_at k n ys j 0 below))

pub same_numbers : (i k n : ℕ) (xs ys : List ℕ) → i + n ≤ length xs → k + n ≤ length ys → ((j : ℕ) → j < n → get_or xs (i + j) 0 ≡ get_or ys (k + j) 0)
    → number_at i n xs ≡ number_at k n ys
same_numbers i k n xs ys fits_x fits_y same = ap number_of (same_runs i k n xs ys fits_x fits_y same)

-- two images with the same bytes before this end
module _ (end : ℕ) (a b : List ℕ) (same : IsSameBelow end a b) (long_a : end ≤ length a) (long_b : end ≤ length b) where
  pub run_kept : (at n : ℕ) → at + n ≤ end → run_at at n b ≡ run_at at n a
  run_kept at n fits = same_runs at at n b a (omega arith) (omega arith) (λ j lt. same (at + j) (omega arith))

  pub number_kept : (at n : ℕ) → at + n ≤ end → number_at at n b ≡ number_at at n a
  number_kept at n fits = ap number_of (run_kept at n fits)

  pub header_kept : 514 ≤ end → raw_header b ≡ raw_header a
  header_kept fits =
      let mark = run_kept 0 8 (omega arith) in
      let device = same 8 (omega arith) in
      let site = number_kept 12 4 (omega arith) in
      let clusters = number_kept 16 4 (omega arith) in
      let table = same 512 (omega arith) in
      let journal = same 513 (omega arith) in
      cc

  pub journal_kept : (at : ℕ) → at + (page_bytes + journal_log_bytes) ≤ end → raw_journal at b ≡ raw_journal at a
  journal_kept at fits =
      let mark = run_kept at 4 (omega arith) in
      let epoch = number_kept (at + 4) 4 (omega arith) in
      let decided = same (at + 8) (omega arith) in
      let decision = number_kept (at + 12) 4 (omega arith) in
      let number = number_kept (at + 12 + 4) 4 (omega arith) in
      let log = run_kept (at + page_bytes) journal_log_bytes (omega arith) in
      cc
