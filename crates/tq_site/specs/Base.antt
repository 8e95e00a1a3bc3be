-- What the base of a journal and the payloads behind it say.
use Rattle.std.specs.Prelude.{◌≡◌, ◌≤◌, ℕ, nat_le, true, List, length, codes, Option, Some, None}
use Rattle.std.specs.Str.{bytes_eq}
use Rattle.tq_model.specs.DeviceForm.{Journal, raw_journal, journal_base, journal_after, page_bytes}

-- a page that is the base of a journal
pub record IsBase (base : List ℕ) : Type 0 where
  pub size : length base ≡ page_bytes
  pub mark : bytes_eq (raw_journal 0 base).mark (codes "TQSJ") ≡ true
  pub decided : nat_le (raw_journal 0 base).decided 1 ≡ true

abbrev pub journal_of : List ℕ → List (List ℕ) → Option Journal
journal_of base payloads = journal_after payloads (journal_base (raw_journal 0 base))

-- they are those of a journal of this epoch; for now it has no decision
pub record SaysEpoch (epoch : ℕ) (base : List ℕ) (payloads : List (List ℕ)) : Type 0 where
  pub is_base : IsBase base
  pub says : journal_of base payloads ≡ Some (record { epoch = epoch; decision = None })
  pub some : 1 ≤ epoch
