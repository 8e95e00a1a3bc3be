-- Message identifiers as bytes.
use Rattle.std.specs.Prelude.{◌≡◌, ◌≢◌, ℕ, ◌<◌, ◌≤◌, List, ◌++◌, length, drop, replicate, slice_index}
use Rattle.byteorder.specs.Endian.{big_bytes, big_number}
use Rattle.tq_types.specs.declared.identifiers.MsgId.{MsgId}

-- four numbers of 4 bytes, the highest byte first, and 16 zero bytes
unfoldable pub id_bytes : MsgId → List ℕ
id_bytes id = big_bytes 4 id.site ++ big_bytes 4 id.space ++ big_bytes 4 id.epoch ++ big_bytes 4 id.number ++ replicate 16 0

-- the identifier whose four numbers begin the bytes
unfoldable pub id_at : List ℕ → MsgId
id_at bytes =
    record {
      site = big_number 4 bytes;
      space = big_number 4 (drop 4 bytes);
      epoch = big_number 4 (drop 8 bytes);
      number = big_number 4 (drop 12 bytes);
    }

-- from this place on each byte is 0
abbrev pub HasZerosAfter : ℕ → List ℕ → Type 0
HasZerosAfter from bytes = (at : ℕ) → from ≤ at → at < length bytes → slice_index bytes at ≡ 0

-- from this place on some byte is not 0
abbrev pub HasOtherAfter : ℕ → List ℕ → Type 0
HasOtherAfter from bytes = (at : ℕ) × (from ≤ at) × (at < length bytes) × (slice_index bytes at ≢ 0)
