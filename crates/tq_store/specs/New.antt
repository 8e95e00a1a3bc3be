-- A new space on its pages.
use Rattle.std.specs.Prelude.{◌≡◌, ◌+◌, ◌*◌, ◌++◌, ℕ, true, List, length, replicate, codes, Some, None}
use Rattle.tq_extent.specs.Bytes.{owned_bytes}
use Rattle.tq_model.specs.declared.space.Shape.{Shape}
use Rattle.tq_model.specs.Space.{slot_pages}
use Rattle.tq_slots.specs.declared.record.BranchSlot.{BranchSlot}
use Rattle.tq_slots.specs.SlotImages.{RawSlots, raw_of, raw_queue}
use Rattle.tq_slots.specs.SpaceReading.{creation_in, slots_stored}
use Rattle.tq_store.specs.Page.{IsZeroPadded, page_spelt, is_error}

-- the slot of no branch
abbrev pub no_branch : BranchSlot
no_branch = record { state = 0; gtrid_length = 0; bqual_length = 0; format = 0; number = 0; gtrid = replicate 64 0; bqual = replicate 64 0 }

-- the slots of a new space
abbrev pub empty_slots : Shape → RawSlots
empty_slots s =
    record {
      queues = replicate s.queues (raw_queue None);
      messages = replicate s.messages (raw_of None);
      branches = replicate s.transactions no_branch;
    }

-- The pages of a new space on these clusters: its creation, and slots that are all empty.
pub record IsFormatted (shape : Shape) (clusters image : List ℕ) : Type 0 where
  pub creation : creation_in shape.pages (owned_bytes clusters image) ≡ Some shape
  pub slots : slots_stored shape (owned_bytes clusters image) ≡ Some (empty_slots shape)

-- The bytes that a new space begins with: its first page, the mark of a base, and zeros up to the first byte of the log.
pub record AreFirst (shape : Shape) (bytes : List ℕ) : Type 0 where
  pub size : length bytes ≡ 1024 * (1 + slot_pages shape) + 1
  pub page : List ℕ
  pub page_size : length page ≡ 1024
  pub page_is : IsZeroPadded (page_spelt shape) page
  pub base : IsZeroPadded (page ++ codes "TQSB") bytes
  pub error : is_error shape.error ≡ true
