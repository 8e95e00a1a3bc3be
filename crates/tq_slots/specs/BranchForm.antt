-- The slot of a branch: the one that is made of a branch, and the branch that a slot gives.
use Rattle.std.specs.Prelude.{ℕ, ◌≡◌, ◌≤◌, ◌==◌, ◌&&◌, nat_le, Bool, if◌then◌else◌, List, [], length, take, Option, Some, None}
use Rattle.tq_types.specs.XId.{XIdValue, IsXId}
use Rattle.tq_types.specs.declared.identifiers.Arrival.{Arrival}
use Rattle.tq_slots.specs.declared.branch.StoredBranch.{StoredBranch}
use Rattle.tq_slots.specs.declared.branch.StoredBranch.TheVariants.{Own, Prepared, HeurCommitted, HeurRolledBack}
use Rattle.tq_slots.specs.declared.record.BranchSlot.{BranchSlot}
use Rattle.tq_slots.specs.MessageForm.{filled}

-- Writing

abbrev pub own_slot : Arrival → BranchSlot
own_slot a = record { state = 1; gtrid_length = 0; bqual_length = 0; format = a.epoch; number = a.number; gtrid = filled 64 []; bqual = filled 64 [] }

-- the slot of a branch with this name, in that state
abbrev pub named_slot : ℕ → XIdValue → BranchSlot
named_slot state x =
    record {
      state = state;
      gtrid_length = length x.gtrid;
      bqual_length = length x.bqual;
      format = x.format;
      number = 0;
      gtrid = filled 64 x.gtrid;
      bqual = filled 64 x.bqual;
    }

abbrev pub slot_of_branch : StoredBranch → BranchSlot
slot_of_branch (Own a) = own_slot a
slot_of_branch (Prepared x) = named_slot 2 x
slot_of_branch (HeurCommitted x) = named_slot 3 x
slot_of_branch (HeurRolledBack x) = named_slot 4 x

-- Reading

-- the bytes of the two parts of a name: what stands behind them is not read
abbrev pub slot_gtrid : BranchSlot → List ℕ
slot_gtrid s = take s.gtrid_length s.gtrid

abbrev pub slot_bqual : BranchSlot → List ℕ
slot_bqual s = take s.bqual_length s.bqual

-- the length of a part of a name
abbrev pub is_part_length : ℕ → Bool
is_part_length n = nat_le 1 n && nat_le n 64

-- whether a slot is that of an own branch: it has no name, and its epoch is at least 1
abbrev pub is_own_slot : BranchSlot → Bool
is_own_slot s = s.state == 1 && s.gtrid_length == 0 && s.bqual_length == 0 && nat_le 1 s.format

-- whether a slot is in a state of a branch with a name, and has one
abbrev pub is_named_slot : BranchSlot → Bool
is_named_slot s =
    nat_le 2 s.state && nat_le s.state 4 && is_part_length s.gtrid_length && is_part_length s.bqual_length && nat_le s.format 2147483647

abbrev pub name_in_slot : BranchSlot → XIdValue
name_in_slot s = record { format = s.format; gtrid = slot_gtrid s; bqual = slot_bqual s }

-- a branch with this name, in that state
abbrev pub named_branch : ℕ → XIdValue → StoredBranch
named_branch state x = if state == 2 then Prepared x else if state == 3 then HeurCommitted x else HeurRolledBack x

-- The branch of a slot; none where it is empty, or breaks a rule.
unfoldable pub branch_of_slot : BranchSlot → Option StoredBranch
branch_of_slot s =
    if is_own_slot s then Some (Own (record { epoch = s.format; number = s.number }))
    else if is_named_slot s then Some (named_branch s.state (name_in_slot s))
    else None

-- a slot of no branch: nothing else is read of it
abbrev pub is_empty_branch : BranchSlot → Bool
is_empty_branch s = s.state == 0

-- a slot without what is not read of it: a number is read of an own branch alone
abbrev pub read_branch_slot : BranchSlot → BranchSlot
read_branch_slot s =
    record s { number = if s.state == 1 then s.number else 0; gtrid = filled 64 (slot_gtrid s); bqual = filled 64 (slot_bqual s) }

-- a branch that a slot can stand for: each name is one
abbrev pub HasBranchSlot : StoredBranch → Type 0
HasBranchSlot (Own a) = 1 ≤ a.epoch
HasBranchSlot (Prepared x) = IsXId x.format x.gtrid x.bqual
HasBranchSlot (HeurCommitted x) = IsXId x.format x.gtrid x.bqual
HasBranchSlot (HeurRolledBack x) = IsXId x.format x.gtrid x.bqual

-- the runs of a slot have their widths, as those of each value of its type
pub record HasBranchWidths (s : BranchSlot) : Type 0 where
  pub gtrid : length s.gtrid ≡ 64
  pub bqual : length s.bqual ≡ 64
