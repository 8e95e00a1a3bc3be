-- The entries of a space under their keys.
use Rattle.std.specs.Prelude.{ℕ, pos, Bool, false, List, [], Option, Some, None, slice_index_or}
use Rattle.std.specs.Ordering.{is_lt}
use Rattle.tq_types.specs.Label.{label_cmp}
use Rattle.tq_types.specs.OrderValue.{OrderValue}
use Rattle.tq_types.specs.declared.labels.Label.{Label}
use Rattle.tq_types.specs.declared.messages.Qos.TheVariants as qualities
use Rattle.tq_types.specs.declared.messages.AskedQos.TheVariants as asked
use Rattle.tq_types.specs.declared.messages.Entry.{Entry as HeldEntry}
use Rattle.tq_model.specs.Space.{Entry, Free, Here}
use Rattle.tq_model.specs.Moves.{entry_view, session_owners}
use Rattle.tq_space.specs.Plain.{IsPlainEntry}

-- what is read at a key without an entry
abbrev pub no_entry : Entry
no_entry =
    record {
      label = record {
        root = record { top = false; priority = 0; available = 0; expiration = None; arrival = record { epoch = 0; number = 0 } };
        path = [];
      };
      mark = Free;
      message = record {
        id = record { site = 0; space = 0; epoch = 0; number = 0 };
        corr = None;
        replyq = None;
        failq = None;
        priority = 0;
        available = 0;
        expiration = None;
        qos = qualities.Persistent;
        reply_qos = asked.Default;
        urcode = pos 0;
        retries = 0;
        body = Here [];
      };
    }

abbrev pub slot_entry : Option HeldEntry → Entry
slot_entry None = no_entry
slot_entry (Some e) = entry_view session_owners e

abbrev pub slot_at : List (Option HeldEntry) → ℕ → Option HeldEntry
slot_at slots key = slice_index_or slots key None

abbrev pub entry_at : List (Option HeldEntry) → ℕ → Entry
entry_at slots key = slot_entry (slot_at slots key)

-- a test of the entry at a key; it fails where there is none
abbrev pub slot_test : (Entry → Bool) → Option HeldEntry → Bool
slot_test test None = false
slot_test test (Some e) = test (entry_view session_owners e)

abbrev pub slot_count : Option HeldEntry → ℕ
slot_count None = 0
slot_count (Some e) = 1

abbrev pub IsPlainSlot : Option HeldEntry → Type 0
IsPlainSlot None = Unit {0}
IsPlainSlot (Some e) = IsPlainEntry e

-- whether the label stands before the item's
abbrev pub label_before : OrderValue → Label → Entry → Bool
label_before order label item = is_lt (label_cmp order label item.label)
