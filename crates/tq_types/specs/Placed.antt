-- The label that a message is given, and its own arrival.
use Rattle.std.specs.Prelude.{◌-◌, ◌++◌, [], ◌∷◌, length, slice_index_or}
use Rattle.tq_types.specs.declared.identifiers.Arrival.{Arrival}
use Rattle.tq_types.specs.declared.labels.Label.{Label}

-- the last of the path, or the root's where the path is empty
abbrev pub own_arrival : Label → Arrival
own_arrival label = slice_index_or label.path (length label.path - 1) label.root.arrival

-- placed before the message of a label: its root, and its path with the new arrival added
abbrev pub placed_before : Label → Arrival → Label
placed_before label arrival = record { root = label.root; path = label.path ++ arrival ∷ [] }
