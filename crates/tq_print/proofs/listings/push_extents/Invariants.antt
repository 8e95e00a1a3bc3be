use Rattle.std.proofs.Common.{◌≡◌, ◌++◌, take}
use Rattle.std.specs.List.{flat_map}
use Rattle.tq_print.proofs.Extents.{next_extent_text}
use Rattle.tq_print.proofs.listings.push_extents.Given as goal

abbrev pub invariant-loop-extent : goal.invariant-loop-extent
invariant-loop-extent l = l.text.items ≡ l.initial.text.items ++ flat_map next_extent_text (take l.extent-index l.more)
