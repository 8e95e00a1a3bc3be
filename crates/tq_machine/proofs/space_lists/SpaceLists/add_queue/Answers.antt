use Rattle.std.proofs.Common.{arith}
use Rattle.tq_model.specs.Space.{comes_after}
use Rattle.tq_model.proofs.Places.{position_or_len-within}
use Rattle.tq_machine.proofs.space_lists.SpaceLists.add_queue.Goals as goal

pub insert-requires : goal.insert-requires
insert-requires c = omega (arith, c.place_by_name-place.ensures, position_or_len-within (comes_after c.args.name.now) c.deref.result.now, c.deref.ensures.len)
