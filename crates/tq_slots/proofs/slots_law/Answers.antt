use Rattle.tq_slots.proofs.LawLemmas.{plan_law, place_law, chain_law, release_law, first_law, sets_law, crash_law, start_law}
use Rattle.tq_slots.proofs.SetLemmas.{with_sets-read}
use Rattle.tq_slots.proofs.LoadLemmas.{load_law}
use Rattle.tq_slots.proofs.PageLemmas.{pages_law}
use Rattle.tq_slots.proofs.RoomLemmas.{room_law, enqueue_law, remove_law, create_law}
use Rattle.tq_slots.proofs.slots_law.Goals as goal

pub returns : goal.returns
returns c =
    record {
      plan = plan_law;
      place = place_law;
      chains = chain_law;
      release = release_law;
      first = first_law;
      pages = pages_law;
      sets = sets_law;
      bytes = (λ read sets slots. with_sets-read read sets slots, λ read sets slots. with_sets-read read sets slots);
      crash = crash_law;
      start = start_law;
      load = load_law;
      room = room_law;
      enqueue = enqueue_law;
      remove = remove_law;
      create = create_law;
    }
