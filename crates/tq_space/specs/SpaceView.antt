-- A space in memory: its counts are those of its entries.
use Rattle.std.specs.Prelude.{◌≡◌, ◌≤◌, []}
use Rattle.tq_model.specs.Moves.{IndexedSpace, space_of}
use Rattle.tq_model.specs.Room.{messages_held, pages_held}
use Rattle.tq_space.specs.declared.space.Space.TheInside.{Inside}
use Rattle.tq_space.specs.State.{SpaceState}

abbrev pub held_of : Inside → IndexedSpace
held_of s =
    record {
      site = s.site;
      number = s.number;
      limits = record {
        pages = s.limits.pages;
        queues = s.limits.queues;
        messages = s.limits.messages;
        transactions = s.limits.transactions;
        memory = s.limits.memory;
      };
      error = s.error;
      queues = s.shelf.queues;
      owners = [];
    }

abbrev pub space_view : Inside → SpaceState
space_view s = record { held = held_of s; ready = s.shelf.ready }

pub record IsSpace (s : Inside) : Type 0 where
  pub messages : s.messages ≡ messages_held (space_of (held_of s))
  pub pages : s.pages ≡ pages_held (space_of (held_of s))
  pub messages_most : s.messages ≤ s.limits.messages
  pub pages_most : s.pages ≤ s.limits.pages
