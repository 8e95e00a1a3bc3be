-- The fields of a space's creation.
use Rattle.std.specs.Prelude.{◌≤◌}
use Rattle.tq_model.specs.declared.request.SpaceCreation.{SpaceCreation}
use Rattle.tq_model.specs.Site.{most_pages, most_queues, most_transactions, most_messages}

-- no field is above its limit
pub record HasFieldsWithin (c : SpaceCreation) : Type 0 where
  pub pages : c.pages ≤ most_pages
  pub queues : c.queues ≤ most_queues
  pub transactions : c.transactions ≤ most_transactions
  pub messages : c.messages ≤ most_messages
