-- Spaces as the records of their logs make them.
use Rattle.std.specs.Prelude.{◌≡◌, ◌<◌, ◌≤◌, ◌⊎◌, ℕ}
use Rattle.std.specs.List.{All}
use Rattle.tq_types.specs.declared.identifiers.MsgId.{MsgId}
use Rattle.tq_types.specs.declared.messages.Qos.TheVariants.{Persistent}
use Rattle.tq_model.specs.Space.{Entry, Free}
use Rattle.tq_model.specs.Moves.{IndexedQueue, IndexedSpace}

-- an entry that a crash leaves as it is
pub record SurvivesCrash (item : Entry) : Type 0 where
  pub free : item.mark ≡ Free
  pub persistent : item.message.qos ≡ Persistent

-- a queue that makes its messages persistent, and has only such ones
pub record HasOnlySurvivors (q : IndexedQueue) : Type 0 where
  pub qos : q.queue.qos ≡ Persistent
  pub items : All SurvivesCrash q.queue.items

abbrev pub KeepsAllAtCrash : IndexedSpace → Type 0
KeepsAllAtCrash s = All HasOnlySurvivors s.queues

-- each entry of the space has this property
abbrev pub AllEntries : (Entry → Type 0) → IndexedSpace → Type 0
AllEntries P s = All (λ (q : IndexedQueue). All P q.queue.items) s.queues

-- each entry of the space has an identifier with this property
abbrev pub AllIds : (MsgId → Type 0) → IndexedSpace → Type 0
AllIds P s = AllEntries (λ (item : Entry). P item.message.id) s

-- the epochs of all messages are up to this one
abbrev pub HasEpochs : ℕ → IndexedSpace → Type 0
HasEpochs epoch s = AllIds (λ id. id.epoch ≤ epoch) s

-- an identifier of an earlier arrival
abbrev pub IsBefore : ℕ → ℕ → MsgId → Type 0
IsBefore epoch number id = (id.epoch < epoch) ⊎ ((id.epoch ≡ epoch) × (id.number < number))

-- the arrival of this epoch and number is newer than all of the space
abbrev pub IsNewer : ℕ → ℕ → IndexedSpace → Type 0
IsNewer epoch number s = AllIds (IsBefore epoch number) s

-- the identifiers are of this space
abbrev pub IsOwn : IndexedSpace → Type 0
IsOwn s = AllIds (λ id. (id.site ≡ s.site) × (id.space ≡ s.number)) s
