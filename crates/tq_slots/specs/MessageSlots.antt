-- Messages on a device: a slot for each, and a chain of pages that the slot names by its first page.
use Rattle.std.specs.Prelude.{◌≡◌, ◌⊎◌, ℕ, ◌==◌, ◌&&◌, Bool, if◌then◌else◌, List, [], length, Option, Some, None, ℤ}
use Rattle.tq_types.specs.Placed.{own_arrival}
use Rattle.tq_types.specs.declared.identifiers.Arrival.{Arrival}
use Rattle.tq_types.specs.declared.identifiers.MsgId.{MsgId}
use Rattle.tq_types.specs.declared.identifiers.CorrId.{CorrId}
use Rattle.tq_types.specs.declared.labels.Root.{Root}
use Rattle.tq_types.specs.declared.messages.Qos.TheVariants.{Persistent}
use Rattle.tq_types.specs.declared.messages.AskedQos.{AskedQos}
use Rattle.tq_model.specs.Space.{Free, Here, Entry}
use Rattle.tq_model.specs.DequeueStep.{content_bytes}

-- an entry, and the index of its queue
pub record IndexedEntry : Type 0 where
  pub queue : ℕ
  pub entry : Entry

-- what a message slot has where it is not empty; the slots of branches come with the branches
pub record UsedSlot : Type 0 where
  pub queue : ℕ
  pub root : Root
  pub numbers : ℕ  -- how many of the header's path are the label's: none or all
  pub priority : ℕ
  pub available : ℕ
  pub expiration : Option ℕ
  pub retries : ℕ
  pub arrival : Arrival
  pub first : ℕ  -- the chain's first page

-- what the pages of a chain say together: the header of a message, and its body
pub record Chain : Type 0 where
  pub arrival : Arrival
  pub path : List Arrival
  pub corr : Option CorrId
  pub replyq : Option (List ℕ)
  pub failq : Option (List ℕ)
  pub reply_qos : AskedQos
  pub urcode : ℤ
  pub body : List ℕ

-- the slots of a space by their indices, and the chains by their first pages
abbrev pub Slots : Type 0
Slots = List (Option UsedSlot)

abbrev pub Chains : Type 0
Chains = ℕ → Option Chain

abbrev pub slot_arrival : UsedSlot → Arrival
slot_arrival s = s.arrival

abbrev pub arrival_of : MsgId → Arrival
arrival_of id = record { epoch = id.epoch; number = id.number }

abbrev pub same_arrival : Arrival → Arrival → Bool
same_arrival a b = a.epoch == b.epoch && a.number == b.number

-- What a slot says, with its chain, in the space of that number on that site

abbrev pub entry_joined : ℕ → ℕ → UsedSlot → Chain → List Arrival → IndexedEntry
entry_joined site number s c path =
    record {
      queue = s.queue;
      entry = record {
        label = record { root = s.root; path = path };
        mark = Free;
        message = record {
          id = record { site = site; space = number; epoch = s.arrival.epoch; number = s.arrival.number };
          corr = c.corr;
          replyq = c.replyq;
          failq = c.failq;
          priority = s.priority;
          available = s.available;
          expiration = s.expiration;
          qos = Persistent;
          reply_qos = c.reply_qos;
          urcode = c.urcode;
          retries = s.retries;
          body = Here c.body;
        };
      };
    }

-- the header is that of the slot's message, and so is the label
abbrev pub are_one_message : UsedSlot → Chain → List Arrival → Bool
are_one_message s c path = same_arrival c.arrival s.arrival && same_arrival (own_arrival (record { root = s.root; path = path })) s.arrival

abbrev pub said_with_path : ℕ → ℕ → UsedSlot → Chain → List Arrival → Option IndexedEntry
said_with_path site number s c path = if are_one_message s c path then Some (entry_joined site number s c path) else None

abbrev pub said_with_chain : ℕ → ℕ → UsedSlot → Option Chain → Option IndexedEntry
said_with_chain site number s None = None
said_with_chain site number s (Some c) =
    if s.numbers == 0 then said_with_path site number s c []
    else (if s.numbers == length c.path then said_with_path site number s c c.path else None)

-- none where the slot has no chain, or one that is not its own
abbrev pub says : ℕ → ℕ → Chains → UsedSlot → Option IndexedEntry
says site number chains s = said_with_chain site number s (chains s.first)

-- What is written of an entry

-- its slot, with the first page of its chain
abbrev pub slot_of : ℕ → IndexedEntry → UsedSlot
slot_of first e =
    record {
      queue = e.queue;
      root = e.entry.label.root;
      numbers = length e.entry.label.path;
      priority = e.entry.message.priority;
      available = e.entry.message.available;
      expiration = e.entry.message.expiration;
      retries = e.entry.message.retries;
      arrival = arrival_of e.entry.message.id;
      first = first;
    }

abbrev pub chain_of : Entry → Chain
chain_of entry =
    record {
      arrival = arrival_of entry.message.id;
      path = entry.label.path;
      corr = entry.message.corr;
      replyq = entry.message.replyq;
      failq = entry.message.failq;
      reply_qos = entry.message.reply_qos;
      urcode = entry.message.urcode;
      body = content_bytes entry.message.body;
    }

-- a slot and a chain can say all of the entry
pub record CanStand (site number : ℕ) (entry : Entry) : Type 0 where
  pub own : own_arrival entry.label ≡ arrival_of entry.message.id
  pub free : entry.mark ≡ Free
  pub persistent : entry.message.qos ≡ Persistent
  pub of_site : entry.message.id.site ≡ site
  pub of_space : entry.message.id.space ≡ number
  pub body : entry.message.body ≡ Here (content_bytes entry.message.body)

-- The chain has what the slot lacks of the entry. An entry that has lost its path keeps a chain which still has it.
pub record FitsChain (entry : Entry) (c : Chain) : Type 0 where
  pub path : (entry.label.path ≡ []) ⊎ (entry.label.path ≡ c.path)
  pub rest : record c { path = entry.label.path } ≡ chain_of entry

-- the chain at that page is the entry's
pub record HasChain (site number : ℕ) (chains : Chains) (first : ℕ) (entry : Entry) : Type 0 where
  pub chain : Chain
  pub at : chains first ≡ Some chain
  pub stands : CanStand site number entry
  pub fits : FitsChain entry chain
