use Rattle.std.proofs.Common.{◌≡◌, ℕ, List, length, inr, sym, ap, ◌∙◌, subst, arith}
use Rattle.std.specs.List.{list_any}
use Rattle.tq_extent.specs.Bytes.{owned_bytes, IsQuiet}
use Rattle.tq_extent.proofs.ReadOnlyLemmas.{quiet_on}
use Rattle.tq_model.specs.Moves.{has_index}
use Rattle.tq_pages.specs.Content.{chain_bytes}
use Rattle.tq_pages.specs.Store.{HasAdded, chain_pages}
use Rattle.tq_slots.specs.MessageSlots.{said_with_chain}
use Rattle.tq_slots.specs.SlotImages.{used_in}
use Rattle.tq_slots.specs.SpaceReading.{message_in}
use Rattle.tq_store.specs.declared.fault.FileError.TheVariants as file
use Rattle.tq_store.specs.Filling.{is_said_bare}
use Rattle.tq_store.proofs.ErrorLemmas.{handed_on}
use Rattle.tq_store.proofs.MessageFillLemmas.{pages_are, plain_entry, queue_is}
use Rattle.tq_store.proofs.filling.take_message.Goals as goal

pub returns-in_err-entry-clause-damaged : goal.returns-in_err-entry-clause-damaged
returns-in_err-entry-clause-damaged g c = λ is told.
    let place = c.args.place.now in
    let slot = c.args.slot.now in
    let old = c.args.store.now in
    let new = c.adopt.new.self in
    let start = g.H.Host.view c.args.host.now in
    let mid = g.H.Host.view c.adopt.new.host in
    let added = c.in_ok-adopt.ensures.chain in
    let bytes = owned_bytes old.clusters (start.reads old.dev) in
    let refused = handed_on c.entry_of.result c.from_residual-in_err-entry.result c.in_err-entry.field-0.0 file.Damaged c.in_err-entry.was
    c.from_residual-in_err-entry.ensures.1 is in
    let same : owned_bytes new.clusters (mid.reads new.dev) ≡ bytes =
    (λ i. owned_bytes (added.pages.clusters i) (mid.reads (added.pages.dev i))) ∙ ap (owned_bytes old.clusters) (c.adopt.ensures.quiet.still.reads old.dev) in
    let stored : c.as_slice.result.now ≡ chain_bytes new slot.first bytes = c.as_slice.ensures.value ∙ c.in_ok-stored.ensures.bytes told
    ∙ ap (chain_bytes new slot.first) same in
    inr (inr (inr (record {
      new = new;
      size = c.in_ok-adopt.field-0;
      some = c.in_ok-adopt.ensures.some;
      sound = c.free_count-sound.ensures.store;
      added = added;
      chain = c.in_ok-adopt.ensures.held told;
      unsaid =
          ap (λ (l : List ℕ). is_said_bare (said_with_chain place.site place.number (used_in slot) (message_in l))) (sym stored)
          ∙ c.entry_of.ensures.damaged refused;
    })))

pub make-requires : goal.make-requires
make-requires g c =
    let place = c.args.place.now in
    let slot = c.args.slot.now in
    let held = c.args.space.now.held in
    let stored = c.as_slice.result.now in
    let item = c.in_ok-entry.entry in
    let said = c.in_ok-entry.ensures.said in
    let index : item.queue ≡ c.from.result = queue_is place.site place.number slot stored item said ∙ sym c.from.ensures in
    let added = c.in_ok-adopt.ensures.chain in
    let size : length stored ≡ c.in_ok-adopt.field-0 = ap length c.as_slice.ensures.value ∙ c.in_ok-stored.ensures.size ∙ added.is in
    let pages = pages_are place.site place.number slot stored item said ∙ ap chain_pages size in
    let count = added.pages.count in
    record {
      plain = plain_entry place.site place.number slot stored item said;
      there = ap (λ (n : ℕ). list_any (has_index n) held.queues) index ∙ sym c.holds_index.ensures ∙ c.if-not-holds_index.false;
      messages = c.requires.few;
      pages = omega (arith, pages, count, c.requires.room);
    }

pub returns-clause-entered : goal.returns-clause-entered
returns-clause-entered g c =
    let slot = c.args.slot.now in
    let old = c.args.store.now in
    let new = c.adopt.new.self in
    let held = c.args.space.now.held in
    let start = g.H.Host.view c.args.host.now in
    let mid = g.H.Host.view c.adopt.new.host in
    let stored = c.as_slice.result.now in
    let added = c.in_ok-adopt.ensures.chain in
    let bytes = owned_bytes old.clusters (start.reads old.dev) in
    let same : owned_bytes new.clusters (mid.reads new.dev) ≡ bytes =
    (λ i. owned_bytes (added.pages.clusters i) (mid.reads (added.pages.dev i))) ∙ ap (owned_bytes old.clusters) (c.adopt.ensures.quiet.still.reads old.dev) in
    let size : length stored ≡ c.in_ok-adopt.field-0 = ap length c.as_slice.ensures.value ∙ c.in_ok-stored.ensures.size ∙ added.is in
    record {
      stored = stored;
      item = c.in_ok-entry.entry;
      there = ap (λ (n : ℕ). list_any (has_index n) held.queues) (sym c.from.ensures) ∙ sym c.holds_index.ensures ∙ c.if-not-holds_index.false;
      first_one = sym c.holds_arrival.ensures ∙ c.if-holds_arrival.false;
      some = omega (arith, size, c.in_ok-adopt.ensures.some);
      sound = c.free_count-sound.ensures.store;
      added = subst (λ (n : ℕ). HasAdded old slot.first n new) (sym size) added;
      message = c.in_ok-entry.ensures.said;
      space = c.in_ok-make.ensures;
      chain = λ told. c.in_ok-adopt.ensures.held told;
      read = λ told. c.as_slice.ensures.value ∙ c.in_ok-stored.ensures.bytes told ∙ ap (chain_bytes new slot.first) same;
    }

pub returns-clause-quiet : goal.returns-clause-quiet
returns-clause-quiet g c =
    let old = c.args.store.now in
    let start = g.H.Host.view c.args.host.now in
    let mid = g.H.Host.view c.adopt.new.host in
    let end = g.H.Host.view c.read.new.host in
    quiet_on old.dev start mid end c.adopt.ensures.quiet
    (subst (λ (d : ℕ). IsQuiet d mid end) c.in_ok-adopt.ensures.chain.pages.dev c.read.ensures.quiet)
