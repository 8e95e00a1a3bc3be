use Rattle.std.proofs.Common.{◌≡◌, ◌<◌, ◌≤◌, None, Result, Ok, Err, IfOk, length, subst, sym}
use Rattle.std.specs.List.{position}
use Rattle.tq_types.specs.Label.{arrival_cmp}
use Rattle.tq_model.specs.declared.space.SpaceMove.{SpaceMove}
use Rattle.tq_model.specs.declared.space.SpaceMove.TheVariants.{Insert, Remove, PutQueue}
use Rattle.tq_gate.specs.Frame.{payload_in}
use Rattle.tq_model.specs.Moves.{moved}
use Rattle.tq_pages.specs.Store.{Store, size_of}
use Rattle.tq_slots.specs.MessageSlots.{arrival_of, slot_arrival}
use Rattle.tq_slots.specs.SlotImages.{RawSlots, slots_in}
use Rattle.tq_slots.specs.SlotTable.{has_key, lowest_empty}
use Rattle.tq_store.specs.Change.{IsChange}
use Rattle.tq_store.specs.Commit.{CanLast}
use Rattle.tq_store.specs.Draft.{HasSlotAt}
use Rattle.tq_store.specs.Drafted.{HasCome, HasGone, IsMade}
use Rattle.tq_store.specs.File.{FileState}
use Rattle.tq_store.proofs.MoveChangeLemmas.{insert_queue, insert_there, remove_there}
use Rattle.tq_store.proofs.ReadyLemmas.{come_change, gone_change, made_change, of_file}
use Rattle.tq_store.proofs.changing.make_change.Goals as goal

ok_then : {T E : Type 0} (r : Result T E) (P Q : T → Type 0) → ((x : T) → P x → Q x) → IfOk r P → IfOk r Q
ok_then (Ok x) P Q step has = step x has
ok_then (Err e) P Q step has = tt

-- a file whose move is that one
can_be : (f : FileState) (item move : SpaceMove) → item ≡ move → CanLast item f.space → CanLast move f.space
can_be f item move is can = subst (λ (m : SpaceMove). CanLast m f.space) is can

pub come-requires-clause-queue : goal.come-requires-clause-queue
come-requires-clause-queue c =
    let f = c.requires.0 in
    let of = c.requires.1 in
    insert_queue f of.sound c.in-Insert.entry (can_be f c.args.item.now (Insert c.in-Insert.entry) c.in-Insert.is of.can)

pub come-requires-clause-empty : goal.come-requires-clause-empty
come-requires-clause-empty c =
    let f = c.requires.0 in
    let of = c.requires.1 in
    subst (λ (raw : RawSlots). lowest_empty (slots_in raw) < length raw.messages) of.raw_is
    (insert_there f of.sound c.in-Insert.entry (can_be f c.args.item.now (Insert c.in-Insert.entry) c.in-Insert.is of.can)).0

pub come-requires-clause-new : goal.come-requires-clause-new
come-requires-clause-new c =
    let f = c.requires.0 in
    let of = c.requires.1 in
    let e = c.in-Insert.entry in
    subst (λ (raw : RawSlots). position (has_key arrival_cmp slot_arrival (arrival_of e.message.id)) (slots_in raw) ≡ None) of.raw_is
    (insert_there f of.sound e (can_be f c.args.item.now (Insert e) c.in-Insert.is of.can)).1

pub go-requires-clause-there : goal.go-requires-clause-there
go-requires-clause-there c =
    let f = c.requires.0 in
    let of = c.requires.1 in
    let id = c.in-Remove.id in
    let there = remove_there f of.sound id (can_be f c.args.item.now (Remove id) c.in-Remove.is of.can) in
    let some = (of.sound.store.chains there.0 there.1 there.2.at).1 in (
      there.0,
      there.1,
      subst (λ (raw : RawSlots). HasSlotAt id raw there.0 there.1) of.raw_is there.2,
      subst (λ (store : Store). 1 ≤ size_of store there.1.first) of.store_is some,
    )

pub returns-in-Insert-clause-change : goal.returns-in-Insert-clause-change
returns-in-Insert-clause-change c =
    let e = c.in-Insert.entry in
    ok_then c.come.result _ _ (λ x come f of.
    let own = of_file (λ shape log raw store. HasCome shape log raw c.come.new.table store c.come.new.store e x) f c.args.shape.now c.args.log.now
    c.args.table.now c.args.store.now c.args.item.now of come in
    subst (λ (m : SpaceMove). IsChange f (moved m f.space) c.come.new.table c.come.new.store x.first x.message.items (payload_in x.frame.items))
    (sym c.in-Insert.is)
    (come_change f e c.come.new.table c.come.new.store x of.sound (can_be f c.args.item.now (Insert e) c.in-Insert.is of.can) own)) c.come.ensures.come

pub returns-in-Remove-clause-change : goal.returns-in-Remove-clause-change
returns-in-Remove-clause-change c =
    let id = c.in-Remove.id in
    ok_then c.go.result _ _ (λ x gone f of.
    let own = of_file (λ shape log raw store. HasGone shape log raw c.go.new.table store c.go.new.store id x) f c.args.shape.now c.args.log.now
    c.args.table.now c.args.store.now c.args.item.now of gone in
    subst (λ (m : SpaceMove). IsChange f (moved m f.space) c.go.new.table c.go.new.store x.first x.message.items (payload_in x.frame.items))
    (sym c.in-Remove.is)
    (gone_change f id c.go.new.table c.go.new.store x of.sound (can_be f c.args.item.now (Remove id) c.in-Remove.is of.can) own)) c.go.ensures.gone

pub returns-in-PutQueue-clause-change : goal.returns-in-PutQueue-clause-change
returns-in-PutQueue-clause-change c =
    let index = c.in-PutQueue.index in
    let queue = c.in-PutQueue.queue in
    ok_then c.make_queue.result _ _ (λ x made f of.
    let own = of_file (λ shape log raw store. IsMade shape log raw c.make_queue.new.table index queue x) f c.args.shape.now c.args.log.now
    c.args.table.now c.args.store.now c.args.item.now of made in
    let change = made_change f index queue c.make_queue.new.table x of.sound
    (can_be f c.args.item.now (PutQueue index queue) c.in-PutQueue.is of.can) own in
    subst (λ (m : SpaceMove). IsChange f (moved m f.space) c.make_queue.new.table c.args.store.now x.first x.message.items (payload_in x.frame.items))
    (sym c.in-PutQueue.is)
    (subst (λ (store : Store). IsChange f (moved (PutQueue index queue) f.space) c.make_queue.new.table store x.first x.message.items (payload_in x.frame.items))
    of.store_is change)) c.make_queue.ensures.made
