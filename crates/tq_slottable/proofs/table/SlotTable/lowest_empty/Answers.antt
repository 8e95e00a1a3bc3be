use Rattle.std.proofs.Common.{◌≡◌, ◌<◌, ◌≤◌, ◌-◌, ◌∙◌, ℕ, map, length, get_or, sym, subst, ap, arith}
use Rattle.std.proofs.lemmas.List.{length-map}
use Rattle.tq_slots.specs.MessageSlots.{Slots}
use Rattle.tq_slots.specs.SlotTable.{lowest_empty}
use Rattle.tq_slots.specs.SlotImages.{RawSlots, slots_in, used_of}
use Rattle.tq_slottable.specs.declared.table.SlotTable.TheInside.{Inside}
use Rattle.tq_slottable.specs.Table.{IsTable, table_view}
use Rattle.tq_slottable.proofs.PlaceLemmas.{empty_some, lowest_end}
use Rattle.tq_slottable.proofs.table.SlotTable.lowest_empty.Goals as goal

some_there : (t : Inside) (v : RawSlots) → table_view t ≡ v → IsTable t → lowest_empty (slots_in v) < length v.messages → 1 ≤ length t.empty.items
some_there t v view is room =
    let slots : Slots = map used_of t.messages.items in
    let long = length-map t.messages.items used_of in
    let here : lowest_empty slots < length t.messages.items =
    subst (λ (w : RawSlots). lowest_empty (slots_in w) < length w.messages) (sym view) room in
    empty_some slots t.empty.items is.empty (omega arith)

pub overflow_sub-len : goal.overflow_sub-len
overflow_sub-len c =
    let some = some_there c.self.inside c.args.self.now c.self.view_is c.self.invariant c.requires in
    let len = c.self.inside.empty.ok.0 in
    let is = c.len.ensures in
    omega arith

pub index-requires : goal.index-requires
index-requires c =
    let some = some_there c.self.inside c.args.self.now c.self.view_is c.self.invariant c.requires in
    let len = c.self.inside.empty.ok.0 in
    let is = c.len.ensures in
    omega arith

pub returns : goal.returns
returns c =
    let items = c.self.inside.empty.items in
    let some = some_there c.self.inside c.args.self.now c.self.view_is c.self.invariant c.requires in
    let len = c.self.inside.empty.ok.0 in
    let is = c.len.ensures in
    let at : c.len.result - 1 ≡ length items - 1 = omega arith in
    c.index.ensures ∙ ap (λ (k : ℕ). get_or items k c.index.result.now) at
    ∙ lowest_end (map used_of c.self.inside.messages.items) items c.index.result.now c.self.invariant.empty some
    ∙ ap (λ (v : RawSlots). lowest_empty (slots_in v)) c.self.view_is
