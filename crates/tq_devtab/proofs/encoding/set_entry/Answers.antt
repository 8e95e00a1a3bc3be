use Rattle.std.proofs.Common.{◌≡◌, inl, inr, false, ◌+◌, List, length, Option, ap, sym, subst, ◌∙◌, arith}
use Rattle.std.specs.Prelude.{option_map}
use Rattle.tq_model.specs.declared.answer.Extent.{Extent}
use Rattle.tq_model.specs.DeviceForm.{extents_at}
use Rattle.tq_devtab.specs.declared.entry.TableEntry.{TableEntry}
use Rattle.tq_devtab.specs.Table.{entry_view, raw_of}
use Rattle.tq_devtab.specs.Spelling.{names_byte}
use Rattle.tq_devtab.proofs.SpellingLemmas.{unused_entry, used_entry, extents-same}
use Rattle.tq_devtab.proofs.encoding.set_entry.Goals as goal

pub returns-in-None-clause-spelt : goal.returns-in-None-clause-spelt
returns-in-None-clause-spelt c =
    let size = c.requires.base in
    unused_entry c.args.at c.args.extents c.args.base.now (omega arith) c.requires.zero
    ∙ sym (ap (λ (o : Option TableEntry). raw_of (option_map entry_view o)) c.in-None.is)

pub returns-in-Some-clause-spelt : goal.returns-in-Some-clause-spelt
returns-in-Some-clause-spelt c =
    let size = c.requires.base in
    let n = entry_view c.in-Some.space in
    let spelt : extents_at (length n.extents) c.args.extents c.set_extents.new.base ≡ n.extents =
    subst (λ (l : List Extent). extents_at (length l) c.args.extents c.set_extents.new.base ≡ l) c.as_slice.ensures c.set_extents.ensures.spelt in
    let kept =
    extents-same (length n.extents) c.args.extents c.set_extents.new.base c.set_space.new.base (omega arith)
    (λ i from to. c.set_space.ensures.outside i (inr (omega arith))) in
    used_entry c.args.at c.args.extents n c.set_space.new.base (omega arith) c.set_space.ensures.name.most c.set_space.ensures.spelt (kept ∙ spelt)
    ∙ sym (ap (λ (o : Option TableEntry). raw_of (option_map entry_view o)) c.in-Some.is)

pub returns-in-Some-clause-between : goal.returns-in-Some-clause-between
returns-in-Some-clause-between c = λ i lt none.
    let own = subst (λ (o : Option TableEntry). names_byte (option_map entry_view o) i ≡ false) c.in-Some.is none in
    c.set_space.ensures.between i lt own ∙ c.set_extents.ensures.outside (c.args.at + i) (inl (omega arith))
    ∙ c.requires.zero (c.args.at + i) (omega arith) (omega arith)
