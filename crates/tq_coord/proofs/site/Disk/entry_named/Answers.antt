use Rattle.std.proofs.Common.{◌≡◌, ◌∙◌, List, Option, None, Some, sym, ap, subst, get_or, arith}
use Rattle.std.specs.Prelude.{is_some}
use Rattle.std.specs.List.{find}
use Rattle.std.specs.Str.{bytes_eq}
use Rattle.std.proofs.lemmas.List.{take_all}
use Rattle.tq_model.specs.Site.{SpaceOnDevice, present, has_name}
use Rattle.tq_devtab.specs.declared.entry.TableEntry.{TableEntry}
use Rattle.tq_coord.specs.Manager.{volume_in}
use Rattle.tq_coord.proofs.PlacedLemmas.{all-placed-long, entry-there, entry-unused, found-at, unnamed-more, same-some}
use Rattle.tq_coord.proofs.site.Disk.entry_named.Goals as goal

pub loop-index-preserved-in_default : goal.loop-index-preserved-in_default
loop-index-preserved-in_default c =
    let d = c.args.self.now in
    let i = c.loop-index.index in
    let none = entry-unused d i c.entries.result.now c.index-entries-index.result c.entries.ensures c.loop-index-test.true c.index-entries-index.is c.in_default.is in
    unnamed-more c.args.name.now (volume_in d).entries i (omega (arith, all-placed-long d, c.loop-index-test.true)) c.loop-index.invariant
    (λ p at. absurd (none-some p (sym none ∙ at)))
  where
    none-some : (p : SpaceOnDevice) → None ≡ Some p → ⊥
    none-some p is = cc

pub returns-then-eq-clause-some : goal.returns-then-eq-clause-some
returns-then-eq-clause-some c =
    let d = c.args.self.now in
    let i = c.loop-index.index in
    let name = c.args.name.now in
    let there = entry-there d i c.entries.result.now c.in-Some.space c.entries.ensures c.loop-index-test.true
    (subst (λ (o : Option TableEntry). o ≡ get_or c.entries.result.now i o) c.in-Some.is c.index-entries-index.is) in
    let named = ap (λ n. bytes_eq n name) there.1.1 ∙ sym c.eq.ensures ∙ c.if-eq.true in
    (c.loop-index-test.true, found-at name (volume_in d).entries i there.0 c.loop-index.invariant there.1.0 named ∙ sym there.1.0, ap (λ (o : Option SpaceOnDevice). is_some o) there.1.0)

pub loop-index-preserved : goal.loop-index-preserved
loop-index-preserved c =
    let d = c.args.self.now in
    let i = c.loop-index.index in
    let name = c.args.name.now in
    let there = entry-there d i c.entries.result.now c.in-Some.space c.entries.ensures c.loop-index-test.true
    (subst (λ (o : Option TableEntry). o ≡ get_or c.entries.result.now i o) c.in-Some.is c.index-entries-index.is) in
    let other = ap (λ n. bytes_eq n name) there.1.1 ∙ sym c.eq.ensures ∙ c.if-eq.false in
    unnamed-more name (volume_in d).entries i (omega (arith, all-placed-long d, c.loop-index-test.true)) c.loop-index.invariant
    (λ p at. ap (has_name name) (same-some p there.0 (sym at ∙ there.1.0)) ∙ other)

pub returns-clause-none : goal.returns-clause-none
returns-clause-none c =
    let placed = (volume_in c.args.self.now).entries in
    sym (ap (λ (l : List (Option SpaceOnDevice)). find (has_name c.args.name.now) (present l)) (take_all c.loop-index.index placed (omega (arith, all-placed-long c.args.self.now, c.loop-index-test.false))))
    ∙ c.loop-index.invariant
