use Rattle.std.proofs.Common.{ℕ, map, sym, subst}
use Rattle.std.specs.Prelude.{IfNone}
use Rattle.tq_site.specs.Base.{SaysEpoch}
use Rattle.tq_site.proofs.loading.journal_of.Goals as goal

pub returns-in_err-epoch-clause-none : goal.returns-in_err-epoch-clause-none
returns-in_err-epoch-clause-none c =
    let none : (epoch : ℕ) → SaysEpoch epoch c.args.loaded.base.items (map (λ v. v.items) c.args.loaded.payloads.items) → ⊥ = λ epoch says.
    c.in_err-epoch.ensures.none epoch
    (subst (λ base. SaysEpoch epoch base (map (λ v. v.items) c.deref-2.result.now)) (sym c.deref.ensures.value)
    (subst (λ payloads. SaysEpoch epoch c.args.loaded.base.items (map (λ v. v.items) payloads)) (sym c.deref-2.ensures.value) says)) in
    subst (λ o. IfNone o ((epoch : ℕ) → SaysEpoch epoch c.args.loaded.base.items (map (λ v. v.items) c.args.loaded.payloads.items) → ⊥)) (sym c.from_residual.ensures) none
