use Rattle.std.proofs.Common.{◌≡◌, Option, None, Some, false, ap, arith, rules}
use Rattle.std.specs.Prelude.{is_some, IfNone}
use Rattle.tq_model.specs.declared.answer.SpacePages.{SpacePages}
use Rattle.tq_coord.proofs.site.Manager.creation_fault.Goals as goal

none_found : {X : Type 0} (o : Option X) (P : Type 0) → false ≡ is_some o → IfNone o P → P
none_found None P none is = is
none_found (Some x) P none is = absurd (cc)

pub returns-clause-allowed : goal.returns-clause-allowed
returns-clause-allowed c =
    let asked = c.pages_of-pages.ensures in
    record {
      dev = c.if-creation-ne0.false;
      disk = c.in-Some.disk;
      there = c.in-Some.is;
      new = none_found c.entry_named.result _ c.if-is_some.ensures c.entry_named.ensures.none;
      fields = search rules;
      large = omega (arith, c.if-pages.false, ap (λ (p : SpacePages). p.pages) asked, ap (λ (p : SpacePages). p.overhead) asked);
    }
