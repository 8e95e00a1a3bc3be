-- What comes of a removal, by what is found.
use Rattle.std.proofs.Common.{◌≡◌, ap, sym, Option, Some, None}
use Rattle.std.specs.Prelude.{IsSome, MatchOption}
use Rattle.tq_model.specs.declared.answer.Answer.{Answer}
use Rattle.tq_model.specs.declared.answer.Answer.TheVariants as answers
use Rattle.tq_model.specs.declared.request.SpaceRemoval.{SpaceRemoval}
use Rattle.tq_model.specs.Site.{Site, SpaceOnDevice, space_named, without_space}
use Rattle.tq_model.specs.Step.{Outcome, unless, removal_refusal, remove_found, remove_space}

-- what a removal makes that nothing refuses
abbrev pub with_removed : SpaceRemoval → Site → Outcome
with_removed r s = record { site = without_space r.space s; answer = answers.Done }

found-removed : (r : SpaceRemoval) (s : Site) (refusal : Option Answer) (found : Option SpaceOnDevice) → IsSome found
    → MatchOption found ⊥ (λ p. refusal ≡ removal_refusal r.force s p) → remove_found r s found ≡ unless refusal s (with_removed r s)
found-removed r s refusal None some is = cc
found-removed r s refusal (Some p) some is = ap (λ (o : Option Answer). unless o s (with_removed r s)) (sym is)

pub removal-is : (r : SpaceRemoval) (s : Site) (refusal : Option Answer) → IsSome (space_named r.space s)
    → MatchOption (space_named r.space s) ⊥ (λ p. refusal ≡ removal_refusal r.force s p) → remove_space r s ≡ unless refusal s (with_removed r s)
removal-is r s refusal = found-removed r s refusal (space_named r.space s)
