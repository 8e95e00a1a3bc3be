use Rattle.std.proofs.Common.{◌≡◌, ℕ, List, [], ◌∷◌, ◌++◌, Option, length, sym, ap, ◌∙◌, subst, arith, length-append}
use Rattle.std.proofs.lemmas.List.{append_assoc}
use Rattle.tq_model.specs.SpaceForm.{error_spelt}
use Rattle.tq_model.proofs.NameTests.{is_name-name}
use Rattle.tq_store.specs.Page.{IsZeroPadded, is_error}
use Rattle.tq_store.proofs.PaddedLemmas.{put_spelt}
use Rattle.tq_store.proofs.page.spell_error.Goals as goal

pub returns-in-Some-clause-spelt : goal.returns-in-Some-clause-spelt
returns-in-Some-clause-spelt c = λ start long begins.
    let name = c.in-Some.name in
    let run = c.as_bytes-name.result.now in
    let is = c.as_bytes-name.ensures.bytes in
    let size = start ++ length name ∷ [] in
    let to_name : length size ≡ 25 = omega (arith, length-append start (length name ∷ []), long) in
    let first = put_spelt 24 start (length run ∷ []) (length name ∷ []) _ _ c.put_behind.ensures (ap (λ (l : List ℕ). length l ∷ []) is) long begins in
    let second = put_spelt 25 size run name _ _ c.put_behind-in-Some.ensures is to_name first in
    let regrouped : size ++ name ≡ start ++ error_spelt c.args.error.now =
    append_assoc start (length name ∷ []) name ∙ ap (λ (e : Option (List ℕ)). start ++ error_spelt e) (sym c.in-Some.is) in
    subst (λ (l : List ℕ). IsZeroPadded l c.put_behind-in-Some.new.bytes) regrouped second

pub returns-in-Some-clause-error : goal.returns-in-Some-clause-error
returns-in-Some-clause-error c = ap is_error c.in-Some.is ∙ is_name-name c.in-Some.name c.as_bytes-name.ensures.name
