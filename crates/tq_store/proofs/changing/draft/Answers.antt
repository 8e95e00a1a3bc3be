use Rattle.std.proofs.Common.{◌≡◌, ◌≤◌, ◌-◌, ℕ, Bool, true, false, not, [], ◌∷◌, ◌++◌, List, length, refl, ap, subst, sym, ◌∙◌, arith}
use Rattle.tq_gate.specs.Frame.{payload_in}
use Rattle.tq_gate.proofs.FrameLemmas.{length-payload_in}
use Rattle.tq_gate.specs.Log.{FitsIn}
use Rattle.tq_slots.specs.declared.record.Set.{Set}
use Rattle.tq_slots.specs.RecordForm.{AreSets, spelt}
use Rattle.tq_store.proofs.DraftLemmas.{record_small}
use Rattle.tq_store.proofs.changing.draft.Goals as goal

fits_so : (b : Bool) → not b ≡ false → b ≡ true
fits_so true h = refl
fits_so false h = absurd (cc)

pub returns-clause-fits : goal.returns-clause-fits
returns-clause-fits c =
    let frame = c.in_ok-frame.frame.items in
    let set = c.args.set in
    let size = length-payload_in frame c.in_ok-frame.ensures.frame in
    let sets : c.push.new.self.items ≡ set ∷ [] = c.in_ok-push.ensures.items ∙ ap (λ (l : List Set). l ++ set ∷ []) c.new-sets.ensures.items in
    let payload : payload_in frame ≡ spelt (record { kind = c.args.kind; sets = set ∷ [] }) =
    c.in_ok-frame.ensures.spelt ∙ ap (λ (l : List Set). spelt (record { kind = c.args.kind; sets = l })) sets in
    record {
      small = subst (λ (l : List ℕ). length l ≤ 518) (sym payload) (record_small c.args.kind set (subst AreSets sets c.in_ok-frame.ensures.sets));
      room = λ room.
          let long = c.in_ok-frame.frame.ok.0 in
          let len = c.len.ensures in
          let bytes : c.len.result - 6 ≡ length (payload_in frame) = omega arith in
          subst (FitsIn c.args.log.now) bytes (c.fits-full.ensures.0 (fits_so c.fits-full.result room));
      base_size = c.in_ok-base.ensures.size;
      base = c.in_ok-base.ensures.slots;
    }
