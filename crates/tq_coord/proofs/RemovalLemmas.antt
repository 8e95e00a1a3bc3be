-- A space is removed, or its messages are against it: the machine's step.
use Rattle.std.proofs.Common.{◌≡◌, ◌⊎◌, inl, inr, ◌<◌, ◌≤◌, ℕ, true, false, Bool, not, List, [], Option, Some, None, get_or, set, map, sym, ◌∙◌, ap, subst}
use Rattle.std.specs.Prelude.{is_some, option_map, nat_lt, ◌&&◌, if◌then◌else◌}
use Rattle.std.proofs.Math.ListN.{get_or-map}
use Rattle.std.proofs.lemmas.Bool.{le-ltb, lt-ltb}
use Rattle.std.proofs.lemmas.List.{get_or-set_same}
use Rattle.tq_model.specs.declared.answer.Answer.{Answer}
use Rattle.tq_model.specs.declared.answer.Answer.TheVariants as answers
use Rattle.tq_model.specs.declared.answer.SpaceAnswer.TheVariants as space_answers
use Rattle.tq_model.specs.declared.request.SpaceRemoval.{SpaceRemoval}
use Rattle.tq_model.specs.Reading.{NamedSpace}
use Rattle.tq_model.specs.Room.{messages_held}
use Rattle.tq_model.specs.Site.{Site, Volume, SpaceOnDevice, volume_of, space_named, without_space, durable, durable_space}
use Rattle.tq_model.specs.Step.{Outcome, remove_space, remove_found, removal_refusal, unless, refused}
use Rattle.tq_spacefile.specs.declared.file.SpaceFile.{SpaceFile}
use Rattle.tq_coord.specs.declared.site.Disk.{Disk}
use Rattle.tq_coord.specs.declared.site.Manager.{Manager}
use Rattle.tq_coord.specs.Manager.{site_of, site_with, placed_of, volume_in}
use Rattle.tq_coord.specs.Spaces.{entry_dropped}
use Rattle.tq_coord.proofs.NamedEntryLemmas.{IsNamedAt, nothing_some, space_found, space_gone, placed_there}
use Rattle.tq_coord.proofs.OneFileLemmas.{some_within}

-- whether messages are against a removal
pub held_against : (force : Bool) (count : ℕ) → force ≡ false → 0 < count → (not force && nat_lt 0 count) ≡ true
held_against force count gentle some = let lt = lt-ltb 0 count some in λ i. not (gentle i) && lt i

pub none_against : (force : Bool) (count : ℕ) → ((force ≡ false) × (count ≤ 0)) ⊎ (force ≡ true) → (not force && nat_lt 0 count) ≡ false
none_against force count (inl none) = let le = le-ltb 0 count none.1 in λ i. not (none.0 i) && le i
none_against force count (inr forced) = λ i. not (forced i) && nat_lt 0 count

abbrev entries_of : Option Volume → List (Option SpaceOnDevice)
entries_of None = []
entries_of (Some v) = v.entries

abbrev entry_of : ℕ → Site → Option SpaceOnDevice
entry_of at s = get_or (entries_of (volume_of s 0)) at None

durable_entry : (at : ℕ) (entries : List (Option SpaceOnDevice)) → get_or (map (option_map durable_space) entries) at None ≡ option_map durable_space
    (get_or entries at None)
durable_entry at entries = get_or-map (option_map durable_space) entries at None

module _ (r : SpaceRemoval) (m : Manager) (d : Disk) (there : m.disk ≡ Some d) (at : ℕ) (n : NamedSpace) (f : SpaceFile) (is : IsNamedAt d r.space at n f) where
  abbrev site : Site
  site = site_with (Some d) m.next

  abbrev placed : SpaceOnDevice
  placed = placed_of n f

  site_known : site_of m ≡ site
  site_known = ap (λ (x : Option Disk). site_with x m.next) there

  by_refusal : (refusal : Option Answer) → removal_refusal r.force (site_of m) placed ≡ refusal → remove_space r (site_of m) ≡ unless refusal (site_of m)
      (entry_dropped at (site_of m))
  by_refusal refusal same =
      ap (remove_found r (site_of m)) (ap (space_named r.space) site_known ∙ space_found d r.space at n f is m.next)
      ∙ (λ i. unless (same i) (site_of m) (let o : Outcome = record { site = gone i; answer = answers.Done } in o))
    where
      gone : without_space r.space (site_of m) ≡ (entry_dropped at (site_of m)).site
      gone = ap (without_space r.space) site_known ∙ space_gone d r.space at n f is m.next ∙ sym (ap (λ (s : Site). (entry_dropped at s).site) site_known)

  refusal_by : (b : Bool) → (not r.force && nat_lt 0 (messages_held placed.space)) ≡ b
      → removal_refusal r.force (site_of m) placed ≡ (if b then Some (answers.Space (space_answers.NotEmpty (messages_held placed.space))) else None)
  refusal_by b same = ap (λ c. if c then Some (answers.Space (space_answers.NotEmpty (messages_held placed.space))) else None) same

  -- its messages are against it
  pub removal_refused : (not r.force && nat_lt 0 (messages_held placed.space)) ≡ true
      → remove_space r (site_of m) ≡ refused (site_of m) (answers.Space (space_answers.NotEmpty (messages_held placed.space)))
  removal_refused held = by_refusal (Some (answers.Space (space_answers.NotEmpty (messages_held placed.space)))) (refusal_by true held)

  -- nothing is
  pub removal_granted : (not r.force && nat_lt 0 (messages_held placed.space)) ≡ false → remove_space r (site_of m) ≡ entry_dropped at (site_of m)
  removal_granted none = by_refusal None (refusal_by false none)

  -- a removal does not leave alone what lasts
  pub removal_lasts : durable (entry_dropped at (site_of m)).site ≡ durable (site_of m) → ⊥
  removal_lasts same =
      let entries = (volume_in d).entries in
      let here = placed_there d r.space at n f is m.next in
      let none : entry_of at (durable (entry_dropped at site).site) ≡ None =
      durable_entry at (set entries at None) ∙ ap (option_map durable_space) (get_or-set_same entries at None None (some_within entries at placed here)) in
      let some : entry_of at (durable site) ≡ Some (durable_space placed) = durable_entry at entries ∙ ap (option_map durable_space) here in
      let both : entry_of at (durable (entry_dropped at site).site) ≡ entry_of at (durable site) =
      ap (entry_of at) (subst (λ (s : Site). durable (entry_dropped at s).site ≡ durable s) site_known same) in
      nothing_some (entry_of at (durable site)) (sym both ∙ none) (ap (λ (o : Option SpaceOnDevice). is_some o) some)
