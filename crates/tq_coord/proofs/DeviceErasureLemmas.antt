-- What a stop leaves while a device without spaces is made blank.
use Rattle.std.proofs.Common.{◌≡◌, inl, inr, ℕ, zero, suc, List, [], ◌∷◌, length, get_or, Option, Some, None, refl, sym, ◌∙◌, ap, subst, arith}
use Rattle.std.specs.Prelude.{option_map}
use Rattle.std.proofs.lemmas.List.{append-nil}
use Rattle.tq_host.specs.View.{View, Images}
use Rattle.tq_host.specs.Within.{KeepsRest, Within}
use Rattle.tq_host.proofs.AllDevices.{of_one}
use Rattle.tq_model.specs.Reading.{NamedSpace}
use Rattle.tq_model.specs.Site.{Site, present, space_count}
use Rattle.tq_model.specs.Step.{Outcome, erasure_refusal, erase_device, unless, with_blank_device}
use Rattle.tq_model.specs.declared.answer.DeviceAnswer.{DeviceAnswer}
use Rattle.tq_model.specs.declared.answer.Answer.TheVariants as answers
use Rattle.tq_devtab.specs.Device.{IsAny, IsErasing, IsStillHeaded}
use Rattle.tq_devtab.specs.InMemory.{part_of}
use Rattle.tq_devtab.specs.Volume.{TablePart, HasTable}
use Rattle.tq_devtab.proofs.ErasingLemmas.{bare_table_kept}
use Rattle.tq_site.proofs.JournalLemmas.{same_below}
use Rattle.tq_spacefile.specs.declared.file.SpaceFile.{SpaceFile}
use Rattle.tq_coord.specs.declared.site.Disk.{Disk}
use Rattle.tq_coord.specs.declared.site.Manager.{Manager}
use Rattle.tq_coord.specs.Manager.{HasDisk, HasDiskOrIsBlank, IsFileAt, all_placed, epoch_of, files_of, placed_in, site_of, site_with}
use Rattle.tq_coord.specs.Together.{IsFileOf}
use Rattle.tq_coord.specs.Images.{AreEither, ImagesHave, ImagesMatch}
use Rattle.tq_coord.specs.Serving.{ChangesOnce}
use Rattle.tq_coord.proofs.FoundLemmas.{HasParts, blank_found, parts_found, site_from}
use Rattle.tq_coord.proofs.FrameLemmas.{others_of_call}
use Rattle.tq_coord.proofs.ImageLemmas.{found_have}
use Rattle.tq_coord.proofs.PlacedLemmas.{placed-at}

-- ---- a device without spaces

none_at : {X : Type 0} (xs : List (Option X)) (i : ℕ) → length (present xs) ≡ 0 → get_or xs i None ≡ None
none_at [] i none = refl
none_at (None ∷ xs) zero none = refl
none_at (None ∷ xs) (suc i) none = none_at xs i none
none_at (Some x ∷ xs) i none = absurd (omega (arith, none))

none_present : {X : Type 0} (xs : List (Option X)) → ((i : ℕ) → get_or xs i None ≡ None) → present xs ≡ []
none_present [] none = refl
none_present (None ∷ xs) none = none_present xs (λ i. none (suc i))
none_present (Some x ∷ xs) none = absurd (let first = none 0 in cc)

-- an entry without a space in its place is not used
entry_unused : (t : TablePart) (n : Option NamedSpace) (f : Option SpaceFile) → IsFileOf 0 t n f → placed_in n f ≡ None → (n ≡ None) × (f ≡ None)
entry_unused t None None is none = (refl, refl)
entry_unused t None (Some f) is none = absurd is
entry_unused t (Some n) None is none = absurd is
entry_unused t (Some n) (Some f) is none = absurd (cc)

module _ (d : Disk) (next : ℕ) (bare : space_count (site_with (Some d) next) ≡ 0) where
  abbrev t : TablePart
  t = part_of d.table

  each_unused : (i : ℕ) → (get_or t.entries i None ≡ None) × (get_or (files_of d) i None ≡ None)
  each_unused i =
      let placed = all_placed t.entries (files_of d) in
      let count : length (present placed) ≡ 0 = sym (ap length (append-nil (present placed))) ∙ bare in
      entry_unused t (get_or t.entries i None) (get_or (files_of d) i None) (d.fit.each i) (sym (placed-at t.entries (files_of d) i) ∙ none_at placed i count)

  -- the bytes that are left say all of it
  bare_kept : (old : List ℕ) (images : Images) → HasDisk d next old → IsStillHeaded old (images 0) → ImagesHave (site_with (Some d) next) images
  bare_kept old images has still =
      let new = images 0 in
      let none = none_present t.entries (λ i. (each_unused i).0) in
      let table = subst (λ (place : ℕ). HasTable place t old) d.number has.table.has in
      let parts : HasParts t (epoch_of d) (files_of d) new =
      record {
        table = bare_table_kept 0 t old new none table still;
        journal = same_below (epoch_of d) old new still.size still.bytes has.journal.has;
        spaces = λ i. subst (λ (n : Option NamedSpace). IsFileAt t (epoch_of d) n (get_or (files_of d) i None) new) (sym (each_unused i).0)
            (subst (λ (f : Option SpaceFile). IsFileAt t (epoch_of d) None f new) (sym (each_unused i).1) tt);
        count = d.fit.count;
      } in
      found_have images (site_from t (epoch_of d) (files_of d)) (parts_found t (epoch_of d) (files_of d) images parts)

-- a blank device, or the bytes that are left of one that is bare
pub kept_or_erased : (disk : Option Disk) (next : ℕ) (old : List ℕ) (images : Images) → space_count (site_with disk next) ≡ 0
    → HasDiskOrIsBlank disk next old → IsErasing old (images 0) → AreEither (site_with disk next) (site_with None 0) images
kept_or_erased disk next old images bare has (inl blank) = inr (blank_found images blank)
kept_or_erased None next old images bare has (inr still) = absurd (omega (arith, has, still.was))
kept_or_erased (Some d) next old images bare has (inr still) = inl (bare_kept d next bare old images has still)

-- ---- while it is made blank

module _ (dev : ℕ) (m : Manager) (zero_dev : dev ≡ 0) (granted : erasure_refusal dev (site_of m) ≡ None) where
  abbrev o : Outcome
  o = erase_device dev (site_of m)

  pub erased_site : o.site ≡ site_with None 0
  erased_site =
      let erased : Outcome = record { site = with_blank_device dev (site_of m); answer = answers.Done } in
      ap (λ (r : Option DeviceAnswer). (unless (option_map answers.Device r) (site_of m) erased).site) granted
      ∙ ap (λ (d : ℕ). with_blank_device d (site_of m)) zero_dev

  pub erasing : (old new : View) → space_count (site_of m) ≡ 0 → ImagesMatch m old → KeepsRest 0 old new → Within 0 IsErasing IsAny old new
      → ChangesOnce o m old new
  erasing old new bare on rest stop = record {
    attached = rest.attached;
    others = others_of_call IsErasing IsAny old new stop rest;
    within = of_one 0 IsErasing IsAny (AreEither (site_of m) o.site) old new (λ image images was step any.
        subst (λ (s : Site). AreEither (site_of m) s images) (sym erased_site) (kept_or_erased m.disk m.next image images bare (on image was) step)) stop;
  }
