-- What a stop leaves within a boot.
use Rattle.std.proofs.Common.{◌≡◌, inl, inr, ⊎_elim, List, ℕ, Some, sym, ◌∙◌, subst}
use Rattle.tq_host.specs.View.{Told, View, Images, AreNow, IsLawful, IsSettled}
use Rattle.tq_host.specs.Within.{WithinAll}
use Rattle.tq_host.proofs.AllDevices.{weaker_all, all_in_a_row}
use Rattle.tq_extent.specs.Bytes.{IsQuiet}
use Rattle.tq_model.specs.Site.{Site}
use Rattle.tq_model.specs.Reading.{site_found}
use Rattle.tq_devtab.proofs.PictureLemmas.{settled_has}
use Rattle.tq_coord.specs.declared.site.Disk.{Disk}
use Rattle.tq_coord.specs.Manager.{IsLoaded, site_with}
use Rattle.tq_coord.specs.Frame.{device_count}
use Rattle.tq_coord.specs.Images.{ImagesHave, ImagesHaveAny, AreFoundOrBooted, AreOldOrBooted}
use Rattle.tq_coord.proofs.ImageLemmas.{found_have}
use Rattle.tq_coord.proofs.FoundLemmas.{loaded_found}
use Rattle.tq_coord.proofs.LeftAloneLemmas.{left_alone}

module _ (sites : List Site) (found : Site) (a b : View) (stand : (images : Images) → AreNow a images → ImagesHaveAny sites images)
    (quiet : IsQuiet 0 a b) where
  -- while a device is read, all images are old ones
  pub still_old : WithinAll (AreOldOrBooted sites found) a b
  still_old = weaker_all (AreNow a) (AreOldOrBooted sites found) a b (λ images may. inl (stand images may)) (left_alone a b quiet)

  -- images of what is found stand for each site for which what is read does
  found_again : site_found device_count a.reads ≡ Some found → (images : Images) → ImagesHave found images
      → ImagesHaveAny sites a.reads → ImagesHaveAny sites images
  found_again is images stands (k, s, below, at, read) = (k, s, below, at, stands ∙ sym (found_have a.reads found is) ∙ read)

  -- and then the epoch of what was loaded is raised
  pub then_raised : (d : Disk) (c : View) → AreNow a a.reads → site_found device_count a.reads ≡ Some found → IsLoaded d (a.reads 0)
      → ((image : List ℕ) → b.may_leave 0 image → IsLoaded d image)
      → (((image : List ℕ) → b.may_leave 0 image → IsLoaded d image) → WithinAll (AreFoundOrBooted (site_with (Some d) 0)) b c)
      → WithinAll (AreOldOrBooted sites found) a c
  then_raised d c now is loaded all raised =
      let same : Some (site_with (Some d) 0) ≡ Some found = sym (loaded_found d a.reads loaded) ∙ is in
      let held : site_with (Some d) 0 ≡ found = cc in
      all_in_a_row (AreOldOrBooted sites found) a b c still_old
      (weaker_all (AreFoundOrBooted found) (AreOldOrBooted sites found) b c
      (λ images has. ⊎_elim (λ old. inl (found_again is images old (stand a.reads now))) (λ new. inr new) has)
      (subst (λ (s : Site). WithinAll (AreFoundOrBooted s) b c) held (raised all)))

-- ---- what a settled device was read from

-- each image that a stop may leave then has it
pub all_loaded : {tells : Told} (d : Disk) (a b : View) → IsQuiet 0 a b → IsLawful tells b → IsSettled 0 b → (tells.reads → IsLoaded d (a.reads 0))
    → (image : List ℕ) → b.may_leave 0 image → IsLoaded d image
all_loaded d a b quiet lawful settled loaded =
    settled_has (IsLoaded d) 0 b lawful settled (λ told. subst (IsLoaded d) (sym (quiet.still.reads 0)) (loaded told))
