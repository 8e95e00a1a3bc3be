-- What a boot leaves alone where there is no site to be booted.
use Rattle.std.proofs.Common.{◌≡◌, ◌≢◌, inl, inr, ⊎_elim, ℕ, zero, suc, List, Some, false, sym, ◌∙◌, ap, subst, arith}
use Rattle.tq_host.specs.View.{View, Images, AreNow, IsSettled}
use Rattle.tq_host.specs.Within.{Came, WithinAll}
use Rattle.tq_extent.specs.Bytes.{IsSame, IsAny, IsQuiet}
use Rattle.tq_model.specs.Reading.{site_found}
use Rattle.tq_model.specs.Step.{can_boot}
use Rattle.tq_coord.specs.declared.site.Disk.{Disk}
use Rattle.tq_coord.specs.Manager.{is_bootable, IsLoaded, site_with}
use Rattle.tq_coord.specs.Frame.{device_count}
use Rattle.tq_coord.proofs.FoundLemmas.{loaded_found}

-- calls that write nothing
pub left_alone : (a b : View) → IsQuiet 0 a b → WithinAll (AreNow a) a b
left_alone a b quiet = record {
  later = quiet.stop.later;
  images = λ images may. old_images images (quiet.stop.own (images 0) (may 0)) (λ d ne. quiet.stop.others d (images d) ne (may d));
  streams = quiet.stop.streams;
  pictures = λ t p le left. ⊎_elim (λ before. inl before)
      (λ here. inr (record { images = old_images p.images here.own here.others; output = here.output })) (quiet.stop.pictures t p le left);
}
  where
    old_images : (images : Images) → Came 0 IsSame IsAny a (images 0) → ((d : ℕ) → d ≢ 0 → a.may_leave d (images d)) → AreNow a images
    old_images images own others zero = subst (λ (l : List ℕ). a.may_leave 0 l) (sym own.step) own.was
    old_images images own others (suc d) = others (suc d) (λ e. absurd (omega (arith, e)))

-- a settled device stays so
pub settled_still : (a b : View) → IsQuiet 0 a b → IsSettled 0 a → IsSettled 0 b
settled_still a b quiet settled image may = settled image (quiet.still.may_leave 0 image may) ∙ sym (quiet.still.reads 0)

-- what was loaded has the last epoch where it cannot be booted
pub not_bootable : (images : Images) (d : Disk) → IsLoaded d (images 0) → is_bootable (site_found device_count images) ≡ false
    → can_boot (site_with (Some d) 0) ≡ false
not_bootable images d is none = sym (ap is_bootable (loaded_found d images is)) ∙ none
