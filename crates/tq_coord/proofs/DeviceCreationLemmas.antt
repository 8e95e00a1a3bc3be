-- A device that is made: the journal on it, what it holds in memory, and what a stop leaves while it is made.
use Rattle.std.proofs.Common.{◌≡◌, inl, inr, ⊎_elim, ℕ, zero, suc, ◌+◌, List, [], ◌∷◌, true, ◌&&◌, length, get_or, Option, Some, None, refl, sym, ◌∙◌, ap, subst, arith}
use Rattle.std.specs.Prelude.{option_map, replicate, not, ◌==◌}
use Rattle.std.proofs.lemmas.Bool.{and_parts}
use Rattle.std.proofs.lemmas.List.Folds.{list_all-append}
use Rattle.tq_field.proofs.Runs.{get_or-run_at}
use Rattle.tq_host.specs.View.{View, Images}
use Rattle.tq_host.specs.Within.{KeepsRest, Within}
use Rattle.tq_host.proofs.AllDevices.{of_one}
use Rattle.tq_model.specs.DeviceForm.{chosen, journal_a, journal_b, journal_log_bytes, page_bytes, raw_header}
use Rattle.tq_model.specs.Reading.{DevicePart, NamedSpace, site_found, hold_all, journal_tests, has_no_decision}
use Rattle.tq_model.specs.Site.{Site, capacity_of, table_entries}
use Rattle.tq_model.specs.Step.{Outcome, creation_refusal, create_device, unless, with_new_device, new_volume, site_asked}
use Rattle.tq_model.specs.declared.request.Creation.{Creation}
use Rattle.tq_model.specs.declared.answer.DeviceAnswer.{DeviceAnswer}
use Rattle.tq_model.specs.declared.answer.Answer.{Answer}
use Rattle.tq_model.specs.declared.answer.Answer.TheVariants as answers
use Rattle.tq_model.specs.declared.answer.DeviceAnswer.TheVariants as device_answers
use Rattle.tq_model.proofs.Images.{found_spaces}
use Rattle.tq_devtab.specs.Device.{HasFirstAreas, HasPart, IsAnyStep, IsBlank, IsBlankOr, first_journal, new_part}
use Rattle.tq_devtab.specs.InMemory.{part_of, IsTableOf}
use Rattle.tq_devtab.specs.Volume.{TablePart, new_table, volume_tests}
use Rattle.tq_site.specs.InMemory.{IsJournalOf}
use Rattle.tq_site.specs.Journal.{HasFirstJournal, journal_in}
use Rattle.tq_spacefile.specs.declared.file.SpaceFile.{SpaceFile}
use Rattle.tq_coord.specs.declared.site.Disk.{Disk}
use Rattle.tq_coord.specs.declared.site.Manager.{Manager}
use Rattle.tq_coord.specs.Manager.{HasDisk, HasDiskOrIsBlank, HasFileOf, ImageMatches, epoch_of, files_of, site_of, site_with, volume_with}
use Rattle.tq_coord.specs.Together.{IsFileOf, IsTogether}
use Rattle.tq_coord.specs.Frame.{device_count}
use Rattle.tq_coord.specs.Images.{AreEither, ImagesHave, ImagesMatch}
use Rattle.tq_coord.specs.Serving.{ChangesOnce}
use Rattle.tq_coord.proofs.FoundLemmas.{blank_found, both_tests, journal_holds, site_from}
use Rattle.tq_coord.proofs.FrameLemmas.{others_of_call}
use Rattle.tq_coord.proofs.ImageLemmas.{found_have}

-- ---- its journal

shut : (k : ℕ) → k ≡ 0 → not (k == 79) ≡ true
shut k is = ap (λ n. not (n == 79)) is

pub first_journal_of : (site clusters : ℕ) (image : List ℕ) → HasPart 0 (new_part 0 site clusters) image → HasFirstAreas image → HasFirstJournal image
first_journal_of site clusters image has areas =
    let j = journal_in image in
    let both = and_parts (hold_all (volume_tests 0 image)) (journal_holds image) (sym (both_tests image) ∙ has.tests) in
    let parts = and_parts (hold_all (journal_tests j)) (has_no_decision j && true)
    (sym (list_all-append (λ test. test) (journal_tests j) (has_no_decision j ∷ [])) ∙ both.1) in
    let place : (raw_header image).journal ≡ journal_a = ap (λ (selector : ℕ). chosen selector journal_a journal_b) areas.journal in
    let byte : get_or j.log 0 0 ≡ get_or image (journal_a + page_bytes) 0 =
    get_or-run_at ((raw_header image).journal + page_bytes) journal_log_bytes image 0 0 (omega arith)
    ∙ ap (λ (at : ℕ). get_or image (at + page_bytes + 0) 0) place in
    record {
      has = record { size = has.size; tests = parts.0; says = ap (λ (d : DevicePart). d.journal) has.part };
      selector = areas.journal;
      empty = shut (get_or j.log 0 0) (byte ∙ areas.shut);
    }

-- ---- what it holds in memory

none_of : {X : Type 0} (n i : ℕ) → get_or (replicate {A = Option X} n None) i None ≡ None
none_of zero i = refl
none_of (suc n) zero = refl
none_of (suc n) (suc i) = none_of n i

all_none : {X : Type 0} (xs : List (Option X)) (n : ℕ) → length xs ≡ n → ((i : ℕ) → get_or xs i None ≡ None) → xs ≡ replicate n None
all_none [] zero size none = refl
all_none [] (suc n) size none = absurd (omega (arith, size))
all_none (x ∷ xs) zero size none = absurd (omega (arith, size))
all_none (x ∷ xs) (suc n) size none =
    let first : x ≡ None = none 0 in
    let rest = all_none xs n (omega (arith, size)) (λ i. none (suc i)) in
    λ k. first k ∷ rest k

-- no space, in the table and in memory
pub record HasNoFiles (site clusters : ℕ) (t : TablePart) (files : List (Option SpaceFile)) : Type 0 where
  pub part : t ≡ new_table site clusters
  pub count : length files ≡ 16
  pub none : (i : ℕ) → get_or files i None ≡ None

module _ (site clusters : ℕ) (t : TablePart) (files : List (Option SpaceFile)) (is : HasNoFiles site clusters t files) where
  unused : (i : ℕ) → get_or t.entries i None ≡ None
  unused i = ap (λ (p : TablePart). get_or p.entries i None) is.part ∙ none_of table_entries i

  -- what is so of no entry and no space, is so of each pair
  each_none : (P : Option NamedSpace → Option SpaceFile → Type 0) → P None None → (i : ℕ) → P (get_or t.entries i None) (get_or files i None)
  each_none P none i = subst (λ (o : Option NamedSpace). P o (get_or files i None)) (sym (unused i)) (subst (P None) (sym (is.none i)) none)

  pub new_together : IsTogether 0 t files
  new_together = record { count = is.count; each = each_none (IsFileOf 0 t) tt }

  pub new_volume_is : volume_with t files ≡ new_volume clusters
  new_volume_is =
      let none = all_none files table_entries is.count is.none in
      (λ k. volume_with (is.part k) (none k))

pub new_disk_has : (d : Disk) (site clusters next : ℕ) (image : List ℕ) → HasNoFiles site clusters (part_of d.table) (files_of d)
    → IsTableOf d.table image → IsJournalOf d.journal image → HasDisk d next image
new_disk_has d site clusters next image none table journal = record {
  table = table;
  journal = journal;
  files = each_none site clusters (part_of d.table) (files_of d) none (λ n f. HasFileOf (part_of d.table) (epoch_of d) next n f image) tt;
}

-- ---- the site of it

abbrev pub new_site : ℕ → ℕ → Site
new_site site clusters = record { identity = Some (record { site = site; epoch = 1 }); next = 0; clock = 0; devices = Some (new_volume clusters) ∷ [] }

pub new_site_is : (site clusters : ℕ) (t : TablePart) (files : List (Option SpaceFile)) (epoch : ℕ) → HasNoFiles site clusters t files → epoch ≡ 1
    → site_from t epoch files ≡ new_site site clusters
new_site_is site clusters t files epoch none first =
    let volume = new_volume_is site clusters t files none in
    λ k. record { identity = Some (record { site = (none.part k).site; epoch = first k }); next = 0; clock = 0; devices = Some (volume k) ∷ [] }

made_found : (site clusters : ℕ) (images : Images) → HasPart 0 (new_part 0 site clusters) (images 0)
    → site_found device_count images ≡ Some (new_site site clusters)
made_found site clusters images has =
    found_spaces (new_part 0 site clusters) first_journal images (record { size = has.size; tests = has.tests; part = has.part }) refl refl

module _ (creation : Creation) (m : Manager) (blank : m.disk ≡ None) (zero_dev : creation.dev ≡ 0)
    (granted : creation_refusal creation (site_of m) ≡ None) where
  abbrev created : Answer
  created = answers.Device (device_answers.Created (capacity_of (new_volume creation.clusters)))

  abbrev o : Outcome
  o = create_device creation (site_of m)

  pub made_outcome : o ≡ record { site = new_site (site_asked creation) creation.clusters; answer = created }
  made_outcome =
      ap (λ (r : Option DeviceAnswer). unless (option_map answers.Device r) (site_of m) (granted_outcome (site_of m))) granted
      ∙ ap (λ (s : Site). record { site = s; answer = created }) (ap (λ (d : Option Disk). with_new_device creation (site_with d m.next)) blank
      ∙ subst (λ d. with_new_device (record creation { dev = d }) (site_with None m.next) ≡ new_site (site_asked creation) creation.clusters)
      (sym zero_dev) refl)
    where
      granted_outcome : Site → Outcome
      granted_outcome s = record { site = with_new_device creation s; answer = created }

  blank_image : (image : List ℕ) → ImageMatches m image → IsBlank image
  blank_image image = subst (λ (d : Option Disk). HasDiskOrIsBlank d m.next image → IsBlank image) (sym blank) (λ short. short)

  -- the images while the device is made
  pub creating : (site : ℕ) (old new : View) → site ≡ site_asked creation → ImagesMatch m old → KeepsRest 0 old new
      → (((image : List ℕ) → old.may_leave 0 image → IsBlank image) → Within 0 IsAnyStep (IsBlankOr 0 (new_part 0 site creation.clusters)) old new)
      → ChangesOnce o m old new
  creating site old new asked on rest stop =
      let within = stop (λ image may. blank_image image (on image may)) in
      record {
        attached = rest.attached;
        others = others_of_call IsAnyStep (IsBlankOr 0 (new_part 0 site creation.clusters)) old new within rest;
        within = of_one 0 IsAnyStep (IsBlankOr 0 (new_part 0 site creation.clusters)) (AreEither (site_of m) o.site) old new (λ b images was step is. ⊎_elim
            (λ short. inl (subst (λ (d : Option Disk). ImagesHave (site_with d m.next) images) (sym blank) (blank_found images short)))
            (λ has. inr (subst (λ (s : Site). ImagesHave s images) (sym (ap (λ (x : Outcome). x.site) made_outcome))
            (subst (λ (n : ℕ). ImagesHave (new_site n creation.clusters) images) asked
            (found_have images (new_site site creation.clusters) (made_found site creation.clusters images has))))) is) within;
      }
