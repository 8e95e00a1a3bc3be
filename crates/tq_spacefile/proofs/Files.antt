-- A space on its device: what it depends on, and what a record more makes of it.
use Rattle.std.proofs.Common.{◌≡◌, ◌≤◌, ℕ, ◌+◌, ◌-◌, true, List, [], ◌∷◌, ◌++◌, length, Option, None, Some, refl, sym, ap, subst, ◌∙◌}
use Rattle.std.specs.Option.{option_map, option_and_then}
use Rattle.std.proofs.lemmas.Option.{none-some, same_Some}
use Rattle.tq_field.specs.GatedLog.{end_of}
use Rattle.tq_extent.specs.Bytes.{owned_bytes, reaches}
use Rattle.tq_gate.specs.Reading.{Content, content_on}
use Rattle.tq_gate.specs.Log.{IsOpen, IsLog, IsSameLog, free_in}
use Rattle.tq_gate.specs.Layout.{bytes_in, clusters_of, log_length}
use Rattle.tq_gate.specs.declared.layout.Layout.{Layout}
use Rattle.tq_gate.proofs.Readings.{end_of-push}
use Rattle.tq_model.specs.declared.space.Shape.{Shape}
use Rattle.tq_model.specs.declared.record.SpaceRecord.{SpaceRecord}
use Rattle.tq_model.specs.DeviceForm.{first_page}
use Rattle.tq_model.specs.Moves.{IndexedSpace}
use Rattle.tq_model.specs.Plain.{HasEpochs}
use Rattle.tq_model.specs.SpaceForm.{raw_space, shape_of, log_bytes, spelt, record_in, can_follow, replayed, empty_space}
use Rattle.tq_model.specs.Reading.{page_tests, hold_all, payloads_in, space_in, Replayed}
use Rattle.tq_model.proofs.Replays.{followed_from, replayed_more, replayed_later, replayed_epochs, empty_ids}
use Rattle.tq_spacefile.specs.declared.place.SpacePlace.{SpacePlace}
use Rattle.tq_spacefile.specs.declared.file.SpaceFile.{SpaceFile}
use Rattle.tq_spacefile.specs.Place.{page_of, log_layout}
use Rattle.tq_spacefile.specs.File.{HasSpace, IsFormatted, IsFile, place_in, clusters_in, held_in, logged_in, log_of}
use Rattle.tq_spacefile.specs.Record.{with_record}
use Rattle.tq_spacefile.proofs.Logs.{content_with, content_some}

-- ---- the reading of a space, by its payloads

-- the space before its first record, by the bytes of its owner
abbrev pub start_in : SpacePlace → List ℕ → IndexedSpace
start_in place bytes = empty_space (shape_of place.pages (raw_space (first_page bytes))) place.site place.number

abbrev replayed_to : List (List ℕ) → IndexedSpace → Replayed
replayed_to payloads space = record { payloads = payloads; space = space }

abbrev read_by : ℕ → IndexedSpace → Option (List (List ℕ)) → Option Replayed
read_by epoch start payloads = option_and_then (λ ps. option_map (replayed_to ps) (replayed epoch ps start)) payloads

mapped_parts : (ps qs : List (List ℕ)) (held : IndexedSpace) (o : Option IndexedSpace) → option_map (replayed_to qs) o ≡ Some (replayed_to ps held)
    → (qs ≡ ps) × (o ≡ Some held)
mapped_parts ps qs held None is = absurd (none-some (replayed_to ps held) is)
mapped_parts ps qs held (Some s) is =
    let e : replayed_to qs s ≡ replayed_to ps held = same_Some (replayed_to qs s) (replayed_to ps held) is in
    (ap (λ (x : Replayed). x.payloads) e, ap (λ (x : Replayed). Some x.space) e)

read_parts : (epoch : ℕ) (start : IndexedSpace) (o : Option (List (List ℕ))) (ps : List (List ℕ)) (held : IndexedSpace)
    → read_by epoch start o ≡ Some (replayed_to ps held)
    → (o ≡ Some ps) × (replayed epoch ps start ≡ Some held)
read_parts epoch start None ps held is = absurd (none-some (replayed_to ps held) is)
read_parts epoch start (Some qs) ps held is =
    let parts = mapped_parts ps qs held (replayed epoch qs start) is in
    (ap (λ (l : List (List ℕ)). Some l) parts.0, subst (λ (l : List (List ℕ)). replayed epoch l start ≡ Some held) parts.0 parts.1)

pub read_from : (epoch : ℕ) (start : IndexedSpace) (o : Option (List (List ℕ))) (ps : List (List ℕ)) (held : IndexedSpace) → o ≡ Some ps
    → replayed epoch ps start ≡ Some held
    → read_by epoch start o ≡ Some (replayed_to ps held)
read_from epoch start o ps held is replays =
    ap (read_by epoch start) is ∙ ap (option_map (replayed_to ps)) replays

-- where there are no payloads, or they cannot be replayed, there is no reading
pub unread : (epoch : ℕ) (place : SpacePlace) (bytes : List ℕ) → payloads_in place.pages bytes ≡ None
    → space_in place.site place.number epoch place.pages bytes ≡ None
unread epoch place bytes none = ap (read_by epoch (start_in place bytes)) none

pub unreplayed : (epoch : ℕ) (place : SpacePlace) (bytes : List ℕ) (ps : List (List ℕ)) → payloads_in place.pages bytes ≡ Some ps
    → replayed epoch ps (start_in place bytes) ≡ None
    → space_in place.site place.number epoch place.pages bytes ≡ None
unreplayed epoch place bytes ps is none = ap (read_by epoch (start_in place bytes)) is ∙ ap (option_map (replayed_to ps)) none

module _ (place : SpacePlace) (clusters : List ℕ) (epoch : ℕ) (held : IndexedSpace) (logged : ℕ) (image : List ℕ) (has : HasSpace place clusters epoch held logged image) where
  abbrev payloads_there : List ℕ → Option (List (List ℕ))
  payloads_there new = payloads_in place.pages (owned_bytes clusters new)

  abbrev start : IndexedSpace
  start = start_in place (owned_bytes clusters image)

  -- the payloads, and what they make
  pub space_parts : (payloads_there image ≡ Some has.payloads) × (replayed epoch has.payloads start ≡ Some held)
  space_parts = read_parts epoch start (payloads_there image) has.payloads held has.reads

  -- What a space was is so in a later epoch.
  pub has_space_later : (later : ℕ) → epoch ≤ later → HasSpace place clusters later held logged image
  has_space_later later le = record {
    reach = has.reach;
    page = has.page;
    payloads = has.payloads;
    reads = read_from later start (payloads_there image) has.payloads held space_parts.0 (replayed_later epoch later has.payloads start held le space_parts.1);
    ends = has.ends;
  }

  pub has_space_epochs : HasEpochs epoch held
  has_space_epochs =
      replayed_epochs epoch has.payloads start held (empty_ids (λ id. id.epoch ≤ epoch) (shape_of place.pages (raw_space (page_of clusters image))) place.site place.number) space_parts.1

  -- Only the bytes of the owner tell what the space is.
  pub has_space_kept : (new : List ℕ) → owned_bytes clusters new ≡ owned_bytes clusters image → reaches clusters new ≡ true
      → HasSpace place clusters epoch held logged new
  has_space_kept new same reach = record {
    reach = reach;
    page = ap (λ (bytes : List ℕ). hold_all (page_tests place.pages (raw_space (first_page bytes)))) same ∙ has.page;
    payloads = has.payloads;
    reads = ap (space_in place.site place.number epoch place.pages) same ∙ has.reads;
    ends = has.ends;
  }

  module _ (new : List ℕ) (reach : reaches clusters new ≡ true) (same : page_of clusters new ≡ page_of clusters image) where
    -- another image with the same first page, and other payloads
    space_with : (ps : List (List ℕ)) (s : IndexedSpace) → payloads_there new ≡ Some ps → replayed epoch ps start ≡ Some s
        → HasSpace place clusters epoch s (end_of ps) new
    space_with ps s read replays =
        let begins : start_in place (owned_bytes clusters new) ≡ start = ap (λ (p : List ℕ). empty_space (shape_of place.pages (raw_space p)) place.site place.number) same in
        record {
          reach = reach;
          page = ap (λ (p : List ℕ). hold_all (page_tests place.pages (raw_space p))) same ∙ has.page;
          payloads = ps;
          reads = read_from epoch (start_in place (owned_bytes clusters new)) (payloads_there new) ps s read (subst (λ (x : IndexedSpace). replayed epoch ps x ≡ Some s) (sym begins) replays);
          ends = refl;
        }

    -- the same payloads
    pub space_same : payloads_there new ≡ Some has.payloads → HasSpace place clusters epoch held logged new
    space_same read = subst (λ n. HasSpace place clusters epoch held n new) (sym has.ends) (space_with has.payloads held read space_parts.1)

    -- a payload more, which spells a record that may follow
    pub space_more : (r : SpaceRecord) (payload : List ℕ) → payload ≡ spelt r → record_in payload ≡ Some r → can_follow epoch held r ≡ true
        → payloads_there new ≡ Some (has.payloads ++ payload ∷ []) → HasSpace place clusters epoch (with_record r held) (logged + (5 + length (spelt r))) new
    space_more r payload is back can read =
        let ps = has.payloads ++ payload ∷ [] in
        let replays = replayed_more epoch has.payloads payload start held (with_record r held) r space_parts.1 (followed_from epoch held r can) back in
        let ends : end_of ps ≡ logged + (5 + length (spelt r)) = end_of-push has.payloads payload ∙ ap (λ n. n + (5 + length payload)) (sym has.ends) ∙ ap (λ (l : List ℕ). logged + (5 + length l)) is in
        subst (λ n. HasSpace place clusters epoch (with_record r held) n new) ends (space_with ps (with_record r held) read replays)

-- ---- a space and its log in memory

pub file_kept : (f : SpaceFile) (epoch : ℕ) (old new : List ℕ) → owned_bytes (clusters_in f) new ≡ owned_bytes (clusters_in f) old
    → reaches (clusters_in f) new ≡ true → IsFile f epoch old → IsFile f epoch new
file_kept f epoch old new same reach is =
    let k = is.log.content in
    record {
      has = has_space_kept (place_in f) (clusters_in f) epoch (held_in f) (logged_in f) old is.has new same reach;
      log = record { content = k; log = record { reach = reach; is = subst (λ (bytes : List ℕ). IsOpen f.log.layout f.log.area f.log.end k bytes) (sym same) is.log.log.is } };
    }

pub file_later : (f : SpaceFile) (epoch later : ℕ) (image : List ℕ) → epoch ≤ later → IsFile f epoch image → IsFile f later image
file_later f epoch later image le is = record { has = has_space_later (place_in f) (clusters_in f) epoch (held_in f) (logged_in f) image is.has later le; log = is.log }

-- a file with the same place, space and log
pub file_same : (f g : SpaceFile) (epoch : ℕ) (image : List ℕ) → place_in g ≡ place_in f → held_in g ≡ held_in f → IsSameLog (log_of f) (log_of g)
    → IsFile f epoch image → IsFile g epoch image
file_same f g epoch image place held same is =
    let k = is.log.content in
    let clusters : clusters_in g ≡ clusters_in f = ap (λ (l : Layout). clusters_of l) same.layout in
    let logged : logged_in g ≡ logged_in f =
    ap (λ (p : SpacePlace). log_bytes p.pages - free_in (log_of g)) place
    ∙ ap (λ (l : Layout). log_bytes f.place.pages - (log_length l - g.log.end)) same.layout
    ∙ ap (λ e. log_bytes f.place.pages - (log_length f.log.layout - e)) same.end in
    record {
      has = subst (λ (p : SpacePlace). HasSpace p (clusters_in g) epoch (held_in g) (logged_in g) image) (sym place)
          (subst (λ (c : List ℕ). HasSpace (place_in f) c epoch (held_in g) (logged_in g) image) (sym clusters)
          (subst (λ (s : IndexedSpace). HasSpace (place_in f) (clusters_in f) epoch s (logged_in g) image) (sym held)
          (subst (λ n. HasSpace (place_in f) (clusters_in f) epoch (held_in f) n image) (sym logged) is.has)));
      log = record {
        content = k;
        log = record {
          reach = subst (λ (c : List ℕ). reaches c image ≡ true) (sym clusters) is.log.log.reach;
          is = subst (λ (l : Layout). IsOpen l g.log.area g.log.end k (bytes_in l image)) (sym same.layout)
              (subst (λ a. IsOpen f.log.layout a g.log.end k (bytes_in f.log.layout image)) (sym same.area)
              (subst (λ e. IsOpen f.log.layout f.log.area e k (bytes_in f.log.layout image)) (sym same.end) is.log.log.is));
        };
      };
    }

pub file_epochs : (f : SpaceFile) (epoch : ℕ) (image : List ℕ) → IsFile f epoch image → HasEpochs epoch (held_in f)
file_epochs f epoch image is = has_space_epochs (place_in f) (clusters_in f) epoch (held_in f) (logged_in f) image is.has

-- ---- a space that was formatted

pub formatted_space : (place : SpacePlace) (clusters : List ℕ) (shape : Shape) (epoch : ℕ) (image : List ℕ) → shape.pages ≡ place.pages
    → IsFormatted shape clusters image → reaches clusters image ≡ true
    → HasSpace place clusters epoch (empty_space shape place.site place.number) 0 image
formatted_space place clusters shape epoch image pages is reach =
    let bytes = owned_bytes clusters image in
    let shape_is : shape_of place.pages (raw_space (first_page bytes)) ≡ shape = subst (λ n. shape_of n (raw_space (first_page bytes)) ≡ shape) pages is.shape_is in
    record {
      reach = reach;
      page = subst (λ n. hold_all (page_tests n (raw_space (first_page bytes))) ≡ true) pages is.page;
      payloads = [];
      reads = read_from epoch (start_in place bytes) (payloads_in place.pages bytes) [] (empty_space shape place.site place.number) (subst (λ n. payloads_in n bytes ≡ Some []) pages is.empty)
          (ap (λ (s : Shape). Some (empty_space s place.site place.number)) shape_is);
      ends = refl;
    }

pub formatted_file : (f : SpaceFile) (shape : Shape) (epoch : ℕ) (image : List ℕ) → shape.pages ≡ f.place.pages
    → held_in f ≡ empty_space shape f.place.site f.place.number → logged_in f ≡ 0
    → ((k : Content) → content_on (log_layout f.place (clusters_in f)) image ≡ Some k → k.payloads ≡ [] → IsLog f.log k image)
    → IsFormatted shape (clusters_in f) image → reaches (clusters_in f) image ≡ true
    → IsFile f epoch image
formatted_file f shape epoch image pages held logged on is reach =
    let clusters = clusters_in f in
    let k = content_with f.place clusters f.placed [] image in
    let empty = content_some f.place clusters f.placed image reach [] (subst (λ n. payloads_in n (owned_bytes clusters image) ≡ Some []) pages is.empty) in
    record {
      has = subst (λ (s : IndexedSpace). HasSpace f.place clusters epoch s (logged_in f) image) (sym held)
          (subst (λ n. HasSpace f.place clusters epoch (empty_space shape f.place.site f.place.number) n image) (sym logged) (formatted_space f.place clusters shape epoch image pages is reach));
      log = record { content = k; log = on k empty refl };
    }
