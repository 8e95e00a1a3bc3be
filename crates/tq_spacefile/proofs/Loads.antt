-- What was read of a space is what its image says.
use Rattle.std.proofs.Common.{◌≡◌, ℕ, Bool, true, false, cond, List, length, Option, None, Some, Result, Ok, Err, refl, sym, ap, subst, ◌∙◌, arith}
use Rattle.std.specs.Prelude.{is_some}
use Rattle.std.specs.Result.{IsErrAnd}
use Rattle.std.proofs.lemmas.Bool.{and_left, and_right}
use Rattle.std.proofs.lemmas.Option.{none-some, cond_some}
use Rattle.tq_host.specs.Calls.{HasBytesAt}
use Rattle.tq_field.specs.Places.{run_at}
use Rattle.tq_extent.proofs.BytesLemmas.{length-owned}
use Rattle.tq_gate.proofs.RangeLemmas.{run_at-is}
use Rattle.tq_gate.specs.declared.log.GateLog.{GateLog}
use Rattle.tq_gate.specs.declared.layout.Layout.{Layout}
use Rattle.tq_extent.specs.Bytes.{owned_bytes, reaches}
use Rattle.tq_gate.specs.Layout.{clusters_of, log_length}
use Rattle.tq_gate.specs.Reading.{Content, content, content_on}
use Rattle.tq_gate.specs.Log.{IsLog, layout_of}
use Rattle.tq_model.specs.declared.space.Shape.{Shape}
use Rattle.tq_model.specs.Moves.{IndexedSpace}
use Rattle.tq_model.specs.Plain.{IsOwn, KeepsAllAtCrash}
use Rattle.tq_model.specs.SpaceForm.{raw_space, shape_of, log_bytes, replayed, empty_space}
use Rattle.tq_model.specs.Reading.{page_tests, hold_all, payloads_in, space_in, Replayed}
use Rattle.tq_model.proofs.Replays.{replayed_keeps, replayed_plain, empty_plain, empty_ids}
use Rattle.tq_spacefile.specs.declared.place.SpacePlace.{SpacePlace}
use Rattle.tq_spacefile.specs.declared.file.SpaceFile.{SpaceFile}
use Rattle.tq_spacefile.specs.Place.{page_of, IsPlace, log_layout}
use Rattle.tq_spacefile.specs.Page.{shape_in}
use Rattle.tq_spacefile.specs.Loading.{loaded_space}
use Rattle.tq_spacefile.specs.File.{IsFile, has_space, place_in, clusters_in, held_in, log_of}
use Rattle.tq_spacefile.proofs.Logs.{payloads_some, payloads_none}
use Rattle.tq_spacefile.proofs.Files.{start_in, read_from, unread, unreplayed}
use Rattle.tq_spacefile.proofs.Commits.{moved_own}

-- which error a result has
pub error_is : {T E : Type 0} (r : Result T E) (x y : E) → IsErrAnd r (λ e. e ≡ x) → r ≡ Err y → y ≡ x
error_is (Ok v) x y has is = absurd has
error_is (Err e) x y has is = cc

-- an error that is handed on
pub same_error : {T U E : Type 0} (r : Result T E) (s : Result U E) (e y : E) → r ≡ Err e → IsErrAnd s (λ x. x ≡ e)
    → (r ≡ Err y → s ≡ Err y) × (s ≡ Err y → r ≡ Err y)
same_error r (Ok v) e y was has = absurd has
same_error r (Err x) e y was has = (λ is. cc, λ is. cc)

pub no_error : {T E : Type 0} (r : Result T E) (v : T) (e : E) → r ≡ Ok v → r ≡ Err e → ⊥
no_error r v e ok err = cc

-- in memory, whatever the host tells
module _ (shape : Shape) (site number epoch : ℕ) (ps : List (List ℕ)) (held : IndexedSpace) (replays : replayed epoch ps (empty_space shape site number) ≡ Some held) where
  pub replayed_own : IsOwn held
  replayed_own = replayed_keeps IsOwn epoch (λ s r can own. moved_own s r own) ps (empty_space shape site number) held replays (empty_ids (λ id. (id.site ≡ site) × (id.space ≡ number)) shape site number)

  pub replayed_is_plain : KeepsAllAtCrash held
  replayed_is_plain = replayed_plain epoch ps (empty_space shape site number) held (empty_plain shape site number) replays

-- ---- what is read

-- a page that stands at the start of the owner's bytes is the first
pub page_stands : (place : SpacePlace) (clusters page image : List ℕ) → IsPlace place clusters → reaches clusters image ≡ true → length page ≡ 1024
    → HasBytesAt 0 page (owned_bytes clusters image) → page ≡ page_of clusters image
page_stands place clusters page image is reach long stands =
    let size = length-owned clusters image reach in
    let bytes = owned_bytes clusters image in
    sym (run_at-is 0 page bytes (omega (arith, is.least, is.enough, size)) stands) ∙ ap (λ n. run_at 0 n bytes) long

pub loaded_file : (f : SpaceFile) (shape : Shape) (epoch : ℕ) (image : List ℕ) (k : Content)
    → shape_in f.place.pages (page_of (clusters_in f) image) ≡ Some shape → IsLog f.log k image
    → replayed epoch k.payloads (empty_space shape f.place.site f.place.number) ≡ Some (held_in f) → IsFile f epoch image
loaded_file f shape epoch image k says log replays =
    let place = f.place in
    let clusters = clusters_in f in
    let bytes = owned_bytes clusters image in
    let raw = raw_space (page_of clusters image) in
    let page = cond_some (hold_all (page_tests place.pages raw)) (shape_of place.pages raw) shape says in
    let own : content_on (log_layout place clusters) image ≡ Some k = sym (ap (λ (l : Layout). content l bytes) f.layout) ∙ log.is.reads in
    let start : start_in place bytes ≡ empty_space shape place.site place.number = ap (λ (s : Shape). empty_space s place.site place.number) page.1 in
    let long : log_length f.log.layout ≡ log_bytes place.pages = ap (λ (l : Layout). log_length l) f.layout in
    record {
      has = record {
        reach = log.reach;
        page = page.0;
        payloads = k.payloads;
        reads = read_from epoch (start_in place bytes) (payloads_in place.pages bytes) k.payloads (held_in f) (payloads_some place clusters f.placed image log.reach k own)
            (subst (λ (s : IndexedSpace). replayed epoch k.payloads s ≡ Some (held_in f)) (sym start) replays);
        ends = omega (arith, long, log.is.end_is, f.log.within);
      };
      log = record { content = k; log = log };
    }

-- the same of a file that was made of what was read there
pub loaded_at : (place : SpacePlace) (clusters : List ℕ) (log : GateLog) (f : SpaceFile) (shape : Shape) (epoch : ℕ) (image : List ℕ) (k : Content)
    → place_in f ≡ place → log_of f ≡ log
    → layout_of log ≡ log_layout place clusters → shape_in place.pages (page_of clusters image) ≡ Some shape → IsLog log k image
    → loaded_space epoch shape place k ≡ Some (held_in f) → IsFile f epoch image
loaded_at place clusters log f shape epoch image k same_place same_log layout says is replays =
    let back = sym same_place in
    let own : clusters_in f ≡ clusters = ap (λ (l : GateLog). clusters_of (layout_of l)) same_log ∙ ap (λ (l : Layout). clusters_of l) layout in
    loaded_file f shape epoch image k
    (subst (λ (p : SpacePlace). shape_in p.pages (page_of (clusters_in f) image) ≡ Some shape) back (subst (λ (c : List ℕ). shape_in place.pages (page_of c image) ≡ Some shape) (sym own) says))
    (subst (λ (l : GateLog). IsLog l k image) (sym same_log) is) (subst (λ (p : SpacePlace). loaded_space epoch shape p k ≡ Some (held_in f)) back replays)

-- ---- what has no reading

nothing : {X : Type 0} (b : Bool) (x : X) → cond b (Some x) None ≡ None → b ≡ false
nothing true x none = absurd (none-some x (sym none))
nothing false x none = refl

module _ (place : SpacePlace) (clusters : List ℕ) (epoch : ℕ) (image : List ℕ) where
  abbrev page_holds : Bool
  page_holds = hold_all (page_tests place.pages (raw_space (page_of clusters image)))

  abbrev found : Option Replayed
  found = space_in place.site place.number epoch place.pages (owned_bytes clusters image)

  pub no_page : shape_in place.pages (page_of clusters image) ≡ None → has_space place clusters epoch image ≡ false
  no_page none = and_left page_holds (is_some found) (nothing page_holds (shape_of place.pages (raw_space (page_of clusters image))) none)

  unfound : found ≡ None → has_space place clusters epoch image ≡ false
  unfound none = and_right page_holds (is_some found) (ap is_some none)

  module _ (is : IsPlace place clusters) (reach : reaches clusters image ≡ true) where
    pub no_log : content_on (log_layout place clusters) image ≡ None → has_space place clusters epoch image ≡ false
    no_log none = unfound (unread epoch place (owned_bytes clusters image) (payloads_none place clusters is image reach none))

    pub no_replay : (k : Content) → content_on (log_layout place clusters) image ≡ Some k → (shape : Shape)
        → shape_in place.pages (page_of clusters image) ≡ Some shape
        → loaded_space epoch shape place k ≡ None → has_space place clusters epoch image ≡ false
    no_replay k holds shape says none =
        let bytes = owned_bytes clusters image in
        let raw = raw_space (page_of clusters image) in
        let page = cond_some (hold_all (page_tests place.pages raw)) (shape_of place.pages raw) shape says in
        let start : start_in place bytes ≡ empty_space shape place.site place.number = ap (λ (s : Shape). empty_space s place.site place.number) page.1 in
        unfound (unreplayed epoch place bytes k.payloads (payloads_some place clusters is image reach k holds) (subst (λ (s : IndexedSpace). replayed epoch k.payloads s ≡ None) (sym start) none))
