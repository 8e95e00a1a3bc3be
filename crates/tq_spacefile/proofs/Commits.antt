-- A record that is added to the log of a space.
use Rattle.std.proofs.Common.{◌≡◌, inl, inr, ⊎_elim, ◌≤◌, ℕ, ◌+◌, ◌-◌, true, List, length, Some, refl, sym, ap, subst, ◌∙◌, arith}
use Rattle.std.specs.Option.{option_map}
use Rattle.tq_host.specs.View.{Told, View, IsLawful, IsSettled}
use Rattle.tq_host.specs.Within.{Within}
use Rattle.tq_host.proofs.Within.{read_too, wider}
use Rattle.tq_gate.specs.declared.layout.Layout.{Layout}
use Rattle.tq_gate.specs.declared.log.GateLog.{GateLog}
use Rattle.tq_extent.specs.Bytes.{owned_bytes, reaches}
use Rattle.tq_extent.proofs.BytesLemmas.{length-owned, reaches_same}
use Rattle.tq_gate.specs.Layout.{clusters_of, log_place, log_length}
use Rattle.tq_gate.proofs.RangeLemmas.{run_at-same}
use Rattle.tq_gate.specs.Reading.{Content, content, content_on}
use Rattle.tq_gate.specs.Log.{IsLog, HaveLog, free_in, added, IsSameButIn, IsSameButLog, IsOldOrNew}
use Rattle.tq_model.specs.declared.record.SpaceRecord.{SpaceRecord}
use Rattle.tq_model.specs.declared.record.SpaceRecord.TheVariants.{Added, Gone, QueueMade}
use Rattle.tq_model.specs.declared.space.SpaceMove.{SpaceMove}
use Rattle.tq_model.specs.Moves.{IndexedSpace, moved_by, purged_of}
use Rattle.tq_model.specs.Plain.{IsOwn}
use Rattle.tq_model.specs.SpaceForm.{log_bytes, spelt, can_follow}
use Rattle.tq_model.proofs.RecordMoves.{ids_added, ids_gone, ids_made}
use Rattle.tq_types.specs.declared.identifiers.MsgId.{MsgId}
use Rattle.tq_space.specs.declared.plans.Plan.{Plan}
use Rattle.tq_space.specs.Plain.{CanMoveBy}
use Rattle.tq_space.specs.Applied.{plan_applied}
use Rattle.tq_spacefile.specs.declared.place.SpacePlace.{SpacePlace}
use Rattle.tq_spacefile.specs.declared.file.SpaceFile.{SpaceFile}
use Rattle.tq_spacefile.specs.Payload.{IsPayloadOf}
use Rattle.tq_spacefile.specs.Place.{page_of, log_layout}
use Rattle.tq_spacefile.specs.Record.{IsRecorded, with_record}
use Rattle.tq_spacefile.specs.File.{HasSpace, IsSameButSpace, IsFile, AreFile, IsOldOrLogged, place_in, clusters_in, held_in, logged_in}
use Rattle.tq_spacefile.proofs.Formats.{space_step}
use Rattle.tq_spacefile.proofs.Logs.{content_with, content_some, payloads_some}
use Rattle.tq_spacefile.proofs.Files.{space_parts, space_same, space_more}

-- ---- in memory

-- a record leaves all identifiers those of the space
pub moved_own : (s : IndexedSpace) (r : SpaceRecord) → IsOwn s → IsOwn (with_record r s)
moved_own s (Added queue arrival body) own = ids_added (λ id. (id.site ≡ s.site) × (id.space ≡ s.number)) s queue arrival body (refl, refl) own
moved_own s (Gone arrival) own = ids_gone (λ id. (id.site ≡ s.site) × (id.space ≡ s.number)) s arrival own
moved_own s (QueueMade index name) own = ids_made (λ id. (id.site ≡ s.site) × (id.space ≡ s.number)) s index name own

module _ (s : IndexedSpace) (plan : Plan) (r : SpaceRecord) (is : IsRecorded s plan r) where
  -- the plan can be done, and does what the record does
  pub recorded_can : CanMoveBy plan.moves (purged_of plan.purge s)
  recorded_can =
      subst (λ (ids : List MsgId). CanMoveBy plan.moves (purged_of ids s)) (sym is.purge)
      (subst (λ (moves : List SpaceMove). CanMoveBy moves s) (sym is.moves) (is.can, tt))

  pub recorded_applied : plan_applied plan s ≡ with_record r s
  recorded_applied = ap (λ (ids : List MsgId). moved_by plan.moves (purged_of ids s)) is.purge ∙ ap (λ (moves : List SpaceMove). moved_by moves s) is.moves

  pub recorded_one : length plan.moves ≡ 1
  recorded_one = ap length is.moves

-- ---- on the device

module _ (f : SpaceFile) where
  pub own_dev : f.log.layout.dev ≡ f.place.dev
  own_dev = ap (λ (l : Layout). l.dev) f.layout

  before_log : 2048 ≤ log_place f.log.layout f.log.area 0
  before_log = let own : log_place f.log.layout f.log.area 0 ≡ log_place (log_layout f.place (clusters_in f)) f.log.area 0 = ap (λ (l : Layout). log_place l f.log.area 0) f.layout in
      let first = ap (λ (l : Layout). l.first) f.layout in
      omega (arith, own, first, f.log.placed.not_before)

  own_content : (image : List ℕ) → content_on f.log.layout image ≡ content_on (log_layout f.place (clusters_in f)) image
  own_content image = ap (λ (l : Layout). content l (owned_bytes (clusters_in f) image)) f.layout

  pub space_frame : (old new : List ℕ) → IsSameButLog f.log old new → IsSameButSpace (clusters_in f) old new
  space_frame old new frame = space_step (clusters_in f) (IsSameButIn f.log.layout f.log.area) old new frame

  module _ (epoch : ℕ) (old new : List ℕ) (is : IsFile f epoch old) (frame : IsSameButLog f.log old new) where
    reach_kept : reaches (clusters_in f) new ≡ true
    reach_kept = reaches_same (clusters_in f) old new frame.size ∙ is.has.reach

    -- the first page stands before the log
    page_kept : page_of (clusters_in f) new ≡ page_of (clusters_in f) old
    page_kept =
        let clusters = clusters_in f in
        let size = length-owned clusters old is.has.reach in
        run_at-same 0 1024 (owned_bytes clusters old) (owned_bytes clusters new) (omega (arith, size, f.placed.least, f.placed.enough)) frame.bytes.size
        (λ i from to. frame.bytes.outside i (inl (omega (arith, before_log))))

    -- the content of an image with the space
    own_some : content_on f.log.layout old ≡ Some (content_with f.place (clusters_in f) f.placed is.has.payloads old)
    own_some =
        own_content old
        ∙ content_some f.place (clusters_in f) f.placed old is.has.reach is.has.payloads (space_parts (place_in f) (clusters_in f) epoch (held_in f) (logged_in f) old is.has).0

    -- An image that has the content of one with the space has the space.
    pub still_space : content_on f.log.layout new ≡ content_on f.log.layout old → HasSpace (place_in f) (clusters_in f) epoch (held_in f) (logged_in f) new
    still_space same =
        let k = content_with f.place (clusters_in f) f.placed is.has.payloads old in
        space_same (place_in f) (clusters_in f) epoch (held_in f) (logged_in f) old is.has new reach_kept page_kept
        (payloads_some f.place (clusters_in f) f.placed new reach_kept k (sym (own_content new) ∙ same ∙ own_some))

    -- One with a payload more has the record.
    pub more_space : (r : SpaceRecord) (payload : List ℕ) → IsPayloadOf r payload → can_follow epoch (held_in f) r ≡ true
        → content_on f.log.layout new ≡ option_map (λ k. added k payload) (content_on f.log.layout old)
        → HasSpace (place_in f) (clusters_in f) epoch (with_record r (held_in f)) (logged_in f + (5 + length (spelt r))) new
    more_space r payload spells can more =
        let k = content_with f.place (clusters_in f) f.placed is.has.payloads old in
        space_more (place_in f) (clusters_in f) epoch (held_in f) (logged_in f) old is.has new reach_kept page_kept r payload spells.spells spells.back can
        (payloads_some f.place (clusters_in f) f.placed new reach_kept (added k payload)
        (sym (own_content new) ∙ more ∙ ap (option_map (λ k. added k payload)) own_some))

  -- each image has the log in memory
  pub have_log : (epoch : ℕ) (v : View) → AreFile f epoch v → HaveLog f.log v
  have_log epoch v are = λ image may.
      let is = are image (subst (λ n. v.may_leave n image) own_dev may) in
      record { holds = is.log.content; is = is.log.log }

  -- each picture within the call has the space, before the record or with it
  pub stops : {tells : Told} (epoch : ℕ) (r : SpaceRecord) (payload : List ℕ) (before after : View) → IsLawful tells before → IsPayloadOf r payload
      → ((image : List ℕ) → before.may_leave (place_in f).dev image → IsFile f epoch image × (can_follow epoch (held_in f) r ≡ true))
      → Within f.log.layout.dev (IsSameButLog f.log) (IsOldOrNew f.log before payload) before after
      → Within (place_in f).dev (IsSameButSpace (clusters_in f)) (IsOldOrLogged (place_in f) (clusters_in f) epoch (held_in f) (logged_in f) r) before after
  stops epoch r payload before after lawful spells ready within =
      let dev = f.log.layout.dev in
      let S = IsSameButSpace (clusters_in f) in
      let P = IsOldOrLogged (place_in f) (clusters_in f) epoch (held_in f) (logged_in f) r in
      let here : (image : List ℕ) → before.may_leave dev image → IsFile f epoch image × (can_follow epoch (held_in f) r ≡ true) = λ image may. ready image (subst (λ n. before.may_leave n image) own_dev may) in
      let left : (b c : List ℕ) → before.may_leave dev b → IsOldOrNew f.log before payload c → P c = λ b c may is.
      ⊎_elim
      (λ old. inl (still_space epoch old.was c (here old.was old.left).0 old.outside old.reads))
      (λ new. let read = here (before.reads dev) (read_too before lawful dev b may) in inr (more_space epoch (before.reads dev) c read.0 new.outside r payload spells read.1 new.reads))
      is in
      subst (λ n. Within n S P before after) own_dev
      (wider dev (IsSameButLog f.log) S (IsOldOrNew f.log before payload) P before after (λ b c may same is. (space_frame b c same, left b c may is)) within)

  -- the bytes that are taken, when so many are less free
  pub logged_more : (log : GateLog) (n : ℕ) → free_in log + n ≡ free_in f.log → log_bytes f.place.pages - free_in log ≡ logged_in f + n
  logged_more log n less = let long : log_length f.log.layout ≡ log_bytes f.place.pages = ap (λ (l : Layout). log_length l) f.layout in omega (arith, long, less)

  module _ (g : SpaceFile) (place : place_in g ≡ place_in f) (layout : g.log.layout ≡ f.log.layout) (r : SpaceRecord) (payload : List ℕ) (spells : IsPayloadOf r payload) (held : held_in g ≡ with_record r (held_in f))
      (logged : logged_in g ≡ logged_in f + (5 + length (spelt r))) where
    -- what is read has the record
    pub logged_file : (epoch : ℕ) (old new : List ℕ) → can_follow epoch (held_in f) r ≡ true → IsSameButLog f.log old new
        → ((k : Content) → IsLog f.log k old → IsLog g.log (added k payload) new) → IsFile f epoch old → IsFile g epoch new
    logged_file epoch old new can frame log is =
        let k = is.log.content in
        let now = log k is.log.log in
        let more : content_on f.log.layout new ≡ option_map (λ k. added k payload) (content_on f.log.layout old) =
        sym (ap (λ (l : Layout). content_on l new) layout) ∙ now.is.reads ∙ sym (ap (option_map (λ k. added k payload)) is.log.log.is.reads) in
        let has = more_space epoch old new is frame r payload spells can more in
        let clusters : clusters_in g ≡ clusters_in f = ap (λ (l : Layout). clusters_of l) layout in
        record {
          has = subst (λ (p : SpacePlace). HasSpace p (clusters_in g) epoch (held_in g) (logged_in g) new) (sym place)
              (subst (λ (c : List ℕ). HasSpace (place_in f) c epoch (held_in g) (logged_in g) new) (sym clusters)
              (subst (λ (s : IndexedSpace). HasSpace (place_in f) (clusters_in f) epoch s (logged_in g) new) (sym held)
              (subst (λ n. HasSpace (place_in f) (clusters_in f) epoch (with_record r (held_in f)) n new) (sym logged) has)));
          log = record { content = added k payload; log = now };
        }

    pub logged_read : (epoch : ℕ) (old new : View) → can_follow epoch (held_in f) r ≡ true
        → IsSameButLog f.log (old.reads f.log.layout.dev) (new.reads f.log.layout.dev)
        → ((k : Content) → IsLog f.log k (old.reads f.log.layout.dev) → IsLog g.log (added k payload) (new.reads f.log.layout.dev))
        → IsFile f epoch (old.reads f.place.dev) → IsFile g epoch (new.reads f.place.dev)
    logged_read epoch old new can frame log is =
        subst (λ n. IsFile g epoch (new.reads n)) own_dev
        (logged_file epoch (old.reads f.log.layout.dev) (new.reads f.log.layout.dev) can frame log (subst (λ n. IsFile f epoch (old.reads n)) (sym own_dev) is))

    -- and so has each image
    pub logged_files : {tells : Told} (epoch : ℕ) (old new : View) → IsLawful tells old → IsLawful tells new → IsSettled f.log.layout.dev new
        → (tells.reads → IsFile f epoch (old.reads f.place.dev) × (can_follow epoch (held_in f) r ≡ true) → IsFile g epoch (new.reads f.place.dev))
        → ((image : List ℕ) → old.may_leave f.place.dev image → IsFile f epoch image × (can_follow epoch (held_in f) r ≡ true)) → AreFile g epoch new
    logged_files epoch old new lawful_old lawful_new settled done ready = λ image may.
        let dev = f.place.dev in
        let here : new.may_leave dev image = subst (λ n. new.may_leave n image) (ap (λ (p : SpacePlace). p.dev) place) may in
        let stops = lawful_new.stops_told dev image here in
        let at : new.may_leave f.log.layout.dev image = subst (λ n. new.may_leave n image) (sym own_dev) here in
        let is_read : image ≡ new.reads dev = settled image at ∙ ap (λ n. new.reads n) own_dev in
        subst (λ (c : List ℕ). IsFile g epoch c) (sym is_read) (done (lawful_new.reads_told stops) (ready (old.reads dev) (lawful_old.reads_an_image stops dev)))
