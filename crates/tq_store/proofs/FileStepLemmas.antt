-- What a step on a space's log, or on free pages, leaves of the space.
use Rattle.std.proofs.Common.{◌≡◌, inl, inr, ◌<◌, ◌≤◌, ℕ, ◌+◌, ◌*◌, true, List, get_or, Some, sym, ap, subst, ◌∙◌, arith}
use Rattle.std.specs.Prelude.{option_map}
use Rattle.tq_host.specs.View.{IsLawful, IsSettled, Told, View}
use Rattle.tq_host.specs.Within.{Within}
use Rattle.tq_host.proofs.Within.{read_too, wider}
use Rattle.tq_extent.specs.Bytes.{owned_bytes, reaches}
use Rattle.tq_extent.proofs.BytesLemmas.{on_bytes_as}
use Rattle.tq_gate.specs.declared.layout.Layout.{Layout}
use Rattle.tq_gate.specs.declared.log.GateLog.{GateLog}
use Rattle.tq_gate.specs.Layout as layouts
use Rattle.tq_gate.specs.Layout.{bytes_in}
use Rattle.tq_gate.specs.Reading.{content_on}
use Rattle.tq_gate.specs.Log.{HasLog, HaveLog, IsLog, IsOldOrNew, IsOldOrReplaced, IsSameBeside, IsSameButAreas, IsSameButIn, IsSameButLog, added, layout_of, replaced}
use Rattle.tq_gate.proofs.OutsideLemmas.{IsOf, log_elsewhere}
use Rattle.tq_model.specs.Moves.{IndexedSpace}
use Rattle.tq_model.specs.Space.{log_pages, slot_pages}
use Rattle.tq_pages.specs.Store.{Store}
use Rattle.tq_pages.specs.Content.{IsSameButFree}
use Rattle.tq_slots.specs.SlotImages.{RawSlots}
use Rattle.tq_slots.specs.SpaceReading.{slots_stored}
use Rattle.tq_store.specs.Change.{IsBaseOf, IsChange, IsOldOrChanged, IsPut, IsSameButItsLog, changed, with_log}
use Rattle.tq_store.specs.File.{AreFile, FileState, IsFile, IsSound, clusters_of}
use Rattle.tq_store.specs.Place.{log_layout}
use Rattle.tq_store.specs.Stored.{HasSpace, HasStored, HoldsSpace, IsAnyStep, IsSameButSpace}
use Rattle.tq_store.proofs.AreaLemmas.{log_chain, log_holds, log_holds_kept, log_kept, log_slots_added, log_slots_replaced, log_slots_same, log_stored, of_areas, of_log}
use Rattle.tq_store.proofs.FreeWriteLemmas.{free_holds, free_reach, free_stored, head_kept}
use Rattle.tq_store.proofs.SpaceReadingLemmas.{has_space}

-- the slots and chains of an image, and what they hold
abbrev pub HasParts : FileState → List ℕ → Type 0
HasParts f image =
    HasStored f.shape (clusters_of f) f.raw f.store image × HoldsSpace f.place.site f.place.number f.shape (clusters_of f) f.raw f.space image

-- an image with the parts of a sound space has the space
pub parts_space : (f : FileState) (image : List ℕ) → IsSound f → HasParts f image → HasSpace f.place (clusters_of f) f.space image
parts_space f image sound parts =
    has_space f.place f.shape (clusters_of f) f.raw f.store f.space image sound.store parts.0 parts.1 sound.creation.pages sound.space.site sound.space.number
    sound.space.limits sound.space.error sound.owners sound.space.plain sound.space.tests

pub in_space : (f : FileState) (image : List ℕ) → IsSound f → IsFile f image → HasSpace f.place (clusters_of f) f.space image
in_space f image sound is = parts_space f image sound (is.stored, is.holds)

-- ---- a step on the log

module _ (f : FileState) (sound : IsSound f) (log : GateLog) (own : f.log ≡ log) where
  pub own_layout : layout_of log ≡ log_layout f.place f.shape (clusters_of f)
  own_layout = ap (λ (l : GateLog). layout_of l) (sym own) ∙ sound.layout

  pub own_dev : (layout_of log).dev ≡ f.place.dev
  own_dev = ap (λ (l : Layout). l.dev) own_layout

  pub own_clusters : layouts.clusters_of (layout_of log) ≡ clusters_of f
  own_clusters = ap (λ (l : Layout). layouts.clusters_of l) own_layout

  pub areas_in_space : (a b : List ℕ) → IsSameButAreas log a b → IsSameButSpace (clusters_of f) a b
  areas_in_space a b frame =
      subst (λ (cs : List ℕ). IsSameButSpace cs a b) own_clusters
      (on_bytes_as (layouts.clusters_of log.layout) (IsSameBeside log.layout) IsAnyStep a b (λ step. tt) frame)

  pub log_in_space : (a b : List ℕ) → IsSameButLog log a b → IsSameButSpace (clusters_of f) a b
  log_in_space a b frame =
      subst (λ (cs : List ℕ). IsSameButSpace cs a b) own_clusters
      (on_bytes_as (layouts.clusters_of log.layout) (IsSameButIn log.layout log.area) IsAnyStep a b (λ step. tt) frame)

  pub areas_step : (a b : List ℕ) → IsSameButAreas log a b → IsSameButItsLog f.place f.shape (clusters_of f) a b
  areas_step a b frame = of_areas f.place f.shape (clusters_of f) log a b own_layout frame

  pub log_step : (a b : List ℕ) → IsSameButLog log a b → IsSameButItsLog f.place f.shape (clusters_of f) a b
  log_step a b frame = of_log f.place f.shape (clusters_of f) log a b own_layout log.placed frame

  -- where images have the space, they have its log
  pub have_log : (v : View) → AreFile f v → HaveLog log v
  have_log v are = λ image may. subst (λ (l : GateLog). HasLog l image) own (are image (subst (λ d. v.may_leave d image) own_dev may)).log

  module _ (a b : List ℕ) (is : IsFile f a) (step : IsSameButItsLog f.place f.shape (clusters_of f) a b) where
    parts_by : slots_stored f.shape (owned_bytes (clusters_of f) b) ≡ Some f.raw → HasParts f b
    parts_by slots = (
      log_kept f.place f.shape (clusters_of f) sound.placed sound.creation a b is.stored.reach step f.raw f.store sound.store is.stored slots,
      log_holds_kept f.place f.shape (clusters_of f) sound.placed sound.creation a b is.stored.reach step f.place.site f.place.number f.raw f.space is.holds,
    )

    -- the same content, and a base alone that says the same
    pub parts_same : content_on log.layout b ≡ content_on log.layout a → HasParts f b
    parts_same same =
        let content = subst (λ (l : Layout). content_on l b ≡ content_on l a) own_layout same in
        parts_by (log_slots_same f.place f.shape (clusters_of f) sound.placed sound.creation a b is.stored.reach step content ∙ is.stored.slots)

    pub parts_replaced : (full : _) (base : List ℕ) → IsBaseOf f log full base → full ≡ true → content_on log.layout b ≡ Some (replaced base) → HasParts f b
    parts_replaced full base base_is so now =
        let content = subst (λ (l : Layout). content_on l b ≡ Some (replaced base)) own_layout now in
        parts_by (log_slots_replaced f.place f.shape (clusters_of f) sound.placed sound.creation a b is.stored.reach step f.raw base content (base_is.slots so))

    -- a record more, with the chain of its message there
    pub parts_added : (s : IndexedSpace) (raw : RawSlots) (store : Store) (first : ℕ) (message payload : List ℕ) → IsChange f s raw store first message payload
        → IsPut store first message (owned_bytes (clusters_of f) a)
        → content_on log.layout b ≡ option_map (λ k. added k payload) (content_on log.layout a) → HasParts (changed f s raw store) b
    parts_added s raw store first message payload change put more =
        let cs = clusters_of f in
        let content = subst (λ (l : Layout). content_on l b ≡ option_map (λ k. added k payload) (content_on l a)) own_layout more in
        let r = change.record_is in
        let slots =
        log_slots_added f.place f.shape cs sound.placed sound.creation a b is.stored.reach step f.raw payload r.r is.stored.slots content r.reads r.fits
        ∙ ap Some r.makes in
        let chains = change.chains (owned_bytes cs a) is.stored.chains put in
        let stored : HasStored f.shape cs raw store b =
        log_stored f.place f.shape cs sound.placed sound.creation a b is.stored.reach step f.raw raw f.store store is.stored slots
        (λ i m at. log_chain f.place f.shape cs sound.placed sound.creation a b is.stored.reach step store m.first (change.new.store.within m.first) (chains i m at)) in
        let holds : HoldsSpace f.place.site f.place.number f.shape cs raw s b =
        record {
          holds =
              log_holds f.place f.shape cs sound.placed sound.creation a b is.stored.reach step f.place.site f.place.number _ _ s
              (change.holds a is.stored is.holds put);
          slots = change.new.tests;
        } in (
          subst (λ (c : List ℕ). HasStored f.shape c raw store b) (sym change.clusters) stored,
          subst (λ (c : List ℕ). HoldsSpace f.place.site f.place.number f.shape c raw s b) (sym change.clusters) holds,
        )

  -- ---- the pictures of a new base, and of a record

  pub stops_replaced : {tells : Told} (full : _) (base : List ℕ) (before after : View) → IsLawful tells before → IsBaseOf f log full base → full ≡ true → AreFile f before
      → Within (layout_of log).dev (IsSameButAreas log) (IsOldOrReplaced log before base) before after
      → Within f.place.dev (IsSameButSpace (clusters_of f)) (HasSpace f.place (clusters_of f) f.space) before after
  stops_replaced full base before after lawful base_is so are is =
      let space = HasSpace f.place (clusters_of f) f.space in
      subst (λ d. Within d (IsSameButSpace (clusters_of f)) space before after) own_dev
      (wider (layout_of log).dev (IsSameButAreas log) (IsSameButSpace (clusters_of f)) (IsOldOrReplaced log before base) space before after
      (λ b c may step is_now. (
        areas_in_space b c step,
        (elim is_now [
          | inl as_left ↦
              let was = are as_left.was (subst (λ d. before.may_leave d as_left.was) own_dev as_left.left) in
              parts_space f c sound (parts_same as_left.was c was (areas_step as_left.was c as_left.outside) as_left.reads)
          | inr new ↦
              let read = before.reads (layout_of log).dev in
              let was = are read (subst (λ d. before.may_leave d read) own_dev (read_too before lawful (layout_of log).dev b may)) in
              parts_space f c sound (parts_replaced read c was (areas_step read c new.outside) full base base_is so new.reads)
        ]),
      )) is)

  pub stops_added : {tells : Told} (s : IndexedSpace) (raw : RawSlots) (store : Store) (first : ℕ) (message payload : List ℕ) (before after : View)
      → IsLawful tells before → IsChange f s raw store first message payload
      → (tells.reads → IsPut store first message (owned_bytes (clusters_of f) (before.reads f.place.dev))) → AreFile f before
      → Within (layout_of log).dev (IsSameButLog log) (IsOldOrNew log before payload) before after
      → Within f.place.dev (IsSameButSpace (clusters_of f)) (IsOldOrChanged f s) before after
  stops_added s raw store first message payload before after lawful change put are is =
      subst (λ d. Within d (IsSameButSpace (clusters_of f)) (IsOldOrChanged f s) before after) own_dev
      (wider (layout_of log).dev (IsSameButLog log) (IsSameButSpace (clusters_of f)) (IsOldOrNew log before payload) (IsOldOrChanged f s) before after
      (λ b c may step is_now. (
        log_in_space b c step,
        (elim is_now [
          | inl as_left ↦
              let was = are as_left.was (subst (λ d. before.may_leave d as_left.was) own_dev as_left.left) in
              inl (parts_space f c sound (parts_same as_left.was c was (log_step as_left.was c as_left.outside) as_left.reads))
          | inr new ↦
              let read = before.reads (layout_of log).dev in
              let told = lawful.reads_told (lawful.stops_told (layout_of log).dev b may) in
              let was = are read (subst (λ d. before.may_leave d read) own_dev (read_too before lawful (layout_of log).dev b may)) in
              let on_read = subst (λ d. IsPut store first message (owned_bytes (clusters_of f) (before.reads d))) (sym own_dev) (put told) in
              let parts = parts_added read c was (log_step read c new.outside) s raw store first message payload change on_read new.reads in
              inr (subst (λ (cs : List ℕ). HasSpace f.place cs s c) change.clusters (parts_space (changed f s raw store) c change.new parts))
        ]),
      )) is)

  -- ---- what is read after them

  pub file_replaced : (log' : GateLog) (full : _) (base a b : List ℕ) → IsBaseOf f log full base → full ≡ true → layout_of log' ≡ layout_of log → IsSameButAreas log a b
      → IsLog log' (replaced base) b → IsFile f a → IsFile (with_log f log') b
  file_replaced log' full base a b base_is so layout frame now is =
      let content = subst (λ (l : Layout). content_on l b ≡ Some (replaced base)) layout now.is.reads in
      let parts = parts_replaced a b is (areas_step a b frame) full base base_is so content in
      record { stored = parts.0; holds = parts.1; log = record { holds = replaced base; is = now } }

  -- from what a new base does on the device
  pub read_replaced : (log' : GateLog) (full : _) (base : List ℕ) (old new : View) → IsBaseOf f log full base → full ≡ true → layout_of log' ≡ layout_of log
      → IsSameButAreas log (old.reads (layout_of log).dev) (new.reads (layout_of log).dev)
      → ((k : _) → IsLog log k (old.reads (layout_of log).dev) → IsLog log' (replaced base) (new.reads (layout_of log).dev))
      → IsFile f (old.reads f.place.dev) → IsFile (with_log f log') (new.reads f.place.dev)
  read_replaced log' full base old new base_is so layout frame step is =
      let here = subst (λ d. IsFile f (old.reads d)) (sym own_dev) is in
      let log_here : HasLog log (old.reads (layout_of log).dev) = subst (λ (l : GateLog). HasLog l (old.reads (layout_of log).dev)) own here.log in
      subst (λ d. IsFile (with_log f log') (new.reads d)) own_dev
      (file_replaced log' full base (old.reads (layout_of log).dev) (new.reads (layout_of log).dev) base_is so layout frame (step log_here.holds log_here.is) here)

  pub file_added : (log' : GateLog) (s : IndexedSpace) (raw : RawSlots) (store : Store) (first : ℕ) (message payload a b : List ℕ)
      → IsChange f s raw store first message payload → IsPut store first message (owned_bytes (clusters_of f) a) → layout_of log' ≡ layout_of log → IsSameButLog log a b
      → ((k : _) → IsLog log k a → IsLog log' (added k payload) b) → IsFile f a → IsFile (with_log (changed f s raw store) log') b
  file_added log' s raw store first message payload a b change put layout frame step is =
      let here : HasLog log a = subst (λ (l : GateLog). HasLog l a) own is.log in
      let now = step here.holds here.is in
      let content : content_on log.layout b ≡ Some (added here.holds payload) =
      subst (λ (l : Layout). content_on l b ≡ Some (added here.holds payload)) layout now.is.reads in
      let more : content_on log.layout b ≡ option_map (λ k. added k payload) (content_on log.layout a) =
      content ∙ sym (ap (option_map (λ k. added k payload)) here.is.is.reads) in
      let parts = parts_added a b is (log_step a b frame) s raw store first message payload change put more in
      record { stored = parts.0; holds = parts.1; log = record { holds = added here.holds payload; is = now } }

  -- from what a record does on the device
  pub read_added : (log' : GateLog) (s : IndexedSpace) (raw : RawSlots) (store : Store) (first : ℕ) (message payload : List ℕ) (old new : View)
      → IsChange f s raw store first message payload → IsPut store first message (owned_bytes (clusters_of f) (old.reads f.place.dev))
      → layout_of log' ≡ layout_of log → IsSameButLog log (old.reads (layout_of log).dev) (new.reads (layout_of log).dev)
      → ((k : _) → IsLog log k (old.reads (layout_of log).dev) → IsLog log' (added k payload) (new.reads (layout_of log).dev))
      → IsFile f (old.reads f.place.dev) → IsFile (with_log (changed f s raw store) log') (new.reads f.place.dev)
  read_added log' s raw store first message payload old new change put layout frame step is =
      let here = subst (λ d. IsFile f (old.reads d)) (sym own_dev) is in
      let put_here = subst (λ d. IsPut store first message (owned_bytes (clusters_of f) (old.reads d))) (sym own_dev) put in
      subst (λ d. IsFile (with_log (changed f s raw store) log') (new.reads d)) own_dev
      (file_added log' s raw store first message payload (old.reads (layout_of log).dev) (new.reads (layout_of log).dev) change put_here layout frame step here)

-- ---- a step on pages that are free

below_areas : (m n i : ℕ) → (1024 * 1 ≤ i) × (i < 1024 * 1 + (1024 * m + 1024 * n + (1024 * m + 1024 * n))) → i < 1024 * (1 + 2 * (m + n))
below_areas m n i within = omega (arith, within.0, within.1)

module _ (f : FileState) (sound : IsSound f) (a b : List ℕ) (is : IsFile f a) (frame : IsSameButFree f.store a b) where
  -- no byte of the log is on them
  log_same : (i : ℕ) → IsOf (log_layout f.place f.shape (clusters_of f)) i
      → get_or (bytes_in (log_layout f.place f.shape (clusters_of f)) b) i 0 ≡ get_or (bytes_in (log_layout f.place f.shape (clusters_of f)) a) i 0
  log_same i of =
      head_kept f.shape (clusters_of f) f.raw f.store sound.store a b is.stored frame i
      (elim of [
        | inl within ↦ below_areas (slot_pages f.shape) (log_pages f.shape) i within
        | inr selects ↦ omega (arith, selects)
      ])

  pub free_file : IsFile f b
  free_file = record {
    stored = free_stored f.shape (clusters_of f) f.raw f.store sound.store a b is.stored frame;
    holds = free_holds f.shape (clusters_of f) f.raw f.store sound.store a b is.stored frame f.place.site f.place.number f.space is.holds;
    log =
        let layout = sound.layout in
        let same = subst (λ (l : Layout). (i : ℕ) → IsOf l i → get_or (bytes_in l b) i 0 ≡ get_or (bytes_in l a) i 0) (sym layout) log_same in
        let reach = subst (λ (l : Layout). reaches (layouts.clusters_of l) b ≡ true) (sym layout)
        (free_reach f.shape (clusters_of f) f.raw f.store sound.store a b is.stored frame) in
        record { holds = is.log.holds; is = log_elsewhere f.log is.log.holds a b reach same is.log.is };
  }

  pub free_in_space : IsSameButSpace (clusters_of f) a b
  free_in_space = on_bytes_as (clusters_of f) _ IsAnyStep a b (λ step. tt) frame

-- ---- a device on which nothing is pending

pub all_settled : {tells : Told} (f f' : FileState) (old new : View) → IsLawful tells old → IsLawful tells new → f'.place.dev ≡ f.place.dev
    → IsSettled f.place.dev new → (tells.reads → IsFile f (old.reads f.place.dev) → IsFile f' (new.reads f.place.dev))
    → AreFile f old → AreFile f' new
all_settled f f' old new lawful lawful' dev settled step are = λ image may.
    let now = subst (λ d. new.may_leave d image) dev may in
    let told = lawful'.stops_told f.place.dev image now in
    let read = lawful.reads_an_image told f.place.dev in
    subst (λ (c : List ℕ). IsFile f' c) (sym (settled image now)) (step (lawful.reads_told told) (are (old.reads f.place.dev) read))
