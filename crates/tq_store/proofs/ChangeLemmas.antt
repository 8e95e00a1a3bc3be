-- A change of a space that is written piece by piece.
use Rattle.std.proofs.Common.{◌≡◌, inl, ◌≤◌, ℕ, true, false, List, [], ◌∷◌, length, sym, subst, ◌∙◌, arith}
use Rattle.std.specs.Prelude.{◌==◌}
use Rattle.tq_host.specs.View.{View}
use Rattle.tq_host.specs.Within.{Within}
use Rattle.tq_host.proofs.Steps.{IsSteps}
use Rattle.tq_host.proofs.Within.{in_a_row, weaker, wider}
use Rattle.tq_extent.specs.Bytes.{owned_bytes, reaches, AllReach, IsAny}
use Rattle.tq_extent.proofs.BytesLemmas.{on_bytes_steps, reaches_same}
use Rattle.tq_gate.specs.declared.layout.Layout.{Layout}
use Rattle.tq_gate.specs.declared.log.GateLog.{GateLog}
use Rattle.tq_gate.specs.Layout as layouts
use Rattle.tq_gate.specs.Log.{layout_of}
use Rattle.tq_model.specs.Moves.{IndexedSpace}
use Rattle.tq_pages.specs.Store.{Store, HasAdded}
use Rattle.tq_pages.specs.Content.{HasChain, IsSameButChain, IsSameButFree, chain_bytes}
use Rattle.tq_pages.proofs.KeptLemmas.{was_free}
use Rattle.tq_slots.specs.SlotImages.{RawSlots}
use Rattle.tq_store.specs.Change.{HasNewChain, IsChange, IsOldOrChanged, IsPut, changed, with_log}
use Rattle.tq_store.specs.File.{AreFile, FileState, IsFile, IsSound, clusters_of}
use Rattle.tq_store.specs.Stored.{HasSpace, IsAnyStep, IsSameButSpace}
use Rattle.tq_store.proofs.FileStepLemmas.{free_file, free_in_space, in_space}

pub space_steps : (clusters : List ℕ) → IsSteps (IsSameButSpace clusters)
space_steps clusters = on_bytes_steps clusters IsAnyStep (record { none = λ c. tt; both = λ a b c first second. tt })

-- ---- another log at the same place

pub sound_with : (f : FileState) (log : GateLog) → IsSound f → layout_of log ≡ layout_of f.log → IsSound (with_log f log)
sound_with f log sound layout = record {
  placed = sound.placed;
  creation = sound.creation;
  layout = layout ∙ sound.layout;
  space = sound.space;
  owners = sound.owners;
  size = sound.size;
  tests = sound.tests;
  store = sound.store;
  dev = sound.dev;
  room = sound.room;
  held = sound.held;
}

pub change_with : (f : FileState) (s : IndexedSpace) (raw : RawSlots) (store : Store) (first : ℕ) (message payload : List ℕ) (log : GateLog)
    → IsChange f s raw store first message payload → layout_of log ≡ layout_of f.log → IsChange (with_log f log) s raw store first message payload
change_with f s raw store first message payload log change layout = record {
  old = sound_with f log change.old layout;
  new = sound_with (changed f s raw store) log change.new layout;
  clusters = change.clusters;
  chain = change.chain;
  record_is = change.record_is;
  chains = change.chains;
  holds = change.holds;
}

-- ---- the chain of a message

pub new_chain : (old new : Store) (first : ℕ) (message : List ℕ) → 1 ≤ length message → HasNewChain old first message new
    → HasAdded old first (length message) new
new_chain old new first [] some chain = absurd (omega (arith, some))
new_chain old new first (b ∷ message) some chain = chain

pub some_of : {X : Type 0} (xs : List X) → (length xs == 0) ≡ false → 1 ≤ length xs
some_of [] some = absurd (cc)
some_of (x ∷ xs) some = omega arith

pub put_there : (store : Store) (first : ℕ) (message bytes : List ℕ) → HasChain store first bytes → chain_bytes store first bytes ≡ message
    → IsPut store first message bytes
put_there store first [] bytes chain is = tt
put_there store first (b ∷ message) bytes chain is = (chain, is)

pub put_nothing : (store : Store) (first : ℕ) (message bytes : List ℕ) → length message ≡ 0 → IsPut store first message bytes
put_nothing store first [] bytes none = tt
put_nothing store first (b ∷ message) bytes none = absurd (omega (arith, none))

-- ---- the pictures of one piece after another

module _ (f : FileState) (sound : IsSound f) (s : IndexedSpace) (start one : View)
    (first_piece : Within f.place.dev (IsSameButSpace (clusters_of f)) (HasSpace f.place (clusters_of f) f.space) start one) where
  pub stops_first : Within f.place.dev (IsSameButSpace (clusters_of f)) (IsOldOrChanged f s) start one
  stops_first =
      weaker f.place.dev (IsSameButSpace (clusters_of f)) (space_steps (clusters_of f)) (HasSpace f.place (clusters_of f) f.space) (IsOldOrChanged f s) start one
      (λ b c may has. inl has) first_piece

  module _ (log : GateLog) (layout : layout_of log ≡ layout_of f.log) (two : View)
      (second_piece : Within f.place.dev (IsSameButSpace (clusters_of f)) (IsFile (with_log f log)) one two) where
    pub stops_second : Within f.place.dev (IsSameButSpace (clusters_of f)) (IsOldOrChanged f s) start two
    stops_second =
        in_a_row f.place.dev (IsSameButSpace (clusters_of f)) (space_steps (clusters_of f)) (IsOldOrChanged f s) start one two stops_first
        (weaker f.place.dev (IsSameButSpace (clusters_of f)) (space_steps (clusters_of f)) (IsFile (with_log f log)) (IsOldOrChanged f s) one two
        (λ b c may is. inl (in_space (with_log f log) c (sound_with f log sound layout) is)) second_piece)

    pub are_after : AreFile (with_log f log) two
    are_after image may = (second_piece.own image may).now

    pub stops_third : (three : View) → Within f.place.dev (IsSameButSpace (clusters_of f)) (IsOldOrChanged f s) two three
        → Within f.place.dev (IsSameButSpace (clusters_of f)) (IsOldOrChanged f s) start three
    stops_third three third_piece =
        in_a_row f.place.dev (IsSameButSpace (clusters_of f)) (space_steps (clusters_of f)) (IsOldOrChanged f s) start two three stops_second third_piece

-- ---- the step of a message that is written on its chain

module _ (f : FileState) (sound : IsSound f) (store : Store) (first : ℕ) (message : List ℕ) (some : 1 ≤ length message)
    (chain : HasNewChain f.store first message store) where
  chain_added : HasAdded f.store first (length message) store
  chain_added = new_chain f.store store first message some chain

  chain_dev : store.dev ≡ f.place.dev
  chain_dev = chain_added.pages.dev ∙ sound.dev

  pub read_put : (old new : View) → IsSameButChain store first (old.reads store.dev) (new.reads store.dev) → IsFile f (old.reads f.place.dev)
      → IsFile f (new.reads f.place.dev)
  read_put old new step is =
      let free = was_free f.store store first (length message) chain_added (old.reads store.dev) (new.reads store.dev) step in
      free_file f sound (old.reads f.place.dev) (new.reads f.place.dev) is
      (subst (λ d. IsSameButFree f.store (old.reads d) (new.reads d)) chain_dev free)

  pub stops_put : (old new : View) → AreFile f old
      → (AllReach store.dev store.clusters old → Within store.dev (IsSameButChain store first) IsAny old new)
      → Within f.place.dev (IsSameButSpace (clusters_of f)) (IsFile f) old new
  stops_put old new are stop =
      let reach : AllReach store.dev store.clusters old = λ image may.
      subst (λ (cs : List ℕ). reaches cs image ≡ true) (sym chain_added.pages.clusters)
      (are image (subst (λ d. old.may_leave d image) chain_dev may)).stored.reach in
      subst (λ d. Within d (IsSameButSpace (clusters_of f)) (IsFile f) old new) chain_dev
      (wider store.dev (IsSameButChain store first) (IsSameButSpace (clusters_of f)) IsAny (IsFile f) old new
      (λ b c may step any.
      let is = are b (subst (λ d. old.may_leave d b) chain_dev may) in
      let free = was_free f.store store first (length message) chain_added b c step in
      (free_in_space f sound b c is free, free_file f sound b c is free)) (stop reach))

-- ---- where the log and the store are of one owner

module _ (layout : Layout) (clusters : List ℕ) (dev : ℕ) (dev_is : dev ≡ layout.dev) (owner_is : clusters ≡ layouts.clusters_of layout) where
  pub on_owner : (v w : View) → IsSameButSpace (layouts.clusters_of layout) (v.reads layout.dev) (w.reads layout.dev)
      → IsSameButSpace clusters (v.reads dev) (w.reads dev)
  on_owner v w step =
      subst (λ (cs : List ℕ). IsSameButSpace cs (v.reads dev) (w.reads dev)) (sym owner_is)
      (subst (λ d. IsSameButSpace (layouts.clusters_of layout) (v.reads d) (w.reads d)) (sym dev_is) step)

  pub reach_owner : (layout' : Layout) (v : View) → layout' ≡ layout → reaches clusters (v.reads dev) ≡ true
      → reaches (layouts.clusters_of layout') (v.reads layout'.dev) ≡ true
  reach_owner layout' v same reach =
      subst (λ (l : Layout). reaches (layouts.clusters_of l) (v.reads l.dev) ≡ true) (sym same)
      (subst (λ (cs : List ℕ). reaches cs (v.reads layout.dev) ≡ true) owner_is (subst (λ d. reaches clusters (v.reads d) ≡ true) dev_is reach))

pub reach_after : (clusters a b : List ℕ) → IsSameButSpace clusters a b → reaches clusters a ≡ true → reaches clusters b ≡ true
reach_after clusters a b step reach = reaches_same clusters a b step.size ∙ reach

pub space_twice : (clusters a b c : List ℕ) → IsSameButSpace clusters a b → IsSameButSpace clusters b c → IsSameButSpace clusters a c
space_twice clusters a b c first second = (space_steps clusters).both a b c first second

-- the message on its chain, by the place of the space
pub put_read : (f : FileState) (s : IndexedSpace) (raw : RawSlots) (store store' : Store) (first : ℕ) (message payload : List ℕ) (v : View)
    → IsChange f s raw store first message payload → store' ≡ store → IsPut store' first message (owned_bytes store.clusters (v.reads store.dev))
    → IsPut store first message (owned_bytes (clusters_of f) (v.reads f.place.dev))
put_read f s raw store store' first message payload v change same put =
    subst (λ d. IsPut store first message (owned_bytes (clusters_of f) (v.reads d))) change.new.dev
    (subst (λ (cs : List ℕ). IsPut store first message (owned_bytes cs (v.reads store.dev))) change.clusters
    (subst (λ (st : Store). IsPut st first message (owned_bytes store.clusters (v.reads store.dev))) same put))
