-- What is made in memory of a move is a change.
use Rattle.std.proofs.Common.{◌≡◌, ◌≤◌, ℕ, [], ◌∷◌, List, length, get_or, sym, ap, subst, ◌∙◌, arith}
use Rattle.tq_types.specs.declared.identifiers.MsgId.{MsgId}
use Rattle.tq_types.specs.declared.messages.Entry.{Entry as HeldEntry}
use Rattle.tq_gate.specs.declared.log.GateLog.{GateLog}
use Rattle.tq_gate.specs.Frame.{payload_in}
use Rattle.tq_model.specs.declared.space.QueueDef.{QueueDef}
use Rattle.tq_model.specs.declared.space.Shape.{Shape}
use Rattle.tq_model.specs.declared.space.SpaceMove.{SpaceMove}
use Rattle.tq_model.specs.declared.space.SpaceMove.TheVariants.{Insert, Remove, PutQueue}
use Rattle.tq_model.specs.Moves.{IndexedSpace, moved, moved_by, purged_of}
use Rattle.tq_pages.specs.Store.{Store}
use Rattle.tq_slots.specs.SlotImages.{RawSlots}
use Rattle.tq_space.specs.declared.plans.Plan.{Plan}
use Rattle.tq_space.specs.Applied.{plan_applied}
use Rattle.tq_store.specs.declared.changing.Change.{Change}
use Rattle.tq_slots.specs.SpaceReading.{base_slots}
use Rattle.tq_store.specs.Change.{IsBaseOf, IsChange, IsRecordOf, changed, with_log}
use Rattle.tq_store.specs.Commit.{CanBeMade, CanComeIn, CanCommit, CanGo, CanLast, IsOneMove}
use Rattle.tq_store.specs.Draft.{message_of}
use Rattle.tq_store.specs.Drafted.{HasCome, HasGone, IsFileOf, IsMade, IsReady}
use Rattle.tq_store.specs.File.{FileState, IsSound}
use Rattle.tq_store.proofs.MoveChangeLemmas.{insert_change, queue_change, remove_change}

-- what holds of the parts holds of those of the space
pub of_file : (P : Shape → GateLog → RawSlots → Store → Type 0) (f : FileState) (shape : Shape) (log : GateLog) (raw : RawSlots) (store : Store) (move : SpaceMove)
    → IsFileOf f shape log raw store move → P shape log raw store → P f.shape f.log f.raw f.store
of_file P f shape log raw store move is p =
    subst (λ (x : Store). P f.shape f.log f.raw x) (sym is.store_is)
    (subst (λ (x : RawSlots). P f.shape f.log x store) (sym is.raw_is)
    (subst (λ (x : GateLog). P f.shape x raw store) (sym is.log_is) (subst (λ (x : Shape). P x log raw store) (sym is.shape_is) p)))

pub come_change : (f : FileState) (e : HeldEntry) (raw : RawSlots) (store : Store) (c : Change) → IsSound f → CanComeIn e f.space
    → HasCome f.shape f.log f.raw raw f.store store e c
    → IsChange f (moved (Insert e) f.space) raw store c.first c.message.items (payload_in c.frame.items)
come_change f e raw store c sound can come =
    let payload = payload_in c.frame.items in
    let record_is = subst (λ (t : RawSlots). IsRecordOf f.raw t payload) come.slots come.written.record_is in
    let change = insert_change f sound e can come.arrival c.first store come.sound come.added payload record_is in
    subst (λ (l : List ℕ). IsChange f (moved (Insert e) f.space) raw store c.first l payload) (sym come.message)
    (subst (λ (t : RawSlots). IsChange f (moved (Insert e) f.space) t store c.first (message_of e) payload) (sym come.slots) change)

-- where no message comes, no first page is looked at
other_first : (f : FileState) (s : IndexedSpace) (raw : RawSlots) (store : Store) (first : ℕ) (message payload : List ℕ) → message ≡ []
    → IsChange f s raw store 0 [] payload → IsChange f s raw store first message payload
other_first f s raw store first message payload none change =
    subst (λ (l : List ℕ). IsChange f s raw store first l payload) (sym none)
    (record {
      old = change.old;
      new = change.new;
      clusters = change.clusters;
      chain = tt;
      record_is = change.record_is;
      chains = change.chains;
      holds = change.holds;
    })

pub gone_change : (f : FileState) (id : MsgId) (raw : RawSlots) (store : Store) (c : Change) → IsSound f → CanGo id f.space
    → HasGone f.shape f.log f.raw raw f.store store id c
    → IsChange f (moved (Remove id) f.space) raw store c.first c.message.items (payload_in c.frame.items)
gone_change f id raw store c sound can gone =
    let payload = payload_in c.frame.items in
    let record_is = subst (λ (t : RawSlots). IsRecordOf f.raw t payload) gone.slots gone.written.record_is in
    let change = remove_change f sound id can gone.index gone.slot gone.there store gone.sound gone.released payload record_is in
    other_first f (moved (Remove id) f.space) raw store c.first c.message.items payload gone.message
    (subst (λ (t : RawSlots). IsChange f (moved (Remove id) f.space) t store 0 [] payload) (sym gone.slots) change)

pub made_change : (f : FileState) (index : ℕ) (queue : QueueDef) (raw : RawSlots) (c : Change) → IsSound f → CanBeMade index queue f.space
    → IsMade f.shape f.log f.raw raw index queue c
    → IsChange f (moved (PutQueue index queue) f.space) raw f.store c.first c.message.items (payload_in c.frame.items)
made_change f index queue raw c sound can made =
    let payload = payload_in c.frame.items in
    let record_is = subst (λ (t : RawSlots). IsRecordOf f.raw t payload) made.slots made.written.record_is in
    let change = queue_change f sound index queue can payload record_is in
    other_first f (moved (PutQueue index queue) f.space) raw f.store c.first c.message.items payload made.message
    (subst (λ (t : RawSlots). IsChange f (moved (PutQueue index queue) f.space) t f.store 0 [] payload) (sym made.slots) change)

-- ---- a plan of one move

one_of : (moves : List SpaceMove) (s : IndexedSpace) (item : SpaceMove) → IsOneMove moves s → 1 ≤ length moves → item ≡ get_or moves 0 item
    → CanLast item s × (moves ≡ item ∷ [])
one_of [] s item can some is = absurd (omega (arith, some))
one_of (move ∷ []) s item can some is = (subst (λ (m : SpaceMove). CanLast m s) (sym is) can, ap (λ (m : SpaceMove). m ∷ []) (sym is))
one_of (move ∷ second ∷ more) s item can some is = absurd can

module _ (plan : Plan) (s : IndexedSpace) (slice : List SpaceMove) (item : SpaceMove) (can : CanCommit plan s) (some : 1 ≤ length plan.moves)
    (slice_is : slice ≡ plan.moves) (is : item ≡ get_or slice 0 item) where
  own_move : CanLast item s × (plan.moves ≡ item ∷ [])
  own_move = one_of plan.moves s item can.moves some (is ∙ ap (λ (l : List SpaceMove). get_or l 0 item) slice_is)

  pub move_can : CanLast item s
  move_can = own_move.0

  -- what the plan makes of the space is what the move does
  pub move_applied : plan_applied plan s ≡ moved item s
  move_applied = λ i. moved_by (own_move.1 i) (purged_of (can.purge i) s)

-- ---- what is ready is written

module _ (old new : FileState) (plan : Plan) (x : Change) (ready : IsReady old new plan x) where
  pub ready_base : (log : GateLog) (base : List ℕ) → log ≡ new.log → base ≡ x.base.items → IsBaseOf old log x.full base
  ready_base log base log_is base_is = record {
    sound = ready.change.old;
    log_is = sym (log_is ∙ ready.log);
    slots = λ full. ap (base_slots old.shape) base_is ∙ ready.written.fits.base full;
  }

  pub ready_change : (store : Store) (message frame : List ℕ) → store ≡ new.store → message ≡ x.message.items → frame ≡ x.frame.items
      → IsChange old (plan_applied plan old.space) new.raw store x.first message (payload_in frame)
  ready_change store message frame store_is message_is frame_is =
      subst (λ (l : List ℕ). IsChange old (plan_applied plan old.space) new.raw store x.first message (payload_in l)) (sym frame_is)
      (subst (λ (l : List ℕ). IsChange old (plan_applied plan old.space) new.raw store x.first l (payload_in x.frame.items)) (sym message_is)
      (subst (λ (st : Store). IsChange old (plan_applied plan old.space) new.raw st x.first x.message.items (payload_in x.frame.items)) (sym store_is)
      (subst (λ (s : IndexedSpace). IsChange old s new.raw new.store x.first x.message.items (payload_in x.frame.items)) ready.done.space ready.change)))

  -- what is said of the old parts and the new ones is said of what memory has
  pub ready_file : (here : FileState) (store store' : Store) (log : GateLog) → here ≡ new → store' ≡ store
      → with_log (changed old (plan_applied plan old.space) new.raw store) log ≡ record here { store = store'; log = log }
  ready_file here store store' log here_is store_is = λ i.
      record {
        place = (sym ready.done.place ∙ ap (λ (f : FileState). f.place) (sym here_is)) i;
        shape = (sym ready.done.shape ∙ ap (λ (f : FileState). f.shape) (sym here_is)) i;
        space = (sym ready.done.space ∙ ap (λ (f : FileState). f.space) (sym here_is)) i;
        raw = ap (λ (f : FileState). f.raw) (sym here_is) i;
        store = sym store_is i;
        log = log;
      }
