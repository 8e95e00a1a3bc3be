use Rattle.std.proofs.Common.{◌≡◌, ◌⊎◌, inl, inr, ◌≤◌, ℕ, ◌+◌, List, [], length, Some, sym, ◌∙◌, subst, arith}
use Rattle.std.proofs.lemmas.List.{with_items_is}
use Rattle.std.specs.Vec.{with_items}
use Rattle.tq_host.specs.View.{View}
use Rattle.tq_host.proofs.Within.{wider}
use Rattle.tq_extent.specs.Bytes.{OnBytes}
use Rattle.tq_model.specs.DeviceForm.{header_bytes}
use Rattle.tq_gate.specs.declared.layout.Layout.{Layout}
use Rattle.tq_gate.specs.declared.log.GateLog.{GateLog}
use Rattle.tq_gate.specs.Layout.{clusters_of}
use Rattle.tq_gate.specs.Reading.{content_on}
use Rattle.tq_gate.specs.Log.{IsLog, HaveLog, IsSameBeside, IsSameButAreas, IsOldOrReplaced, layout_of, replaced}
use Rattle.tq_site.specs.declared.journal.SiteJournal.{SiteJournal}
use Rattle.tq_site.specs.Base.{SaysEpoch}
use Rattle.tq_site.specs.Journal.{HasEpoch, IsEpochOrNext, IsSameButJournal, journal_layout}
use Rattle.tq_site.specs.InMemory.{AreJournalOf, dev_of}
use Rattle.tq_site.proofs.JournalLemmas.{has_epoch, same_epoch, log_content, log_reached}
use Rattle.tq_site.proofs.journal.SiteJournal.raise_epoch.Goals as goal

-- the base that was written into the room
says_stored : (j : SiteJournal) (epoch : ℕ) (bytes base : List ℕ) → base ≡ (with_items j.base bytes).items → SaysEpoch epoch bytes [] → SaysEpoch epoch base []
says_stored j epoch bytes base stored says =
    subst (λ (b : List ℕ). SaysEpoch epoch b []) (sym (stored ∙ with_items_is j.base bytes (omega (arith, says.is_base.size, j.room, j.base.ok)))) says

-- the log of a base of this epoch
has_next : (log : GateLog) (dev epoch : ℕ) (base image : List ℕ) → layout_of log ≡ journal_layout dev → SaysEpoch epoch base [] → IsLog log (replaced base) image → HasEpoch epoch image
has_next log dev epoch base image there says is =
    has_epoch dev image (log_reached log dev there (replaced base) image is) epoch (replaced base) (log_content log dev there (replaced base) image is) says

module _ (j : SiteJournal) (next : ℕ) (base : List ℕ) (says : SaysEpoch next base []) (v : View) (are : AreJournalOf j v) where
  has_log : HaveLog j.log v
  has_log image may = let is = are image may in record { holds = is.holds; is = is.log }

  -- an image in the midst of it
  old_or_next : (b c : List ℕ) → v.may_leave (dev_of j) b → IsSameButAreas j.log b c → IsOldOrReplaced j.log v base c → IsSameButJournal (dev_of j) b c × (HasEpoch j.epoch c ⊎ (HasEpoch next c × IsSameButJournal (dev_of j) (v.reads (dev_of j)) c))
  old_or_next b c may step now =
      let dev = dev_of j in
      let long : header_bytes ≤ length c = omega (arith, (are b may).has.size, step.size) in (
        subst (λ (l : Layout). OnBytes (clusters_of l) (IsSameBeside l) b c) j.layout step,
        elim now [
          | inl old ↦ inl (same_epoch dev j.epoch old.was c long (subst (λ (l : Layout). content_on l c ≡ content_on l old.was) j.layout old.reads) (are old.was old.left).has)
          | inr new ↦
              let frame = subst (λ (l : Layout). OnBytes (clusters_of l) (IsSameBeside l) (v.reads dev) c) j.layout new.outside in
              inr (has_epoch dev c long next (replaced base) (subst (λ (l : Layout). content_on l c ≡ Some (replaced base)) j.layout new.reads) says, frame)
        ],
      )

pub returns-in_err-replace-clause-stop : goal.returns-in_err-replace-clause-stop
returns-in_err-replace-clause-stop g c = λ are.
    let j = c.args.self.now in
    let old = g.H.Host.view c.args.host.now in
    let base = c.deref.result.now in
    let says = says_stored j (j.epoch + 1) c.encode_base.new.base base c.deref.ensures.value c.encode_base.ensures.says in
    wider (dev_of j) (IsSameButAreas j.log) (IsSameButJournal (dev_of j)) (IsOldOrReplaced j.log old base) (IsEpochOrNext (dev_of j) j.epoch (old.reads (dev_of j))) old (g.H.Host.view c.replace.new.host)
    (old_or_next j (j.epoch + 1) base says old are) (c.replace.ensures.stop (has_log j (j.epoch + 1) base says old are))

pub returns-clause-stop : goal.returns-clause-stop
returns-clause-stop g c = λ are.
    let j = c.args.self.now in
    let old = g.H.Host.view c.args.host.now in
    let base = c.deref.result.now in
    let says = says_stored j (j.epoch + 1) c.encode_base.new.base base c.deref.ensures.value c.encode_base.ensures.says in
    wider (dev_of j) (IsSameButAreas j.log) (IsSameButJournal (dev_of j)) (IsOldOrReplaced j.log old base) (IsEpochOrNext (dev_of j) j.epoch (old.reads (dev_of j))) old (g.H.Host.view c.replace.new.host)
    (old_or_next j (j.epoch + 1) base says old are) (c.replace.ensures.stop (has_log j (j.epoch + 1) base says old are))

pub returns-clause-raised : goal.returns-clause-raised
returns-clause-raised g c = λ told was.
    let j = c.args.self.now in
    let base = c.deref.result.now in
    let says = says_stored j (j.epoch + 1) c.encode_base.new.base base c.deref.ensures.value c.encode_base.ensures.says in
    let is = c.in_ok-replace.ensures.replaced told was.holds was.log in
    record {
      has = has_next c.replace.new.self (dev_of j) (j.epoch + 1) base ((g.H.Host.view c.replace.new.host).reads (dev_of j)) (c.replace.ensures.layout ∙ j.layout) says is;
      holds = replaced base;
      log = is;
    }

pub returns-clause-images : goal.returns-clause-images
returns-clause-images g c = λ are image may.
    let j = c.args.self.now in
    let dev = dev_of j in
    let new = g.H.Host.view c.replace.new.host in
    let base = c.deref.result.now in
    let says = says_stored j (j.epoch + 1) c.encode_base.new.base base c.deref.ensures.value c.encode_base.ensures.says in
    let lawful_old = g.met.H.Host.lawful c.args.host.now in
    let lawful_new = g.met.H.Host.lawful c.replace.new.host in
    let left = subst (λ (l : Layout). new.may_leave l.dev image) c.replace.ensures.layout may in
    let stops = lawful_new.stops_told dev image left in
    let was = are ((g.H.Host.view c.args.host.now).reads dev) (lawful_old.reads_an_image stops dev) in
    let read = c.in_ok-replace.ensures.replaced (lawful_new.reads_told stops) was.holds was.log in
    let is = subst (λ bytes. IsLog c.replace.new.self (replaced base) bytes) (sym (c.in_ok-replace.ensures.settled image left)) read in
    record { has = has_next c.replace.new.self dev (j.epoch + 1) base image (c.replace.ensures.layout ∙ j.layout) says is; holds = replaced base; log = is }
