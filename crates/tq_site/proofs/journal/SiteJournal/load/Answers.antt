use Rattle.std.proofs.Common.{◌≡◌, ◌≤◌, ℕ, List, [], ◌∷◌, ◌++◌, length, false, Option, Some, None, Result, Ok, Err, refl, sym, ◌∙◌, ap, subst}
use Rattle.std.specs.Prelude.{IfSome, IfNone, IfOk, IsErr, IsErrAnd}
use Rattle.std.specs.Option.{ok_or}
use Rattle.tq_model.specs.DeviceForm.{header_bytes}
use Rattle.tq_model.specs.Reading.{journal_tests, has_no_decision, hold_all}
use Rattle.tq_gate.specs.declared.fault.GateError.{GateError}
use Rattle.tq_gate.specs.declared.fault.GateError.TheVariants as gate
use Rattle.tq_gate.specs.declared.layout.Layout.{Layout}
use Rattle.tq_gate.specs.declared.log.GateLog.{GateLog}
use Rattle.tq_gate.specs.Layout.{bytes_in}
use Rattle.tq_gate.specs.Loaded.{content_of}
use Rattle.tq_gate.specs.Loading.{IsRefused}
use Rattle.tq_gate.specs.Log.{IsLog, layout_of}
use Rattle.tq_gate.specs.Reading.{Content, content_on}
use Rattle.tq_site.specs.declared.error.JournalError.{JournalError}
use Rattle.tq_site.specs.declared.error.JournalError.TheVariants as error
use Rattle.tq_site.specs.declared.journal.SiteJournal.{SiteJournal}
use Rattle.tq_site.specs.Base.{SaysEpoch}
use Rattle.tq_site.specs.Errors.{error_of_gate}
use Rattle.tq_site.specs.Journal.{journal_layout, journal_in}
use Rattle.tq_site.specs.InMemory.{IsJournalOf, dev_of}
use Rattle.tq_site.proofs.JournalLemmas.{has_epoch, has_none, has_no_reading, log_content}
use Rattle.tq_site.proofs.journal.SiteJournal.load.Goals as goal

-- what an image that is damaged does not hold
abbrev IsUnread : List ℕ → Type 0
IsUnread image = hold_all (journal_tests (journal_in image) ++ has_no_decision (journal_in image) ∷ []) ≡ false

-- an error of the log, as one of the journal
err_is : {T : Type 0} (r : Result T JournalError) (e : JournalError) → IsErr r → IsErrAnd r (λ x. x ≡ e) → r ≡ Err e
err_is (Ok t) e err is = absurd (cc)
err_is (Err x) e err is = ap (λ y. Err y) is

same_error : {T : Type 0} (x y : JournalError) → ◌≡◌ {A = Result T JournalError} (Err x) (Err y) → x ≡ y
same_error x y is = cc

refused_unread : (dev : ℕ) (layout : Layout) (reads : ℕ → List ℕ) (e : GateError) → layout ≡ journal_layout dev → header_bytes ≤ length (reads dev) → IsRefused layout (bytes_in layout (reads layout.dev)) e → error_of_gate e ≡ error.Damaged
    → IsUnread (reads dev)
refused_unread dev layout reads (gate.Damaged at) there long refused is =
    has_no_reading dev (reads dev) long (subst (λ (l : Layout). content_on l (reads l.dev) ≡ None) there refused.none)
refused_unread dev layout reads gate.Device there long refused is = absurd (cc)
refused_unread dev layout reads gate.NoMemory there long refused is = absurd (cc)

device_was : (e : GateError) → error_of_gate e ≡ error.Device → e ≡ gate.Device
device_was (gate.Damaged at) is = absurd (cc)
device_was gate.Device is = refl
device_was gate.NoMemory is = absurd (cc)

same_gate : {T : Type 0} (x y : GateError) → ◌≡◌ {A = Result T GateError} (Err x) (Err y) → x ≡ y
same_gate x y is = cc

-- no journal is no failed device
no_device : (o : Option SiteJournal) → ok_or o error.Damaged ≡ Err error.Device → ⊥
no_device None is = absurd (cc)
no_device (Some j) is = absurd (cc)

no_error : {T E : Type 0} (t : T) (e : E) → ◌≡◌ {A = Result T E} (Ok t) (Err e) → ⊥
no_error t e is = absurd (cc)

-- a log that was loaded
module _ (dev : ℕ) (layout : Layout) (there : layout ≡ journal_layout dev) (log : GateLog) (k : Content) (reads : ℕ → List ℕ) (R : Type 0) (on : R → IsLog log k (reads layout.dev)) (lies : layout_of log ≡ layout) (long : R → header_bytes ≤ length (reads dev)) where
  is_log : R → IsLog log k (reads dev)
  is_log told = subst (λ (l : Layout). IsLog log k (reads l.dev)) there (on told)

  holds : R → content_on (journal_layout dev) (reads dev) ≡ Some k
  holds told = log_content log dev (lies ∙ there) k (reads dev) (is_log told)

  loaded_is : (o : Option SiteJournal) → IfSome o (λ j. SaysEpoch j.epoch k.base k.payloads) → IfSome o (λ j. j.log ≡ log) → IfOk (ok_or o error.Damaged) (λ j. R → IsJournalOf j (reads dev))
  loaded_is None says same = tt
  loaded_is (Some j) says same = λ told. record {
    has = has_epoch dev (reads dev) (long told) j.epoch k (holds told) says;
    holds = k;
    log = subst (λ (l : GateLog). IsLog l k (reads dev)) (sym same) (is_log told);
  }

  dev_is : (o : Option SiteJournal) → IfSome o (λ j. j.log ≡ log) → IfOk (ok_or o error.Damaged) (λ j. dev_of j ≡ dev)
  dev_is None same = tt
  dev_is (Some j) same = ap (λ (l : GateLog). (layout_of l).dev) same ∙ ap (λ (l : Layout). l.dev) (lies ∙ there)

  damaged_is : (o : Option SiteJournal) → IfNone o ((epoch : ℕ) → SaysEpoch epoch k.base k.payloads → ⊥) → ok_or o error.Damaged ≡ Err error.Damaged → R → IsUnread (reads dev)
  damaged_is None none is told = has_none dev (reads dev) (long told) k (holds told) none
  damaged_is (Some j) none is told = absurd (cc)

pub returns-in_err-loaded-clause-damaged : goal.returns-in_err-loaded-clause-damaged
returns-in_err-loaded-clause-damaged g c = λ damaged told.
    let was = err_is c.from_residual.result (error_of_gate c.in_err-loaded.field-0.0) c.from_residual.ensures.0 c.from_residual.ensures.1 in
    refused_unread c.args.dev c.journal_layout.result (g.H.Host.view c.args.host.now).reads c.in_err-loaded.field-0.0 c.journal_layout.ensures (c.requires.size told) (c.in_err-loaded.ensures.refused told)
    (same_error (error_of_gate c.in_err-loaded.field-0.0) error.Damaged (sym was ∙ damaged))

pub returns-in_err-loaded-clause-cause : goal.returns-in_err-loaded-clause-cause
returns-in_err-loaded-clause-cause g c =
    let e = c.in_err-loaded.field-0.0 in
    let was = err_is c.from_residual.result (error_of_gate e) c.from_residual.ensures.0 c.from_residual.ensures.1 in
    let cause = c.in_err-loaded.ensures.cause in
    record {
      later = cause.later;
      rose = λ failed. cause.rose (ap (λ x. Err x) (device_was e (same_error (error_of_gate e) error.Device (sym was ∙ failed))));
      only = λ risen. was ∙ ap (λ x. Err (error_of_gate x)) (same_gate e gate.Device (cause.only risen));
    }

pub returns-clause-loaded : goal.returns-clause-loaded
returns-clause-loaded g c =
    subst (λ r. IfOk r (λ j. g.H.Host.tells.reads → IsJournalOf j ((g.H.Host.view c.args.host.now).reads c.args.dev))) (sym c.ok_or.ensures.value)
    (loaded_is c.args.dev c.journal_layout.result c.journal_layout.ensures c.in_ok-loaded.loaded.log (content_of c.in_ok-loaded.loaded) (g.H.Host.view c.args.host.now).reads g.H.Host.tells.reads
    c.in_ok-loaded.ensures.loaded c.in_ok-loaded.ensures.layout c.requires.size c.journal_of.result c.journal_of.ensures.epoch c.journal_of.ensures.log)

pub returns-clause-dev : goal.returns-clause-dev
returns-clause-dev g c =
    subst (λ r. IfOk r (λ j. dev_of j ≡ c.args.dev)) (sym c.ok_or.ensures.value)
    (dev_is c.args.dev c.journal_layout.result c.journal_layout.ensures c.in_ok-loaded.loaded.log (content_of c.in_ok-loaded.loaded) (g.H.Host.view c.args.host.now).reads g.H.Host.tells.reads
    c.in_ok-loaded.ensures.loaded c.in_ok-loaded.ensures.layout c.requires.size c.journal_of.result c.journal_of.ensures.log)

pub returns-clause-damaged : goal.returns-clause-damaged
returns-clause-damaged g c = λ damaged told.
    damaged_is c.args.dev c.journal_layout.result c.journal_layout.ensures c.in_ok-loaded.loaded.log (content_of c.in_ok-loaded.loaded) (g.H.Host.view c.args.host.now).reads g.H.Host.tells.reads
    c.in_ok-loaded.ensures.loaded c.in_ok-loaded.ensures.layout c.requires.size c.journal_of.result c.journal_of.ensures.none (sym c.ok_or.ensures.value ∙ damaged) told

pub returns-clause-cause : goal.returns-clause-cause
returns-clause-cause g c =
    let cause = c.in_ok-loaded.ensures.cause in
    record {
      later = cause.later;
      rose = λ failed. absurd (no_device c.journal_of.result (sym c.ok_or.ensures.value ∙ failed));
      only = λ risen. absurd (no_error c.in_ok-loaded.loaded gate.Device (cause.only risen));
    }
