use Rattle.std.proofs.Common.{◌≡◌, ◌≤◌, ℕ, List, length, true, false, Option, Some, None, Result, Ok, Err, refl, sym, ◌∙◌, ap, subst, arith}
use Rattle.std.specs.Prelude.{IfSome, IsErr, IsErrAnd}
use Rattle.tq_host.specs.View.{View}
use Rattle.tq_host.specs.Calls.{HasCauseOf, Rose}
use Rattle.tq_extent.specs.Bytes.{IsQuiet}
use Rattle.tq_extent.proofs.ReadOnlyLemmas.{quiet_call, quiet_on}
use Rattle.tq_model.specs.DeviceForm.{header_bytes, raw_header, table_bytes}
use Rattle.tq_model.specs.Reading.{hold_all}
use Rattle.tq_field.specs.Places.{run_at}
use Rattle.tq_gate.specs.declared.fault.GateError.{GateError}
use Rattle.tq_gate.specs.declared.fault.GateError.TheVariants as gate
use Rattle.tq_gate.specs.declared.layout.Layout.{Layout}
use Rattle.tq_gate.specs.declared.log.GateLog.{GateLog}
use Rattle.tq_gate.specs.Layout.{bytes_in}
use Rattle.tq_gate.specs.Loaded.{content_of}
use Rattle.tq_gate.specs.Loading.{IsRefused}
use Rattle.tq_gate.specs.Log.{IsLog, layout_of}
use Rattle.tq_gate.specs.Reading.{Content, content_on}
use Rattle.tq_devtab.specs.declared.error.TableError.{TableError}
use Rattle.tq_devtab.specs.declared.error.TableError.TheVariants as error
use Rattle.tq_devtab.specs.declared.header.Header.{Header}
use Rattle.tq_devtab.specs.declared.table.DeviceTable.{DeviceTable}
use Rattle.tq_devtab.specs.Errors.{error_of_gate}
use Rattle.tq_devtab.specs.Header.{HasHeader, part_with}
use Rattle.tq_devtab.specs.InMemory.{IsTableOf, part_of, place_of}
use Rattle.tq_devtab.specs.Table.{base_tests}
use Rattle.tq_devtab.specs.Volume.{TablePart, HasTable, is_volume, table_layout}
use Rattle.tq_devtab.proofs.LoadLemmas.{always_read, has_table, table_broken}
use Rattle.tq_devtab.proofs.TableImageLemmas.{base_read}
use Rattle.tq_devtab.proofs.table.DeviceTable.load.Goals as goal

-- Errors

err_is : {T : Type 0} (r : Result T TableError) (e : TableError) → IsErr r → IsErrAnd r (λ x. x ≡ e) → r ≡ Err e
err_is (Ok t) e err is = absurd (cc)
err_is (Err x) e err is = ap (λ y. Err y) is

same_error : {T : Type 0} (x y : TableError) → ◌≡◌ {A = Result T TableError} (Err x) (Err y) → x ≡ y
same_error x y is = cc

same_gate : {T : Type 0} (x y : GateError) → ◌≡◌ {A = Result T GateError} (Err x) (Err y) → x ≡ y
same_gate x y is = cc

no_error : {T E : Type 0} (t : T) (e : E) → ◌≡◌ {A = Result T E} (Ok t) (Err e) → ⊥
no_error t e is = absurd (cc)

device_was : (e : GateError) → error_of_gate e ≡ error.Device → e ≡ gate.Device
device_was (gate.Damaged at) is = absurd (cc)
device_was gate.Device is = refl
device_was gate.NoMemory is = absurd (cc)

-- the log of a table has no pages, and so no payload that does not fit
no_refusal : (dev : ℕ) (layout : Layout) (reads : ℕ → List ℕ) (e : GateError) → layout ≡ table_layout dev → header_bytes ≤ length (reads dev)
    → IsRefused layout (bytes_in layout (reads layout.dev)) e → error_of_gate e ≡ error.Damaged → ⊥
no_refusal dev layout reads (gate.Damaged at) there long refused is =
    always_read dev (reads dev) long (subst (λ (l : Layout). content_on l (reads l.dev) ≡ None) there refused.none)
no_refusal dev layout reads gate.Device there long refused is = absurd (cc)
no_refusal dev layout reads gate.NoMemory there long refused is = absurd (cc)

-- the cause of the last call is that of all, the ones before being fine
cause_after : (failed whole : Type 0) (before mid after : ℕ) → mid ≡ before → HasCauseOf failed mid after
    → (whole → failed) → (failed → whole) → HasCauseOf whole before after
cause_after failed whole before mid after same cause to from = record {
  later = omega (arith, same, cause.later);
  rose = λ is. subst (λ n. Rose n after) same (cause.rose (to is));
  only = λ risen. from (cause.only (omega (arith, same, risen)));
}

-- What was read

module _ (place : Option ℕ) (dev : ℕ) (h : Header) (image : List ℕ) (long : header_bytes ≤ length image) (has : HasHeader place h image) (log : GateLog)
    (k : Content) (there : layout_of log ≡ table_layout dev) (is : IsLog log k image) (size : ℕ) (sized : size ≡ length image) where
  same_base : k.base ≡ run_at (raw_header image).table table_bytes image
  same_base = base_read dev image k (subst (λ (l : Layout). content_on l image ≡ Some k) there is.is.reads)

  broken_is : hold_all (base_tests h.clusters size k.base) ≡ false → is_volume place image ≡ false
  broken_is broken = table_broken place h image k.base long has same_base (subst (λ n. hold_all (base_tests h.clusters n k.base) ≡ false) sized broken)

  table_is : (t : DeviceTable) → hold_all (base_tests h.clusters size k.base) ≡ true → part_of t ≡ part_with h k.base
      → place_of t ≡ h.place → t.log ≡ log → IsTableOf t image
  table_is t holds part number same =
      let table = has_table place h image k.base long has same_base (subst (λ n. hold_all (base_tests h.clusters n k.base) ≡ true) sized holds) in
      record {
        has = subst (λ p. HasTable p (part_of t) image) (sym number) (subst (λ (d : TablePart). HasTable h.place d image) (sym part) table);
        holds = k;
        log = subst (λ (l : GateLog). IsLog l k image) (sym same) is;
      }

-- three calls that write nothing
quiet_is : (dev : ℕ) (layout : Layout) (a b c d : View) → layout ≡ table_layout dev → IsQuiet dev a b → IsQuiet dev b c
    → IsQuiet layout.dev c d → IsQuiet dev a d
quiet_is dev layout a b c d there first second third =
    quiet_on dev a b d first (quiet_on dev b c d second (subst (λ (l : Layout). IsQuiet l.dev c d) there third))

-- The goals

pub returns-in_err-loaded-clause-quiet : goal.returns-in_err-loaded-clause-quiet
returns-in_err-loaded-clause-quiet g c =
    quiet_is c.args.dev c.table_layout.result _ _ _ _ c.table_layout.ensures
    (quiet_call c.args.dev _ _ c.length.result c.length.ensures.call c.length.ensures.still) c.read_header.ensures.quiet c.load.ensures.quiet

pub returns-in_err-table-clause-quiet : goal.returns-in_err-table-clause-quiet
returns-in_err-table-clause-quiet g c =
    quiet_is c.args.dev c.table_layout.result _ _ _ _ c.table_layout.ensures
    (quiet_call c.args.dev _ _ c.length.result c.length.ensures.call c.length.ensures.still) c.read_header.ensures.quiet c.load.ensures.quiet

pub returns-in_default-2-clause-quiet : goal.returns-in_default-2-clause-quiet
returns-in_default-2-clause-quiet g c =
    quiet_is c.args.dev c.table_layout.result _ _ _ _ c.table_layout.ensures
    (quiet_call c.args.dev _ _ c.length.result c.length.ensures.call c.length.ensures.still) c.read_header.ensures.quiet c.load.ensures.quiet

pub returns-clause-quiet : goal.returns-clause-quiet
returns-clause-quiet g c =
    quiet_is c.args.dev c.table_layout.result _ _ _ _ c.table_layout.ensures
    (quiet_call c.args.dev _ _ c.length.result c.length.ensures.call c.length.ensures.still) c.read_header.ensures.quiet c.load.ensures.quiet

pub returns-in_err-loaded-clause-cause : goal.returns-in_err-loaded-clause-cause
returns-in_err-loaded-clause-cause g c =
    let e = c.in_err-loaded.field-0.0 in
    let was = err_is c.from_residual-in_err-loaded.result (error_of_gate e) c.from_residual-in_err-loaded.ensures.0 c.from_residual-in_err-loaded.ensures.1 in
    cause_after _ _ _ _ _ (c.in_ok-header.ensures.cause.ok ∙ c.in_ok-size.ensures.call.cause.ok) c.in_err-loaded.ensures.cause
    (λ failed. ap (λ x. Err x) (device_was e (same_error (error_of_gate e) error.Device (sym was ∙ failed))))
    (λ failed. was ∙ ap (λ x. Err (error_of_gate x)) (same_gate e gate.Device failed))

pub returns-in_err-table-clause-cause : goal.returns-in_err-table-clause-cause
returns-in_err-table-clause-cause g c =
    let was = err_is c.from_residual-in_err-table.result error.NoMemory c.from_residual-in_err-table.ensures.0 c.from_residual-in_err-table.ensures.1 in
    cause_after _ _ _ _ _ (c.in_ok-header.ensures.cause.ok ∙ c.in_ok-size.ensures.call.cause.ok) c.in_ok-loaded.ensures.cause
    (λ failed. absurd (let same = same_error error.NoMemory error.Device (sym was ∙ failed) in cc))
    (λ failed. absurd (no_error c.in_ok-loaded.loaded gate.Device failed))

pub returns-in_default-2-clause-cause : goal.returns-in_default-2-clause-cause
returns-in_default-2-clause-cause g c =
    cause_after _ _ _ _ _ (c.in_ok-header.ensures.cause.ok ∙ c.in_ok-size.ensures.call.cause.ok) c.in_ok-loaded.ensures.cause
    (λ failed. absurd (let same = same_error error.Damaged error.Device failed in cc)) (λ failed. absurd (no_error c.in_ok-loaded.loaded gate.Device failed))

pub returns-clause-cause : goal.returns-clause-cause
returns-clause-cause g c =
    cause_after _ _ _ _ _ (c.in_ok-header.ensures.cause.ok ∙ c.in_ok-size.ensures.call.cause.ok) c.in_ok-loaded.ensures.cause
    (λ failed. absurd (no_error (Some c.in-Some-2.table) error.Device failed)) (λ failed. absurd (no_error c.in_ok-loaded.loaded gate.Device failed))

pub returns-in_err-loaded-clause-damaged : goal.returns-in_err-loaded-clause-damaged
returns-in_err-loaded-clause-damaged g c = λ damaged told.
    let dev = c.args.dev in
    let e = c.in_err-loaded.field-0.0 in
    let was = err_is c.from_residual-in_err-loaded.result (error_of_gate e) c.from_residual-in_err-loaded.ensures.0 c.from_residual-in_err-loaded.ensures.1 in
    let same = c.read_header.ensures.quiet.still.reads dev ∙ c.length.ensures.still.reads dev in
    let long : header_bytes ≤ length ((g.H.Host.view c.args.host.now).reads dev) = omega (arith, c.if-size-lt-HEADER_BYTES.false, c.in_ok-size.ensures.size told) in
    absurd (no_refusal dev c.table_layout.result (g.H.Host.view c.read_header.new.host).reads e c.table_layout.ensures
    (omega (arith, long, ap length same)) (c.in_err-loaded.ensures.refused told)
    (same_error (error_of_gate e) error.Damaged (sym was ∙ damaged)))

pub returns-in_default-2-clause-damaged : goal.returns-in_default-2-clause-damaged
returns-in_default-2-clause-damaged g c = λ damaged told.
    let dev = c.args.dev in
    let image = (g.H.Host.view c.args.host.now).reads dev in
    let h = c.in-Some.header in
    let k = content_of c.in_ok-loaded.loaded in
    let log = c.in_ok-loaded.loaded.log in
    let first = c.length.ensures.still.reads dev in
    let same = c.read_header.ensures.quiet.still.reads dev ∙ first in
    let sized = c.in_ok-size.ensures.size told in
    let long : header_bytes ≤ length image = omega (arith, c.if-size-lt-HEADER_BYTES.false, sized) in
    let headed = rw c.in-Some.is at c.in_ok-header.ensures.header in
    let broken = rw c.in_default-2.is at c.in_ok-table.ensures.damaged in
    let read : IsLog log k ((g.H.Host.view c.read_header.new.host).reads dev) =
    subst (λ (l : Layout). IsLog log k ((g.H.Host.view c.read_header.new.host).reads l.dev)) c.table_layout.ensures (c.in_ok-loaded.ensures.loaded told) in (
      long,
      broken_is c.args.place dev h image long (subst (λ (i : List ℕ). HasHeader c.args.place h i) first (headed told)) log k
          (c.in_ok-loaded.ensures.layout ∙ c.table_layout.ensures)
          (subst (λ (i : List ℕ). IsLog log k i) same read) c.in_ok-size.size sized broken,
    )

pub returns-clause-table : goal.returns-clause-table
returns-clause-table g c = λ told.
    let dev = c.args.dev in
    let image = (g.H.Host.view c.args.host.now).reads dev in
    let h = c.in-Some.header in
    let k = content_of c.in_ok-loaded.loaded in
    let log = c.in_ok-loaded.loaded.log in
    let first = c.length.ensures.still.reads dev in
    let same = c.read_header.ensures.quiet.still.reads dev ∙ first in
    let sized = c.in_ok-size.ensures.size told in
    let long : header_bytes ≤ length image = omega (arith, c.if-size-lt-HEADER_BYTES.false, sized) in
    let headed = rw c.in-Some.is at c.in_ok-header.ensures.header in
    let holds = rw c.in-Some-2.is at c.in_ok-table.ensures.holds in
    let part = rw c.in-Some-2.is at c.in_ok-table.ensures.part in
    let number = rw c.in-Some-2.is at c.in_ok-table.ensures.place in
    let kept = rw c.in-Some-2.is at c.in_ok-table.ensures.log in
    let read : IsLog log k ((g.H.Host.view c.read_header.new.host).reads dev) =
    subst (λ (l : Layout). IsLog log k ((g.H.Host.view c.read_header.new.host).reads l.dev)) c.table_layout.ensures (c.in_ok-loaded.ensures.loaded told) in
    table_is c.args.place dev h image long (subst (λ (i : List ℕ). HasHeader c.args.place h i) first (headed told)) log k
    (c.in_ok-loaded.ensures.layout ∙ c.table_layout.ensures)
    (subst (λ (i : List ℕ). IsLog log k i) same read) c.in_ok-size.size sized c.in-Some-2.table holds part number kept

pub returns-clause-dev : goal.returns-clause-dev
returns-clause-dev g c =
    let kept = rw c.in-Some-2.is at c.in_ok-table.ensures.log in
    ap (λ (l : GateLog). (layout_of l).dev) kept ∙ ap (λ (l : Layout). l.dev) (c.in_ok-loaded.ensures.layout ∙ c.table_layout.ensures)

pub returns-clause-place : goal.returns-clause-place
returns-clause-place g c = λ told.
    let dev = c.args.dev in
    let h = c.in-Some.header in
    let number = rw c.in-Some-2.is at c.in_ok-table.ensures.place in
    let headed = rw c.in-Some.is at c.in_ok-header.ensures.header in
    let has = subst (λ (i : List ℕ). HasHeader c.args.place h i) (c.length.ensures.still.reads dev) (headed told) in
    number ∙ has.place_is

pub returns-clause-given : goal.returns-clause-given
returns-clause-given g c =
    let number = rw c.in-Some-2.is at c.in_ok-table.ensures.place in
    let given = rw c.in-Some.is at c.in_ok-header.ensures.given in
    subst (λ n. IfSome c.args.place (λ p. n ≡ p)) (sym number) given
