use Rattle.std.proofs.Common.{inl, ◌+◌, ◌-◌, ◌∙◌, arith}
use Rattle.tq_host.specs.Calls.{IsPulled}
use Rattle.tq_model.specs.DeviceForm.{header_bytes, journal_a, page_bytes}
use Rattle.tq_devtab.specs.Device.{IsBlank, IsBlankOr, new_part}
use Rattle.tq_devtab.specs.Made.{IsLaidOut}
use Rattle.tq_devtab.proofs.CreationLemmas.{pulled_open}
use Rattle.tq_devtab.proofs.PictureLemmas.{on_ok, settled_has, leads, leads_on, pulled_below, blank_pictures, still_blank}
use Rattle.tq_devtab.proofs.creating.create.Goals as goal

pub returns-in_err-resize-clause-stop : goal.returns-in_err-resize-clause-stop
returns-in_err-resize-clause-stop g c = λ blank.
    let dev = c.args.dev in
    leads dev (IsPulled (header_bytes - 1)) IsBlank (IsBlankOr dev (new_part dev c.args.site c.args.clusters)) _ _
    (λ a b is pulled. inl (pulled_below (header_bytes - 1) a b (omega arith) is pulled)) blank c.resize.ensures.stop

pub returns-in_err-lay_out-clause-stop : goal.returns-in_err-lay_out-clause-stop
returns-in_err-lay_out-clause-stop g c = λ blank.
    let dev = c.args.dev in
    blank_pictures dev dev (new_part dev c.args.site c.args.clusters) _ _ (still_blank dev _ _ _ blank c.resize.ensures.stop c.lay_out.ensures.stop)

pub returns-clause-done : goal.returns-clause-done
returns-clause-done g c = on_ok c.resize-2.result c.resize-2.ensures.done (λ resized t.
    let laid = c.in_ok-lay_out.ensures.done t in
    let longer = resized t in
    laid.part _ (omega (arith, longer.size)) (λ i lt. longer.front i (omega (arith, lt, laid.size))))

pub returns-clause-stop : goal.returns-clause-stop
returns-clause-stop g c = λ blank.
    let dev = c.args.dev in
    let site = c.args.site in
    let clusters = c.args.clusters in
    let laid = c.in_ok-lay_out.ensures in
    let so_far = blank_pictures dev dev (new_part dev site clusters) _ _ (still_blank dev _ _ _ blank c.resize.ensures.stop c.lay_out.ensures.stop) in
    let all = settled_has (IsLaidOut dev site clusters) dev _ (g.met.H.Host.lawful c.lay_out.new.host) laid.settled laid.done in
    leads_on dev (IsPulled header_bytes) (IsLaidOut dev site clusters) (IsBlankOr dev (new_part dev site clusters)) _ _ _
    (λ a b is pulled. pulled_open dev site clusters a b is pulled) so_far all c.resize-2.ensures.stop

pub returns-clause-first : goal.returns-clause-first
returns-clause-first g c = on_ok c.resize-2.result c.resize-2.ensures.done (λ resized t.
    let laid = c.in_ok-lay_out.ensures.done t in
    let longer = resized t in
    record {
      table = longer.front 512 (omega (arith, laid.size)) ∙ laid.first.table;
      journal = longer.front 513 (omega (arith, laid.size)) ∙ laid.first.journal;
      shut = longer.front (journal_a + page_bytes) (omega (arith, laid.size)) ∙ laid.first.shut;
    })
