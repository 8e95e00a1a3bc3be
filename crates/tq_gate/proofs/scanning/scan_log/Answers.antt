use Rattle.std.proofs.Common.{◌≡◌, ◌+◌, length, map, [], ◌∷◌, ◌++◌, sym, ap, subst, ◌∙◌, arith}
use Rattle.tq_gate.specs.Reading.{AreRecords, IsRecord}
use Rattle.tq_field.specs.GatedLog.{end_of}
use Rattle.tq_gate.proofs.Readings.{records_push, end_of-push}
use Rattle.tq_gate.proofs.scanning.scan_log.Goals as goal

pub records-preserved : goal.records-preserved
records-preserved c =
    let inv = c.records.invariant in
    let log = c.args.log.now in
    let payload = c.in-Some.payload.now in
    let ps = map (λ v. v.items) c.records.payloads.items in
    let is = c.in-Some.ensures.record in
    let more = c.in_ok-push_copy.ensures in
    let here : c.records.end ≡ 0 + end_of ps = omega (arith, inv.ends) in
    let ends : end_of (ps ++ payload ∷ []) ≡ c.records.end + (5 + length payload) = omega (arith, end_of-push ps payload, inv.ends) in
    record {
      range = omega (arith, is.fits);
      records = subst (AreRecords log 0) (sym more) (records_push 0 ps payload log inv.records (subst (λ n. IsRecord log n payload) here is));
      ends = sym (ap end_of more ∙ ends);
    }
