use Rattle.std.proofs.Common.{◌≡◌, ◌≤◌, ◌-◌, length, map}
use Rattle.tq_gate.specs.Reading.{AreRecords}
use Rattle.tq_field.specs.GatedLog.{end_of}
use Rattle.tq_gate.proofs.scanning.scan_log.Given as goal

abbrev pub invariant-records : goal.invariant-records
invariant-records l = record {
  range : l.end ≤ length l.log;
  records : AreRecords l.log 0 (map (λ v. v.items) l.payloads.items);
  ends : l.end ≡ end_of (map (λ v. v.items) l.payloads.items);
}

abbrev pub decreases-records : goal.decreases-records
decreases-records l = length l.log - l.end
