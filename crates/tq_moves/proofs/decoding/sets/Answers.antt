use Rattle.std.proofs.Common.{◌+◌, ◌-◌, length, refl, arith}
use Rattle.std.proofs.lemmas.Result.{err_from_is_err_and}
use Rattle.tq_slots.specs.RecordForm.{sets_in}
use Rattle.tq_moves.proofs.SetLemmas.{begins, goes_on, ends, is_done}
use Rattle.tq_moves.proofs.decoding.sets.Goals as goal

pub loop-init : goal.loop-init
loop-init c =
    record {
      read =
          begins c.new-sets.result.items c.args.count 0 65536 c.args.at (c.args.at + (length c.args.bytes.now - length c.args.bytes.now)) c.args.bytes.now
          c.new-sets.ensures.items refl (omega arith);
      left = omega arith;
    }

pub loop-preserved : goal.loop-preserved
loop-preserved c =
    let bytes = c.args.bytes.now in
    let rest = c.loop.rest.now in
    let after = c.in_ok-found.after.now in
    record {
      read =
          rw (c.in_ok-push.ensures.items, c.key-least.ensures.key)
          (goes_on c.loop.sets.items c.args.count c.loop.counter c.loop.least (c.args.at + (length bytes - length rest)) (c.args.at +
          (length bytes - length after))
          rest c.in_ok-found.found after (sets_in c.args.count 65536 c.args.at bytes) c.loop-test.true c.in_ok-found.ensures.found
          (omega (arith, c.in_ok-found.ensures.left)) c.loop.invariant.read);
      left = omega (arith, c.in_ok-found.ensures.left);
    }

pub returns-in_err-found-clause-found : goal.returns-in_err-found-clause-found
returns-in_err-found-clause-found c =
    let p = err_from_is_err_and c.from_residual.result c.from_residual.ensures.1 in
    let bytes = c.args.bytes.now in
    rw (p.1, p.2)
    (ends c.in_err-found.field-0.0 c.loop.sets.items c.args.count c.loop.counter c.loop.least (c.args.at +
    (length bytes - length c.loop.rest.now)) c.loop.rest.now
    (sets_in c.args.count 65536 c.args.at bytes) c.loop-test.true c.in_err-found.ensures.found c.loop.invariant.read)

pub returns-clause-found : goal.returns-clause-found
returns-clause-found c =
    let bytes = c.args.bytes.now in
    is_done c.loop.sets.items c.args.count c.loop.counter c.loop.least (c.args.at + (length bytes - length c.loop.rest.now)) c.loop.rest.now
    (sets_in c.args.count 65536 c.args.at bytes) c.loop-test.false c.loop.invariant.read
