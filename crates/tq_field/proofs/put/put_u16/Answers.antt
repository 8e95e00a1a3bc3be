use Rattle.std.proofs.Common.{rules}
use Rattle.tq_field.proofs.Calls.{put_mid-with_number, put_mid-number_at, put_mid-copied, put_mid-same}
use Rattle.tq_field.proofs.put.put_u16.Goals as goal

pub returns-clause-written : goal.returns-clause-written
returns-clause-written c =
    put_mid-with_number c.args.at 2 c.args.n c.args.bytes.now c.write_u16.new.buf (search rules) c.write_u16.ensures

pub returns-clause-read_back : goal.returns-clause-read_back
returns-clause-read_back c =
    put_mid-number_at c.args.at 2 c.args.n c.args.bytes.now c.write_u16.new.buf (search rules) c.write_u16.ensures c.ranges.n.fits

pub returns-clause-copied : goal.returns-clause-copied
returns-clause-copied c = λ source long are is.
    put_mid-copied c.args.at 2 c.args.n c.args.bytes.now c.write_u16.new.buf source (search rules) c.write_u16.ensures long are is

pub returns-clause-same : goal.returns-clause-same
returns-clause-same c = λ is are.
    put_mid-same c.args.at 2 c.args.n c.args.bytes.now c.write_u16.new.buf (search rules) c.write_u16.ensures is are
