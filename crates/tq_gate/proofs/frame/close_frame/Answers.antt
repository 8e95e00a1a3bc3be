use Rattle.std.proofs.Common.{refl}
use Rattle.tq_gate.proofs.FrameLemmas.{closed}
use Rattle.tq_gate.proofs.frame.close_frame.Goals as goal

pub returns : goal.returns
returns c = closed c.args.frame.now c.put_u32.new.bytes _ _ c.requires.frame refl c.in-Ok.ensures.written refl
