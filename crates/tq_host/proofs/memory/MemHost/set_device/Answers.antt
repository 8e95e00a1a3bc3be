use Rattle.std.proofs.lemmas.Result.{on_ok_weaker}
use Rattle.tq_host.specs.Outside.{account_of}
use Rattle.tq_host.proofs.Views.{loaded}
use Rattle.tq_host.proofs.memory.MemHost.set_device.Goals as goal

pub returns-clause-loaded : goal.returns-clause-loaded
returns-clause-loaded c =
    let kept = c.load.ensures in
    on_ok_weaker c.load.result (λ is. loaded c.args.dev c.args.image.now (account_of c.args.self.now.outside) (account_of c.load.new.self) kept.script kept.counts is) kept.ok
