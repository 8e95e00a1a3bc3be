use Rattle.std.proofs.Common.{ℕ, List, length, subst, refl, rules}
use Rattle.tq_host.proofs.RunLemmas.{ran_start}
use Rattle.tq_run.specs.Stops.{IsWaiting}
use Rattle.tq_coord.proofs.FrameLemmas.{others_here, others_on}
use Rattle.tq_run.proofs.PictureLemmas.{waits_on, no_new_on}
use Rattle.tq_run.specs.Input.{TakesWith}
use Rattle.tq_run.proofs.TakeLemmas.{takes_none, takes_on}
use Rattle.tq_run.proofs.script.read_script.Goals as goal

pub loop-left-init : goal.loop-left-init
loop-left-init g c = record {
  bytes = search rules;
  taken = search rules;
  short = search rules;
  still = search rules;
  takes = λ t. takes_none _ (g.H.Host.view c.args.host.now).streams (g.H.Host.view c.args.host.now).streams refl;
  waits = ran_start (IsWaiting (g.H.Host.view c.args.host.now)) (g.H.Host.view c.args.host.now);
  images = λ d image may. may;
  others = others_here (g.H.Host.view c.args.host.now);
  quiet = search rules;
}

pub loop-left-preserved : goal.loop-left-preserved
loop-left-preserved g c =
    let a = g.H.Host.view c.args.host.now in
    let b = g.H.Host.view c.loop-left.host in
    let d = g.H.Host.view c.take_some.new.host in
    record {
      bytes = search rules;
      taken = search rules;
      short = search rules;
      still = search rules;
      takes = λ t. takes_on (length a.streams.output) a.streams b.streams d.streams (c.loop-left.invariant.takes t) (subst (λ (l : List ℕ). TakesWith (length l) b.streams d.streams) c.loop-left.invariant.still.output (c.take_some.ensures.takes t));
      waits = waits_on a b d c.loop-left.invariant.waits c.loop-left.invariant.images c.loop-left.invariant.still.output c.take_some.ensures.waits;
      images = no_new_on a b d c.loop-left.invariant.images c.take_some.ensures.images;
      others = others_on a b d c.loop-left.invariant.others c.take_some.ensures.others;
      quiet = search rules;
    }
