use Rattle.std.proofs.Common.{sym, ap, ◌∙◌, subst}
use Rattle.tq_host.specs.Memory.{mem_view_of}
use Rattle.tq_gate.specs.declared.layout.Layout.{Layout}
use Rattle.tq_gate.specs.Layout.{IsLaidOut}
use Rattle.tq_gate.specs.Log.{layout_of}
use Rattle.tq_form_tests.proofs.BenchLemmas.{still_reaches}
use Rattle.tq_form_tests.proofs.logs.Bench.renew.Goals as goal

pub invariant_of-result : goal.invariant_of-result
invariant_of-result c =
    let self = c.args.self in
    let same = c.replace.ensures.layout in
    record {
      laid_out = subst IsLaidOut (sym same) self.laid_out;
      dev = ap (λ (l : Layout). l.dev) same ∙ self.dev;
      reach = still_reaches (layout_of self.log) (layout_of c.replace.new.self) (mem_view_of self.host) (mem_view_of c.replace.new.host) same self.dev
          (c.in_ok-replace.ensures.outside tt).size self.reach;
    }
