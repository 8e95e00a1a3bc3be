use Rattle.std.proofs.Common.{◌≡◌, ◌≢◌, ◌∙◌, ◌+◌, ◌-◌, ◌/◌, inl, inr, get_or, sym, ap, arith}
use Rattle.std.proofs.lemmas.Bool.{cases_lt}
use Rattle.tq_model.specs.DeviceForm.{cluster_bytes}
use Rattle.tq_extent.proofs.RunLemmas.{clusters_in_a_row, row_ends}
use Rattle.tq_extent.proofs.pages.PageMap.run_length.Goals as goal
use Rattle.tq_extent.proofs.pages.PageMap.run_length.Goals.{then-loop-count-test+else-cluster, else-loop-count-test}

pub loop-count-preserved : goal.loop-count-preserved
loop-count-preserved c =
    let clusters = c.args.self.now in
    let first = c.args.at / cluster_bytes in
    let last = c.loop-count.cluster in
    let inv = c.loop-count.invariant in
    record {
      from = omega arith;
      end = omega arith;
      some = omega arith;
      run = λ k le. elim (cases_lt last (first + k)) [
        | inr before ↦ inv.run k before
        | inl behind ↦
            let place : first + k ≡ last + 1 = omega arith in
            let cluster : get_or clusters (first + k) 0 ≡ get_or clusters (last + 1) 0 = ap (λ j. get_or clusters j 0) place in
            let before : first + (last - first) ≡ last = omega arith in
            let one : get_or clusters last 0 ≡ get_or clusters first 0 + (last - first) = ap (λ j. get_or clusters j 0) (sym before)
            ∙ inv.run (last - first) (omega arith) in
            omega arith
      ];
    }

pub returns-clause-run : goal.returns-clause-run
returns-clause-run c = clusters_in_a_row c.args.self.now c.args.at c.min.result c.loop-count.cluster (omega arith) c.loop-count.invariant.run

pub returns-clause-longest : goal.returns-clause-longest
returns-clause-longest c = λ less. elim c.loop-count-test.branch [
  | then-loop-count-test+else-cluster w ↦
      let all : c.loop-count.count ≡ c.min.result = omega arith in
      let gap : get_or c.args.self.now c.loop-count.cluster 0 + 1 ≢ get_or c.args.self.now (c.loop-count.cluster + 1) 0 = λ same.
      w.if-cluster.false (omega arith) in
      row_ends c.args.self.now c.args.at c.min.result c.loop-count.cluster c.loop-count.invariant.from (omega arith) c.loop-count.invariant.run gap
  | else-loop-count-test w ↦ absurd (omega arith)
]
