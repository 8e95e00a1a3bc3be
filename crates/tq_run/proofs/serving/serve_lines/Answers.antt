use Rattle.std.proofs.Common.{◌≡◌, ◌<◌, ℕ, List, [], ◌∷◌, length, refl, subst, rules, arith}
use Rattle.std.specs.Prelude.{map}
use Rattle.tq_model.specs.Grammar.{script_lines, script_requests, line_request}
use Rattle.tq_run.specs.Counts.{IsCalm}
use Rattle.tq_run.proofs.CountLemmas.{calm, calm_on}
use Rattle.tq_run.proofs.AttachLemmas.{stays_same, stays_on}
use Rattle.tq_coord.proofs.FrameLemmas.{others_here, others_on}
use Rattle.tq_run.proofs.LineByLineLemmas.{IsSoFar, so_far_first, so_far_next, ends_here, over_run, all_run, tells_on, tells_none, requests_first}
use Rattle.tq_run.proofs.serving.serve_lines.Goals as goal

pub loop-line-init : goal.loop-line-init
loop-line-init g c =
    let start = g.H.Host.view c.args.host.now in
    record {
      count = omega arith;
      numbers = c.requires.numbers;
      on = c.requires.on;
      input = search rules;
      calm = calm start;
      told = λ t. tells_none start start refl;
      attached = λ t. stays_same start start refl refl;
      others = others_here start;
      so_far = λ t o found failed first reached. so_far_first o found failed first (script_requests c.args.script.now) c.args.state.now start reached;
    }

pub loop-line-preserved : goal.loop-line-preserved
loop-line-preserved g c =
    let inv = c.loop-line.invariant in
    let start = g.H.Host.view c.args.host.now in
    let mid = g.H.Host.view c.loop-line.host in
    let new = g.H.Host.view c.serve_line.new.host in
    let rest = c.loop-line.rest.now in
    let line = c.in-Some.line.now in
    let behind = c.in-Some.behind.now in
    let shorter : length behind < length rest = c.in-Some.ensures.shorter in
    let quiet : IsCalm mid new = c.in_ok-serve_line.ensures.counts in
    record {
      count = omega (arith, inv.count, shorter);
      numbers = omega (arith, inv.numbers, shorter, c.in_ok-serve_line.ensures.next);
      on = c.in_ok-serve_line.ensures.on;
      input = search rules;
      calm = calm_on start mid new inv.calm quiet;
      told = λ t. tells_on start mid new (inv.told t) (c.serve_line.ensures.told t);
      attached = λ t. stays_on start mid new (inv.attached t) (c.serve_line.ensures.attached t);
      others = others_on start mid new inv.others c.serve_line.ensures.others;
      so_far = λ t o found failed first reached.
          let so_far = inv.so_far t o found failed first reached in
          so_far_next o found failed first (script_requests c.args.script.now) (script_requests rest) (script_requests behind) (line_request line) c.loop-line.number c.loop-line.state start mid new so_far
          (requests_first rest line behind c.in-Some.ensures.lines) (c.serve_line.ensures.told t.output) (inv.told t.output) c.serve_line.new.state
          (c.in_ok-serve_line.ensures.reached t o found so_far.run.since (first ∷ so_far.done) so_far.count so_far.run.reached);
    }

pub returns-in_err-serve_line-clause-stop : goal.returns-in_err-serve_line-clause-stop
returns-in_err-serve_line-clause-stop g c = λ t o found failed first reached.
    let inv = c.loop-line.invariant in
    let start = g.H.Host.view c.args.host.now in
    let mid = g.H.Host.view c.loop-line.host in
    let new = g.H.Host.view c.serve_line.new.host in
    let rest = c.loop-line.rest.now in
    let line = c.in-Some.line.now in
    let behind = c.in-Some.behind.now in
    let so_far = inv.so_far t o found failed first reached in
    ends_here o found failed first (script_requests c.args.script.now) (script_requests rest) (script_requests behind) (line_request line) c.loop-line.number c.loop-line.state start mid new so_far
    (requests_first rest line behind c.in-Some.ensures.lines) (c.serve_line.ensures.told t.output) (inv.told t.output)
    (c.serve_line.ensures.stop t o found so_far.run.since (first ∷ so_far.done) so_far.count so_far.run.reached)

pub returns-clause-stop : goal.returns-clause-stop
returns-clause-stop g c = λ t o found failed first reached.
    let start = g.H.Host.view c.args.host.now in
    let now = g.H.Host.view c.loop-line.host in
    let none : script_lines c.loop-line.rest.now ≡ [] = search rules in
    let all = script_requests c.args.script.now in
    let so_far = subst (λ (l : List (List ℕ)). IsSoFar o found failed first all (map line_request l) c.loop-line.number c.loop-line.state start now) none (c.loop-line.invariant.so_far t o found failed first reached) in
    over_run o found failed (first ∷ all) c.loop-line.state start now (all_run o found failed first all c.loop-line.number c.loop-line.state start now so_far)

pub returns-clause-reached : goal.returns-clause-reached
returns-clause-reached g c = λ t o found failed first reached.
    let start = g.H.Host.view c.args.host.now in
    let now = g.H.Host.view c.loop-line.host in
    let none : script_lines c.loop-line.rest.now ≡ [] = search rules in
    let all = script_requests c.args.script.now in
    let so_far = subst (λ (l : List (List ℕ)). IsSoFar o found failed first all (map line_request l) c.loop-line.number c.loop-line.state start now) none (c.loop-line.invariant.so_far t o found failed first reached) in
    all_run o found failed first all c.loop-line.number c.loop-line.state start now so_far
