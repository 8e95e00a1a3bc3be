use Rattle.std.proofs.Common.{◌∙◌, length}
use Rattle.tq_host.proofs.QuietLemmas.{rest_on}
use Rattle.tq_host.proofs.Within.{in_a_row}
use Rattle.tq_devtab.specs.Device.{IsAnyStep, IsBlank}
use Rattle.tq_devtab.proofs.CreationLemmas.{made_more}
use Rattle.tq_devtab.proofs.PictureLemmas.{any_steps}
use Rattle.tq_devtab.proofs.creating.write_pages.Goals as goal

pub returns-in_err-write_page-clause-stop : goal.returns-in_err-write_page-clause-stop
returns-in_err-write_page-clause-stop g c = λ blank.
    let so_far = c.loop-number.invariant.stop blank in
    in_a_row c.args.dev IsAnyStep any_steps IsBlank _ _ _ so_far (c.write_page.ensures.stop (λ d may. (so_far.own d may).now))

pub loop-number-preserved : goal.loop-number-preserved
loop-number-preserved g c =
    let inv = c.loop-number.invariant in
    let page = c.in_ok-write_page.ensures in
    record {
      made = λ t. made_more c.args.header.now c.args.table.now c.args.journal.now c.page_start.result.now
          ((g.H.Host.view c.loop-number.host).reads c.args.dev) ((g.H.Host.view c.write_page.new.host).reads c.args.dev)
          c.loop-number.number (inv.made t) c.page_start.ensures.bytes (page.done t);
      size = λ t. ◌∙◌ {b = length ((g.H.Host.view c.loop-number.host).reads c.args.dev)} (page.done t).size (inv.size t);
      stop = λ blank.
          let so_far = inv.stop blank in
          in_a_row c.args.dev IsAnyStep any_steps IsBlank _ _ _ so_far (c.write_page.ensures.stop (λ d may. (so_far.own d may).now));
      rest = rest_on c.args.dev _ _ _ inv.rest c.write_page.ensures.rest;
      faults = page.cause.ok ∙ inv.faults;
    }
