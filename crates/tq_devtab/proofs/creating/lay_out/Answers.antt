use Rattle.std.proofs.Common.{sym, subst}
use Rattle.tq_devtab.specs.Made.{IsLaidOut}
use Rattle.tq_devtab.proofs.CreationLemmas.{laid_out}
use Rattle.tq_devtab.proofs.PictureLemmas.{at_ok}
use Rattle.tq_devtab.proofs.creating.lay_out.Goals as goal

pub returns-clause-done : goal.returns-clause-done
returns-clause-done g c = at_ok c.sync.result (λ t.
    let pages = c.in_ok-write_pages.ensures in
    let read = laid_out c.args.dev c.args.site c.args.clusters c.header_start-header.result c.base_start-table.result c.journal_start-journal.result
    c.header_start-header.ensures c.base_start-table.ensures c.journal_start-journal.ensures
    c.requires.site c.requires.least c.requires.most _ (pages.size t) (pages.done t) in
    subst (IsLaidOut c.args.dev c.args.site c.args.clusters) (sym (c.sync.ensures.still.reads c.args.dev)) read)
