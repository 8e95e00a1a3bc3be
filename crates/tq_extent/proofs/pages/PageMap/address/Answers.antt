use Rattle.std.proofs.Common.{◌≡◌, ◌+◌, ◌*◌, ◌∙◌, get_or, sym, ap, subst, arith}
use Rattle.tq_extent.specs.Pages.{AreApart, page_address}
use Rattle.tq_extent.proofs.PageLemmas.{pages_apart}
use Rattle.tq_extent.proofs.pages.PageMap.address.Goals as goal

pub returns-clause-apart : goal.returns-clause-apart
returns-clause-apart c = λ other within differs.
    let cluster = c.cluster-cluster.ensures.cluster ∙ ap (λ k. get_or c.args.self.now k 0) c.from.ensures in
    let is : page_address c.args.self.now c.args.page ≡ 32768 * c.cluster-cluster.result + 1024 * c.from-2.result = omega (arith, c.from-2.ensures, cluster) in
    subst (λ a. AreApart a (page_address c.args.self.now other)) is
    (pages_apart c.args.self.now c.args.page other c.cluster-cluster.ensures.pages.distinct c.requires within (λ same. differs (sym same)))
