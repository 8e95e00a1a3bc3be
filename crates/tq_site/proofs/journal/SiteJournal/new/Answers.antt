use Rattle.std.proofs.Common.{◌≡◌, ℕ, List, [], true, Some, refl, sym, subst}
use Rattle.tq_extent.specs.Bytes.{reaches}
use Rattle.tq_extent.proofs.BytesLemmas.{header_reached}
use Rattle.tq_gate.specs.declared.layout.Layout.{Layout}
use Rattle.tq_gate.specs.declared.log.GateLog.{GateLog}
use Rattle.tq_gate.specs.Layout.{clusters_of, bytes_in, first_area}
use Rattle.tq_gate.specs.Log.{IsLog}
use Rattle.tq_gate.specs.Reading.{Content, content_on, area_of}
use Rattle.tq_site.specs.Journal.{HasFirstJournal, journal_layout}
use Rattle.tq_site.proofs.JournalLemmas.{first_area_is, first_content, first_read}
use Rattle.tq_site.proofs.journal.SiteJournal.new.Goals as goal

-- the empty log there is that of each image with the first journal
log_is : (layout : Layout) (log : GateLog) (dev : ℕ) (image : List ℕ) (first : HasFirstJournal image) → layout ≡ journal_layout dev
    → ((k : Content) (c : List ℕ) → reaches (clusters_of layout) c ≡ true → area_of layout (bytes_in layout c) ≡ first_area layout
    → content_on layout c ≡ Some k → k.payloads ≡ [] → IsLog log k c)
    → IsLog log (first_content dev image first.has.size) image
log_is layout log dev image first there on =
    let long = first.has.size in
    let back = sym there in
    on (first_content dev image long) image
    (subst (λ (l : Layout). reaches (clusters_of l) image ≡ true) back (header_reached image long))
    (subst (λ (l : Layout). area_of l (bytes_in l image) ≡ first_area l) back (first_area_is dev image long first.selector))
    (subst (λ (l : Layout). content_on l image ≡ Some (first_content dev image long)) back (first_read dev image long first.empty))
    refl

pub returns-clause-on : goal.returns-clause-on
returns-clause-on c = λ image first. record {
  has = first.has;
  holds = first_content c.args.dev image first.has.size;
  log = log_is c.journal_layout.result c.empty.result c.args.dev image first c.journal_layout.ensures c.empty.ensures.on;
}
