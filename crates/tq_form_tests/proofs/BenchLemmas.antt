-- A call that keeps the layout of a log and the length of its device.
use Rattle.std.proofs.Common.{true, ◌≡◌, ℕ, length, ap, ◌∙◌, subst}
use Rattle.tq_host.specs.View.{View}
use Rattle.tq_extent.specs.Bytes.{reaches}
use Rattle.tq_extent.proofs.BytesLemmas.{reaches_same}
use Rattle.tq_gate.specs.declared.layout.Layout.{Layout}
use Rattle.tq_gate.specs.Layout.{clusters_of}

-- the device still reaches to the end of the log's owner
pub still_reaches : (old new : Layout) (was now : View) → new ≡ old → old.dev ≡ 1 → length (now.reads old.dev) ≡ length (was.reads old.dev)
    → reaches (clusters_of old) (was.reads 1) ≡ true → reaches (clusters_of new) (now.reads 1) ≡ true
still_reaches old new was now same dev size reach =
    ap (λ (l : Layout). reaches (clusters_of l) (now.reads 1)) same
    ∙ reaches_same (clusters_of old) (was.reads 1) (now.reads 1) (subst (λ (d : ℕ). length (now.reads d) ≡ length (was.reads d)) dev size) ∙ reach
