use Rattle.std.proofs.Common.{◌≡◌, ◌++◌, ℕ, length, take, drop, refl, sym, ap, ◌∙◌, arith}
use Rattle.std.proofs.lemmas.List.{take_at}
use Rattle.tq_field.specs.Places.{run_at}
use Rattle.tq_extent.proofs.BytesLemmas.{length-owned}
use Rattle.tq_gate.specs.Layout.{clusters_of, bytes_in}
use Rattle.tq_gate.proofs.RangeLemmas.{run_at-is}
use Rattle.tq_gate.proofs.reading.read_bytes.Goals as goal

pub returns-clause-bytes : goal.returns-clause-bytes
returns-clause-bytes g c = λ told.
    let layout = c.args.layout.now in
    let image = (g.H.Host.view c.args.host.now).reads layout.dev in
    let read = c.read_at.new.into in
    let old = c.in_ok-bytes.bytes in
    let long = length-owned (clusters_of layout) image (c.requires.reach told) in
    let size : length read ≡ c.args.count = omega (arith, c.in_ok-read_at.ensures.size, c.deref_mut.ensures.len, c.in_ok-bytes.ensures.len) in
    let all : old.len ≡ length read = omega (arith, size, c.in_ok-bytes.ensures.len) in
    ap (λ (n : ℕ). take n (read ++ drop (length read) old.items)) all ∙ take_at read (drop (length read) old.items) (length read) refl
    ∙ sym (run_at-is c.args.from read (bytes_in layout image) (omega (arith, c.requires.end)) (c.in_ok-read_at.ensures.bytes told))
    ∙ ap (λ (n : ℕ). run_at c.args.from n (bytes_in layout image)) size
