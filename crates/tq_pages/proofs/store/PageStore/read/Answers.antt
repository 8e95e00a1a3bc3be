use Rattle.std.proofs.Common.{◌≡◌, ◌<◌, ◌≤◌, ◌++◌, ℕ, List, length, get_or, take, drop, refl, sym, ap, ◌∙◌, subst, arith}
use Rattle.std.proofs.lemmas.List.{take_at, get_or_read}
use Rattle.tq_extent.specs.Bytes.{owned_bytes}
use Rattle.tq_pages.specs.Store.{Store, size_of}
use Rattle.tq_pages.specs.Content.{payload_place, chain_bytes}
use Rattle.tq_pages.proofs.ChainLemmas.{chain_read}
use Rattle.tq_pages.proofs.ContentLemmas.{some_within}
use Rattle.tq_pages.proofs.store.PageStore.read.Goals as goal

pub returns-clause-bytes : goal.returns-clause-bytes
returns-clause-bytes g c = λ told.
    let i = c.self.inside in
    let here : Store = record { dev = i.dev; clusters = i.map; free = i.free; next = i.next.items; sizes = i.sizes.items } in
    let first = c.args.first in
    let old = g.H.Host.view c.args.host.now in
    let read = c.read_chain.new.into in
    let vec = c.in_ok-bytes.bytes in
    let some : 1 ≤ size_of here first = let same = ap (λ (s : Store). size_of s first) c.self.view_is in omega (arith, c.requires.chain) in
    let within = some_within i.sizes.items first some in
    let is = get_or_read i.sizes.items first c.index.result.now within c.index.ensures 0 in
    let long : length read ≡ vec.len = omega (arith, c.in_ok-read_chain.ensures.size, c.deref_mut.ensures.len, c.in_ok-bytes.ensures.len) in
    let size : length read ≡ size_of here first = omega (arith, c.in_ok-bytes.ensures.len) in
    let owned = owned_bytes i.map (old.reads i.dev) in
    let same : (k : ℕ) → k < length read → get_or read k 0 ≡ get_or owned (payload_place i.next.items first k) 0 = λ k lt.
    c.in_ok-read_chain.ensures.bytes told k (omega (arith, c.in_ok-read_chain.ensures.size)) ∙ ap (λ (l : List ℕ). get_or owned (payload_place l first k) 0) c.as_slice.ensures.value in
    ap (λ (n : ℕ). take n (read ++ drop (length read) vec.items)) (sym long) ∙ take_at read (drop (length read) vec.items) (length read) refl
    ∙ subst (λ (s : Store). read ≡ chain_bytes s first (owned_bytes s.clusters (old.reads s.dev))) c.self.view_is (chain_read here first owned read size same)
