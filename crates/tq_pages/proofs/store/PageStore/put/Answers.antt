use Rattle.std.proofs.Common.{◌≡◌, ◌≢◌, ℕ, List, length, sym, ap, ◌∙◌, subst, arith}
use Rattle.tq_host.specs.View.{View}
use Rattle.tq_extent.specs.Bytes.{owned_bytes, OnBytes}
use Rattle.tq_extent.proofs.BytesLemmas.{length-owned}
use Rattle.tq_pages.specs.Store.{Store, IsStore, size_of, chain_pages}
use Rattle.tq_pages.specs.Content.{chain_bytes, HasChain, AreWritten, IsWritten, IsSameButPages, IsSameButChain}
use Rattle.tq_pages.proofs.ContentLemmas.{size_few}
use Rattle.tq_pages.proofs.KeptLemmas.{others_kept, written_bytes}
use Rattle.tq_pages.proofs.NumberLemmas.{other_numbers, written_numbers}
use Rattle.tq_pages.proofs.store.PageStore.put.Goals as goal

-- `here` is the store by its parts, and the call goes from a to b.
module _ (s here : Store) (first : ℕ) (bytes next : List ℕ) (a b : View) (is : here ≡ s) (store : IsStore here)
    (size : size_of s first ≡ length bytes) (slice : next ≡ here.next) where
  -- what the write leaves of what is read
  framed : OnBytes here.clusters (IsSameButPages next first (chain_pages (length bytes))) (a.reads here.dev) (b.reads here.dev)
      → IsSameButChain s first (a.reads s.dev) (b.reads s.dev)
  framed step =
      let whole = subst (λ (l : List ℕ). OnBytes here.clusters (IsSameButPages l first (chain_pages (length bytes))) (a.reads here.dev) (b.reads here.dev)) slice step in
      let closed = subst (λ (x : Store). OnBytes x.clusters (IsSameButPages x.next first (chain_pages (length bytes))) (a.reads x.dev) (b.reads x.dev)) is whole in
      subst (λ n. OnBytes s.clusters (IsSameButPages s.next first (chain_pages n)) (a.reads s.dev) (b.reads s.dev)) (sym size) closed

  others : IsSameButChain s first (a.reads s.dev) (b.reads s.dev) → (g : ℕ) → g ≢ first
      → chain_bytes here g (owned_bytes s.clusters (b.reads s.dev)) ≡ chain_bytes s g (owned_bytes s.clusters (a.reads s.dev))
  others frame g other =
      ap (λ (x : Store). chain_bytes x g (owned_bytes s.clusters (b.reads s.dev))) is
      ∙ others_kept s first g (owned_bytes s.clusters (a.reads s.dev)) (owned_bytes s.clusters (b.reads s.dev)) (subst IsStore is store) other frame.bytes

  stay : IsSameButChain s first (a.reads s.dev) (b.reads s.dev) → (g : ℕ) → g ≢ first
      → HasChain s g (owned_bytes s.clusters (a.reads s.dev)) → HasChain here g (owned_bytes s.clusters (b.reads s.dev))
  stay frame g other has =
      subst (λ (x : Store). HasChain x g (owned_bytes s.clusters (b.reads s.dev))) (sym is)
      (other_numbers s first g (owned_bytes s.clusters (a.reads s.dev)) (owned_bytes s.clusters (b.reads s.dev)) (subst IsStore is store) other frame.bytes has)

  -- the pages of the chain are those that were written
  whole : AreWritten next first (chain_pages (length bytes)) bytes (owned_bytes here.clusters (b.reads here.dev))
      → IsWritten s first bytes (owned_bytes s.clusters (b.reads s.dev))
  whole step =
      let here_next = subst (λ (l : List ℕ). AreWritten l first (chain_pages (length bytes)) bytes (owned_bytes here.clusters (b.reads here.dev))) slice step in
      let closed = subst (λ (x : Store). AreWritten x.next first (chain_pages (length bytes)) bytes (owned_bytes x.clusters (b.reads x.dev))) is here_next in
      subst (λ n. AreWritten s.next first (chain_pages n) bytes (owned_bytes s.clusters (b.reads s.dev))) (sym size) closed

pub write_chain-requires-clause-size : goal.write_chain-requires-clause-size
write_chain-requires-clause-size g c =
    let i = c.self.inside in
    let here : Store = record { dev = i.dev; clusters = i.map; free = i.free; next = i.next.items; sizes = i.sizes.items } in
    let is = c.self.invariant.store in
    let most = size_few here c.args.first is in
    let size = ap (λ (x : Store). size_of x c.args.first) c.self.view_is in
    let mapped = is.mapped in
    let few = is.few in
    omega (arith, c.requires.chain)

pub returns-in_err-write_chain-clause-others : goal.returns-in_err-write_chain-clause-others
returns-in_err-write_chain-clause-others g c = λ told other differs some.
    let i = c.self.inside in
    let here : Store = record { dev = i.dev; clusters = i.map; free = i.free; next = i.next.items; sizes = i.sizes.items } in
    let old = g.H.Host.view c.args.host.now in
    let new = g.H.Host.view c.write_chain.new.host in
    let frame = framed c.args.self.now here c.args.first c.args.bytes.now _ old new c.self.view_is c.self.invariant.store c.requires.chain c.as_slice-next.ensures.value
    (c.write_chain.ensures.outside told) in
    others c.args.self.now here c.args.first c.args.bytes.now _ old new c.self.view_is c.self.invariant.store c.requires.chain c.as_slice-next.ensures.value frame other differs

pub returns-in_err-write_chain-clause-stay : goal.returns-in_err-write_chain-clause-stay
returns-in_err-write_chain-clause-stay g c = λ told other differs some has.
    let i = c.self.inside in
    let here : Store = record { dev = i.dev; clusters = i.map; free = i.free; next = i.next.items; sizes = i.sizes.items } in
    let old = g.H.Host.view c.args.host.now in
    let new = g.H.Host.view c.write_chain.new.host in
    let frame = framed c.args.self.now here c.args.first c.args.bytes.now _ old new c.self.view_is c.self.invariant.store c.requires.chain c.as_slice-next.ensures.value
    (c.write_chain.ensures.outside told) in
    stay c.args.self.now here c.args.first c.args.bytes.now _ old new c.self.view_is c.self.invariant.store c.requires.chain c.as_slice-next.ensures.value frame other differs has

pub returns-clause-others : goal.returns-clause-others
returns-clause-others g c = λ told other differs some.
    let i = c.self.inside in
    let here : Store = record { dev = i.dev; clusters = i.map; free = i.free; next = i.next.items; sizes = i.sizes.items } in
    let old = g.H.Host.view c.args.host.now in
    let new = g.H.Host.view c.write_chain.new.host in
    let frame = framed c.args.self.now here c.args.first c.args.bytes.now _ old new c.self.view_is c.self.invariant.store c.requires.chain c.as_slice-next.ensures.value
    (c.write_chain.ensures.outside told) in
    others c.args.self.now here c.args.first c.args.bytes.now _ old new c.self.view_is c.self.invariant.store c.requires.chain c.as_slice-next.ensures.value frame other differs

pub returns-clause-stay : goal.returns-clause-stay
returns-clause-stay g c = λ told other differs some has.
    let i = c.self.inside in
    let here : Store = record { dev = i.dev; clusters = i.map; free = i.free; next = i.next.items; sizes = i.sizes.items } in
    let old = g.H.Host.view c.args.host.now in
    let new = g.H.Host.view c.write_chain.new.host in
    let frame = framed c.args.self.now here c.args.first c.args.bytes.now _ old new c.self.view_is c.self.invariant.store c.requires.chain c.as_slice-next.ensures.value
    (c.write_chain.ensures.outside told) in
    stay c.args.self.now here c.args.first c.args.bytes.now _ old new c.self.view_is c.self.invariant.store c.requires.chain c.as_slice-next.ensures.value frame other differs has

pub returns-clause-bytes : goal.returns-clause-bytes
returns-clause-bytes g c = λ told.
    let i = c.self.inside in
    let here : Store = record { dev = i.dev; clusters = i.map; free = i.free; next = i.next.items; sizes = i.sizes.items } in
    let s = c.args.self.now in
    let old = g.H.Host.view c.args.host.now in
    let new = g.H.Host.view c.write_chain.new.host in
    let owned = owned_bytes s.clusters (new.reads s.dev) in
    let all = whole s here c.args.first c.args.bytes.now _ old new c.self.view_is c.self.invariant.store c.requires.chain c.as_slice-next.ensures.value
    (c.in_ok-write_chain.ensures.written told) in
    ap (λ (x : Store). chain_bytes x c.args.first owned) c.self.view_is ∙ written_bytes s c.args.first c.args.bytes.now owned c.requires.chain all

pub returns-clause-held : goal.returns-clause-held
returns-clause-held g c = λ told.
    let i = c.self.inside in
    let here : Store = record { dev = i.dev; clusters = i.map; free = i.free; next = i.next.items; sizes = i.sizes.items } in
    let s = c.args.self.now in
    let old = g.H.Host.view c.args.host.now in
    let new = g.H.Host.view c.write_chain.new.host in
    let owned = owned_bytes s.clusters (new.reads s.dev) in
    let all = whole s here c.args.first c.args.bytes.now _ old new c.self.view_is c.self.invariant.store c.requires.chain c.as_slice-next.ensures.value
    (c.in_ok-write_chain.ensures.written told) in
    let frame = framed s here c.args.first c.args.bytes.now _ old new c.self.view_is c.self.invariant.store c.requires.chain c.as_slice-next.ensures.value
    (c.write_chain.ensures.outside told) in
    let long = frame.bytes.size ∙ length-owned s.clusters (old.reads s.dev) (c.requires.reach told) in
    subst (λ (x : Store). HasChain x c.args.first owned) (sym c.self.view_is)
    (written_numbers s c.args.first c.args.bytes.now owned (subst IsStore c.self.view_is c.self.invariant.store) c.requires.chain long all)
