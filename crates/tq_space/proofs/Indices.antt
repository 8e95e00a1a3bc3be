-- Where each index below a limit is used, there are as many queues.
use Rattle.std.proofs.Common.{◌≡◌, ℕ, zero, suc, ◌+◌, ◌<◌, ◌≤◌, ◌||◌, Bool, true, false, List, [], ◌∷◌, length, refl, ap, arith, eqb-true}
use Rattle.std.specs.List.{list_any}
use Rattle.tq_model.specs.Moves.{IndexedQueue, has_index}
use Rattle.tq_space.proofs.Keys.{hit}

-- how many indices below the limit are used
abbrev used_below : ℕ → List IndexedQueue → ℕ
used_below zero queues = 0
used_below (suc limit) queues = used_below limit queues + hit (list_any (has_index limit) queues)

used_none : (limit : ℕ) → used_below limit [] ≡ 0
used_none zero = refl
used_none (suc limit) = let rest = used_none limit in omega arith

-- a queue uses one index
hit_more : (a b : Bool) → hit (a || b) ≤ hit a + hit b
hit_more true b = omega arith
hit_more false b = omega arith

used_more : (limit : ℕ) (q : IndexedQueue) (queues : List IndexedQueue)
    → (used_below limit (q ∷ queues) ≤ used_below limit queues + 1) × (limit ≤ q.index → used_below limit (q ∷ queues) ≤ used_below limit queues)
used_more zero q queues = (omega arith, λ past. omega arith)
used_more (suc limit) q queues =
    let rest = used_more limit q queues in
    let more = hit_more (has_index limit q) (list_any (has_index limit) queues) in (
      elim (has_index limit q) as (λ b. has_index limit q ≡ b → hit (b || list_any (has_index limit) queues) ≤ hit b + hit (list_any (has_index limit) queues)
          → used_below limit (q ∷ queues) + hit (b || list_any (has_index limit) queues) ≤ used_below limit queues + hit (list_any (has_index limit) queues) + 1) [
            | true ↦ λ is more. let same = eqb-true q.index limit is in let before = rest.1 (omega arith) in omega arith
            | false ↦ λ is more. let before = rest.0 in omega arith
          ] refl more,
      λ past.
          elim (has_index limit q) as (λ b. has_index limit q ≡ b
          → used_below limit (q ∷ queues) + hit (b || list_any (has_index limit) queues) ≤ used_below limit queues + hit (list_any (has_index limit) queues)) [
            | true ↦ λ is. let same = eqb-true q.index limit is in absurd (omega arith)
            | false ↦ λ is. let before = rest.1 (omega arith) in omega arith
          ] refl,
    )

used_most : (limit : ℕ) (queues : List IndexedQueue) → used_below limit queues ≤ length queues
used_most limit [] = let none = used_none limit in omega arith
used_most limit (q ∷ queues) = let rest = used_most limit queues in let more = (used_more limit q queues).0 in omega arith

used_all : (limit : ℕ) (queues : List IndexedQueue) → ((i : ℕ) → i < limit → list_any (has_index i) queues ≡ true) → used_below limit queues ≡ limit
used_all zero queues all = refl
used_all (suc limit) queues all =
    let rest = used_all limit queues (λ i below. all i (omega arith)) in
    let one : hit (list_any (has_index limit) queues) ≡ 1 = ap hit (all limit (omega arith)) in
    omega arith

pub all_used : (limit : ℕ) (queues : List IndexedQueue) → ((i : ℕ) → i < limit → list_any (has_index i) queues ≡ true) → limit ≤ length queues
all_used limit queues all = let most = used_most limit queues in let whole = used_all limit queues all in omega arith
