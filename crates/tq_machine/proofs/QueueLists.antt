-- What is read and changed of a queue whose entries stand in a list.
use Rattle.std.proofs.Common.{◌≡◌, ℕ, ◌+◌, ◌≤◌, suc, Bool, true, false, cond, not, ◌&&◌, List, [], ◌∷◌, ◌++◌, map, length, refl, sym, ap, ◌∙◌, arith, Some, None}
use Rattle.std.specs.Prelude.{filter}
use Rattle.std.specs.List.{position, position_or_len, insert, remove}
use Rattle.std.proofs.lemmas.List.{take_all, drop_all, append-nil, length-map}
use Rattle.tq_types.specs.OrderValue.{OrderValue}
use Rattle.tq_types.specs.declared.identifiers.MsgId.{MsgId}
use Rattle.tq_types.specs.declared.messages.Entry.{Entry as HeldEntry}
use Rattle.tq_machine.specs.Entries.{free_entry}
use Rattle.tq_model.specs.Space.{Entry, has_id, dropped, placed, stands_before, is_expired, outlives, freed}
use Rattle.tq_model.specs.Moves.{entry_view, session_owners}
use Rattle.tq_model.proofs.Maps.{filter-map, map-map}
use Rattle.tq_model.proofs.Places.{position_or_len-map, position-found, position-none, map-insert, map-remove}

-- the expired entries are dropped
pub purged_items : (clock : ℕ) (es : List HeldEntry)
    → map (entry_view session_owners) (filter (λ e. not (is_expired clock (entry_view session_owners e))) es) ≡ filter (λ item. not (is_expired clock item)) (map (entry_view session_owners) es)
purged_items clock es = sym (filter-map (entry_view session_owners) (λ item. not (is_expired clock item)) es)

-- what a crash leaves
pub crashed_items : (es : List HeldEntry) → map (entry_view session_owners) (map free_entry (filter (λ e. outlives (entry_view session_owners e)) es)) ≡ map freed (filter outlives (map (entry_view session_owners) es))
crashed_items es =
    let kept = filter (λ e. outlives (entry_view session_owners e)) es in
    map-map free_entry (entry_view session_owners) kept ∙ sym (map-map (entry_view session_owners) freed kept) ∙ ap (map freed) (sym (filter-map (entry_view session_owners) outlives es))

pub remove-past : {X : Type 0} (xs : List X) (at : ℕ) → length xs ≤ at → remove xs at ≡ xs
remove-past xs at past = (λ i. take_all at xs past i ++ drop_all (suc at) xs (omega arith) i) ∙ append-nil xs

-- the entry of an identifier goes
pub dropped_found : (id : MsgId) (es : List HeldEntry) (at : ℕ) → position (λ e. has_id id (entry_view session_owners e)) es ≡ Some at
    → map (entry_view session_owners) (remove es at) ≡ dropped id (map (entry_view session_owners) es)
dropped_found id es at found =
    let spot : position_or_len (has_id id) (map (entry_view session_owners) es) ≡ at = position_or_len-map (entry_view session_owners) (has_id id) es ∙ (position-found (λ (e : HeldEntry). has_id id (entry_view session_owners e)) es at found).0 in
    map-remove (entry_view session_owners) es at ∙ ap (remove (map (entry_view session_owners) es)) (sym spot)

pub dropped_none : (id : MsgId) (es : List HeldEntry) → position (λ e. has_id id (entry_view session_owners e)) es ≡ None → map (entry_view session_owners) es ≡ dropped id (map (entry_view session_owners) es)
dropped_none id es none =
    let past = position-none (λ (e : HeldEntry). has_id id (entry_view session_owners e)) es none in
    sym (remove-past (map (entry_view session_owners) es) (position_or_len (has_id id) (map (entry_view session_owners) es)) (omega (arith, position_or_len-map (entry_view session_owners) (has_id id) es, length-map es (entry_view session_owners))))

-- The place among all is the place among those that are kept.
insert-further : {X : Type 0} (x y : X) (xs : List X) (n : ℕ) → insert (y ∷ xs) (1 + n) x ≡ y ∷ insert xs n x
insert-further x y xs n = let step : 1 + n ≡ suc n = omega arith in rw step refl

pub filter-placed : {X : Type 0} (keep before : X → Bool) (x : X) → keep x ≡ true → (xs : List X)
    → filter keep (insert xs (position_or_len (λ y. keep y && before y) xs) x) ≡ insert (filter keep xs) (position_or_len before (filter keep xs)) x
filter-placed keep before x kept [] = ap (λ b. cond b (x ∷ []) []) kept
filter-placed {X} keep before x kept (y ∷ ys) =
    let n = position_or_len (λ z. keep z && before z) ys in
    let m = position_or_len before (filter keep ys) in
    let rest : filter keep (insert ys n x) ≡ insert (filter keep ys) m x = filter-placed keep before x kept ys in
    let further : filter keep (insert (y ∷ ys) (1 + n) x) ≡ cond (keep y) (y ∷ filter keep (insert ys n x)) (filter keep (insert ys n x)) = ap (filter keep) (insert-further x y ys n) in
    elim (keep y) as (λ k. keep y ≡ k → filter keep (insert (y ∷ ys) (cond (not (k && before y)) (1 + n) 0) x)
    ≡ insert (cond k (y ∷ filter keep ys) (filter keep ys)) (position_or_len before (cond k (y ∷ filter keep ys) (filter keep ys))) x) [
      | true ↦ λ is.
          elim (before y) as (λ b. filter keep (insert (y ∷ ys) (cond (not b) (1 + n) 0) x) ≡ insert (y ∷ filter keep ys) (cond (not b) (1 + m) 0) x) [
            | true ↦ (λ i. cond (kept i) (x ∷ cond (is i) (y ∷ filter keep ys) (filter keep ys)) (cond (is i) (y ∷ filter keep ys) (filter keep ys)))
            | false ↦ further ∙ ap (λ k. cond k (y ∷ filter keep (insert ys n x)) (filter keep (insert ys n x))) is ∙ ap (λ (l : List X). y ∷ l) rest ∙ sym (insert-further x y (filter keep ys) m)
          ]
      | false ↦ λ is. further ∙ ap (λ k. cond k (y ∷ filter keep (insert ys n x)) (filter keep (insert ys n x))) is ∙ rest
    ] refl

-- an entry that is not expired comes in
pub placed_items : (clock : ℕ) (order : OrderValue) (entry : HeldEntry) → is_expired clock (entry_view session_owners entry) ≡ false → (es : List HeldEntry) (place : ℕ)
    → place ≡ position_or_len (λ other. not (is_expired clock (entry_view session_owners other)) && stands_before order (entry_view session_owners entry) (entry_view session_owners other)) es
    → filter (λ item. not (is_expired clock item)) (map (entry_view session_owners) (insert es place entry)) ≡ placed order (entry_view session_owners entry) (filter (λ item. not (is_expired clock item)) (map (entry_view session_owners) es))
placed_items clock order entry lasts es place is_place =
    let keep : Entry → Bool = λ item. not (is_expired clock item) in
    let before : Entry → Bool = stands_before order (entry_view session_owners entry) in
    let spot : place ≡ position_or_len (λ item. keep item && before item) (map (entry_view session_owners) es) = is_place ∙ sym (position_or_len-map (entry_view session_owners) (λ item. keep item && before item) es) in
    ap (filter keep) (map-insert (entry_view session_owners) es place entry)
    ∙ ap (λ n. filter keep (insert (map (entry_view session_owners) es) n (entry_view session_owners entry))) spot
    ∙ filter-placed keep before (entry_view session_owners entry) (ap not lasts) (map (entry_view session_owners) es)
