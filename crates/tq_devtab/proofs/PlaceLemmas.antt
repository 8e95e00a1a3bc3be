-- The entry that is not used, and that of a space, found by going over all.
use Rattle.std.proofs.Common.{◌≡◌, ℕ, zero, suc, Bool, true, cond, not, List, [], ◌∷◌, length, get_or, set, take, Option, Some, None, refl, ap, ◌∙◌}
use Rattle.std.specs.Prelude.{◌==◌, is_some, if◌then◌else◌}
use Rattle.std.specs.List.{list_all}
use Rattle.std.proofs.lemmas.Bool.{and_parts, eq-eqb, not-true}
use Rattle.tq_model.specs.Site.{present}
use Rattle.tq_model.specs.Reading.{NamedSpace}
use Rattle.tq_devtab.specs.Table.{entry_of, changed_entry}

-- where all entries are used there are as many spaces
pub all-used : (entries : List (Option NamedSpace)) → list_all (λ (o : Option NamedSpace). is_some o) entries ≡ true → length (present entries) ≡ length entries
all-used [] used = refl
all-used (None ∷ entries) used = absurd (cc)
all-used (Some n ∷ entries) used = ap suc (all-used entries used)

-- an entry of another space, or of none
abbrev pub is_other : ℕ → Option NamedSpace → Bool
is_other ordinal None = true
is_other ordinal (Some n) = not (n.ordinal == ordinal)

-- the first space of that ordinal is the one
pub first-space : (ordinal : ℕ) (entries : List (Option NamedSpace)) (i : ℕ) (n : NamedSpace) → get_or entries i None ≡ Some n → n.ordinal ≡ ordinal
    → list_all (is_other ordinal) (take i entries) ≡ true
    → (entry_of ordinal entries ≡ Some n) × ((change : NamedSpace → Option NamedSpace) → changed_entry ordinal change entries ≡ set entries i (change n))
first-space ordinal [] i n at is others = absurd (cc)
first-space ordinal (None ∷ entries) zero n at is others = absurd (cc)
first-space ordinal (None ∷ entries) (suc i) n at is others =
    let rest = first-space ordinal entries i n at is others in (rest.0, λ change. ap (λ (l : List (Option NamedSpace)). None ∷ l) (rest.1 change))
first-space ordinal (Some m ∷ entries) zero n at is others =
    let same : m ≡ n = cc in
    let found : (m.ordinal == ordinal) ≡ true = eq-eqb m.ordinal ordinal (ap (λ (k : NamedSpace). k.ordinal) same ∙ is) in (
      ap (λ b. cond b (Some m) (entry_of ordinal entries)) found ∙ ap (λ (k : NamedSpace). Some k) same,
      λ change. ap (λ b. if b then change m ∷ entries else Some m ∷ changed_entry ordinal change entries) found ∙ ap (λ (k : NamedSpace). change k ∷ entries) same,
    )
first-space ordinal (Some m ∷ entries) (suc i) n at is others =
    let parts = and_parts (not (m.ordinal == ordinal)) (list_all (is_other ordinal) (take i entries)) others in
    let other = not-true (m.ordinal == ordinal) parts.0 in
    let rest = first-space ordinal entries i n at is parts.1 in (
      ap (λ b. cond b (Some m) (entry_of ordinal entries)) other ∙ rest.0,
      λ change. ap (λ b. if b then change m ∷ entries else Some m ∷ changed_entry ordinal change entries) other
          ∙ ap (λ (l : List (Option NamedSpace)). Some m ∷ l) (rest.1 change),
    )

-- where all are others there is none
pub no-space : (ordinal : ℕ) (entries : List (Option NamedSpace)) → list_all (is_other ordinal) entries ≡ true → entry_of ordinal entries ≡ None
no-space ordinal [] others = refl
no-space ordinal (None ∷ entries) others = no-space ordinal entries others
no-space ordinal (Some m ∷ entries) others =
    let parts = and_parts (not (m.ordinal == ordinal)) (list_all (is_other ordinal) entries) others in
    ap (λ b. cond b (Some m) (entry_of ordinal entries)) (not-true (m.ordinal == ordinal) parts.0) ∙ no-space ordinal entries parts.1
