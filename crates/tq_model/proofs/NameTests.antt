-- The test of names says what their definition by places says.
use Rattle.std.proofs.Common.{◌≡◌, ⊎_elim, ◌<◌, ◌≤◌, ℕ, zero, suc, ◌&&◌, Bool, true, false, List, [], ◌∷◌, length, get_or, refl, sym, ap, ◌∙◌, arith}
use Rattle.std.specs.Prelude.{IsTrue, ◌==◌, ◌||◌, not, nat_le}
use Rattle.std.specs.List.{list_all}
use Rattle.std.proofs.lemmas.Bool.{and_parts, and_from, and_left, and_right, leb-true, le-leb, lt-leb}
use Rattle.std.proofs.lemmas.Bool.Decides.{nat_tests}
use Rattle.std.proofs.lemmas.List.Folds.{list_all_at}
use Rattle.tq_types.specs.Name.{is_between, is_allowed_at, IsName}
use Rattle.tq_types.specs.BadName.{IsNameFault}
use Rattle.tq_types.specs.declared.names.BadName.{BadName}
use Rattle.tq_types.specs.declared.names.BadName.TheVariants.{Length, Byte}
use Rattle.tq_model.specs.Names.{is_name}

-- every place behind the first allows the same bytes
later : (at byte : ℕ) → is_allowed_at (suc at) byte ≡ is_allowed_at 1 byte
later at byte =
    let no : (suc at == 0) ≡ false = grind (arith, nat_tests) in
    ap (λ (first : Bool). is_between 97 122 byte || is_between 65 90 byte || is_between 48 57 byte || byte == 95 || ((byte == 45 || byte == 46) && not first)) no

-- all bytes behind the first
rest_allowed : (bytes : List ℕ) → list_all (is_allowed_at 1) bytes ≡ true → (at : ℕ) → at < length bytes → is_allowed_at 1 (get_or bytes at 0) ≡ true
rest_allowed [] all at lt = absurd (omega arith)
rest_allowed (byte ∷ bytes) all zero lt = (and_parts (is_allowed_at 1 byte) (list_all (is_allowed_at 1) bytes) all).0
rest_allowed (byte ∷ bytes) all (suc at) lt = rest_allowed bytes (and_parts (is_allowed_at 1 byte) (list_all (is_allowed_at 1) bytes) all).1 at (omega arith)

all_allowed : (bytes : List ℕ) → ((at : ℕ) → at < length bytes → is_allowed_at 1 (get_or bytes at 0) ≡ true) → list_all (is_allowed_at 1) bytes ≡ true
all_allowed [] each = refl
all_allowed (byte ∷ bytes) each =
    and_from (is_allowed_at 1 byte) (list_all (is_allowed_at 1) bytes) (each 0 (omega arith)) (all_allowed bytes (λ at lt. each (suc at) (omega arith)))

-- a text that passes the test is a name
pub name_from_test : (text : List ℕ) → is_name text ≡ true → IsName text
name_from_test [] is = cc
name_from_test (byte ∷ bytes) is =
    let parts = and_parts (is_allowed_at 0 byte && list_all (is_allowed_at 1) bytes) (nat_le (length bytes) 14) is in
    let allowed = and_parts (is_allowed_at 0 byte) (list_all (is_allowed_at 1) bytes) parts.0 in
    let short : length bytes ≤ 14 = leb-true (length bytes) 14 parts.1 in
    record { some = omega arith; most = omega arith; allowed = each allowed }
  where
    each : (is_allowed_at 0 byte ≡ true) × (list_all (is_allowed_at 1) bytes ≡ true) → (at : ℕ) → at < suc (length bytes) → IsTrue (is_allowed_at at (get_or (byte ∷ bytes) at 0))
    each allowed zero lt = allowed.0
    each allowed (suc at) lt = later at (get_or bytes at 0) ∙ rest_allowed bytes allowed.1 at (omega arith)

-- a name passes the test
pub is_name-name : (text : List ℕ) → IsName text → is_name text ≡ true
is_name-name [] name = absurd (omega (arith, name.some))
is_name-name (byte ∷ bytes) name =
    and_from (is_allowed_at 0 byte && list_all (is_allowed_at 1) bytes) (nat_le (length bytes) 14)
    (and_from (is_allowed_at 0 byte) (list_all (is_allowed_at 1) bytes) (name.allowed 0 (omega arith)) (all_allowed bytes (λ at lt. sym (later at (get_or bytes at 0)) ∙ name.allowed (suc at) (omega arith))))
    (le-leb (length bytes) 14 (omega (arith, name.most)))

-- a text that is no name does not
pub is_name-fault : (text : List ℕ) (fault : BadName) → IsNameFault text fault → is_name text ≡ false
is_name-fault [] fault is = refl
is_name-fault (byte ∷ bytes) (Length n) is =
    and_right (is_allowed_at 0 byte && list_all (is_allowed_at 1) bytes) (nat_le (length bytes) 14)
    (⊎_elim (λ few. absurd (omega (arith, is.0, few))) (λ many. lt-leb (length bytes) 14 (omega (arith, is.0, many))) is.1)
is_name-fault (byte ∷ bytes) (Byte zero) is =
    and_left (is_allowed_at 0 byte && list_all (is_allowed_at 1) bytes) (nat_le (length bytes) 14)
    (and_left (is_allowed_at 0 byte) (list_all (is_allowed_at 1) bytes) is.3)
is_name-fault (byte ∷ bytes) (Byte (suc at)) is =
    and_left (is_allowed_at 0 byte && list_all (is_allowed_at 1) bytes) (nat_le (length bytes) 14)
    (and_right (is_allowed_at 0 byte) (list_all (is_allowed_at 1) bytes) (list_all_at (is_allowed_at 1) bytes at 0 (omega (arith, is.2)) (sym (later at (get_or bytes at 0)) ∙ is.3)))
