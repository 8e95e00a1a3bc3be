-- What spells a record is read as that record, and what is read as a record spells it.
use Rattle.std.proofs.Common.{◌≡◌, ℕ, zero, suc, ◌+◌, ◌-◌, ◌*◌, ◌/◌, ◌%◌, ◌^◌, ◌<◌, ◌≤◌, ◌&&◌, ⊎_elim, Bool, true, false, cond, List, [], ◌∷◌, ◌++◌, length, take, drop, Result, Ok, Err, refl, sym, ap, subst, ◌∙◌, append_assoc, le-leb, arith}
use Rattle.std.specs.Prelude.{◌==◌, nat_le}
use Rattle.std.specs.List.{flat_map}
use Rattle.std.proofs.lemmas.Bool.{eqb-true, eq-eqb, leb-true, and_parts, cases_lt}
use Rattle.std.proofs.lemmas.List.{append-nil, take_at, drop_at, take_all, take-append-drop, length-take-le, length-append, nil_from_length}
use Rattle.std.proofs.lemmas.List.Concat.{flat_map-cons}
use Rattle.std.proofs.lemmas.List.Elements.{All-take, All-tail}
use Rattle.tq_field.specs.Digits.{AreBytes, digits, number_of}
use Rattle.tq_field.specs.Places.{number_at}
use Rattle.tq_field.proofs.Numbers.{length-digits, digits-one, digits-number_of_width, number_of-below}
use Rattle.tq_field.proofs.Runs.{number_at-here}
use Rattle.tq_slots.specs.declared.record.RecKind.{RecKind}
use Rattle.tq_slots.specs.declared.record.RecKind.TheVariants.{Apply, Prepare, End, Heuristic, Forget, Catalog}
use Rattle.tq_slots.specs.declared.record.Set.{Set}
use Rattle.tq_slots.specs.declared.record.Set.TheVariants as sets
use Rattle.tq_slots.specs.RecordForm.{◌>>=◌, Record, byte_in, run_in, least_high, least_low, key_in, key_of, kind_number, kind_of, message_fields, queue_fields, branch_fields, slot_spelt, set_spelt, slot_size, set_of, set_in, sets_in, record_in, spelt, IsSet, AreSets, IsSlot, AreSpelt, IsSpelling, IsRecord, AreAscending}
use Rattle.tq_slots.proofs.FieldLemmas.{length-fields}
use Rattle.tq_slots.proofs.SlotLemmas.{message-again, queue-again, branch-again}

abbrev done : {A : Type 0} → A → Result A ℕ
done x = Ok x

ok_is : {A : Type 0} (x y : A) → done x ≡ done y → x ≡ y
ok_is x y e = cc

-- a byte within its bounds
byte-again : (least most at b : ℕ) (rest : List ℕ) → least ≤ b → b ≤ most → byte_in least most at (b ∷ rest) ≡ Ok (b, rest)
byte-again least most at b rest low high =
    ap (λ (t : Bool). cond t (Ok (b, rest)) (Err at)) ((λ i. le-leb least b low i && nat_le b most) ∙ le-leb b most high)

run-again : (n at : ℕ) (run rest : List ℕ) → length run ≡ n → run_in n at (run ++ rest) ≡ Ok (run, rest)
run-again n at run rest long =
    let all = length-append run rest in
    let fits : nat_le n (length (run ++ rest)) ≡ true = le-leb n (length (run ++ rest)) (omega arith) in
    rw (fits, take_at run rest n long, drop_at run rest n long) refl

-- a bound that holds only under a test
bound-under : (b : Bool) (x h : ℕ) → (b ≡ true → x ≤ h) → cond b x 0 ≤ h
bound-under true x h under = under refl
bound-under false x h under = omega arith

high-bound : (least key : ℕ) → least ≤ key → least_high least (key / 65536) ≤ key / 256 % 256
high-bound least key from =
    bound-under (key / 65536 == least / 65536) (least / 256 % 256) (key / 256 % 256)
    (λ same. let e = eqb-true (key / 65536) (least / 65536) same in omega arith)

low-bound : (least key : ℕ) → least ≤ key → least_low least (key / 256) ≤ key % 256
low-bound least key from =
    bound-under (key / 256 == least / 256) (least % 256) (key % 256) (λ same. let e = eqb-true (key / 256) (least / 256) same in omega arith)

-- the three bytes of a key
key-bytes : (key : ℕ) → key < 262144 → digits 3 key ≡ key / 65536 ∷ key / 256 % 256 ∷ key % 256 ∷ []
unfolding digits
key-bytes key most =
    let top : key / 65536 % 256 ≡ key / 65536 = omega arith in
    let end : key / 1 % 256 ≡ key % 256 = omega arith in
    λ i. top i ∷ key / 256 % 256 ∷ end i ∷ []

key-again : (least at key : ℕ) (rest : List ℕ) → least ≤ key → key < 262144 → key_in least at (digits 3 key ++ rest) ≡ Ok (key, rest)
unfolding key_in
key-again least at key rest from most =
    let first : key / 65536 * 256 + key / 256 % 256 ≡ key / 256 = omega arith in
    let whole : key / 65536 * 65536 + key / 256 % 256 * 256 + key % 256 ≡ key = omega arith in
    let low : least_low least (key / 65536 * 256 + key / 256 % 256) ≤ key % 256 =
    subst (λ (front : ℕ). least_low least front ≤ key % 256) (sym first) (low-bound least key from) in
    ap (λ (bytes : List ℕ). key_in least at (bytes ++ rest)) (key-bytes key most)
    ∙ rw (
      byte-again (least / 65536) 3 at (key / 65536) (key / 256 % 256 ∷ key % 256 ∷ rest) (omega arith) (omega arith),
      byte-again (least_high least (key / 65536)) 255 (at + 1) (key / 256 % 256) (key % 256 ∷ rest) (high-bound least key from) (omega arith),
      byte-again (least_low least (key / 65536 * 256 + key / 256 % 256)) 255 (at + 2) (key % 256) rest low (omega arith),
    )
    (ap (λ (n : ℕ). Ok (n, rest)) whole)

-- ---- what spells a record is read as it

-- a set whose slot says what it says
set-by-slot : (least at tag index : ℕ) (s : Set) (slot rest : List ℕ) → key_of s ≡ tag * 65536 + index → index < 65536 → tag < 4 → least ≤ key_of s
    → length slot ≡ slot_size tag → set_of tag index slot ≡ s → set_in least at (digits 3 (key_of s) ++ (slot ++ rest)) ≡ Ok (s, rest)
unfolding set_in
set-by-slot least at tag index s slot rest is_key short few from long says =
    let key = key_of s in
    let tag-is : key / 65536 ≡ tag = omega arith in
    let index-is : key % 65536 ≡ index = omega arith in
    rw (key-again least at key (slot ++ rest) from (omega arith), tag-is, index-is, run-again (slot_size tag) (at + 3) slot rest long, says) refl

set-said : (least at : ℕ) (s : Set) (slot rest : List ℕ) → IsSlot s slot → least ≤ key_of s
    → set_in least at (digits 3 (key_of s) ++ (slot ++ rest)) ≡ Ok (s, rest)
set-said least at (sets.Message index m) slot rest is from =
    set-by-slot least at 1 index (sets.Message index m) slot rest refl is.0 (omega arith) from is.1 (ap (sets.Message index) is.2)
set-said least at (sets.Queue index q) slot rest is from =
    set-by-slot least at 2 index (sets.Queue index q) slot rest refl is.0 (omega arith) from is.1 (ap (sets.Queue index) is.2)
set-said least at (sets.Branch index b) slot rest is from =
    set-by-slot least at 3 index (sets.Branch index b) slot rest refl is.0 (omega arith) from is.1 (ap (sets.Branch index) is.2)

sets-said : (least at : ℕ) (xs : List Set) (bytes rest : List ℕ) → AreSpelt xs bytes rest → AreAscending least xs
    → sets_in (length xs) least at bytes ≡ Ok (xs, rest)
unfolding sets_in AreAscending AreSpelt
sets-said least at [] bytes rest are ascend = ap (λ (l : List ℕ). Ok ([], l)) are
sets-said least at (s ∷ xs) bytes rest are ascend =
    let all = digits 3 (key_of s) ++ (are.0 ++ are.1) in
    ap (sets_in (suc (length xs)) least at) are.2
    ∙ rw (set-said least at s are.0 are.1 are.3 ascend.0, sets-said (key_of s + 1) (at + (length all - length are.1)) xs are.1 rest are.4 ascend.1) refl

kind-again : (kind : RecKind) → kind_of (kind_number kind) ≡ kind
kind-again Apply = refl
kind-again Prepare = refl
kind-again End = refl
kind-again Heuristic = refl
kind-again Forget = refl
kind-again Catalog = refl

kind-bounds : (kind : RecKind) → (1 ≤ kind_number kind) × (kind_number kind ≤ 6)
kind-bounds Apply = (omega arith, omega arith)
kind-bounds Prepare = (omega arith, omega arith)
kind-bounds End = (omega arith, omega arith)
kind-bounds Heuristic = (omega arith, omega arith)
kind-bounds Forget = (omega arith, omega arith)
kind-bounds Catalog = (omega arith, omega arith)

pub record-said : (r : Record) (bytes : List ℕ) → IsRecord r → IsSpelling r bytes → record_in bytes ≡ Ok r
unfolding record_in
record-said r bytes is spells =
    let kind = kind_number r.kind in
    let count = length r.sets in
    let rest = spells.sets_bytes in
    let bounds = kind-bounds r.kind in
    let first : bytes ≡ kind ∷ (digits 2 count ++ rest) = spells.front ∙ ap (λ (l : List ℕ). l ++ (digits 2 count ++ rest)) (digits-one kind (omega arith)) in
    let counted : number_at 0 2 (digits 2 count) ≡ count =
    ap (number_at 0 2) (sym (append-nil (digits 2 count))) ∙ number_at-here 0 2 count [] [] refl is.few in
    let found = sets-said 65536 3 r.sets rest [] spells.sets is.ascending in
    ap record_in first
    ∙ rw (
      byte-again 1 6 0 kind (digits 2 count ++ rest) bounds.0 bounds.1,
      run-again 2 1 (digits 2 count) rest (length-digits 2 count),
      counted,
      found,
      kind-again r.kind,
    ) refl

-- ---- the spelling of a record spells it

slot-spelt : (s : Set) → IsSet s → IsSlot s (slot_spelt s)
unfolding slot_spelt
slot-spelt (sets.Message index m) is = (is.0, length-fields (message_fields m) is.1, message-again m is.1)
slot-spelt (sets.Queue index q) is = (is.0, length-fields (queue_fields q) is.1, queue-again q is.1)
slot-spelt (sets.Branch index b) is = (is.0, length-fields (branch_fields b) is.1, branch-again b is.1)

sets-spelt : (xs : List Set) → AreSets xs → AreSpelt xs (flat_map set_spelt xs) []
unfolding AreSpelt
sets-spelt [] are = refl
sets-spelt (s ∷ xs) are = (
  slot_spelt s,
  flat_map set_spelt xs,
  flat_map-cons set_spelt s xs ∙ append_assoc (digits 3 (key_of s)) (slot_spelt s) (flat_map set_spelt xs),
  slot-spelt s are.0,
  sets-spelt xs are.1,
)

pub record-spelt : (r : Record) → AreSets r.sets → IsSpelling r (spelt r)
record-spelt r are = record { sets_bytes = flat_map set_spelt r.sets; front = refl; sets = sets-spelt r.sets are }

-- ---- what is read as a record spells it

bind_ok : {A B : Type 0} (r : Result A ℕ) (f : A → Result B ℕ) (y : B) → (r >>= f) ≡ Ok y → (x : A) × (r ≡ Ok x) × (f x ≡ Ok y)
bind_ok (Ok x) f y e = (x, refl, e)
bind_ok (Err at) f y e = absurd cc

guard_ok : {A : Type 0} (b : Bool) (x y : A) (at : ℕ) → cond b (Ok x) (Err at) ≡ Ok y → (b ≡ true) × (x ≡ y)
guard_ok true x y at e = (refl, cc)
guard_ok false x y at e = absurd cc

byte-found : (least most at : ℕ) (bytes : List ℕ) (x : ℕ × List ℕ) → byte_in least most at bytes ≡ Ok x → (bytes ≡ x.0 ∷ x.1) × (least ≤ x.0) × (x.0 ≤ most)
byte-found least most at [] x e = absurd cc
byte-found least most at (b ∷ rest) x e =
    let g = guard_ok (nat_le least b && nat_le b most) (b, rest) x at e in
    let parts = and_parts (nat_le least b) (nat_le b most) g.0 in
    subst (λ (y : ℕ × List ℕ). (b ∷ rest ≡ y.0 ∷ y.1) × (least ≤ y.0) × (y.0 ≤ most)) g.1 (refl, leb-true least b parts.0, leb-true b most parts.1)

run-found : (n at : ℕ) (bytes : List ℕ) (x : List ℕ × List ℕ) → run_in n at bytes ≡ Ok x → (bytes ≡ x.0 ++ x.1) × (length x.0 ≡ n) × (x.0 ≡ take n bytes)
run-found n at bytes x e =
    let g = guard_ok (nat_le n (length bytes)) (take n bytes, drop n bytes) x (at + length bytes) e in
    subst (λ (y : List ℕ × List ℕ). (bytes ≡ y.0 ++ y.1) × (length y.0 ≡ n) × (y.0 ≡ take n bytes)) g.1
    (sym (take-append-drop n bytes), length-take-le n bytes (leb-true n (length bytes) g.0), refl)

bound-at : (b : Bool) (x h : ℕ) → b ≡ true → cond b x 0 ≤ h → x ≤ h
bound-at true x h is low = low
bound-at false x h is low = absurd cc

-- a key whose bytes keep the bounds is at least the least
key-from : (least t h l : ℕ) → least / 65536 ≤ t → least_high least t ≤ h → h ≤ 255 → least_low least (t * 256 + h) ≤ l → least ≤ t * 65536 + h * 256 + l
key-from least t h l tag high byte low =
    ⊎_elim (λ above. omega arith)
    (λ below.
    let same : t ≡ least / 65536 = omega arith in
    let second : least / 256 % 256 ≤ h = bound-at (t == least / 65536) (least / 256 % 256) h (eq-eqb t (least / 65536) same) high in
    ⊎_elim (λ above. omega arith)
    (λ under.
    let front : t * 256 + h ≡ least / 256 = omega arith in
    let third : least % 256 ≤ l = bound-at (t * 256 + h == least / 256) (least % 256) l (eq-eqb (t * 256 + h) (least / 256) front) low in
    omega arith)
    (cases_lt (least / 256) (t * 256 + h)))
    (cases_lt (least / 65536) t)

key-found : (least at : ℕ) (bytes : List ℕ) (x : ℕ × List ℕ) → key_in least at bytes ≡ Ok x → (bytes ≡ digits 3 x.0 ++ x.1) × (least ≤ x.0) × (x.0 < 262144)
unfolding key_in
key-found least at bytes x e =
    let tag = bind_ok (byte_in (least / 65536) 3 at bytes)
    (λ tag. byte_in (least_high least tag.0) 255 (at + 1) tag.1 >>= λ high. byte_in (least_low least (tag.0 * 256 + high.0)) 255 (at + 2) high.1
    >>= λ low. Ok (tag.0 * 65536 + high.0 * 256 + low.0, low.1)) x e in
    let high = bind_ok (byte_in (least_high least tag.0.0) 255 (at + 1) tag.0.1)
    (λ high. byte_in (least_low least (tag.0.0 * 256 + high.0)) 255 (at + 2) high.1 >>= λ low. Ok (tag.0.0 * 65536 + high.0 * 256 + low.0, low.1)) x tag.2 in
    let low = bind_ok (byte_in (least_low least (tag.0.0 * 256 + high.0.0)) 255 (at + 2) high.0.1)
    (λ low. Ok (tag.0.0 * 65536 + high.0.0 * 256 + low.0, low.1)) x high.2 in
    let one = byte-found (least / 65536) 3 at bytes tag.0 tag.1 in
    let two = byte-found (least_high least tag.0.0) 255 (at + 1) tag.0.1 high.0 high.1 in
    let three = byte-found (least_low least (tag.0.0 * 256 + high.0.0)) 255 (at + 2) high.0.1 low.0 low.1 in
    let t = tag.0.0 in
    let h = high.0.0 in
    let l = low.0.0 in
    let rest = low.0.1 in
    let key = t * 65536 + h * 256 + l in
    let is : done (key, rest) ≡ done x = low.2 in
    let most-t : t ≤ 3 = one.2 in
    let most-h : h ≤ 255 = two.2 in
    let most-l : l ≤ 255 = three.2 in
    let most : key < 262144 = omega arith in
    let first : key / 65536 ≡ t = omega arith in
    let second : key / 256 % 256 ≡ h = omega arith in
    let third : key % 256 ≡ l = omega arith in
    let spelt-is : digits 3 key ++ rest ≡ t ∷ h ∷ l ∷ rest =
    ap (λ (bs : List ℕ). bs ++ rest) (key-bytes key most) ∙ (λ i. first i ∷ second i ∷ third i ∷ rest) in
    let whole : bytes ≡ digits 3 key ++ rest =
    one.0 ∙ ap (λ (bs : List ℕ). t ∷ bs) (two.0 ∙ ap (λ (bs : List ℕ). h ∷ bs) three.0) ∙ sym spelt-is in
    subst (λ (y : ℕ × List ℕ). (bytes ≡ digits 3 y.0 ++ y.1) × (least ≤ y.0) × (y.0 < 262144)) (ok_is (key, rest) x is)
    (whole, key-from least t h l one.1 two.1 most-h three.1, most)

-- a slot of a tag says what its set says
slot-says : (tag index : ℕ) (slot : List ℕ) → 1 ≤ tag → tag ≤ 3 → index < 65536 → length slot ≡ slot_size tag
    → IsSlot (set_of tag index slot) slot × (key_of (set_of tag index slot) ≡ tag * 65536 + index)
slot-says zero index slot least most short long = absurd (omega arith)
slot-says (suc zero) index slot least most short long = ((short, long, refl), refl)
slot-says (suc (suc zero)) index slot least most short long = ((short, long, refl), refl)
slot-says (suc (suc (suc zero))) index slot least most short long = ((short, long, refl), refl)
slot-says (suc (suc (suc (suc tag)))) index slot least most short long = absurd (omega arith)

set-found : (least at : ℕ) (bytes : List ℕ) (x : Set × List ℕ) → 65536 ≤ least → set_in least at bytes ≡ Ok x
    → (slot : List ℕ) × (bytes ≡ digits 3 (key_of x.0) ++ (slot ++ x.1)) × IsSlot x.0 slot × (least ≤ key_of x.0)
unfolding set_in
set-found least at bytes x from e =
    let key = bind_ok (key_in least at bytes)
    (λ key. run_in (slot_size (key.0 / 65536)) (at + 3) key.1 >>= λ slot. Ok (set_of (key.0 / 65536) (key.0 % 65536) slot.0, slot.1)) x e in
    let slot = bind_ok (run_in (slot_size (key.0.0 / 65536)) (at + 3) key.0.1)
    (λ slot. Ok (set_of (key.0.0 / 65536) (key.0.0 % 65536) slot.0, slot.1)) x key.2 in
    let one = key-found least at bytes key.0 key.1 in
    let two = run-found (slot_size (key.0.0 / 65536)) (at + 3) key.0.1 slot.0 slot.1 in
    let k = key.0.0 in
    let bound-low : least ≤ k = one.1 in
    let bound-high : k < 262144 = one.2 in
    let says = slot-says (k / 65536) (k % 65536) slot.0.0 (omega arith) (omega arith) (omega arith) two.1 in
    let s = set_of (k / 65536) (k % 65536) slot.0.0 in
    let rest = slot.0.1 in
    let key-is : k ≡ key_of s = (let whole : k ≡ k / 65536 * 65536 + k % 65536 = omega arith in whole) ∙ sym says.1 in
    let spelt-is : bytes ≡ digits 3 (key_of s) ++ (slot.0.0 ++ rest) =
    one.0 ∙ ap (λ (bs : List ℕ). digits 3 k ++ bs) two.0 ∙ ap (λ (n : ℕ). digits 3 n ++ (slot.0.0 ++ rest)) key-is in
    let low : least ≤ key_of s = subst (λ (n : ℕ). least ≤ n) key-is one.1 in
    let is : done (s, rest) ≡ done x = slot.2 in
    subst (λ (y : Set × List ℕ). (slot : List ℕ) × (bytes ≡ digits 3 (key_of y.0) ++ (slot ++ y.1)) × IsSlot y.0 slot × (least ≤ key_of y.0)) (ok_is (
      s,
      rest,
    ) x is)
    (slot.0.0, spelt-is, says.0, low)

sets-found : (count least at : ℕ) (bytes : List ℕ) (x : List Set × List ℕ) → 65536 ≤ least → sets_in count least at bytes ≡ Ok x
    → (length x.0 ≡ count) × AreAscending least x.0 × AreSpelt x.0 bytes x.1
unfolding sets_in AreAscending AreSpelt
sets-found zero least at bytes x from e =
    let is : done ([], bytes) ≡ done x = e in
    subst (λ (y : List Set × List ℕ). (length y.0 ≡ 0) × AreAscending least y.0 × AreSpelt y.0 bytes y.1) (ok_is ([], bytes) x is) (refl, tt, refl)
sets-found (suc count) least at bytes x from e =
    let first = bind_ok (set_in least at bytes)
    (λ first. sets_in count (key_of first.0 + 1) (at + (length bytes - length first.1)) first.1 >>= λ others. Ok (first.0 ∷ others.0, others.1)) x e in
    let s = first.0.0 in
    let others = bind_ok (sets_in count (key_of s + 1) (at + (length bytes - length first.0.1)) first.0.1) (λ others. Ok (s ∷ others.0, others.1)) x first.2 in
    let one = set-found least at bytes first.0 from first.1 in
    let low : least ≤ key_of s = one.3 in
    let rest = sets-found count (key_of s + 1) (at + (length bytes - length first.0.1)) first.0.1 others.0 (omega arith) others.1 in
    let is : done (s ∷ others.0.0, others.0.1) ≡ done x = others.2 in
    subst (λ (y : List Set × List ℕ). (length y.0 ≡ suc count) × AreAscending least y.0 × AreSpelt y.0 bytes y.1) (ok_is (s ∷ others.0.0, others.0.1) x is)
    (ap suc rest.0, (low, rest.1), (one.0, first.0.1, one.1, one.2, rest.2))

kind-found : (n : ℕ) → 1 ≤ n → n ≤ 6 → kind_number (kind_of n) ≡ n
kind-found zero low high = absurd (omega arith)
kind-found (suc zero) low high = refl
kind-found (suc (suc zero)) low high = refl
kind-found (suc (suc (suc zero))) low high = refl
kind-found (suc (suc (suc (suc zero)))) low high = refl
kind-found (suc (suc (suc (suc (suc zero))))) low high = refl
kind-found (suc (suc (suc (suc (suc (suc zero)))))) low high = refl
kind-found (suc (suc (suc (suc (suc (suc (suc n))))))) low high = absurd (omega arith)

pub record-found : (bytes : List ℕ) (r : Record) → AreBytes bytes → record_in bytes ≡ Ok r → IsRecord r × IsSpelling r bytes
unfolding record_in
record-found bytes r are e =
    let kind = bind_ok (byte_in 1 6 0 bytes)
    (λ kind. run_in 2 1 kind.1 >>= λ count. sets_in (number_at 0 2 count.0) 65536 3 count.1
    >>= λ found. cond (length found.1 == 0) (Ok (record { kind = kind_of kind.0; sets = found.0 })) (Err (length bytes - length found.1))) r e in
    let count = bind_ok (run_in 2 1 kind.0.1)
    (λ count. sets_in (number_at 0 2 count.0) 65536 3 count.1
    >>= λ found. cond (length found.1 == 0) (Ok (record { kind = kind_of kind.0.0; sets = found.0 })) (Err (length bytes - length found.1))) r kind.2 in
    let n = number_at 0 2 count.0.0 in
    let found = bind_ok (sets_in n 65536 3 count.0.1)
    (λ found. cond (length found.1 == 0) (Ok (record { kind = kind_of kind.0.0; sets = found.0 })) (Err (length bytes - length found.1))) r count.2 in
    let end = guard_ok (length found.0.1 == 0) (record { kind = kind_of kind.0.0; sets = found.0.0 }) r (length bytes - length found.0.1) found.2 in
    let one = byte-found 1 6 0 bytes kind.0 kind.1 in
    let two = run-found 2 1 kind.0.1 count.0 count.1 in
    let three = sets-found n 65536 3 count.0.1 found.0 (omega arith) found.1 in
    let xs = found.0.0 in
    let nothing : found.0.1 ≡ [] = nil_from_length found.0.1 (eqb-true (length found.0.1) 0 end.0) in
    let are-count : AreBytes count.0.0 =
    subst AreBytes (sym two.2) (All-take (λ b. b < 256) 2 kind.0.1 (All-tail (λ b. b < 256) kind.0.0 kind.0.1 (subst AreBytes one.0 are))) in
    let whole-count : take 2 count.0.0 ≡ count.0.0 = take_all 2 count.0.0 (omega (arith, two.1)) in
    let number-is : number_of count.0.0 ≡ length xs = ap number_of (sym whole-count) ∙ sym three.0 in
    let few : length xs < 65536 =
    (let below : number_of count.0.0 < 256 ^ length count.0.0 = number_of-below count.0.0 are-count in
    let bound : number_of count.0.0 < 65536 = subst (λ (w : ℕ). number_of count.0.0 < 256 ^ w) two.1 below in omega arith) in
    let count-is : digits 2 (length xs) ≡ count.0.0 = ap (digits 2) (sym number-is) ∙ digits-number_of_width 2 count.0.0 two.1 are-count in
    let kind-is : digits 1 (kind_number (kind_of kind.0.0)) ≡ kind.0.0 ∷ [] =
    ap (digits 1) (kind-found kind.0.0 one.1 one.2) ∙ digits-one kind.0.0 (let high = one.2 in omega arith) in
    let front : bytes ≡ digits 1 (kind_number (kind_of kind.0.0)) ++ (digits 2 (length xs) ++ count.0.1) =
    one.0 ∙ ap (λ (bs : List ℕ). kind.0.0 ∷ bs) two.0 ∙ sym (λ i. kind-is i ++ (count-is i ++ count.0.1)) in
    subst (λ (y : Record). IsRecord y × IsSpelling y bytes) end.1 (
      record { few = few; ascending = three.1 },
      record { sets_bytes = count.0.1; front = front; sets = subst (λ (l : List ℕ). AreSpelt xs count.0.1 l) nothing three.2 },
    )
