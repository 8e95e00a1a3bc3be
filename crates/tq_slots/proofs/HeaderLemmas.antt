-- What a header spells is read as it.
use Rattle.std.proofs.Common.{◌≡◌, ℕ, zero, suc, ◌+◌, ◌-◌, ◌*◌, ◌<◌, ◌≤◌, ◌&&◌, ◌||◌, Bool, true, false, cond, not, List, [], ◌∷◌, ◌++◌, length, take, drop, get_or, Option, Some, None, refl, sym, ap, ◌∙◌, append_assoc, le-leb, arith}
use Rattle.std.specs.Prelude.{◌==◌, nat_le, ℤ, pos, negsuc}
use Rattle.std.specs.List.{flat_map, AllByRecursion, list_all}
use Rattle.std.proofs.lemmas.Bool.{and_parts, and_from, eq-eqb, leb-true, lt-ltb, le-ltb}
use Rattle.std.proofs.lemmas.List.{append-nil, length-append, take_at, take-take}
use Rattle.std.proofs.lemmas.List.Concat.{flat_map-cons}
use Rattle.tq_field.specs.Digits.{digits}
use Rattle.tq_field.specs.Places.{run_at, number_at}
use Rattle.tq_field.proofs.Numbers.{length-digits, power-pos}
use Rattle.tq_field.proofs.Runs.{number_at-here}
use Rattle.tq_types.specs.Name.{is_allowed_at}
use Rattle.tq_types.specs.declared.identifiers.Arrival.{Arrival}
use Rattle.tq_types.specs.declared.identifiers.CorrId.{CorrId}
use Rattle.tq_types.specs.declared.messages.AskedQos.{AskedQos}
use Rattle.tq_types.specs.declared.messages.AskedQos.TheVariants as asked
use Rattle.tq_model.specs.Names.{is_name}
use Rattle.tq_slots.specs.declared.message.Header.{Header}
use Rattle.tq_slots.specs.Fields.{Field, Number, Run, fields_spelt, AreFields}
use Rattle.tq_slots.specs.MessageForm.{arrivals_at, arrival_bytes, filled, bit_of, has_bit, name_bytes, name_where, named, is_name_at, corr_bytes, corr_where, complement, from_complement, quality_number, quality_of, header_fields, header_spelt, message_spelt, header_at, is_header, header_read, most_body, IsCode, IsNameOrNone, IsArrival, IsHeader}
use Rattle.tq_slots.proofs.FieldLemmas.{byte-field, number-field, run-field, length-all, length-fields, fields-append}

-- one arrival more
abbrev arrival_at : ℕ → List ℕ → Arrival
arrival_at at bytes = record { epoch = number_at at 4 bytes; number = number_at (at + 4) 4 bytes }

arrivals-push : (n at : ℕ) (bytes : List ℕ) → arrivals_at (suc n) at bytes ≡ arrivals_at n at bytes ++ arrival_at (at + 8 * n) bytes ∷ []
unfolding arrivals_at
arrivals-push zero at bytes = let here : at ≡ at + 8 * 0 = omega arith in ap (λ (k : ℕ). arrival_at k bytes ∷ []) here
arrivals-push (suc n) at bytes =
    let place : at + 8 + 8 * n ≡ at + 8 * suc n = omega arith in
    ap (λ (l : List Arrival). arrival_at at bytes ∷ l) (arrivals-push n (at + 8) bytes)
    ∙ ap (λ (k : ℕ). arrival_at at bytes ∷ (arrivals_at n (at + 8) bytes ++ arrival_at k bytes ∷ [])) place

pub arrivals-more : (n at : ℕ) (bytes : List ℕ)
    → arrivals_at (n + 1) at bytes ≡ arrivals_at n at bytes ++ record {
      epoch = number_at (at + 8 * n) 4 bytes;
      number = number_at
          (at + 8 * n + 4) 4 bytes;
    } ∷ []
arrivals-more n at bytes = let one : n + 1 ≡ suc n = omega arith in ap (λ (k : ℕ). arrivals_at k at bytes) one ∙ arrivals-push n at bytes

pub no-arrivals : (at : ℕ) (bytes : List ℕ) → arrivals_at 0 at bytes ≡ []
unfolding arrivals_at
no-arrivals at bytes = refl

-- an arrival has 8 bytes
pub arrivals-length : (path : List Arrival) → length (flat_map arrival_bytes path) ≡ 8 * length path
arrivals-length [] = refl
arrivals-length (a ∷ path) =
    let one = ap (λ (l : List ℕ). length l) (flat_map-cons arrival_bytes a path) in
    let all = length-append (arrival_bytes a) (flat_map arrival_bytes path) in
    let own = length-append (digits 4 a.epoch) (digits 4 a.number) in
    let epoch = length-digits 4 a.epoch in
    let number = length-digits 4 a.number in
    let rest = arrivals-length path in
    omega arith

-- ---- the bits

abbrev has : {X : Type 0} → Option X → Bool
has None = false
has (Some x) = true

bits-tell : {X Y Z : Type 0} (x : Option X) (y : Option Y) (z : Option Z)
    → (has_bit 1 (bit_of 1 x + bit_of 2 y + bit_of 4 z) ≡ has x) × (has_bit 2 (bit_of 1 x + bit_of 2 y + bit_of 4 z) ≡ has y)
    × (has_bit 4 (bit_of 1 x + bit_of 2 y + bit_of 4 z) ≡ has z) × (bit_of 1 x + bit_of 2 y + bit_of 4 z ≤ 7)
bits-tell None None None = (refl, refl, refl, omega arith)
bits-tell None None (Some z) = (refl, refl, refl, omega arith)
bits-tell None (Some y) None = (refl, refl, refl, omega arith)
bits-tell None (Some y) (Some z) = (refl, refl, refl, omega arith)
bits-tell (Some x) None None = (refl, refl, refl, omega arith)
bits-tell (Some x) None (Some z) = (refl, refl, refl, omega arith)
bits-tell (Some x) (Some y) None = (refl, refl, refl, omega arith)
bits-tell (Some x) (Some y) (Some z) = (refl, refl, refl, omega arith)

-- ---- names

name-short : (name : List ℕ) → is_name name ≡ true → length name ≤ 15
name-short [] is = omega arith
name-short (b ∷ name) is =
    let parts = and_parts (is_allowed_at 0 b && list_all (is_allowed_at 1) name) (nat_le (length name) 14) is in
    let most = leb-true (length name) 14 parts.1 in
    omega arith

names-short : (name : Option (List ℕ)) → IsNameOrNone name → length (name_bytes name) ≤ 15
names-short None is = omega arith
names-short (Some name) is = name-short name is

-- a run within a longer one
run-within : (at n k : ℕ) (bytes : List ℕ) → k ≤ n → run_at at k bytes ≡ take k (run_at at n bytes)
run-within at n k bytes within = sym (take-take k n (drop at bytes) within)

name-again : (at : ℕ) (bytes : List ℕ) (name : Option (List ℕ)) (bit : Bool) → get_or bytes at 0 ≡ length (name_bytes name)
    → run_at (at + 1) 15 bytes ≡ filled 15 (name_bytes name) → IsNameOrNone name → bit ≡ has name
    → (name_where bit at bytes ≡ name) × ((not bit || is_name_at at bytes) ≡ true)
name-again at bytes None bit size text is same =
    (ap (λ (b : Bool). name_where b at bytes) same, ap (λ (b : Bool). not b || is_name_at at bytes) same)
name-again at bytes (Some name) bit size text is same =
    let short = name-short name is in
    let run : run_at (at + 1) (get_or bytes at 0) bytes ≡ name =
    ap (λ (n : ℕ). run_at (at + 1) n bytes) size ∙ run-within (at + 1) 15 (length name) bytes short ∙ ap (take (length name)) text
    ∙ take_at name (digits (15 - length name) 0) (length name) refl in
    let fits : nat_le (get_or bytes at 0) 15 ≡ true = ap (λ (n : ℕ). nat_le n 15) size ∙ le-leb (length name) 15 short in
    let whole : is_name (run_at (at + 1) (get_or bytes at 0) bytes) ≡ true = ap is_name run ∙ is in (
      (λ i. cond (same i && fits i) (named (run i)) None) ∙ ap (λ (b : Bool). cond b (Some name) None) is,
      ap (λ (b : Bool). not b || is_name_at at bytes) same ∙ and_from (nat_le (get_or bytes at 0) 15) (is_name (run_at (at + 1)
          (get_or bytes at 0) bytes)) fits whole,
    )

corr-again : (at : ℕ) (bytes : List ℕ) (corr : Option CorrId) (bit : Bool) → run_at at 32 bytes ≡ corr_bytes corr → bit ≡ has corr
    → corr_where bit at bytes ≡ corr
corr-again at bytes None bit text same = ap (λ (b : Bool). corr_where b at bytes) same
corr-again at bytes (Some c) bit text same = ap (λ (b : Bool). corr_where b at bytes) same ∙ (λ i. Some (record { bytes = text i }))

-- ---- numbers

code-again : (n : ℤ) → IsCode n → (from_complement (complement n) ≡ n) × (complement n < 4294967296)
code-again (pos n) is = (ap (λ (b : Bool). cond b (pos n) (negsuc (4294967295 - n))) (lt-ltb n 2147483648 is), omega arith)
code-again (negsuc n) is =
    let back : 4294967295 - (4294967295 - n) ≡ n = omega arith in (
      ap (λ (b : Bool). cond b (pos (4294967295 - n)) (negsuc (4294967295 - (4294967295 - n)))) (le-ltb (4294967295 - n) 2147483648 (omega arith))
          ∙ ap negsuc back,
      omega arith,
    )

quality-again : (q : AskedQos) → (quality_of (quality_number q) ≡ q) × (quality_number q ≤ 2)
quality-again asked.Default = (refl, omega arith)
quality-again asked.Persistent = (refl, omega arith)
quality-again asked.NonPersistent = (refl, omega arith)

arrivals-again : (path : List Arrival) (at : ℕ) (front back : List ℕ) → length front ≡ at → AllByRecursion IsArrival path
    → arrivals_at (length path) at (front ++ (flat_map arrival_bytes path ++ back)) ≡ path
unfolding arrivals_at
arrivals-again [] at front back long are = refl
arrivals-again (a ∷ path) at front back long are =
    let e = digits 4 a.epoch in
    let n = digits 4 a.number in
    let rest = flat_map arrival_bytes path ++ back in
    let epoch-long = length-digits 4 a.epoch in
    let number-long = length-digits 4 a.number in
    let one = length-append front e in
    let two = length-append (front ++ e) n in
    let regrouped : front ++ (flat_map arrival_bytes (a ∷ path) ++ back) ≡ front ++ (e ++ (n ++ rest)) =
    ap (λ (l : List ℕ). front ++ l) (ap (λ (l : List ℕ). l ++ back) (flat_map-cons arrival_bytes a path)
    ∙ append_assoc (e ++ n) (flat_map arrival_bytes path) back
    ∙ append_assoc e n rest) in
    let apart : front ++ (e ++ (n ++ rest)) ≡ (front ++ e) ++ (n ++ rest) = sym (append_assoc front e (n ++ rest)) in
    let behind : front ++ (e ++ (n ++ rest)) ≡ ((front ++ e) ++ n) ++ rest = apart ∙ sym (append_assoc (front ++ e) n rest) in
    let epoch-is : number_at at 4 (front ++ (e ++ (n ++ rest))) ≡ a.epoch = number_at-here at 4 a.epoch front (n ++ rest) long are.0.0 in
    let number-is : number_at (at + 4) 4 (front ++ (e ++ (n ++ rest))) ≡ a.number =
    ap (number_at (at + 4) 4) apart ∙ number_at-here (at + 4) 4 a.number (front ++ e) rest (omega arith) are.0.1 in
    let others : arrivals_at (length path) (at + 8) (front ++ (e ++ (n ++ rest))) ≡ path =
    ap (arrivals_at (length path) (at + 8)) behind ∙ arrivals-again path (at + 8) ((front ++ e) ++ n) back (omega arith) are.1 in
    ap (arrivals_at (suc (length path)) at) regrouped ∙ (λ i. record { epoch = epoch-is i; number = number-is i } ∷ others i)

pub filled-wide : (n : ℕ) (bytes : List ℕ) → length bytes ≤ n → length (filled n bytes) ≡ n
filled-wide n bytes short =
    let all = length-append bytes (digits (n - length bytes) 0) in
    let zeros = length-digits (n - length bytes) 0 in
    omega arith

-- ---- the whole header, before a body

abbrev fields_of : Header → List ℕ → List Field
fields_of h body = header_fields h ++ Run (length body) body ∷ []

spelt-as-fields : (h : Header) (body : List ℕ) → message_spelt h body ≡ fields_spelt (fields_of h body)
unfolding fields_spelt
spelt-as-fields h body =
    ap (λ (l : List ℕ). header_spelt h ++ l) (sym (append-nil body)) ∙ sym (fields-append (header_fields h) (Run (length body) body ∷ []))

path-bytes : (h : Header) → IsHeader h → length (filled 128 (flat_map arrival_bytes h.path)) ≡ 128
path-bytes h is =
    let size = arrivals-length h.path in
    let short = is.short in
    filled-wide 128 (flat_map arrival_bytes h.path) (omega arith)

fields-are : (h : Header) (body : List ℕ) → IsHeader h → AreFields (fields_of h body)
fields-are h body is =
    let bits = (bits-tell h.corr h.replyq h.failq).3 in
    let quality = (quality-again h.reply_qos).1 in
    let code = (code-again h.urcode is.urcode).1 in
    let reply = names-short h.replyq is.replyq in
    let fail = names-short h.failq is.failq in
    let most = is.body in
    let short = is.short in (
      is.arrival.0,
      (
        is.arrival.1,
        (
          omega arith,
          (
            omega arith,
            (
              omega arith,
              (
                omega arith,
                (
                  code,
                  (
                    is.corr,
                    (
                      omega arith,
                      (
                        filled-wide 15 (name_bytes h.replyq) reply,
                        (
                          omega arith,
                          (
                            filled-wide 15 (name_bytes h.failq) fail,
                            (
                              omega arith,
                              (
                                omega arith,
                                (
                                  path-bytes h is,
                                  (power-pos 40, (refl, tt)),
                                ),
                              ),
                            ),
                          ),
                        ),
                      ),
                    ),
                  ),
                ),
              ),
            ),
          ),
        ),
      ),
    )

-- the fields before the path
abbrev fields_before : Header → List Field
fields_before h =
    Number 4 h.arrival.epoch ∷ Number 4 h.arrival.number ∷ Number 4 h.body_length
    ∷ Number 1 (bit_of 1 h.corr + bit_of 2 h.replyq + bit_of 4 h.failq) ∷ Number 1 (quality_number h.reply_qos) ∷ Number 2 0
    ∷ Number 4 (complement h.urcode) ∷ Run 32 (corr_bytes h.corr)
    ∷ Number 1 (length (name_bytes h.replyq)) ∷ Run 15 (filled 15 (name_bytes h.replyq))
    ∷ Number 1 (length (name_bytes h.failq)) ∷ Run 15 (filled 15 (name_bytes h.failq))
    ∷ Number 1 (length h.path) ∷ Number 3 0 ∷ []

path-again : (h : Header) (body : List ℕ) → IsHeader h → arrivals_at (length h.path) 88 (fields_spelt (fields_of h body)) ≡ h.path
unfolding fields_spelt
path-again h body is =
    let flat = flat_map arrival_bytes h.path in
    let zeros = digits (128 - length flat) 0 in
    let rest = Number 40 0 ∷ Run (length body) body ∷ [] in
    let reply = names-short h.replyq is.replyq in
    let fail = names-short h.failq is.failq in
    let whole : fields_spelt (fields_of h body) ≡ fields_spelt (fields_before h) ++ (flat ++ (zeros ++ fields_spelt rest)) =
    fields-append (fields_before h) (Run 128 (filled 128 flat) ∷ rest)
    ∙ ap (λ (l : List ℕ). fields_spelt (fields_before h) ++ l) (append_assoc flat zeros (fields_spelt rest)) in
    let long : length (fields_spelt (fields_before h)) ≡ 88 =
    length-all (fields_before h) (
      tt,
      (
        tt,
        (
          tt,
          (
            tt,
            (
              tt,
              (
                tt,
                (
                  tt,
                  (
                    is.corr,
                    (
                      tt,
                      (
                        filled-wide 15 (name_bytes h.replyq) reply,
                        (
                          tt,
                          (filled-wide 15 (name_bytes h.failq) fail, (tt, (tt, tt))),
                        ),
                      ),
                    ),
                  ),
                ),
              ),
            ),
          ),
        ),
      ),
    ) in
    ap (arrivals_at (length h.path) 88) whole ∙ arrivals-again h.path 88 (fields_spelt (fields_before h)) (zeros ++ fields_spelt rest) long is.path

front-are : (front back : List Field) → AreFields (front ++ back) → AreFields front
front-are [] back are = tt
front-are (f ∷ front) back are = (are.0, front-are front back are.1)

eight : (a b c d e f g i : Bool) → a ≡ true → b ≡ true → c ≡ true → d ≡ true → e ≡ true → f ≡ true → g ≡ true → i ≡ true
    → (a && b && c && d && e && f && g && i) ≡ true
eight a b c d e f g i p q r s t u v w = rw (p, q, r, s, t, u, v, w) refl

-- a header and a body of its length are read as that header
pub header-again : (h : Header) (body : List ℕ) → IsHeader h → header_read (256 + h.body_length) (message_spelt h body) ≡ Some h
unfolding header_read
header-again h body is =
    let fields = fields_of h body in
    let are = fields-are h body is in
    let bytes = fields_spelt fields in
    let joined = 256 + h.body_length in
    let tell = bits-tell h.corr h.replyq h.failq in
    let quality = quality-again h.reply_qos in
    let epoch = number-field 0 4 h.arrival.epoch fields refl are in
    let number = number-field 1 4 h.arrival.number fields refl are in
    let size = number-field 2 4 h.body_length fields refl are in
    let bits = byte-field 3 (bit_of 1 h.corr + bit_of 2 h.replyq + bit_of 4 h.failq) fields refl are in
    let quality-is = byte-field 4 (quality_number h.reply_qos) fields refl are in
    let code = number-field 6 4 (complement h.urcode) fields refl are in
    let count = byte-field 12 (length h.path) fields refl are in
    let corr = corr-again 20 bytes h.corr (has_bit 1 (get_or bytes 12 0)) (run-field 7 fields are) (ap (has_bit 1) bits ∙ tell.0) in
    let reply = name-again 52 bytes h.replyq (has_bit 2 (get_or bytes 12 0)) (byte-field 8 (length (name_bytes h.replyq)) fields refl are)
    (run-field 9 fields are)
    is.replyq (ap (has_bit 2) bits ∙ tell.1) in
    let fail = name-again 68 bytes h.failq (has_bit 4 (get_or bytes 12 0)) (byte-field 10 (length (name_bytes h.failq)) fields refl are)
    (run-field 11 fields are)
    is.failq (ap (has_bit 4) bits ∙ tell.2) in
    let path = ap (λ (n : ℕ). arrivals_at n 88 bytes) count ∙ path-again h body is in
    let code-is = ap from_complement code ∙ (code-again h.urcode is.urcode).0 in
    let qos-is = ap quality_of quality-is ∙ quality.0 in
    let all : length bytes ≡ 256 + length body =
    ap (λ (l : List ℕ). length l) (sym (spelt-as-fields h body)) ∙ length-append (header_spelt h) body
    ∙ ap (λ (n : ℕ). n + length body) (length-fields (header_fields h) (front-are (header_fields h) (Run (length body) body ∷ []) are)) in
    let t1 : nat_le 256 (length bytes) ≡ true = le-leb 256 (length bytes) (omega arith) in
    let t2 : nat_le (number_at 8 4 bytes) most_body ≡ true = ap (λ (n : ℕ). nat_le n most_body) size ∙ le-leb h.body_length most_body is.body in
    let t3 : (joined == 256 + number_at 8 4 bytes) ≡ true = eq-eqb joined (256 + number_at 8 4 bytes) (sym (ap (λ (n : ℕ). 256 + n) size)) in
    let t4 : nat_le (get_or bytes 12 0) 7 ≡ true =
    ap (λ (n : ℕ). nat_le n 7) bits ∙ le-leb (bit_of 1 h.corr + bit_of 2 h.replyq + bit_of 4 h.failq) 7 tell.3 in
    let t5 : nat_le (get_or bytes 13 0) 2 ≡ true = ap (λ (n : ℕ). nat_le n 2) quality-is ∙ le-leb (quality_number h.reply_qos) 2 quality.1 in
    let t6 : nat_le (get_or bytes 84 0) 16 ≡ true = ap (λ (n : ℕ). nat_le n 16) count ∙ le-leb (length h.path) 16 is.short in
    let tests : is_header joined bytes ≡ true =
    eight (nat_le 256 (length bytes)) (nat_le (number_at 8 4 bytes) most_body) (joined == 256 + number_at 8 4 bytes) (nat_le (get_or bytes 12 0) 7)
    (nat_le (get_or bytes 13 0) 2) (nat_le (get_or bytes 84 0) 16) (not (has_bit 2 (get_or bytes 12 0)) || is_name_at 52 bytes)
    (not (has_bit 4 (get_or bytes 12 0)) || is_name_at 68 bytes) t1 t2 t3 t4 t5 t6 reply.1 fail.1 in
    ap (header_read joined) (spelt-as-fields h body)
    ∙ ap (λ (b : Bool). cond b (Some (header_at bytes)) None) tests
    ∙ (λ i. Some (record {
      arrival = record { epoch = epoch i; number = number i };
      body_length = size i;
      corr = corr i;
      replyq = reply.0 i;
      failq = fail.0 i;
      reply_qos = qos-is i;
      urcode = code-is i;
      path = path i;
    }))
