-- An entry's slot and header make that entry again, and what makes an entry is that entry's slot and header.
use Rattle.std.proofs.Common.{◌≡◌, ℕ, zero, suc, ◌+◌, ◌≤◌, ◌&&◌, ◌||◌, Bool, true, false, cond, not, List, [], ◌∷◌, length, Option, Some, None, refl, sym, ap, ◌∙◌, arith}
use Rattle.std.specs.Prelude.{◌==◌, nat_le, if◌then◌else◌}
use Rattle.std.specs.List.{list_all}
use Rattle.std.proofs.lemmas.Bool.{and_parts, and_from, eq-eqb, eqb-true, leb-true}
use Rattle.tq_types.specs.declared.identifiers.Arrival.{Arrival}
use Rattle.tq_types.specs.declared.labels.Label.{Label}
use Rattle.tq_types.specs.Placed.{own_arrival}
use Rattle.tq_types.specs.Path.{arrival_eq}
use Rattle.tq_model.specs.Space.{Entry}
use Rattle.tq_slots.specs.declared.record.MessageSlot.{MessageSlot}
use Rattle.tq_slots.specs.declared.message.Header.{Header}
use Rattle.tq_slots.specs.MessageForm.{bit_of, top_bit, has_bit, moment_or_zero, moment_where, header_of_entry, slot_of_entry, slot_arrival, slot_path, label_of, entry_with, last_moment, is_priority, has_moments, has_epoch, has_epochs, is_free_slot, go_together, entry_of_slot, read_slot, read_header, is_moment_or_none, HasSlot}

-- ---- the bits of a slot

abbrev pub bits : Bool → Option ℕ → Option ℕ → ℕ
bits top own root = top_bit top + bit_of 2 own + bit_of 4 root

bits-most : (top : Bool) (own root : Option ℕ) → nat_le (bits top own root) 7 ≡ true
bits-most true None None = refl
bits-most true None (Some r) = refl
bits-most true (Some o) None = refl
bits-most true (Some o) (Some r) = refl
bits-most false None None = refl
bits-most false None (Some r) = refl
bits-most false (Some o) None = refl
bits-most false (Some o) (Some r) = refl

pub top-again : (top : Bool) (own root : Option ℕ) → has_bit 1 (bits top own root) ≡ top
top-again true None None = refl
top-again true None (Some r) = refl
top-again true (Some o) None = refl
top-again true (Some o) (Some r) = refl
top-again false None None = refl
top-again false None (Some r) = refl
top-again false (Some o) None = refl
top-again false (Some o) (Some r) = refl

pub own-again : (top : Bool) (own root : Option ℕ) → moment_where (has_bit 2 (bits top own root)) (moment_or_zero own) ≡ own
own-again true None None = refl
own-again true None (Some r) = refl
own-again true (Some o) None = refl
own-again true (Some o) (Some r) = refl
own-again false None None = refl
own-again false None (Some r) = refl
own-again false (Some o) None = refl
own-again false (Some o) (Some r) = refl

pub root-again : (top : Bool) (own root : Option ℕ) → moment_where (has_bit 4 (bits top own root)) (moment_or_zero root) ≡ root
root-again true None None = refl
root-again true None (Some r) = refl
root-again true (Some o) None = refl
root-again true (Some o) (Some r) = refl
root-again false None None = refl
root-again false None (Some r) = refl
root-again false (Some o) None = refl
root-again false (Some o) (Some r) = refl

-- a test under a bit
test-or : (has : Bool) (o : Option ℕ) → is_moment_or_none o ≡ true → (not has || nat_le (moment_or_zero o) last_moment) ≡ true
test-or true None holds = refl
test-or true (Some at) holds = holds
test-or false o holds = refl

pub bits-again : (b x y : ℕ) → b ≤ 7 → bits (has_bit 1 b) (moment_where (has_bit 2 b) x) (moment_where (has_bit 4 b) y) ≡ b
bits-again zero x y most = refl
bits-again (suc zero) x y most = refl
bits-again (suc (suc zero)) x y most = refl
bits-again (suc (suc (suc zero))) x y most = refl
bits-again (suc (suc (suc (suc zero)))) x y most = refl
bits-again (suc (suc (suc (suc (suc zero))))) x y most = refl
bits-again (suc (suc (suc (suc (suc (suc zero)))))) x y most = refl
bits-again (suc (suc (suc (suc (suc (suc (suc zero))))))) x y most = refl
bits-again (suc (suc (suc (suc (suc (suc (suc (suc b)))))))) x y most = absurd (omega arith)

pub moment-again : (has : Bool) (x : ℕ) → moment_or_zero (moment_where has x) ≡ (if has then x else 0)
moment-again true x = refl
moment-again false x = refl

-- ---- arrivals and paths

arrival-same : (a : Arrival) → arrival_eq a a ≡ true
arrival-same a = and_from (a.epoch == a.epoch) (a.number == a.number) (eq-eqb a.epoch a.epoch refl) (eq-eqb a.number a.number refl)

arrival-is : (a b : Arrival) → arrival_eq a b ≡ true → a ≡ b
arrival-is a b same =
    let parts = and_parts (a.epoch == b.epoch) (a.number == b.number) same in
    let epoch = eqb-true a.epoch b.epoch parts.0 in
    let number = eqb-true a.number b.number parts.1 in
    λ i. record { epoch = epoch i; number = number i }

no-zero : (n : ℕ) → (suc n == 0) ≡ false
no-zero n = not-true (suc n == 0) (λ e. let zero-is = eqb-true (suc n) 0 e in absurd (omega arith))
  where
    not-true : (b : Bool) → (b ≡ true → ⊥) → b ≡ false
    not-true true never = absurd (never refl)
    not-true false never = refl

path-again : (path : List Arrival) → (if length path == 0 then [] else path) ≡ path
path-again [] = refl
path-again (a ∷ path) = ap (λ (b : Bool). cond b [] (a ∷ path)) (no-zero (length path))

path-length : (n : ℕ) (path : List Arrival) → (n == 0 || n == length path) ≡ true → length (if n == 0 then [] else path) ≡ n
path-length zero path holds = refl
path-length (suc n) path holds =
    ap (λ (b : Bool). length (cond b [] path)) (no-zero n)
    ∙ sym (eqb-true (suc n) (length path) (ap (λ (b : Bool). b || suc n == length path) (sym (no-zero n)) ∙ holds))

-- ---- what is made of an entry

label-again : (queue first : ℕ) (e : Entry) → label_of (slot_of_entry queue first e) (header_of_entry e) ≡ e.label
label-again queue first e =
    let root = e.label.root in
    let own = e.message.expiration in
    let top = top-again root.top own root.expiration in
    let expiration = root-again root.top own root.expiration in
    let path = path-again e.label.path in
    λ i. record {
      root = record { top = top i; priority = root.priority; available = root.available; expiration = expiration i; arrival = root.arrival };
      path = path i;
    }

slot-holds : (site number queue first : ℕ) (e : Entry) → HasSlot site number e → is_free_slot (slot_of_entry queue first e) ≡ true
slot-holds site number queue first e has =
    let root = e.label.root in
    let own = e.message.expiration in
    let b = bits root.top own root.expiration in
    rw (
      bits-most root.top own root.expiration,
      has.priority,
      has.root_priority,
      has.available,
      test-or (has_bit 2 b) own has.expiration,
      has.root_available,
      test-or (has_bit 4 b) root.expiration has.root_expiration,
      has.epoch,
      has.root_epoch,
    ) refl

together : (site number queue first : ℕ) (e : Entry) → HasSlot site number e → go_together (slot_of_entry queue first e) (header_of_entry e) ≡ true
together site number queue first e has =
    let slot = slot_of_entry queue first e in
    let a : Arrival = record { epoch = e.message.id.epoch; number = e.message.id.number } in
    let n = length e.label.path in
    let same = arrival-same a in
    let numbers : (n == 0 || n == n) ≡ true = either (n == 0) (n == n) (eq-eqb n n refl) in
    let path : list_all has_epoch (slot_path slot (header_of_entry e)) ≡ true = ap (list_all has_epoch) (path-again e.label.path) ∙ has.path in
    let own : arrival_eq (own_arrival (label_of slot (header_of_entry e))) a ≡ true =
    ap (λ (l : Label). arrival_eq (own_arrival l) a) (label-again queue first e) ∙ ap (λ (x : Arrival). arrival_eq x a) has.own ∙ same in
    let both = and_from (arrival_eq a a) (n == 0 || n == n) same numbers in
    let all = and_from (arrival_eq a a && (n == 0 || n == n)) (list_all has_epoch (slot_path slot (header_of_entry e))) both path in
    and_from (arrival_eq a a && (n == 0 || n == n) && list_all has_epoch (slot_path slot (header_of_entry e)))
    (arrival_eq (own_arrival (label_of slot (header_of_entry e))) a) all own
  where
    either : (p q : Bool) → q ≡ true → (p || q) ≡ true
    either true q holds = refl
    either false q holds = holds

entry-same : (site number queue first : ℕ) (e : Entry) → HasSlot site number e → entry_with site number (slot_of_entry queue first e) (header_of_entry e) ≡ e
entry-same site number queue first e has =
    let m = e.message in
    let expiration = own-again e.label.root.top m.expiration e.label.root.expiration in
    let label = label-again queue first e in
    λ i. record {
      label = label i;
      mark = sym has.free i;
      message = record {
        id = record { site = sym has.site_is i; space = sym has.space_is i; epoch = m.id.epoch; number = m.id.number };
        corr = m.corr;
        replyq = m.replyq;
        failq = m.failq;
        priority = m.priority;
        available = m.available;
        expiration = expiration i;
        qos = sym has.persistent i;
        reply_qos = m.reply_qos;
        urcode = m.urcode;
        retries = m.retries;
        body = sym has.stored i;
      };
    }

pub entry-again : (site number queue first : ℕ) (e : Entry) → HasSlot site number e
    → entry_of_slot site number (slot_of_entry queue first e) (header_of_entry e) ≡ Some e
unfolding entry_of_slot
entry-again site number queue first e has =
    let slot = slot_of_entry queue first e in
    let both = and_from (is_free_slot slot) (go_together slot (header_of_entry e)) (slot-holds site number queue first e has)
    (together site number queue first e has) in
    ap (λ (b : Bool). cond b (Some (entry_with site number slot (header_of_entry e))) None) both ∙ ap Some (entry-same site number queue first e has)

-- ---- what makes an entry

guard-some : {X : Type 0} (b : Bool) (x y : X) → cond b (Some x) None ≡ Some y → (b ≡ true) × (x ≡ y)
guard-some true x y e = (refl, cc)
guard-some false x y e = absurd cc

-- the tests of a slot that is used below
pub slot-parts : (s : MessageSlot) → is_free_slot s ≡ true → (s.mark ≡ 1) × ((s.branch ≡ 0) × (s.bits ≤ 7))
slot-parts s holds =
    let t1 = s.mark == 1 in
    let t2 = s.branch == 0 in
    let t3 = nat_le s.bits 7 in
    let t4 = is_priority s.priority in
    let t5 = is_priority s.root_priority in
    let a6 = (and_parts (t1 && t2 && t3 && t4 && t5 && has_moments s) (has_epochs s) holds).0 in
    let a5 = (and_parts (t1 && t2 && t3 && t4 && t5) (has_moments s) a6).0 in
    let a4 = (and_parts (t1 && t2 && t3 && t4) t5 a5).0 in
    let a3 = (and_parts (t1 && t2 && t3) t4 a4).0 in
    let a2 = and_parts (t1 && t2) t3 a3 in
    let a1 = and_parts t1 t2 a2.0 in
    (eqb-true s.mark 1 a1.0, (eqb-true s.branch 0 a1.1, leb-true s.bits 7 a2.1))

-- the arrivals and the paths that go together
go-parts : (s : MessageSlot) (h : Header) → go_together s h ≡ true → (slot_arrival s ≡ h.arrival) × ((s.numbers == 0 || s.numbers == length h.path) ≡ true)
go-parts s h go =
    let arrivals = arrival_eq (slot_arrival s) h.arrival in
    let numbers = s.numbers == 0 || s.numbers == length h.path in
    let path = list_all has_epoch (slot_path s h) in
    let all = (and_parts (arrivals && numbers && path) (arrival_eq (own_arrival (label_of s h)) (slot_arrival s)) go).0 in
    let parts = and_parts arrivals numbers (and_parts (arrivals && numbers) path all).0 in
    (arrival-is (slot_arrival s) h.arrival parts.0, parts.1)

slot-same : (site number : ℕ) (s : MessageSlot) (h : Header) → is_free_slot s ≡ true → go_together s h ≡ true
    → slot_of_entry s.queue s.first (entry_with site number s h) ≡ read_slot s
slot-same site number s h free go =
    let parts = slot-parts s free in
    let mark = parts.0 in
    let branch = parts.1.0 in
    let all = bits-again s.bits s.expiration s.root_expiration parts.1.1 in
    let numbers = path-length s.numbers h.path (go-parts s h go).1 in
    let expiration = moment-again (has_bit 2 s.bits) s.expiration in
    let root_expiration = moment-again (has_bit 4 s.bits) s.root_expiration in
    λ i. record {
      mark = sym mark i;
      branch = sym branch i;
      queue = s.queue;
      bits = all i;
      priority = s.priority;
      root_priority = s.root_priority;
      numbers = numbers i;
      retries = s.retries;
      first = s.first;
      epoch = s.epoch;
      number = s.number;
      available = s.available;
      expiration = expiration i;
      root_available = s.root_available;
      root_expiration = root_expiration i;
      root_epoch = s.root_epoch;
      root_number = s.root_number;
    }

header-same : (site number : ℕ) (s : MessageSlot) (h : Header) → go_together s h ≡ true → header_of_entry (entry_with site number s h) ≡ read_header s h
header-same site number s h go =
    let arrival = (go-parts s h go).0 in
    λ i. record {
      arrival = arrival i;
      body_length = h.body_length;
      corr = h.corr;
      replyq = h.replyq;
      failq = h.failq;
      reply_qos = h.reply_qos;
      urcode = h.urcode;
      path = if s.numbers == 0 then [] else h.path;
    }

pub entry-read : (site number : ℕ) (s : MessageSlot) (h : Header) (e : Entry) → entry_of_slot site number s h ≡ Some e
    → (slot_of_entry s.queue s.first e ≡ read_slot s) × (header_of_entry e ≡ read_header s h)
unfolding entry_of_slot
entry-read site number s h e is =
    let made = guard-some (is_free_slot s && go_together s h) (entry_with site number s h) e is in
    let parts = and_parts (is_free_slot s) (go_together s h) made.0 in (
      ap (slot_of_entry s.queue s.first) (sym made.1) ∙ slot-same site number s h parts.0 parts.1,
      ap header_of_entry (sym made.1)
          ∙ header-same site number s h parts.1,
    )
