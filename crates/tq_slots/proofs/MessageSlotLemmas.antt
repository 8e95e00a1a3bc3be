-- A slot and its chain say what is written of an entry, and what they say has its chain.
use Rattle.std.proofs.Common.{◌≡◌, ◌⊎◌, ℕ, suc, ◌==◌, ◌&&◌, Bool, true, false, cond, List, [], ◌∷◌, Option, Some, None, length, refl, sym, ap, ◌∙◌, subst}
use Rattle.std.proofs.Common.{arith, inl, inr, eqb-true}
use Rattle.std.specs.FinMap.{IsAntisymmetric}
use Rattle.std.proofs.lemmas.Bool.{cond_both, and_parts}
use Rattle.std.proofs.lemmas.Bool.Decides.{nat_tests}
use Rattle.std.proofs.lemmas.Option.{cond_some}
use Rattle.tq_types.specs.Label.{arrival_cmp}
use Rattle.tq_types.specs.Placed.{own_arrival}
use Rattle.tq_types.specs.declared.identifiers.Arrival.{Arrival}
use Rattle.tq_types.specs.declared.identifiers.MsgId.{MsgId}
use Rattle.tq_types.proofs.LabelOrder.{arrival-equal}
use Rattle.tq_model.specs.Space.{Here, Entry, same_id}
use Rattle.tq_slots.specs.MessageSlots.{IndexedEntry, UsedSlot, Chain, Chains, arrival_of, same_arrival, entry_joined, are_one_message, said_with_path}
use Rattle.tq_slots.specs.MessageSlots.{said_with_chain, says, slot_of, CanStand, FitsChain, HasChain}
use Rattle.tq_slots.proofs.ListLemmas.{some_none, eq_itself}

pub exact_arrivals : IsAntisymmetric arrival_cmp
exact_arrivals a b e = arrival-equal a b e

pub arrivals_equal : (a b : Arrival) → same_arrival a b ≡ true → a ≡ b
arrivals_equal a b e =
    let p = and_parts (a.epoch == b.epoch) (a.number == b.number) e in
    λ i. record { epoch = eqb-true a.epoch b.epoch p.0 i; number = eqb-true a.number b.number p.1 i }

pub arrival_itself : (a b : Arrival) → a ≡ b → same_arrival a b ≡ true
arrival_itself a b e = subst (λ (x : Arrival). same_arrival a x ≡ true) e (λ i. eq_itself a.epoch i && eq_itself a.number i)

pub same_arrivals : (a b : MsgId) → same_id a b ≡ true → arrival_of a ≡ arrival_of b
same_arrivals a b e =
    let p = and_parts (a.site == b.site && a.space == b.space && a.epoch == b.epoch) (a.number == b.number) e in
    let q = and_parts (a.site == b.site && a.space == b.space) (a.epoch == b.epoch) p.0 in
    λ i. record { epoch = eqb-true a.epoch b.epoch q.1 i; number = eqb-true a.number b.number p.1 i }

-- ---- what is written is said

pub header_arrival : (entry : Entry) (c : Chain) → FitsChain entry c → c.arrival ≡ arrival_of entry.message.id
header_arrival entry c fits = ap (λ (d : Chain). d.arrival) fits.rest

path_chosen : (path full : List Arrival) (F : List Arrival → Option IndexedEntry) → (path ≡ []) ⊎ (path ≡ full)
    → cond (length path == 0) (F []) (cond (length path == length full) (F full) None) ≡ F path
path_chosen [] full F e = refl
path_chosen (a ∷ path) full F (inl e) = cc
path_chosen (a ∷ path) full F (inr e) =
    let some : (suc (length path) == 0) ≡ false = grind (arith, nat_tests) in
    (λ i. cond (some i) (F []) (cond (suc (length path) == length (sym e i)) (F (sym e i)) None)) ∙
    (λ i. cond (eq_itself (suc (length path)) i) (F (a ∷ path)) None)

joined_is : (site number first : ℕ) (c : Chain) (e : IndexedEntry) → CanStand site number e.entry → FitsChain e.entry c
    → entry_joined site number (slot_of first e) c e.entry.label.path ≡ e
joined_is site number first c e can fits = λ i.
    record {
      queue = e.queue;
      entry = record {
        label = e.entry.label;
        mark = sym can.free i;
        message = record {
          id = record { site = sym can.of_site i; space = sym can.of_space i; epoch = e.entry.message.id.epoch; number = e.entry.message.id.number };
          corr = (fits.rest i).corr;
          replyq = (fits.rest i).replyq;
          failq = (fits.rest i).failq;
          priority = e.entry.message.priority;
          available = e.entry.message.available;
          expiration = e.entry.message.expiration;
          qos = sym can.persistent i;
          reply_qos = (fits.rest i).reply_qos;
          urcode = (fits.rest i).urcode;
          retries = e.entry.message.retries;
          body = (ap (λ (d : Chain). Here d.body) fits.rest ∙ sym can.body) i;
        };
      };
    }

pub says_written : (site number first : ℕ) (chains : Chains) (e : IndexedEntry) → HasChain site number chains first e.entry
    → says site number chains (slot_of first e) ≡ Some e
says_written site number first chains e has =
    let s = slot_of first e in
    let c = has.chain in
    let label = e.entry.label in
    let one : are_one_message s c label.path ≡ true =
    λ i. arrival_itself c.arrival s.arrival (header_arrival e.entry c has.fits) i && arrival_itself (own_arrival label) s.arrival has.stands.own i in
    ap (said_with_chain site number s) has.at
    ∙ path_chosen label.path c.path (said_with_path site number s c) has.fits.path
    ∙ ap (λ b. cond b (Some (entry_joined site number s c label.path)) None) one
    ∙ ap Some (joined_is site number first c e has.stands has.fits)

-- ---- what is said has its chain

where_some : {X : Type 0} (b : Bool) (o : Option X) (x : X) → cond b o None ≡ Some x → (b ≡ true) × (o ≡ Some x)
where_some true o x h = (refl, h)
where_some false o x h = cc

-- how an entry belongs to the slot that says it
pub record IsSaid (site number : ℕ) (chains : Chains) (s : UsedSlot) (e : IndexedEntry) : Type 0 where
  pub chain : HasChain site number chains s.first e.entry
  pub arrival : arrival_of e.entry.message.id ≡ s.arrival
  pub queue : e.queue ≡ s.queue
  pub slot : slot_of s.first e ≡ s

module _ (site number : ℕ) (chains : Chains) (s : UsedSlot) where
  said_by_path : (c : Chain) (path : List Arrival) (e : IndexedEntry) → chains s.first ≡ Some c → (path ≡ []) ⊎ (path ≡ c.path) → s.numbers ≡ length path
      → said_with_path site number s c path ≡ Some e → IsSaid site number chains s e
  said_by_path c path e at which numbers h =
      let own = own_arrival (record { root = s.root; path = path }) in
      let said = cond_some (are_one_message s c path) (entry_joined site number s c path) e h in
      let one = and_parts (same_arrival c.arrival s.arrival) (same_arrival own s.arrival) said.0 in
      subst (IsSaid site number chains s) said.1 (record {
        chain = record {
          chain = c;
          at = at;
          stands = record { own = arrivals_equal own s.arrival one.1; free = refl; persistent = refl; of_site = refl; of_space = refl; body = refl };
          fits = record { path = which; rest = λ i. record c { path = path; arrival = arrivals_equal c.arrival s.arrival one.0 i } };
        };
        arrival = refl;
        queue = refl;
        slot = λ i. record s { numbers = sym numbers i };
      })

  said_by_chain : (e : IndexedEntry) (at : Option Chain) → chains s.first ≡ at → said_with_chain site number s at ≡ Some e → IsSaid site number chains s e
  said_by_chain e None at h = absurd (some_none (sym h))
  said_by_chain e (Some c) at h =
      let all = said_with_path site number s c c.path in
      cond_both (s.numbers == 0) (said_with_path site number s c []) (cond (s.numbers == length c.path) all None)
      (λ o. o ≡ Some e → IsSaid site number chains s e)
      (λ t g. said_by_path c [] e at (inl refl) (eqb-true s.numbers 0 t) g)
      (λ f g.
      let w = where_some (s.numbers == length c.path) all e g in
      said_by_path c c.path e at (inr refl) (eqb-true s.numbers (length c.path) w.0) w.1)
      h

  pub is_said : (e : IndexedEntry) → says site number chains s ≡ Some e → IsSaid site number chains s e
  is_said e h = said_by_chain e (chains s.first) refl h

  pub said_own : (e : IndexedEntry) → says site number chains s ≡ Some e → own_arrival e.entry.label ≡ s.arrival
  said_own e h = let said = is_said e h in said.chain.stands.own ∙ said.arrival
