-- Calls on the bytes of a log's owner, in each picture of which it has an old content or the new one.
use Rattle.std.proofs.Common.{◌≡◌, ◌⊎◌, inl, inr, ⊎_elim, ℕ, List, [], true, Result, Option, None, Some, sym, ◌∙◌, ap, subst}
use Rattle.tq_host.specs.declared.host.Failed.{Failed}
use Rattle.tq_host.specs.View.{Told, View, IsLawful, IsSettled}
use Rattle.tq_host.specs.Calls.{IsDeviceCall, IsStill}
use Rattle.tq_host.specs.Within.{Within}
use Rattle.tq_host.proofs.Steps.{IsSteps}
use Rattle.tq_host.proofs.Within.{starts, still, weaker, in_a_row}
use Rattle.tq_extent.specs.Bytes.{reaches, OnBytes, IsAny, AllReach}
use Rattle.tq_extent.proofs.BytesLemmas.{reaches_same, on_bytes_steps, then_bytes}
use Rattle.tq_gate.specs.declared.log.GateLog.{GateLog}
use Rattle.tq_gate.specs.Layout.{clusters_of, bytes_in}
use Rattle.tq_gate.specs.Reading.{Content, content_on}
use Rattle.tq_gate.specs.Log.{IsOpen, IsLog, AreLog, HaveLog, IsKeptLog, IsAsLeft}

-- the content that was read, or none
content_or : Option Content → Content
content_or None = record { base = []; payloads = [] }
content_or (Some k) = k

-- steps S on the owner's bytes
module _ (log : GateLog) (S : List ℕ → List ℕ → Type 0) (steps : IsSteps S) where
  abbrev pub OnOwner : List ℕ → List ℕ → Type 0
  OnOwner old new = OnBytes (clusters_of log.layout) S old new

  owner_steps : IsSteps OnOwner
  owner_steps = on_bytes_steps (clusters_of log.layout) S steps

  -- the last write: what it makes of images with M
  pub decides : (M N : List ℕ → Type 0) (R : List ℕ → List ℕ → Type 0) (read : List ℕ) (old new : View)
      → ((c : List ℕ) → M c → reaches (clusters_of log.layout) c ≡ true)
      → ((b c : List ℕ) → M b → R (bytes_in log.layout b) (bytes_in log.layout c) → S (bytes_in log.layout b) (bytes_in log.layout c) × N (bytes_in log.layout c))
      → ((c : List ℕ) → M c → N (bytes_in log.layout c))
      → ((c : List ℕ) → old.may_leave log.layout.dev c → M c × OnOwner read c)
      → (AllReach log.layout.dev (clusters_of log.layout) old → Within log.layout.dev (OnBytes (clusters_of log.layout) R) IsAny old new)
      → Within log.layout.dev OnOwner (λ c. OnOwner read c × N (bytes_in log.layout c)) old new
  decides M N R read old new reach to is has write =
      let P : List ℕ → Type 0 = λ c. M c × OnOwner read c in
      let Q : List ℕ → Type 0 = λ c. OnOwner read c × N (bytes_in log.layout c) in
      then_bytes log.layout.dev OnOwner (OnBytes (clusters_of log.layout) R) P Q old old new owner_steps (starts log.layout.dev OnOwner owner_steps P old has)
      (write (λ c may. reach c (has c may).0))
      (λ b c before step.
      let both = to b c before.0 step.bytes in
      let same : OnOwner b c = record { size = step.size; elsewhere = step.elsewhere; bytes = both.0 } in
      (same, (owner_steps.both read b c before.1 same, both.1)))
      (λ c before. (before.1, is c before.0))

  -- a call that writes nothing
  pub stays : (Q : List ℕ → Type 0) (start mid new : View) {T : Type 0} (r : Result T Failed) → Within log.layout.dev OnOwner Q start mid
      → IsDeviceCall r mid new → IsStill mid new → Within log.layout.dev OnOwner Q start new
  stays Q start mid new r so_far call same = still log.layout.dev OnOwner owner_steps Q start mid new r so_far call same

  -- from this moment on
  module _ (old : View) where
    abbrev pub Keeps : View → Type 0
    Keeps now = Within log.layout.dev OnOwner (IsKeptLog log OnOwner old) old now

    pub keeps_start : HaveLog log old → Keeps old
    keeps_start has =
        starts log.layout.dev OnOwner owner_steps (IsKeptLog log OnOwner old) old (λ c may.
        let log_is = has c may in
        record { was = c; left = may; outside = owner_steps.none c; holds = log_is.holds; old = log_is.is; now = log_is.is })

    -- a write that leaves the content
    pub keeps_write : (R : List ℕ → List ℕ → Type 0) (mid new : View)
        → ((k : Content) (a b : List ℕ) → IsOpen log.layout log.area log.end k a → R a b → S a b × IsOpen log.layout log.area log.end k b) → Keeps mid
        → (AllReach log.layout.dev (clusters_of log.layout) mid → Within log.layout.dev (OnBytes (clusters_of log.layout) R) IsAny mid new) → Keeps new
    keeps_write R mid new kept so_far write =
        let Q : List ℕ → Type 0 = IsKeptLog log OnOwner old in
        then_bytes log.layout.dev OnOwner (OnBytes (clusters_of log.layout) R) Q Q old mid new owner_steps so_far
        (write (λ c may. (so_far.own c may).now.now.reach))
        (λ b c is step.
        let both = kept is.holds (bytes_in log.layout b) (bytes_in log.layout c) is.now.is step.bytes in
        let same : OnOwner b c = record { size = step.size; elsewhere = step.elsewhere; bytes = both.0 } in (
          same,
          record {
            was = is.was;
            left = is.left;
            outside = owner_steps.both is.was b c is.outside same;
            holds = is.holds;
            old = is.old;
            now = record { reach = reaches_same (clusters_of log.layout) b c step.size ∙ is.now.reach; is = both.1 };
          },
        ))
        (λ c is. is)

    -- a piece that keeps the content leaves an old one
    pub keeps_old : (F : List ℕ → Type 0) (mid : View) → Keeps mid → Within log.layout.dev OnOwner (λ c. IsAsLeft log OnOwner old c ⊎ F c) old mid
    keeps_old F mid first =
        weaker log.layout.dev OnOwner owner_steps (IsKeptLog log OnOwner old) (λ c. IsAsLeft log OnOwner old c ⊎ F c) old mid
        (λ b c may kept. inl (record { was = kept.was; left = kept.left; outside = kept.outside; reads = kept.now.is.reads ∙ sym kept.old.is.reads })) first

    -- the content that is read at the start
    abbrev content_read : Content
    content_read = content_or (content_on log.layout (old.reads log.layout.dev))

    -- is the log's, where the host tells what is left
    read_has : {tells : Told} → IsLawful tells old → HaveLog log old → tells.stops
        → (content_on log.layout (old.reads log.layout.dev) ≡ Some content_read) × IsLog log content_read (old.reads log.layout.dev)
    unfolding content_or
    read_has lawful has stops =
        let read = old.reads log.layout.dev in
        let here = has read (lawful.reads_an_image stops log.layout.dev) in
        let same : content_read ≡ here.holds = ap content_or here.is.is.reads in
        (here.is.is.reads ∙ ap (λ k. Some k) (sym same), subst (λ k. IsLog log k read) (sym same) here.is)

    -- Two pieces: after the first one each image is what is read, and has M; the second one makes of the content the next one.
    pub both_pieces : (next : Content → Content) (M : Content → List ℕ → Type 0) (F : List ℕ → Type 0) (mid new : View) {tells : Told} → IsLawful tells old
        → IsLawful tells mid → HaveLog log old → Keeps mid
        → (tells.reads → (k : Content) → IsLog log k (old.reads log.layout.dev) → M k (mid.reads log.layout.dev))
        → (tells.reads → OnOwner (old.reads log.layout.dev) (mid.reads log.layout.dev)) → IsSettled log.layout.dev mid
        → ((k : Content) → ((c : List ℕ) → mid.may_leave log.layout.dev c → M k c × OnOwner (old.reads log.layout.dev) c)
        → Within log.layout.dev OnOwner (λ c. OnOwner (old.reads log.layout.dev) c × ((content_on log.layout c ≡ Some k) ⊎ (content_on log.layout c ≡ Some (next k)))) mid new)
        → ((k : Content) (c : List ℕ) → content_on log.layout (old.reads log.layout.dev) ≡ Some k → OnOwner (old.reads log.layout.dev) c → content_on log.layout c ≡ Some (next k) → F c)
        → Within log.layout.dev OnOwner (λ c. IsAsLeft log OnOwner old c ⊎ F c) old new
    both_pieces next M F mid new lawful_old lawful_mid has first made same settled second done =
        let read = old.reads log.layout.dev in
        let k = content_read in
        let Q : List ℕ → Type 0 = λ c. IsAsLeft log OnOwner old c ⊎ F c in
        let Either : List ℕ → Type 0 = λ c. OnOwner read c × ((content_on log.layout c ≡ Some k) ⊎ (content_on log.layout c ≡ Some (next k))) in
        let P : List ℕ → Type 0 = λ c. M k c × OnOwner read c in
        in_a_row log.layout.dev OnOwner owner_steps Q old mid new (keeps_old F mid first)
        (weaker log.layout.dev OnOwner owner_steps Either Q mid new
        (λ b c may either.
        let stops = lawful_mid.stops_told log.layout.dev b may in
        let reads = (read_has lawful_old has stops).0 in
        ⊎_elim
        (λ kept. inl (record { was = read; left = lawful_old.reads_an_image stops log.layout.dev; outside = either.0; reads = kept ∙ sym reads }))
        (λ more. inr (done k c reads either.0 more))
        either.1)
        (second k (λ c may.
        let stops = lawful_mid.stops_told log.layout.dev c may in
        let told = lawful_mid.reads_told stops in
        subst P (sym (settled c may)) (made told k (read_has lawful_old has stops).1, same told))))

-- where each image is what is read, each has what that has
pub images_too : (log : GateLog) (k : Content) (P : List ℕ → Type 0) (old new : View) {tells : Told} → IsLawful tells old → IsLawful tells new
    → AreLog log k old
    → (tells.reads → IsLog log k (old.reads log.layout.dev) → P (new.reads log.layout.dev)) → IsSettled log.layout.dev new → (image : List ℕ)
    → new.may_leave log.layout.dev image → P image
images_too log k P old new lawful_old lawful_new has is settled image may =
    let stops = lawful_new.stops_told log.layout.dev image may in
    subst P (sym (settled image may)) (is (lawful_new.reads_told stops) (has (old.reads log.layout.dev) (lawful_old.reads_an_image stops log.layout.dev)))

-- two steps in a row reach as far as the image that they begin with
pub reach_after : (log : GateLog) (S R : List ℕ → List ℕ → Type 0) (a b c : List ℕ) → OnBytes (clusters_of log.layout) S a b
    → OnBytes (clusters_of log.layout) R b c → reaches (clusters_of log.layout) a ≡ true → reaches (clusters_of log.layout) c ≡ true
reach_after log S R a b c first second reach = reaches_same (clusters_of log.layout) b c second.size ∙ reaches_same (clusters_of log.layout) a b first.size
    ∙ reach
