-- How a call on one device goes on.
use Rattle.std.proofs.Common.{◌≡◌, ◌≢◌, inl, inr, ⊎_elim, ℕ, List, Result, refl, sym, ◌∙◌, ap, arith}
use Rattle.tq_host.specs.declared.host.Failed.{Failed}
use Rattle.tq_host.specs.View.{Told, View, Streams, IsLawful, IsSettled}
use Rattle.tq_host.specs.Calls.{IsDeviceCall, IsStill, Attaches, Changes, Syncs}
use Rattle.tq_host.specs.Within.{Came, Within}
use Rattle.tq_host.proofs.Steps.{IsSteps}

-- where there is an image, what is read is one
pub read_too : {tells : Told} (v : View) → IsLawful tells v → (d : ℕ) (c : List ℕ) → v.may_leave d c → v.may_leave d (v.reads d)
read_too v lawful d c may = lawful.reads_an_image (lawful.stops_told d c may) d

-- other steps and another property of the images
pub wider : (dev : ℕ) (S R : List ℕ → List ℕ → Type 0) (Q P : List ℕ → Type 0) (start now : View) → ((b c : List ℕ) → start.may_leave dev b → S b c → Q c → R b c × P c) → Within dev S Q start now → Within dev R P start now
wider dev S R Q P start now is so_far =
    let came : (c : List ℕ) → Came dev S Q start c → Came dev R P start c = λ c a.
    let both = is a.image c a.was a.step a.now in
    record { image = a.image; was = a.was; step = both.0; now = both.1 } in
    record {
      later = so_far.later;
      own = λ c may. came c (so_far.own c may);
      others = so_far.others;
      others_read = so_far.others_read;
      streams = so_far.streams;
      pictures = λ t p le left. ⊎_elim (λ old. inl old) (λ a. inr (record { own = came (p.images dev) a.own; others = a.others; output = a.output })) (so_far.pictures t p le left);
    }

-- after a sync that succeeds each image is what is read
pub settles : (dev : ℕ) (old new : View) → IsStill old new → Syncs dev old new → IsSettled dev new
settles dev old new same synced = λ c may. synced.durable c may ∙ sym (same.reads dev)

module _ (dev : ℕ) (S : List ℕ → List ℕ → Type 0) (steps : IsSteps S) where
  -- at the start, where each image has Q
  pub starts : (Q : List ℕ → Type 0) (start : View) → ((c : List ℕ) → start.may_leave dev c → Q c) → Within dev S Q start start
  starts Q start has = record {
    later = omega arith;
    own = λ c may. record { image = c; was = may; step = steps.none c; now = has c may };
    others = λ d c ne may. may;
    others_read = λ d ne. refl;
    streams = refl;
    pictures = λ t p le left. inl left;
  }

  -- what the moment after a call has, each picture since the start has
  goes_on : (Q : List ℕ → Type 0) (start mid new : View) {T : Type 0} (r : Result T Failed) → Within dev S Q start mid → IsDeviceCall r mid new
      → ((c : List ℕ) → new.may_leave dev c → Came dev S Q start c)
      → ((d : ℕ) (c : List ℕ) → d ≢ dev → new.may_leave d c → mid.may_leave d c)
      → ((d : ℕ) → d ≢ dev → new.reads d ≡ mid.reads d)
      → Within dev S Q start new
  goes_on Q start mid new r so_far call own others read =
      let same : new.streams ≡ start.streams = call.streams ∙ so_far.streams in
      record {
        later = omega (arith, so_far.later, call.clock.later);
        own = own;
        others = λ d c ne may. so_far.others d c ne (others d c ne may);
        others_read = λ d ne. read d ne ∙ so_far.others_read d ne;
        streams = same;
        pictures = λ t p le left. ⊎_elim (so_far.pictures t p le) (λ now. inr (record {
          own = own (p.images dev) (now.images dev);
          others = λ d ne. so_far.others d (p.images d) ne (others d (p.images d) ne (now.images d));
          output = now.output ∙ ap (λ (s : Streams). s.output) same;
        })) (call.time t p (omega (arith, le, so_far.later)) left);
      }

  -- a call that changes no device
  pub still : (Q : List ℕ → Type 0) (start mid new : View) {T : Type 0} (r : Result T Failed) → Within dev S Q start mid → IsDeviceCall r mid new → IsStill mid new
      → Within dev S Q start new
  still Q start mid new r so_far call same =
      goes_on Q start mid new r so_far call (λ c may. so_far.own c (same.may_leave dev c may)) (λ d c ne may. same.may_leave d c may) (λ d ne. same.reads d)

  -- a device that is attached
  pub attaches : (Q : List ℕ → Type 0) (start mid new : View) {tells : Told} {d : ℕ} {path : List ℕ} {T : Type 0} (r : Result T Failed) → Within dev S Q start mid → IsDeviceCall r mid new → Attaches tells d path r mid new
      → Within dev S Q start new
  attaches Q start mid new r so_far call same =
      goes_on Q start mid new r so_far call (λ c may. so_far.own c (same.may_leave dev c may)) (λ d c ne may. same.may_leave d c may) (λ d ne. same.reads d)

  -- a sync that succeeds: the pictures have what they had, and now each image is what is read
  pub synced : (Q : List ℕ → Type 0) (start mid new : View) {T : Type 0} (r : Result T Failed) → Within dev S Q start mid → IsDeviceCall r mid new → IsStill mid new → Syncs dev mid new
      → Within dev S Q start new × IsSettled dev new
  synced Q start mid new r so_far call same durable = (still Q start mid new r so_far call same, settles dev mid new same durable)

  -- what is read has the property of the images, where there is an image
  pub reads_have : {tells : Told} (Q : List ℕ → Type 0) (start now : View) → IsLawful tells now → Within dev S Q start now → (c : List ℕ) → now.may_leave dev c → Q (now.reads dev)
  reads_have Q start now lawful so_far c may = (so_far.own (now.reads dev) (read_too now lawful dev c may)).now

  -- another property of the images; that there is an image shows that the content is told
  pub weaker : (Q P : List ℕ → Type 0) (start now : View) → ((b c : List ℕ) → start.may_leave dev b → Q c → P c) → Within dev S Q start now → Within dev S P start now
  weaker Q P start now is so_far = wider dev S S Q P start now (λ b c may step has. (step, is b c may has)) so_far

  -- a write or a change of the length, from P to Q
  pub changes : (P Q : List ℕ → Type 0) (start mid new : View) {T : Type 0} (r : Result T Failed) (step : List ℕ → List ℕ → Type 0) → Within dev S P start mid → IsDeviceCall r mid new
      → Changes dev step mid new → ((b c : List ℕ) → P b → step b c → S b c × Q c) → ((c : List ℕ) → P c → Q c)
      → Within dev S Q start new
  changes P Q start mid new r step so_far call change to is =
      goes_on Q start mid new r (weaker P Q start mid (λ b c may p. is c p) so_far) call (λ c may.
      let from = change.own c may in
      let came = so_far.own from.0 from.1 in
      let stepped = to from.0 c came.now from.2 in
      record { image = came.image; was = came.was; step = steps.both came.image from.0 c came.step stepped.0; now = stepped.1 }) change.others change.others_read

  -- two calls in a row
  pub in_a_row : (Q : List ℕ → Type 0) (start mid new : View) → Within dev S Q start mid → Within dev S Q mid new → Within dev S Q start new
  in_a_row Q start mid new first second =
      let came : (c : List ℕ) → Came dev S Q mid c → Came dev S Q start c = λ c a.
      let b = first.own a.image a.was in
      record { image = b.image; was = b.was; step = steps.both b.image a.image c b.step a.step; now = a.now } in
      record {
        later = omega (arith, first.later, second.later);
        own = λ c may. came c (second.own c may);
        others = λ d c ne may. first.others d c ne (second.others d c ne may);
        others_read = λ d ne. second.others_read d ne ∙ first.others_read d ne;
        streams = second.streams ∙ first.streams;
        pictures = λ t p le left. ⊎_elim (first.pictures t p le) (λ a. inr (record {
          own = came (p.images dev) a.own;
          others = λ d ne. first.others d (p.images d) ne (a.others d ne);
          output = a.output ∙ ap (λ (s : Streams). s.output) first.streams;
        })) (second.pictures t p (omega (arith, le, first.later)) left);
      }
