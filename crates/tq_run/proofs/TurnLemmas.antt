-- The lines of a run, one after another, by what the host tells.
use Rattle.std.proofs.Common.{◌≡◌, ◌⊎◌, inl, inr, ⊎_elim, ◌<◌, ◌≤◌, ℕ, zero, suc, ◌+◌, ◌-◌, List, [], ◌∷◌, ◌++◌, Option, Bool, true, refl, sym, ◌∙◌, ap, subst, arith, length, take, get_or, append_assoc, length-append}
use Rattle.std.specs.Prelude.{map, replicate}
use Rattle.std.proofs.lemmas.List.{append-nil, append_cancel_left, take_all, take_at, take-append-le, length-replicate}
use Rattle.tq_host.specs.View.{View, Stamp, Picture, Streams, Images, AreNow, stamp_now}
use Rattle.tq_host.specs.Calls.{HasCauseOf, IsGiven, IsGiving}
use Rattle.tq_host.specs.Within.{WithinAll, Ran}
use Rattle.tq_host.proofs.RunLemmas.{ran_on, ran_weaker}
use Rattle.tq_model.specs.declared.request.Request.{Request}
use Rattle.tq_model.specs.Site.{Site}
use Rattle.tq_model.specs.Text.{line_text}
use Rattle.tq_model.specs.Reading.{site_found}
use Rattle.tq_model.specs.MachineWithFaults.{Condition, Up, Down, Trace, Failures, Turn, Progress, count_before, count_at, found_at, turn, advance, after, beginning, HaveCondition, turn_at}
use Rattle.tq_model.proofs.LineText.{length-line_text}
use Rattle.tq_run.specs.Failures.{AreFailures}
use Rattle.tq_coord.specs.Images.{HasNoNewImage}
use Rattle.tq_coord.specs.Frame.{device_count}
use Rattle.tq_run.specs.Turns.{AreInCondition, AreBeforeOrAfter, Origin, origin_of, none_failed, GoesOn, IsAnswered, IsOfLines, RunsOver, turn_between, trace_from, told_after}
use Rattle.tq_run.proofs.PictureLemmas.{ran_all}
use Rattle.tq_run.proofs.FailureAccountLemmas.{faults_of, next_choice, before_next, at_next, failures_next, get_or_told, get_or_next, count_last, count_same, none_failing}

abbrev reads_of : Stamp → Images
reads_of s = s.reads

-- Turns

-- the turn of a request, by whether a device failed and by what was read
pub turn_is : (trace : Trace) (failed : Failures) (at : ℕ) (c : Condition) (r : Request) → turn trace failed at c r ≡ turn_at (failed at) (found_at trace at) c r
turn_is trace failed at (Up s) r = refl
turn_is trace failed at (Down sites) r = refl

-- how far a run is after one more turn
abbrev told_turn : List ℕ → ℕ → Turn → Progress
told_turn text n t = record { condition = t.condition; text = text ++ line_text n t.answer; line = n + 1 }

module _ (trace : Trace) (failed : Failures) where
  pub after-append : (done more : List Request) (p : Progress) → after trace failed p (done ++ more) ≡ after trace failed (after trace failed p done) more
  after-append [] more p = refl
  after-append (first ∷ done) more p = after-append done more (advance trace failed p first)

  pub line-after : (done : List Request) (p : Progress) → (after trace failed p done).line ≡ p.line + length done
  line-after [] p = omega arith
  line-after (first ∷ done) p = omega (arith, line-after done (advance trace failed p first))

  -- the text only grows
  pub text_grows : (done : List Request) (p : Progress) → length p.text ≤ length (after trace failed p done).text
  text_grows [] p = omega arith
  text_grows (first ∷ done) p =
      let t = turn trace failed (length p.text) p.condition first in
      omega (arith, text_grows done (advance trace failed p first), length-append p.text (line_text p.line t.answer))

  pub text-take : (k : ℕ) (done : List Request) (p : Progress) → length (after trace failed p (take k done)).text ≤ length (after trace failed p done).text
  text-take zero done p = text_grows done p
  text-take (suc k) [] p = omega arith
  text-take (suc k) (first ∷ done) p = text-take k done (advance trace failed p first)

  -- and each turn adds to it
  text_more : (p : Progress) (first : Request) (done : List Request) → length p.text < length (after trace failed (advance trace failed p first) done).text
  text_more p first done =
      let t = turn trace failed (length p.text) p.condition first in
      omega (arith, text_grows done (advance trace failed p first), length-append p.text (line_text p.line t.answer), length-line_text p.line t.answer)

-- More stamps

pub get_or-map-replicate : {A : Type 0} (f : Stamp → A) (n i : ℕ) (s : Stamp) (d : A) → i < n → get_or (map f (replicate n s)) i d ≡ f s
get_or-map-replicate f zero i s d lt = absurd (omega arith)
get_or-map-replicate f (suc n) zero s d lt = refl
get_or-map-replicate f (suc n) (suc i) s d lt = get_or-map-replicate f n i s d (omega arith)

-- the last of several stamps that are the same
pub last_told : {A : Type 0} (f : Stamp → A) (xs : List Stamp) (n : ℕ) (s : Stamp) (d : A) → 1 ≤ n → get_or (map f (xs ++ replicate n s)) (length (xs ++ replicate n s) - 1) d ≡ f s
last_told f xs n s d some =
    let at : length (xs ++ replicate n s) - 1 ≡ length xs + (n - 1) = omega (arith, length-append xs (replicate n s), length-replicate n s) in
    ap (λ i. get_or (map f (xs ++ replicate n s)) i d) at ∙ get_or_next f xs (replicate n s) (n - 1) d ∙ get_or-map-replicate f n (n - 1) s d (omega arith)

-- What is told later does not change the lines that are answered.
module _ (o : Origin) (before now : ℕ) (added more : List Stamp) where
  found_same : (at : ℕ) → at - 1 < length added → found_at (trace_from o now (added ++ more)) at ≡ found_at (trace_from o before added) at
  found_same at lt = ap (site_found device_count) (get_or_told reads_of added more (at - 1) (λ d. []) (λ d. []) lt)

  module _ (failed since : Failures) (agree : (at : ℕ) → at < length added → since at ≡ failed at) where
    turn_same : (at : ℕ) (c : Condition) (r : Request) → at < length added → turn (trace_from o now (added ++ more)) since at c r ≡ turn (trace_from o before added) failed at c r
    turn_same at c r lt =
        turn_is (trace_from o now (added ++ more)) since at c r
        ∙ ap (λ (b : Bool). turn_at b (found_at (trace_from o now (added ++ more)) at) c r) (agree at lt)
        ∙ ap (λ (f : Option Site). turn_at (failed at) f c r) (found_same at (omega arith))
        ∙ sym (turn_is (trace_from o before added) failed at c r)

    after_same : (done : List Request) (p : Progress) → length (after (trace_from o before added) failed p done).text ≤ length added → after (trace_from o now (added ++ more)) since p done ≡ after (trace_from o before added) failed p done
    after_same [] p le = refl
    after_same (first ∷ done) p le =
        ap (λ (t : Turn). after (trace_from o now (added ++ more)) since (told_turn p.text p.line t) done) (turn_same (length p.text) p.condition first (omega (arith, le, text_more (trace_from o before added) failed p first done)))
        ∙ after_same done (advance (trace_from o before added) failed p first) le

    pub told_same : (found : Site) (done : List Request) → length (told_after o before added failed found done).text ≤ length added → told_after o now (added ++ more) since found done ≡ told_after o before added failed found done
    told_same found done le = after_same done (beginning found) le

module _ (o : Origin) (now : ℕ) (added : List Stamp) (failed : Failures) (found : Site) where
  pub told-append : (done : List Request) (r : Request) → told_after o now added failed found (done ++ r ∷ []) ≡ advance (trace_from o now added) failed (told_after o now added failed found done) r
  told-append done r = after-append (trace_from o now added) failed done (r ∷ []) (beginning found)

  -- the text of a line and of those behind it
  pub text_ahead : (front rest : List Request) (r : Request) → length (told_after o now added failed found front).text < length (told_after o now added failed found (front ++ r ∷ rest)).text
  text_ahead front rest r =
      let p = told_after o now added failed found front in
      omega (arith, ap (λ (q : Progress). length q.text) (after-append (trace_from o now added) failed front (r ∷ rest) (beginning found)), text_more (trace_from o now added) failed p r rest)

  pub told_line : (done : List Request) → (told_after o now added failed found done).line ≡ length done
  told_line done = omega (arith, line-after (trace_from o now added) failed done (beginning found))

  -- where the text is empty, no line is answered
  told_nothing : (done : List Request) → length (told_after o now added failed found done).text ≡ 0 → (told_after o now added failed found done).condition ≡ Up found
  told_nothing [] e = refl
  told_nothing (first ∷ done) e = absurd (omega (arith, e, text_more (trace_from o now added) failed (beginning found) first done))

  pub told_some : (done : List Request) → 1 ≤ length done → 1 ≤ length (told_after o now added failed found done).text
  told_some [] some = absurd (omega arith)
  told_some (first ∷ done) some = omega (arith, text_more (trace_from o now added) failed (beginning found) first done)

-- The start of a run

pub starts_answered : (a : View) (found : Site) → IsAnswered (origin_of a) a found none_failed [] (Up found)
starts_answered a found = record {
  added = [];
  stamps = sym (append-nil a.streams.stamps);
  failures = none_failing (origin_of a) a.faults refl;
  condition = refl;
  output = sym (append-nil a.streams.output);
  long = refl;
  count = refl;
  stood = λ le. absurd (omega arith);
}

-- Lines that are answered

one_or_none : (n : ℕ) → (1 ≤ n) ⊎ (n ≡ 0)
one_or_none zero = inr refl
one_or_none (suc n) = inl (omega arith)

take_behind : (xs ys : List ℕ) (k : ℕ) → take (length xs + k) (xs ++ ys) ≡ xs ++ take k ys
take_behind [] ys k = ap (λ i. take i ys) (let e : 0 + k ≡ k = omega arith in e)
take_behind (x ∷ xs) ys k = ap (λ i. take i (x ∷ (xs ++ ys))) (let e : suc (length xs) + k ≡ suc (length xs + k) = omega arith in e) ∙ ap (λ (l : List ℕ). x ∷ l) (take_behind xs ys k)

-- what was told of a run stays told
pub more_stamps : (o : Origin) (mid new : View) (added more : List Stamp) → mid.streams.stamps ≡ o.stamps ++ added → new.streams.stamps ≡ mid.streams.stamps ++ more → new.streams.stamps ≡ o.stamps ++ (added ++ more)
more_stamps o mid new added more first second = second ∙ ap (λ (l : List Stamp). l ++ more) first ∙ append_assoc o.stamps added more

-- of steps before these bytes both say the same
agree_below : (o : Origin) (v : View) (added : List Stamp) (failed since : Failures) → v.streams.stamps ≡ o.stamps ++ added → GoesOn o v failed since → (at : ℕ) → at < length added → since at ≡ failed at
agree_below o v added failed since is on at lt = on at (omega (arith, lt, ap (λ (l : List Stamp). length l) is, length-append o.stamps added))

module _ {o : Origin} {found : Site} {failed : Failures} {done : List Request} {c : Condition} {mid : View} (answered : IsAnswered o mid found failed done c) where
  abbrev told : Progress
  told = told_after o mid.faults answered.added failed found done

  abbrev text : List ℕ
  text = (told_after o mid.faults answered.added failed found done).text

  -- a step that gives nothing and after which the device stands for the same site
  pub still_answered : (new : View) → new.streams.output ≡ mid.streams.output → new.streams.stamps ≡ mid.streams.stamps → new.faults ≡ mid.faults → site_found device_count new.reads ≡ site_found device_count mid.reads → IsAnswered o new found failed done c
  still_answered new output stamps faults reads = record {
    added = answered.added;
    stamps = stamps ∙ answered.stamps;
    failures = subst (λ n. AreFailures (trace_from o n answered.added) failed) (sym faults) answered.failures;
    condition = subst (λ n. (told_after o n answered.added failed found done).condition ≡ c) (sym faults) answered.condition;
    output = output ∙ subst (λ n. mid.streams.output ≡ o.output ++ (told_after o n answered.added failed found done).text) (sym faults) answered.output;
    long = subst (λ n. length answered.added ≡ length (told_after o n answered.added failed found done).text) (sym faults) answered.long;
    count = subst (λ n. count_before (trace_from o n answered.added) (length answered.added) ≡ n) (sym faults) answered.count;
    stood = λ le. answered.stood le ∙ sym reads;
  }

  -- the turn of the next request, by what the device reads now
  pub turn_told : 1 ≤ length done → (b : Bool) (r : Request) → turn_at b (found_at (trace_from o mid.faults answered.added) (length answered.added)) c r ≡ turn_between b mid.reads c r
  turn_told some b r = ap (λ (f : Option Site). turn_at b f c r) (answered.stood (omega (arith, answered.long, told_some o mid.faults answered.added failed found done some)))

  module _ (new : View) (more : List Stamp) (stamps : new.streams.stamps ≡ mid.streams.stamps ++ more) (since : Failures) (on : GoesOn o mid failed since) where
    agree : (at : ℕ) → at < length answered.added → since at ≡ failed at
    agree = agree_below o mid answered.added failed since answered.stamps on

    -- lines of these, by what is told later
    pub told_still : (part : List Request) → length (told_after o mid.faults answered.added failed found part).text ≤ length answered.added → told_after o new.faults (answered.added ++ more) since found part ≡ told_after o mid.faults answered.added failed found part
    told_still part le = told_same o mid.faults new.faults answered.added more failed since agree found part le

    pub told_all : told_after o new.faults (answered.added ++ more) since found done ≡ told_after o mid.faults answered.added failed found done
    told_all = told_still done (omega (arith, answered.long))

    -- a picture of these lines, with lines behind them
    pub of_more : (rest : List Request) (p : Picture) → IsOfLines o mid found failed done p → IsOfLines o new found since (done ++ rest) p
    of_more rest p is =
        let front : take is.lines (done ++ rest) ≡ take is.lines done = take-append-le is.lines done rest is.within in
        let less : take (is.lines - 1) (done ++ rest) ≡ take (is.lines - 1) done = take-append-le (is.lines - 1) done rest (omega (arith, is.within)) in
        let added : is.added ≡ answered.added = append_cancel_left o.stamps is.added answered.added (sym is.stamps ∙ answered.stamps) in
        let at : (k : ℕ) → take k (done ++ rest) ≡ take k done → told_after o mid.faults is.added failed found (take k done) ≡ told_after o new.faults (answered.added ++ more) since found (take k (done ++ rest)) = λ k e.
        ap (λ (l : List Stamp). told_after o mid.faults l failed found (take k done)) added
        ∙ sym (told_still (take k done) (omega (arith, answered.long, text-take (trace_from o mid.faults answered.added) failed k done (beginning found)))) ∙ ap (told_after o new.faults (answered.added ++ more) since found) (sym e) in
        record {
          added = answered.added ++ more;
          stamps = more_stamps o mid new answered.added more answered.stamps stamps;
          lines = is.lines;
          within = omega (arith, is.within, length-append done rest);
          stand = subst (λ (q : Progress). HaveCondition device_count p.images q.condition) (at is.lines front) is.stand;
          given = is.given;
          gave = is.gave ∙ ap (λ (q : Progress). o.output ++ take is.given q.text) (at is.lines front);
          answered = subst (λ (q : Progress). length q.text ≤ is.given) (at (is.lines - 1) less) is.answered;
        }

    pub ran_more : (rest : List Request) (from : View) → Ran (IsOfLines o mid found failed done) from mid → Ran (IsOfLines o new found since (done ++ rest)) from mid
    ran_more rest from ran = ran_weaker (IsOfLines o mid found failed done) (IsOfLines o new found since (done ++ rest)) from mid (of_more rest) ran

  -- a picture in which these lines are answered and nothing was done since
  pub of_answered : (p : Picture) → AreInCondition c p.images → p.output ≡ mid.streams.output → IsOfLines o mid found failed done p
  of_answered p stands output =
      let all : take (length done) done ≡ done = take_all (length done) done (omega arith) in
      let is : told_after o mid.faults answered.added failed found done ≡ told_after o mid.faults answered.added failed found (take (length done) done) = ap (told_after o mid.faults answered.added failed found) (sym all) in
      record {
        added = answered.added;
        stamps = answered.stamps;
        lines = length done;
        within = omega arith;
        stand = subst (λ (x : Condition). AreInCondition x p.images) (sym answered.condition ∙ ap (λ (q : Progress). q.condition) is) stands;
        given = length text;
        gave = output ∙ answered.output ∙ ap (λ (t : List ℕ). o.output ++ t) (sym (take_all (length text) text (omega arith)) ∙ ap (λ (q : Progress). take (length text) q.text) is);
        answered = text-take (trace_from o mid.faults answered.added) failed (length done - 1) done (beginning found);
      }

  -- as it is told later, with lines behind them
  pub of_answered_more : (new : View) (more : List Stamp) → new.streams.stamps ≡ mid.streams.stamps ++ more → (since : Failures) → GoesOn o mid failed since → (rest : List Request) (p : Picture) → AreInCondition c p.images → p.output ≡ mid.streams.output
      → IsOfLines o new found since (done ++ rest) p
  of_answered_more new more stamps since on rest p stands output = of_more new more stamps since on rest p (of_answered p stands output)

  -- One more line

  module _ (r : Request) (t : Turn) (new : View) (more : List Stamp) (stamps : new.streams.stamps ≡ mid.streams.stamps ++ more) (now : ℕ) (told_now : get_or (map faults_of more) 0 new.faults ≡ now)
      (b : Bool) (cause : HasCauseOf (b ≡ true) mid.faults now) (same : new.faults ≡ now)
      (is : turn_at b (found_at (trace_from o mid.faults answered.added) (length answered.added)) c r ≡ t) where
    abbrev trace : Trace
    trace = trace_from o new.faults (answered.added ++ more)

    -- the steps that failed, with this one
    abbrev pub since : Failures
    since = next_choice failed (length answered.added) b (trace_from o new.faults (answered.added ++ more))

    pub on : GoesOn o mid failed since
    on at lt = before_next failed (length answered.added) b trace at (omega (arith, lt, ap (λ (l : List Stamp). length l) answered.stamps, length-append o.stamps answered.added))

    before_now : count_before trace (length answered.added) ≡ mid.faults
    before_now = count_same o mid.faults new.faults answered.added more (length answered.added) (omega arith) ∙ answered.count

    at_now : count_at trace (length answered.added) ≡ now
    at_now = let end : length answered.added + 0 ≡ length answered.added = omega arith in ap (λ k. count_at trace k) (sym end) ∙ get_or_next faults_of answered.added more 0 new.faults ∙ told_now

    pub failures : AreFailures trace since
    failures = failures_next o mid.faults new.faults answered.added more failed answered.failures (omega (arith, cause.later, same)) b mid.faults now before_now at_now cause (omega (arith, same))

    -- before the first byte nothing was read, and the machine, which is up, does not look at it
    found_still : turn_at b (found_at trace (length answered.added)) c r ≡ turn_at b (found_at (trace_from o mid.faults answered.added) (length answered.added)) c r
    found_still = by_length (one_or_none (length answered.added))
      where
        free : (before after : Option Site) (d : Condition) → d ≡ Up found → turn_at b before d r ≡ turn_at b after d r
        free before after d e = subst (λ (x : Condition). turn_at b before x r ≡ turn_at b after x r) (sym e) refl

        by_length : (1 ≤ length answered.added) ⊎ (length answered.added ≡ 0) → turn_at b (found_at trace (length answered.added)) c r ≡ turn_at b (found_at (trace_from o mid.faults answered.added) (length answered.added)) c r
        by_length (inl some) = ap (λ (f : Option Site). turn_at b f c r) (found_same o mid.faults new.faults answered.added more (length answered.added) (omega arith))
        by_length (inr none) = free _ _ c (sym answered.condition ∙ told_nothing o mid.faults answered.added failed found done (omega (arith, none, answered.long)))

    turn_now : turn trace since (length text) c r ≡ t
    turn_now =
        ap (λ k. turn trace since k c r) (sym answered.long)
        ∙ turn_is trace since (length answered.added) c r
        ∙ ap (λ (x : Bool). turn_at x (found_at trace (length answered.added)) c r) (at_next failed (length answered.added) b trace)
        ∙ found_still
        ∙ is

    -- these lines and the next one, by what is told later
    pub told_next : told_after o new.faults (answered.added ++ more) since found (done ++ r ∷ []) ≡ told_turn text (length done) t
    told_next =
        told-append o new.faults (answered.added ++ more) since found done r
        ∙ ap (λ (q : Progress). advance trace since q r) (told_all new more stamps since on)
        ∙ ap (λ (x : Condition). told_turn text told.line (turn trace since (length text) x r)) answered.condition
        ∙ ap (told_turn text told.line) turn_now
        ∙ ap (λ k. told_turn text k t) (told_line o mid.faults answered.added failed found done)

    -- a picture in which the line is done and some first part of its answer is given
    pub of_next : (p : Picture) (count : ℕ) → AreInCondition t.condition p.images → p.output ≡ mid.streams.output ++ take count (line_text (length done) t.answer) → IsOfLines o new found since (done ++ r ∷ []) p
    of_next p count stands output =
        let line = line_text (length done) t.answer in
        let all : take (length (done ++ r ∷ [])) (done ++ r ∷ []) ≡ done ++ r ∷ [] = take_all (length (done ++ r ∷ [])) (done ++ r ∷ []) (omega arith) in
        let told_lines : told_turn text (length done) t ≡ told_after o new.faults (answered.added ++ more) since found (take (length (done ++ r ∷ [])) (done ++ r ∷ []))
        = sym told_next ∙ ap (told_after o new.faults (answered.added ++ more) since found) (sym all) in
        let one : length (done ++ r ∷ []) - 1 ≡ length done = omega (arith, length-append done (r ∷ [])) in
        let front : take (length (done ++ r ∷ []) - 1) (done ++ r ∷ []) ≡ done = take_at done (r ∷ []) (length (done ++ r ∷ []) - 1) (sym one) in
        let told_front : told_after o mid.faults answered.added failed found done ≡ told_after o new.faults (answered.added ++ more) since found (take (length (done ++ r ∷ []) - 1) (done ++ r ∷ []))
        = sym (told_all new more stamps since on) ∙ ap (told_after o new.faults (answered.added ++ more) since found) (sym front) in
        record {
          added = answered.added ++ more;
          stamps = more_stamps o mid new answered.added more answered.stamps stamps;
          lines = length (done ++ r ∷ []);
          within = omega arith;
          stand = subst (λ (q : Progress). HaveCondition device_count p.images q.condition) told_lines stands;
          given = length text + count;
          gave =
              output ∙ ap (λ (l : List ℕ). l ++ take count line) answered.output ∙ append_assoc o.output text (take count line)
              ∙ ap (λ (l : List ℕ). o.output ++ l) (sym (take_behind text line count) ∙ ap (λ (q : Progress). take (length text + count) q.text) told_lines);
          answered = subst (λ (q : Progress). length q.text ≤ length text + count) told_front (let le : length text ≤ length text + count = omega arith in le);
        }

    -- the pictures of the line's device part
    pub ran_only : (b : View) → WithinAll (AreBeforeOrAfter c t) mid b → Ran (IsOfLines o new found since (done ++ r ∷ [])) mid b
    ran_only b within = ran_all (IsOfLines o new found since (done ++ r ∷ [])) (AreBeforeOrAfter c t) mid b within (λ p call. ⊎_elim
        (λ before. of_answered_more new more stamps since on (r ∷ []) p before call.output)
        (λ after. of_next p 0 after (call.output ∙ sym (append-nil mid.streams.output))) call.images)

-- A line: its device part, and then its answer.
module _ {o : Origin} {found : Site} {failed : Failures} {done : List Request} {c : Condition} {a b : View} (answered : IsAnswered o a found failed done c) (r : Request) (t : Turn) (streams : b.streams ≡ a.streams)
    (fails : Bool) (cause : HasCauseOf (fails ≡ true) a.faults b.faults) (is : turn_at fails (found_at (trace_from o a.faults answered.added) (length answered.added)) c r ≡ t) where
  -- the line is done, and nothing of its answer is given
  pub only_done : WithinAll (AreBeforeOrAfter c t) a b → RunsOver o found failed (done ++ r ∷ []) a b
  only_done within =
      let stamps : b.streams.stamps ≡ a.streams.stamps ++ [] = ap (λ (s : Streams). s.stamps) streams ∙ sym (append-nil a.streams.stamps) in
      record {
        since = since answered r t b [] stamps b.faults refl fails cause refl is;
        on = on answered r t b [] stamps b.faults refl fails cause refl is;
        added = answered.added ++ [];
        stamps = more_stamps o a b answered.added [] answered.stamps stamps;
        failures = failures answered r t b [] stamps b.faults refl fails cause refl is;
        ran = ran_only answered r t b [] stamps b.faults refl fails cause refl is b within;
      }

  module _ {d : View} {k : ℕ} (same : d.faults ≡ b.faults) (given : IsGiven k (line_text (length done) t.answer) b d) where
    abbrev told_here : Stamp
    told_here = stamp_now b

    abbrev more : List Stamp
    more = replicate k told_here

    pub stamps : d.streams.stamps ≡ a.streams.stamps ++ more
    stamps = given.stamps ∙ ap (λ (s : Streams). s.stamps ++ more) streams

    pub first_told : (n : ℕ) → get_or (map faults_of (replicate n told_here)) 0 d.faults ≡ b.faults
    first_told zero = same
    first_told (suc n) = refl

    -- the steps that failed, with this line
    abbrev pub line_since : Failures
    line_since = next_choice failed (length answered.added) fails (trace_from o d.faults (answered.added ++ replicate k (stamp_now b)))

    pub line_stamps : d.streams.stamps ≡ o.stamps ++ (answered.added ++ more)
    line_stamps = more_stamps o a d answered.added more answered.stamps stamps

    pub line_failures : AreFailures (trace_from o d.faults (answered.added ++ more)) line_since
    line_failures = failures answered r t d more stamps b.faults (first_told k) fails cause same is

    -- the pictures of the whole line
    pub line_pictures : WithinAll (AreBeforeOrAfter c t) a b
        → ((images : Images) → AreNow b images → AreInCondition t.condition images)
        → HasNoNewImage b d
        → Ran (IsGiving (line_text (length done) t.answer) b d) b d
        → Ran (IsOfLines o d found line_since (done ++ r ∷ [])) a d
    line_pictures within stands none gives =
        ran_on (IsOfLines o d found line_since (done ++ r ∷ [])) a b d (ran_only answered r t d more stamps b.faults (first_told k) fails cause same is b within)
        (ran_weaker (IsGiving (line_text (length done) t.answer) b d) (IsOfLines o d found line_since (done ++ r ∷ [])) b d (λ p giving.
        of_next answered r t d more stamps b.faults (first_told k) fails cause same is p giving.count (stands p.images (λ dev. none dev (p.images dev) (giving.images dev)))
        (giving.output ∙ ap (λ (s : Streams). s.output ++ take giving.count (line_text (length done) t.answer)) streams)) gives)

    abbrev pub line_over : WithinAll (AreBeforeOrAfter c t) a b
        → ((images : Images) → AreNow b images → AreInCondition t.condition images)
        → HasNoNewImage b d
        → Ran (IsGiving (line_text (length done) t.answer) b d) b d
        → RunsOver o found failed (done ++ r ∷ []) a d
    line_over within stands none gives = record {
      since = line_since;
      on = on answered r t d more stamps b.faults (first_told k) fails cause same is;
      added = answered.added ++ more;
      stamps = line_stamps;
      failures = line_failures;
      ran = line_pictures within stands none gives;
    }

    -- the whole answer is given
    pub line_answered : k ≡ length (line_text (length done) t.answer) → site_found device_count d.reads ≡ site_found device_count b.reads → IsAnswered o d found line_since (done ++ r ∷ []) t.condition
    line_answered whole reads =
        let line = line_text (length done) t.answer in
        let text = (told_after o a.faults answered.added failed found done).text in
        let some : 1 ≤ k = omega (arith, whole, length-line_text (length done) t.answer) in
        let next = told_next answered r t d more stamps b.faults (first_told k) fails cause same is in
        record {
          added = answered.added ++ more;
          stamps = line_stamps;
          failures = line_failures;
          condition = ap (λ (q : Progress). q.condition) next;
          output =
              given.output
              ∙ ap (λ (l : List ℕ). b.streams.output ++ l) (take_all k line (omega (arith, whole)))
              ∙ ap (λ (s : Streams). s.output ++ line) streams
              ∙ ap (λ (l : List ℕ). l ++ line) answered.output
              ∙ append_assoc o.output text line
              ∙ ap (λ (q : Progress). o.output ++ q.text) (sym next);
          long = omega (
            arith,
            answered.long,
            length-append answered.added more,
            length-replicate k told_here,
            whole,
            length-append text line,
            ap (λ (q : Progress). length q.text) next,
          );
          count = count_last (trace_from o d.faults (answered.added ++ more)) (length (answered.added ++ more)) (omega (arith, some, length-append answered.added more, length-replicate k told_here))
              ∙ last_told faults_of answered.added k told_here d.faults some ∙ sym same;
          stood = λ le. ap (site_found device_count) (last_told reads_of answered.added k told_here (λ dev. []) some) ∙ sym reads;
        }
