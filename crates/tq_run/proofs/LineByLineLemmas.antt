-- A run, line by line.
use Rattle.std.proofs.Common.{◌≡◌, ◌≤◌, ℕ, ◌+◌, ◌-◌, List, [], ◌∷◌, ◌++◌, Some, refl, sym, ◌∙◌, ap, subst, arith, length, take, append_assoc, length-append}
use Rattle.std.specs.Prelude.{map, replicate}
use Rattle.std.proofs.lemmas.List.{append-nil, append_cancel_left, take-append-le}
use Rattle.tq_host.specs.View.{View, Stamp, Picture, Streams, Told, TellsAll, IsLawful, AreSettled, stamp_now}
use Rattle.tq_host.specs.Calls.{IsGiven, IsGiving, next_count}
use Rattle.tq_host.specs.Within.{Ran}
use Rattle.tq_host.proofs.RunLemmas.{ran_on, ran_start, ran_weaker, each}
use Rattle.tq_model.specs.declared.answer.Answer.{Answer}
use Rattle.tq_model.specs.declared.request.Request.{Request}
use Rattle.tq_model.specs.Site.{Site}
use Rattle.tq_model.specs.Text.{line_text}
use Rattle.tq_model.specs.Grammar.{script_lines, script_requests, line_request}
use Rattle.tq_model.specs.Reading.{site_found}
use Rattle.tq_model.specs.declared.request.Request.TheVariants.{Boot}
use Rattle.tq_model.specs.MachineWithFaults.{Condition, Failures, Turn, turn_at, found_at, HaveCondition}
use Rattle.tq_run.specs.declared.state.State.{State}
use Rattle.tq_run.specs.Input.{TakesOnly}
use Rattle.tq_run.specs.Output.{TellsMore}
use Rattle.tq_coord.specs.Images.{HasNoNewImage}
use Rattle.tq_run.specs.Stops.{IsWaiting, IsOfRun, IsCrashSafe}
use Rattle.tq_run.specs.Ending.{IsDone, trace_of}
use Rattle.tq_run.specs.Turns.{Origin, origin_of, none_failed, IsOfLines, GoesOn, IsAnswered, RunsOver, turn_between, trace_from, told_after}
use Rattle.tq_run.specs.Standing.{StateMatches, HasTurned, IsTurning, HasReached, HasRun, HasStarted}
use Rattle.tq_model.proofs.LineText.{length-line_text}
use Rattle.tq_coord.specs.Frame.{device_count}
use Rattle.tq_run.specs.Idle.{AreIdleLines, clock_at}
use Rattle.tq_coord.proofs.ImageLemmas.{same_found, read_stands}
use Rattle.tq_run.proofs.IdleLemmas.{idle_few, idle_next}
use Rattle.tq_run.proofs.LastLineLemmas.{clock_of}
use Rattle.tq_run.proofs.WholeLemmas.{whole_still, whole_next}
use Rattle.tq_run.proofs.TurnLemmas.{starts_answered, last_told, turn_told, still_answered, ran_more, of_answered_more, only_done, line_over, line_answered}
use Rattle.tq_run.proofs.RespondLemmas.{images_in, still_in}

module _ (o : Origin) (found : Site) (failed : Failures) (done : List Request) (r : Request) (state : State) (a b : View) (reached : HasReached o found failed done state a) where
  -- a line that came to no answer
  pub done_line : b.streams ≡ a.streams → IsTurning state r a b → RunsOver o found failed (done ++ r ∷ []) a b
  done_line streams turning =
      only_done reached.answered r (turn_between turning.failed a.reads reached.condition r) streams turning.failed turning.cause (turn_told reached.answered reached.some turning.failed r) (turning.within reached.condition reached.is)

  -- a line whose answer is given, or a part of it
  module _ (state' : State) (answer : Answer) (d : View) (streams : b.streams ≡ a.streams) (turned : HasTurned state state' r answer a b) (same : d.faults ≡ b.faults) (none : HasNoNewImage b d) where
    abbrev t : Turn
    t = turn_between turned.failed a.reads reached.condition r

    is_text : line_text (length done) answer ≡ line_text (length done) t.answer
    is_text = ap (line_text (length done)) (turned.answer reached.condition reached.is)

    told : turn_at turned.failed (found_at (trace_from o a.faults reached.answered.added) (length reached.answered.added)) reached.condition r ≡ t
    told = turn_told reached.answered reached.some turned.failed r

    is_in : StateMatches state' t.condition b
    is_in = turned.then reached.condition reached.is

    module _ (k : ℕ) (given : IsGiven k (line_text (length done) answer) b d) (gives : Ran (IsGiving (line_text (length done) answer) b d) b d) where
      given_text : IsGiven k (line_text (length done) t.answer) b d
      given_text = subst (λ (l : List ℕ). IsGiven k l b d) is_text given

      abbrev over : RunsOver o found failed (done ++ r ∷ []) a d
      over = line_over reached.answered r t streams turned.failed turned.cause told same given_text (turned.within reached.condition reached.is) (images_in state' t.condition b is_in) none
          (subst (λ (l : List ℕ). Ran (IsGiving l b d) b d) is_text gives)

      pub given_line : RunsOver o found failed (done ++ r ∷ []) a d
      given_line = over

      pub line_run : k ≡ length (line_text (length done) answer) → d.reads 0 ≡ b.reads 0 → d.clock ≡ next_count b.clock → HasRun o found failed (done ++ r ∷ []) state' a d
      line_run whole reads clock =
          let some : 1 ≤ k = omega (arith, whole, length-line_text (length done) answer) in
          let stamps : d.streams.stamps ≡ a.streams.stamps ++ replicate k (stamp_now b) = given.stamps ∙ ap (λ (s : Streams). s.stamps ++ replicate k (stamp_now b)) streams in
          let answered : IsAnswered o d found over.since (done ++ r ∷ []) t.condition
          = line_answered reached.answered r t streams turned.failed turned.cause told same given_text (whole ∙ ap (λ (l : List ℕ). length l) is_text) (same_found d.reads b.reads reads) in
          let bytes : reached.answered.added ++ replicate k (stamp_now b) ≡ answered.added
          = append_cancel_left o.stamps (reached.answered.added ++ replicate k (stamp_now b)) answered.added (sym over.stamps ∙ answered.stamps) in
          record {
            since = over.since;
            on = over.on;
            reached = record {
              condition = t.condition;
              answered = answered;
              is = still_in state' t.condition b d none is_in;
              some = omega (arith, length-append done (r ∷ []));
              idle = subst (λ (l : List Stamp). AreIdleLines o d.faults l over.since found (done ++ r ∷ [])) bytes (idle_next reached d k (stamp_now b) some stamps over.since over.on r (turned.idle reached.condition reached.is));
              whole = whole_next reached.answered reached.whole d k (stamp_now b) some stamps over.since over.on r answered;
              clock = λ long. clock ∙ ap next_count (sym (subst (λ (l : List Stamp). clock_at l (length l - 1) ≡ b.clock) bytes (last_told clock_of reached.answered.added k (stamp_now b) 0 some)));
            };
            ran = over.ran;
          }

pub tells_on : (a b c : View) → TellsMore a b → TellsMore b c → TellsMore a c
tells_on a b c first second = (first.0 ++ second.0, second.1 ∙ ap (λ (l : List Stamp). l ++ second.0) first.1 ∙ append_assoc a.streams.stamps first.0 second.0)

pub tells_none : (a b : View) → b.streams.stamps ≡ a.streams.stamps → TellsMore a b
tells_none a b same = ([], same ∙ sym (append-nil a.streams.stamps))

pub tells_given : (a b d : View) → b.streams ≡ a.streams → (k : ℕ) (bytes : List ℕ) → IsGiven k bytes b d → TellsMore a d
tells_given a b d streams k bytes given = tells_on a b d (tells_none a b (ap (λ (s : Streams). s.stamps) streams)) (_, given.stamps)

-- Parts in a row

pub on_none : (o : Origin) (v : View) (failed : Failures) → GoesOn o v failed failed
on_none o v failed at lt = refl

pub on_more : (o : Origin) (v w : View) (failed since later : Failures) → length v.streams.stamps ≤ length w.streams.stamps → GoesOn o v failed since → GoesOn o w since later → GoesOn o v failed later
on_more o v w failed since later le first second at lt = second at (omega (arith, lt, le)) ∙ first at lt

pub told_longer : (v w : View) → TellsMore v w → length v.streams.stamps ≤ length w.streams.stamps
told_longer v w more = omega (arith, ap (λ (l : List Stamp). length l) more.1, length-append v.streams.stamps more.0)

-- the same pictures, with lines behind these
pub of_front : (o : Origin) (now : View) (found : Site) (failed : Failures) (done rest : List Request) (p : Picture) → IsOfLines o now found failed done p → IsOfLines o now found failed (done ++ rest) p
of_front o now found failed done rest p is =
    let front : take is.lines (done ++ rest) ≡ take is.lines done = take-append-le is.lines done rest is.within in
    let less : take (is.lines - 1) (done ++ rest) ≡ take (is.lines - 1) done = take-append-le (is.lines - 1) done rest (omega (arith, is.within)) in
    record {
      added = is.added;
      stamps = is.stamps;
      lines = is.lines;
      within = omega (arith, is.within, length-append done rest);
      stand = subst (λ (l : List Request). HaveCondition device_count p.images (told_after o now.faults is.added failed found l).condition) (sym front) is.stand;
      given = is.given;
      gave = is.gave ∙ ap (λ (l : List Request). o.output ++ take is.given (told_after o now.faults is.added failed found l).text) (sym front);
      answered = subst (λ (l : List Request). length (told_after o now.faults is.added failed found l).text ≤ is.given) (sym less) is.answered;
    }

pub over_front : (o : Origin) (found : Site) (failed : Failures) (done rest : List Request) (old new : View) → RunsOver o found failed done old new → RunsOver o found failed (done ++ rest) old new
over_front o found failed done rest old new over = record {
  since = over.since;
  on = over.on;
  added = over.added;
  stamps = over.stamps;
  failures = over.failures;
  ran = ran_weaker (IsOfLines o new found over.since done) (IsOfLines o new found over.since (done ++ rest)) old new (of_front o new found over.since done rest) over.ran;
}

-- what is answered, and the pictures up to then
pub over_run : (o : Origin) (found : Site) (failed : Failures) (done : List Request) (state : State) (old new : View) → HasRun o found failed done state old new → RunsOver o found failed done old new
over_run o found failed done state old new run = record {
  since = run.since;
  on = run.on;
  added = run.reached.answered.added;
  stamps = run.reached.answered.stamps;
  failures = run.reached.answered.failures;
  ran = run.ran;
}

-- a part whose end is reached, and one that begins there
module _ (o : Origin) (found : Site) (failed : Failures) (done more : List Request) (state : State) (old mid new : View) (run : HasRun o found failed done state old mid) (told : TellsMore mid new) (earlier : TellsMore old mid) where
  in_a_row : (since : Failures) → GoesOn o mid run.since since → Ran (IsOfLines o new found since (done ++ more)) mid new → Ran (IsOfLines o new found since (done ++ more)) old new
  in_a_row since on ran = ran_on (IsOfLines o new found since (done ++ more)) old mid new (ran_more run.reached.answered new told.0 told.1 since on more old run.ran) ran

  goes_on : (since : Failures) → GoesOn o mid run.since since → GoesOn o old failed since
  goes_on since on = on_more o old mid failed run.since since (told_longer old mid earlier) run.on on

  pub then_over : RunsOver o found run.since (done ++ more) mid new → RunsOver o found failed (done ++ more) old new
  then_over over = record {
    since = over.since;
    on = goes_on over.since over.on;
    added = over.added;
    stamps = over.stamps;
    failures = over.failures;
    ran = in_a_row over.since over.on over.ran;
  }

  pub then_run : (state' : State) → HasRun o found run.since (done ++ more) state' mid new → HasRun o found failed (done ++ more) state' old new
  then_run state' next = record {
    since = next.since;
    on = goes_on next.since next.on;
    reached = next.reached;
    ran = in_a_row next.since next.on next.ran;
  }

-- the first line, where nothing was pending when it began
pub run_started : (a b : View) (found : Site) (state : State) → AreSettled device_count a → HasStarted found state a b → HasRun (origin_of a) found none_failed (Boot ∷ []) state a b
run_started a b found state settled started = record {
  since = started.failed;
  on = λ at lt. absurd (omega (arith, lt));
  reached = started.reached;
  ran = started.ran settled;
}

-- where nothing was done at all
pub over_waiting : (o : Origin) (found : Site) (failed : Failures) (done rest : List Request) (state : State) (a : View) → HasReached o found failed done state a → RunsOver o found failed (done ++ rest) a a
over_waiting o found failed done rest state a reached = record {
  since = failed;
  on = on_none o a failed;
  added = reached.answered.added;
  stamps = reached.answered.stamps;
  failures = reached.answered.failures;
  ran = ran_start (IsOfLines o a found failed (done ++ rest)) a;
}

-- Lines of a script

pub requests_first : (rest line behind : List ℕ) → script_lines rest ≡ line ∷ script_lines behind → script_requests rest ≡ line_request line ∷ script_requests behind
requests_first rest line behind e = ap (λ (ls : List (List ℕ)). map line_request ls) e

-- So far are the lines: those behind `first` that are done, with those of the rest, are all of them.
pub record IsSoFar (o : Origin) (found : Site) (failed : Failures) (first : Request) (all rest : List Request) (number : ℕ) (state : State) (start now : View) : Type 0 where
  pub done : List Request
  pub joined : done ++ rest ≡ all
  pub count : number ≡ length (first ∷ done)
  pub run : HasRun o found failed (first ∷ done) state start now

pub so_far_first : (o : Origin) (found : Site) (failed : Failures) (first : Request) (all : List Request) (state : State) (start : View) → HasReached o found failed (first ∷ []) state start → IsSoFar o found failed first all all 1 state start start
so_far_first o found failed first all state start reached = record {
  done = [];
  joined = refl;
  count = refl;
  run = record { since = failed; on = on_none o start failed; reached = reached; ran = ran_start (IsOfLines o start found failed (first ∷ [])) start };
}

module _ (o : Origin) (found : Site) (failed : Failures) (first : Request) (all rest behind : List Request) (r : Request) (number : ℕ) (state : State) (start mid new : View)
    (so_far : IsSoFar o found failed first all rest number state start mid) (split : rest ≡ r ∷ behind) (more : TellsMore mid new) (earlier : TellsMore start mid) where
  all_of : (so_far.done ++ r ∷ []) ++ behind ≡ all
  all_of = append_assoc so_far.done (r ∷ []) behind ∙ ap (λ (l : List Request). so_far.done ++ l) (sym split) ∙ so_far.joined

  pub so_far_next : (state' : State) → HasRun o found so_far.run.since ((first ∷ so_far.done) ++ r ∷ []) state' mid new → IsSoFar o found failed first all behind (number + 1) state' start new
  so_far_next state' next = record {
    done = so_far.done ++ r ∷ [];
    joined = all_of;
    count = omega (arith, so_far.count, length-append so_far.done (r ∷ []));
    run = then_run o found failed (first ∷ so_far.done) (r ∷ []) state start mid new so_far.run more earlier state' next;
  }

  -- where that line ends the run
  pub ends_here : RunsOver o found so_far.run.since ((first ∷ so_far.done) ++ r ∷ []) mid new → RunsOver o found failed (first ∷ all) start new
  ends_here over =
      subst (λ (l : List Request). RunsOver o found failed (first ∷ l) start new) all_of
      (over_front o found failed (first ∷ (so_far.done ++ r ∷ [])) behind start new (then_over o found failed (first ∷ so_far.done) (r ∷ []) state start mid new so_far.run more earlier over))

-- at the end of the lines
pub all_run : (o : Origin) (found : Site) (failed : Failures) (first : Request) (all : List Request) (number : ℕ) (state : State) (start now : View) → IsSoFar o found failed first all [] number state start now → HasRun o found failed (first ∷ all) state start now
all_run o found failed first all number state start now so_far = subst (λ (l : List Request). HasRun o found failed (first ∷ l) state start now) (sym (append-nil so_far.done) ∙ so_far.joined) so_far.run

-- While the script is read

module _ (o : Origin) (found : Site) (failed : Failures) (first : Request) (state : State) (a b : View) (reached : HasReached o found failed (first ∷ []) state a)
    (none : HasNoNewImage a b) (still : TakesOnly a b) (faults : b.faults ≡ a.faults) (waits : Ran (IsWaiting a) a b) where
  -- the first line, with a part in which nothing is done behind it
  pub waiting_run : HasRun o found failed (first ∷ []) state a b
  waiting_run =
      let answered = still_answered reached.answered b still.output still.stamps faults (same_found b.reads a.reads (still.reads 0)) in
      record {
        since = failed;
        on = on_none o a failed;
        reached = record {
          condition = reached.condition;
          answered = answered;
          is = still_in state reached.condition a b none reached.is;
          some = omega arith;
          idle = idle_few o b.faults _ failed found (first ∷ []) (omega arith);
          whole = whole_still reached.answered answered still.stamps faults reached.whole;
          clock = λ long. absurd (omega (arith, long));
        };
        ran = ran_weaker (IsWaiting a) (IsOfLines o b found failed (first ∷ [])) a b
            (λ p w. of_answered_more reached.answered b [] (still.stamps ∙ sym (append-nil a.streams.stamps)) failed (on_none o a failed) [] p (images_in state reached.condition a reached.is p.images w.images) w.output) waits;
      }

  -- and then its lines are answered
  module _ (d : View) (more : TellsMore b d) (requests : List Request) where
    pub read_over : ((since : Failures) → HasReached o found since (first ∷ []) state b → RunsOver o found since (first ∷ requests) b d) → RunsOver o found failed (first ∷ requests) a d
    read_over over = then_over o found failed (first ∷ []) requests state a b d waiting_run more (tells_none a b still.stamps) (over waiting_run.since waiting_run.reached)

    pub read_run : (state' : State) → ((since : Failures) → HasReached o found since (first ∷ []) state b → HasRun o found since (first ∷ requests) state' b d) → HasRun o found failed (first ∷ requests) state' a d
    read_run state' run = then_run o found failed (first ∷ []) requests state a b d waiting_run more (tells_none a b still.stamps) state' (run waiting_run.since waiting_run.reached)

-- The whole run

pub is_done : {tells : Told} (start now : View) (found : Site) (failed : Failures) (state : State) → IsLawful tells now → TellsAll tells → now.streams.script ≡ [] → HasReached (origin_of start) found failed (Boot ∷ script_requests start.streams.script) state now
    → IsDone start now found
is_done start now found failed state lawful t left reached = record {
  added = reached.answered.added;
  stamps = reached.answered.stamps;
  failed = failed;
  failures = reached.answered.failures;
  script = left;
  output = reached.answered.output;
  devices = subst (λ (c : Condition). HaveCondition device_count now.reads c) (sym reached.answered.condition) (images_in state reached.condition now reached.is now.reads (lawful.reads_an_image t.stops));
  idle = reached.idle;
  whole = reached.whole;
  clock = reached.clock;
}

module _ {tells : Told} {start now : View} (lawful : IsLawful tells start) (found : Site) (settled : AreSettled device_count start) (is : site_found device_count start.reads ≡ Some found)
    (over : RunsOver (origin_of start) found none_failed (Boot ∷ script_requests start.streams.script) start now) where
  abbrev requests : List Request
  requests = Boot ∷ script_requests start.streams.script

  of_run : (p : Picture) → IsOfLines (origin_of start) now found over.since (Boot ∷ script_requests start.streams.script) p → IsOfRun start (trace_of start now over.added) over.since found p
  of_run p of =
      let same : of.added ≡ over.added = append_cancel_left start.streams.stamps of.added over.added (sym of.stamps ∙ over.stamps) in
      subst (λ (l : List Stamp). IsOfRun start (trace_of start now l) over.since found p) same
      (record { lines = of.lines; within = omega (arith, of.within); stand = of.stand; given = of.given; gave = of.gave; answered = of.answered })

  -- the pictures of a whole run
  pub is_safe : IsCrashSafe start now found
  is_safe = record {
    added = over.added;
    stamps = over.stamps;
    failed = over.since;
    failures = over.failures;
    pictures = λ p left. of_run p (each (IsOfLines (origin_of start) now found over.since requests) start now lawful over.ran
        (λ q moment. of_answered_more (starts_answered start found) now over.added over.stamps over.since over.on requests q (read_stands start.reads q.images found is (settled 0 (omega arith) (q.images 0) (moment.images 0))) moment.output) p left);
  }
