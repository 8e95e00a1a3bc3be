-- The calls that words make, or the first reason against them.
use Rattle.std.specs.Prelude.{ℕ, nat_lt, false, if◌then◌else◌, length, Result, Ok, Err, None}
use Rattle.tq_types.specs.declared.messages.AskedQos.TheVariants as asked
use Rattle.tq_model.specs.declared.calls.Place.TheVariants.{Plain}
use Rattle.tq_model.specs.declared.calls.EnqueueWords.{EnqueueWords}
use Rattle.tq_model.specs.declared.calls.EnqueueCall.{EnqueueCall}
use Rattle.tq_model.specs.declared.calls.DequeueWords.{DequeueWords}
use Rattle.tq_model.specs.declared.calls.DequeueCall.{DequeueCall}
use Rattle.tq_model.specs.declared.calls.CallRefusal.{CallRefusal}
use Rattle.tq_model.specs.declared.calls.CallRefusal.TheVariants.{TooLarge}
use Rattle.tq_model.specs.CallFlags.{wants_id}
use Rattle.tq_model.specs.SpaceForm.{longest_body}

-- what words without flags of placement, time and quality ask for at this clock
abbrev pub enqueue_call : EnqueueWords → ℕ → EnqueueCall
enqueue_call w clock =
    record {
      space = w.space;
      queue = w.queue;
      notran = false;
      want_id = wants_id w.flags;
      place = Plain;
      priority = 50;
      available = clock;
      expiration = None;
      corr = None;
      replyq = None;
      failq = None;
      qos = asked.Default;
      reply_qos = asked.Default;
      body = w.body;
    }

abbrev pub enqueue_checked : EnqueueWords → ℕ → Result EnqueueCall CallRefusal
enqueue_checked w clock = if nat_lt longest_body (length w.body) then Err (TooLarge (length w.body)) else Ok (enqueue_call w clock)

-- what words without flags of choice and peek ask for
abbrev pub dequeue_call : DequeueWords → DequeueCall
dequeue_call w = record { space = w.space; queue = w.queue; notran = false; peek = false; id = None; corr = None; asked = w.flags }

abbrev pub dequeue_checked : DequeueWords → Result DequeueCall CallRefusal
dequeue_checked w = Ok (dequeue_call w)
