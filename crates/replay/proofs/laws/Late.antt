-- Time and then an event, as one call does them: the event is judged once the time has passed, and both are done, or refused by the code of both.
use Rattle.std.specs.Prelude.{◌≡◌, ◌≢◌, ℕ, Bool, true, false, not, refl}
use Rattle.std.proofs.Common.{sym, ap, ◌∙◌}
use Rattle.lamp.specs.declared.DriverTicks.{DriverTicks}
use Rattle.refusals.specs.Refusals.{refuse, least, number_of, code_of}
use Rattle.refusals.specs.laws.Refusals.{least_none, refused_more}
use Rattle.bus.specs.Replies.{refused_with}
use Rattle.bus.specs.Events.{step_reply, step_refusals, step_done}
use Rattle.bus.proofs.Promises.{step_code}
use Rattle.bus.proofs.laws.Replies.{answered, turned_away}
use Rattle.bus.specs.declared.Bus.{Bus}
use Rattle.bus.specs.declared.Event.{Event}
use Rattle.bus.specs.declared.Reply.{Reply}
use Rattle.replay.specs.Time.{overruns_any, after_time}
use Rattle.replay.specs.Replay.{timed_refusals, timed_reply}
use Rattle.replay.proofs.laws.Timed.{step_done_lem}

not_not : (b : Bool) → not (not b) ≡ b
not_not true = refl
not_not false = refl

-- the event's reply once the time has passed, whether the time had room, and the code of both
module _ (ticks : DriverTicks) (b : Bus) (e : Event) (r : Reply) (is : r ≡ step_reply (after_time ticks b) e) (room : Bool) (has : room ≡ not (overruns_any ticks b)) (code : ℕ) (c : code ≡ least r.code (number_of (refuse 6 (not room)))) where
  own : r.code ≡ code_of (step_refusals (after_time ticks b) e)
  own = ap (λ (x : Reply). x.code) is ∙ step_code (after_time ticks b) e

  both : code ≡ code_of (timed_refusals ticks b e)
  both = refused_more (step_refusals (after_time ticks b) e) 6 (overruns_any ticks b) r.code code (not room) own (ap not has ∙ not_not (overruns_any ticks b)) c

  pub timed_done : code ≡ 0 → r ≡ timed_reply ticks b e
  unfolding timed_reply
  timed_done z =
      let none = least_none r.code (number_of (refuse 6 (not room))) (sym c ∙ z) in
      answered (timed_refusals ticks b e) b (step_done (after_time ticks b) e) r code both z (is ∙ step_done_lem (after_time ticks b) e (sym own ∙ none.0))

  pub timed_refused : (code ≢ 0) → refused_with b code ≡ timed_reply ticks b e
  unfolding timed_reply
  timed_refused n = turned_away (timed_refusals ticks b e) b (step_done (after_time ticks b) e) (refused_with b code) code both n refl
