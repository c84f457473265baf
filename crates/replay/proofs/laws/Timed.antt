-- An event, done or refused, and the numbers that an entry can be refused with.
use Rattle.std.specs.Prelude.{◌≡◌, ◌≢◌, eqb, true, [], ◌∷◌, refl}
use Rattle.std.proofs.Common.{sym, subst, ◌∙◌, eqb-true}
use Rattle.std.proofs.lemmas.Bool.{eqb-false}
use Rattle.basics.specs.laws.Logic.{holds, fails, tested}
use Rattle.lamp.specs.declared.DriverTicks.{DriverTicks}
use Rattle.refusals.specs.Refusals.{refuse, code_of}
use Rattle.refusals.specs.laws.Refusals.{NoneHolds, positive, positive_both}
use Rattle.bus.specs.Replies.{refused_with}
use Rattle.bus.specs.Events.{step_reply, step_refusals, step_done}
use Rattle.bus.proofs.Promises.{step_code, refused_same}
use Rattle.bus.proofs.laws.Steps.{done}
use Rattle.bus.proofs.laws.WellFormed.{step_positive}
use Rattle.bus.specs.declared.Bus.{Bus}
use Rattle.bus.specs.declared.Event.{Event}
use Rattle.bus.specs.declared.Reply.{Reply}
use Rattle.replay.specs.Time.{overruns_any, after_time}
use Rattle.replay.specs.Replay.{timed_refusals}

-- what holds of the reply where no number holds of an event, and of its refusal, holds of its reply
pub step_by : (b : Bus) (e : Event) (P : Reply → Type 0) → ((step_reply b e).code ≡ 0 → NoneHolds (step_refusals b e) → P (step_done b e)) → (((step_reply b e).code ≢ 0) → P (refused_with b (step_reply b e).code)) → P (step_reply b e)
step_by b e P p q =
    elim (tested (eqb (step_reply b e).code 0)) [
      | holds t ↦ let z = eqb-true _ 0 t in let d = done b e z in subst P (sym d.1) (p z d.0)
      | fails t ↦ let n = eqb-false _ 0 t in subst P (sym (refused_same b e n)) (q n)
    ]

-- an event that no number holds of is done
pub step_done_lem : (b : Bus) (e : Event) → code_of (step_refusals b e) ≡ 0 → step_reply b e ≡ step_done b e
step_done_lem b e z = (done b e (step_code b e ∙ z)).1

-- no number of an entry's refusals is 0
pub timed_positive : (ticks : DriverTicks) (b : Bus) (e : Event) → positive (timed_refusals ticks b e) ≡ true
timed_positive ticks b e =
    positive_both (step_refusals (after_time ticks b) e) (refuse 6 (overruns_any ticks b) ∷ []) (step_positive (after_time ticks b) e) refl
