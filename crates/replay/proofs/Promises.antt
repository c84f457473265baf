-- Promises on a replay, for any bus, clock and entry: the code is the least number whose condition holds, and only 6 depends on the time; a refused entry changes nothing;
-- an accepted one is the waits of its time and its event by hand; no entry changes whether a bus is well formed.
use Rattle.std.specs.Prelude.{Option, Some, None, ◌≡◌, ℕ, ◌-◌, ◌%◌, ◌^◌, ◌<◌, ◌≤◌, true, List, [], ◌∷◌, ◌==◌, ◌≢◌, refl}
use Rattle.std.proofs.Common.{sym, ap, ◌∙◌, arith, le_refl, eqb-true, eq-eqb, ne_eqb}
use Rattle.std.proofs.Math.Bool.{or-false}
use Rattle.std.proofs.lemmas.Bool.{eqb-false}
use Rattle.basics.specs.laws.Logic.{holds, fails, tested}
use Rattle.lamp.specs.declared.DriverTicks.{DriverTicks}
use Rattle.refusals.specs.Refusals.{refuse, holds_at}
use Rattle.refusals.specs.laws.Refusals.{NoneHolds, none_code, none_both, holds_both, Exact}
use Rattle.bus.specs.Devices.{bus_ok, empty_bus}
use Rattle.bus.specs.Replies.{refused_with}
use Rattle.bus.specs.Events.{step_reply, step_refusals, step_done, run_bus, run_replies}
use Rattle.bus.proofs.Promises.{step_code, empty_well}
use Rattle.bus.proofs.laws.Replies.{answer_bus, answer_exact, answer_done, answer_refused}
use Rattle.bus.proofs.laws.Runs.{run_both}
use Rattle.bus.proofs.laws.Steps.{done}
use Rattle.bus.proofs.laws.WellFormed.{done_shape, done_code}
use Rattle.bus.specs.declared.Bus.{Bus}
use Rattle.bus.specs.declared.Event.{Event}
use Rattle.bus.specs.declared.Reply.{Reply}
use Rattle.replay.specs.Time.{Clock, between, since, overruns_any, after_time}
use Rattle.replay.specs.Replay.{stamped, timed_refusals, timed_reply, replayed, replay_replies, replay_bus}
use Rattle.replay.specs.ByHand.{waits_below, by_hand, all_by_hand, flat, AllAccepted, last_value, last_values, accepted_values}
use Rattle.replay.proofs.laws.Alike.{time_shape, event_alike}
use Rattle.replay.proofs.laws.Timed.{step_done_lem, timed_positive}
use Rattle.replay.proofs.laws.Waits.{accepted_both, last_value_lem, waits_run, waits_accepted}
use Rattle.replay.specs.declared.Entry.{Entry}
use Rattle.replay.specs.declared.Replayed.{Replayed}

-- ---- the time between two stamps

-- of any two tick counts less than 2^32 apart, from their stamps
pub elapsed_true : (a b : ℕ) → a ≤ b → b - a < 2 ^ 32 → between (b % 2 ^ 32) (a % 2 ^ 32) ≡ b - a
unfolding between
elapsed_true a b h k = omega arith

-- ---- the code

module _ (ticks : DriverTicks) (b : Bus) (e : Event) where
  -- the least number whose condition holds
  pub timed_exact : Exact (timed_refusals ticks b e) (timed_reply ticks b e).code
  unfolding timed_reply
  timed_exact = answer_exact (timed_refusals ticks b e) b _ (done_code (after_time ticks b) e)

  -- and of the conditions only that of 6 depends on the time
  pub others_untimed : (k : ℕ) → (k ≢ 6) → holds_at (timed_refusals ticks b e) k ≡ holds_at (step_refusals b e) k
  others_untimed k other =
      holds_both (step_refusals (after_time ticks b) e) (refuse 6 (overruns_any ticks b) ∷ []) k
      ∙ rw (ne_eqb 6 k (λ q. other (sym q))) (or-false _ ∙ event_alike k other ticks b e)

  timed_refused : ((timed_reply ticks b e).code ≢ 0) → timed_reply ticks b e ≡ refused_with b (timed_reply ticks b e).code
  unfolding timed_reply
  timed_refused = answer_refused (timed_refusals ticks b e) b _ (done_code (after_time ticks b) e)

  timed_done : (timed_reply ticks b e).code ≡ 0 → NoneHolds (timed_refusals ticks b e) × (timed_reply ticks b e ≡ step_done (after_time ticks b) e)
  unfolding timed_reply
  timed_done = answer_done (timed_refusals ticks b e) b _ (done_code (after_time ticks b) e) (timed_positive ticks b e)

  timed_shape : bus_ok (timed_reply ticks b e).bus ≡ bus_ok b
  unfolding timed_reply
  timed_shape =
      answer_bus (timed_refusals ticks b e) b _ (λ (x : Bus). bus_ok x ≡ bus_ok b) (timed_positive ticks b e) refl
      (λ n. done_shape (after_time ticks b) e (none_both (step_refusals (after_time ticks b) e) _ n).0 ∙ time_shape ticks b)

-- ---- refused and accepted entries

-- refused: the bus and the clock are as they were
pub replay_refused : (b : Bus) (clock : Clock) (x : Option Entry) → ((replayed b clock x).reply.code ≢ 0) → replayed b clock x ≡ record { reply = refused_with b (replayed b clock x).reply.code; clock = clock }
unfolding replayed
replay_refused b clock (Some x) n = rw (ne_eqb _ 0 n, ← timed_refused (since clock x.at) b x.event n)
replay_refused b clock None n = refl

-- accepted: the event's value and bus, once the time has passed, and the entry's stamp
pub replay_accepted : (b : Bus) (clock : Clock) (at : ℕ) (e : Event) → (replayed b clock (stamped at e)).reply.code ≡ 0 → replayed b clock (stamped at e) ≡ record { reply = step_done (after_time (since clock at) b) e; clock = Some at }
unfolding replayed
replay_accepted b clock at e z = rw (eq-eqb _ 0 z, (timed_done (since clock at) b e z).1)

-- the event by itself is accepted then
pub replay_event : (b : Bus) (clock : Clock) (at : ℕ) (e : Event) → (replayed b clock (stamped at e)).reply.code ≡ 0 → (step_reply (after_time (since clock at) b) e).code ≡ 0
unfolding replayed
replay_event b clock at e z =
    let m = after_time (since clock at) b in
    step_code m e ∙ none_code (step_refusals m e) (none_both (step_refusals m e) _ (timed_done (since clock at) b e z).0).0

-- so its bus is that event's
pub replay_bus_lem : (b : Bus) (clock : Clock) (at : ℕ) (e : Event) → (replayed b clock (stamped at e)).reply.code ≡ 0 → (replayed b clock (stamped at e)).reply.bus ≡ (step_reply (after_time (since clock at) b) e).bus
replay_bus_lem b clock at e z =
    ap (λ (r : Replayed). r.reply.bus) (replay_accepted b clock at e z)
    ∙ ap (λ (r : Reply). r.bus) (sym (done (after_time (since clock at) b) e (replay_event b clock at e z)).1)

-- and the recording goes on from there
pub replay_on : (b : Bus) (clock : Clock) (at : ℕ) (e : Event) (l : List (Option Entry)) → (replayed b clock (stamped at e)).reply.code ≡ 0 → replay_bus b clock (stamped at e ∷ l) ≡ replay_bus (replayed b clock (stamped at e)).reply.bus (Some at) l
replay_on b clock at e l z =
    ap (λ (c : Clock). replay_bus (replayed b clock (stamped at e)).reply.bus c l) (ap (λ (r : Replayed). r.clock) (replay_accepted b clock at e z))

-- ---- well-formedness

pub replay_shape : (b : Bus) (clock : Clock) (x : Option Entry) → bus_ok (replayed b clock x).reply.bus ≡ bus_ok b
unfolding replayed
replay_shape b clock (Some x) = timed_shape (since clock x.at) b x.event
replay_shape b clock None = refl

-- and so through a whole recording
pub recording_shape : (b : Bus) (clock : Clock) (l : List (Option Entry)) → bus_ok (replay_bus b clock l) ≡ bus_ok b
recording_shape b clock [] = refl
recording_shape b clock (x ∷ l) = recording_shape (replayed b clock x).reply.bus (replayed b clock x).clock l ∙ replay_shape b clock x

-- ---- the same by hand

-- an accepted entry, from any well-formed bus: every wait and the event are accepted, and give the entry's value and bus
pub entry_by_hand : (b : Bus) (clock : Clock) (x : Option Entry) → bus_ok b ≡ true → (replayed b clock x).reply.code ≡ 0
    → AllAccepted b (by_hand b clock x) × (last_value 0 (run_replies b (by_hand b clock x)) ≡ (replayed b clock x).reply.value) × (run_bus b (by_hand b clock x) ≡ (replayed b clock x).reply.bus)
unfolding replayed by_hand after_time
entry_by_hand b clock (Some x) well z =
    let e = x.event in
    let ticks = since clock x.at in
    let t = timed_done ticks b e z in
    let n = none_both (step_refusals (after_time ticks b) e) _ t.0 in
    let l = waits_below ticks b b.count in
    let run : run_bus b l ≡ after_time ticks b = waits_run ticks b well b.count (le_refl b.count) ∙ rw well in
    let s : step_reply (run_bus b l) e ≡ timed_reply ticks b e = rw (run, t.1) (step_done_lem (after_time ticks b) e (none_code (step_refusals (after_time ticks b) e) n.0)) in (
      accepted_both b l (e ∷ []) (waits_accepted ticks b well n.1.0 b.count (le_refl b.count)) (rw s z, tt),
      last_value_lem 0 b l e ∙ rw s,
      run_both b l (e ∷ []) ∙ ap (λ (r : Reply). r.bus) s,
    )
entry_by_hand b clock None well z = absurd (omega arith)

-- a whole recording, from any well-formed bus
pub recording_by_hand : (b : Bus) (clock : Clock) (l : List (Option Entry)) → bus_ok b ≡ true
    → AllAccepted b (flat (all_by_hand b clock l)) × (last_values b (all_by_hand b clock l) ≡ accepted_values (replay_replies b clock l)) × (run_bus b (flat (all_by_hand b clock l)) ≡ replay_bus b clock l)
unfolding all_by_hand
recording_by_hand b clock [] well = (tt, refl, refl)
recording_by_hand b clock (x ∷ l) well =
    let r = replayed b clock x in
    let on = recording_by_hand r.reply.bus r.clock l (replay_shape b clock x ∙ well) in
    elim (tested (r.reply.code == 0)) [
      | holds e ↦
          let h = entry_by_hand b clock x well (eqb-true _ 0 e) in
          rw e (
            accepted_both b (by_hand b clock x) _ h.0 (rw h.2 on.0),
            rw (h.1, h.2) (ap (λ (t : List ℕ). r.reply.value ∷ t) on.1),
            run_both b (by_hand b clock x) _ ∙ rw h.2 on.2,
          )
      | fails e ↦
          let q : r.reply.bus ≡ b = ap (λ (y : Replayed). y.reply.bus) (replay_refused b clock x (eqb-false _ 0 e)) in
          rw (e, q) (rw q at on)
    ]

-- from an empty bus
pub evening_by_hand : (l : List (Option Entry))
    → AllAccepted empty_bus (flat (all_by_hand empty_bus None l)) × (last_values empty_bus (all_by_hand empty_bus None l) ≡ accepted_values (replay_replies empty_bus None l)) × (run_bus empty_bus (flat (all_by_hand empty_bus None l)) ≡ replay_bus empty_bus None l)
evening_by_hand l = recording_by_hand empty_bus None l empty_well
