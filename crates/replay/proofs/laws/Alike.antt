-- Time leaves what a bus is refused for, but for 6: its shape, its phase, and the kind of each device.
use Rattle.std.specs.Prelude.{Option, Some, None, ◌≡◌, ℕ, true, length, refl}
use Rattle.std.proofs.Common.{sym, ◌∙◌, le_refl, ne_eqb}
use Rattle.basics.specs.laws.Logic.{holds, fails, tested}
use Rattle.lamp.specs.declared.DriverTicks.{DriverTicks}
use Rattle.device.specs.declared.Device.{Device}
use Rattle.totals.specs.declared.Record.{Record}
use Rattle.refusals.specs.Refusals.{holds_at}
use Rattle.bus.specs.Devices.{bus_ok, device_at, record_at}
use Rattle.bus.specs.Place.{change_refusals, question_refusals}
use Rattle.bus.specs.Events.{step_refusals}
use Rattle.bus.proofs.Promises.{run_well}
use Rattle.bus.proofs.laws.Replies.{answer_bus, ok_count}
use Rattle.bus.proofs.laws.WellFormed.{done_places}
use Rattle.bus.specs.declared.Bus.{Bus}
use Rattle.bus.specs.declared.Change.{Change}
use Rattle.bus.specs.declared.Change.TheVariants as C
use Rattle.bus.specs.declared.Event.{Event}
use Rattle.bus.specs.declared.Event.TheVariants as E
use Rattle.bus.specs.declared.Question.{Question}
use Rattle.bus.specs.declared.Question.TheVariants as Q
use Rattle.replay.specs.Time.{Clock, since, time_below, after_time}
use Rattle.replay.specs.Replay.{timed_refusals, timed_reply, replayed}
use Rattle.replay.specs.ByHand.{waits_below}
use Rattle.replay.proofs.laws.Time.{below_count, below_phase, below_kind, below_places}
use Rattle.replay.proofs.laws.Timed.{timed_positive}
use Rattle.replay.proofs.laws.Waits.{waits_run}
use Rattle.replay.specs.declared.Entry.{Entry}

module _ (ticks : DriverTicks) (b : Bus) where
  -- what holds of the bus, and of one whose drivers have waited, holds once the time has passed
  time_keeps : (P : Bus → Type 0) → P b → (bus_ok b ≡ true → P (time_below ticks b b.count)) → P (after_time ticks b)
  unfolding after_time
  time_keeps P p q = elim (tested (bus_ok b)) [ holds e ↦ rw e (q e) | fails e ↦ rw e p ]

  pub below_shape : bus_ok b ≡ true → bus_ok (time_below ticks b b.count) ≡ true
  below_shape e = rw (← waits_run ticks b e b.count (le_refl b.count)) (run_well b (waits_below ticks b b.count) e)

  pub time_shape : bus_ok (after_time ticks b) ≡ bus_ok b
  time_shape = time_keeps (λ (x : Bus). bus_ok x ≡ bus_ok b) refl (λ e. below_shape e ∙ sym e)

  pub time_count : (after_time ticks b).count ≡ b.count
  time_count = time_keeps (λ (x : Bus). x.count ≡ b.count) refl (λ e. below_count ticks b b.count)

  pub time_phase : (after_time ticks b).phase ≡ b.phase
  time_phase = time_keeps (λ (x : Bus). x.phase ≡ b.phase) refl (λ e. below_phase ticks b b.count)

  time_kind : (i : ℕ) → (device_at (after_time ticks b) i).chip ≡ (device_at b i).chip
  time_kind i =
      time_keeps (λ (x : Bus). (device_at x i).chip ≡ (device_at b i).chip) refl (λ e. below_kind ticks b b.count i (ok_count b (rw e refl)))

  pub time_places : length (after_time ticks b).devices ≡ length b.devices
  time_places = time_keeps (λ (x : Bus). length x.devices ≡ length b.devices) refl (λ e. below_places ticks b b.count)

module _ (k : ℕ) (other : k ≡ 6 → ⊥) where
  -- of a device, its kind alone
  changes_alike : (c : Change) (x y : Record) → x.device.chip ≡ y.device.chip → holds_at (change_refusals x c) k ≡ holds_at (change_refusals y c) k
  unfolding change_refusals
  changes_alike (C.Wait ticks) x y e = rw (ne_eqb 6 k (λ q. other (sym q)))
  changes_alike (C.Oe level) x y e = rw e
  changes_alike (C.Ext level) x y e = rw e
  changes_alike C.Reset x y e = refl

  questions_alike : (q : Question) (x y : Device) → x.chip ≡ y.chip → holds_at (question_refusals x q) k ≡ holds_at (question_refusals y q) k
  unfolding question_refusals
  questions_alike (Q.Lit out ticks) x y e = rw (ne_eqb 6 k (λ q. other (sym q)), e)
  questions_alike (Q.Pin out) x y e = rw e

  pub event_alike : (ticks : DriverTicks) (b : Bus) (e : Event) → holds_at (step_refusals (after_time ticks b) e) k ≡ holds_at (step_refusals b e) k
  unfolding step_refusals
  event_alike ticks b (E.Add chip addr) = rw (time_shape ticks b, time_count ticks b, time_phase ticks b)
  event_alike ticks b (E.Signal s) = rw (time_shape ticks b, time_phase ticks b)
  event_alike ticks b (E.Change dev c) = rw (time_shape ticks b, time_count ticks b, changes_alike c (record_at (after_time ticks b) dev) (record_at b dev) (time_kind ticks b dev))
  event_alike ticks b (E.Ask dev q) = rw (time_shape ticks b, time_count ticks b, questions_alike q (device_at (after_time ticks b) dev) (device_at b dev) (time_kind ticks b dev))

-- no entry changes how many places a bus has
pub replay_places : (b : Bus) (clock : Clock) (x : Option Entry) → length (replayed b clock x).reply.bus.devices ≡ length b.devices
unfolding replayed timed_reply
replay_places b clock (Some x) =
    let ticks = since clock x.at in
    answer_bus (timed_refusals ticks b x.event) b _ (λ (y : Bus). length y.devices ≡ length b.devices) (timed_positive ticks b x.event) refl
    (λ n. done_places (after_time ticks b) x.event ∙ time_places ticks b)
replay_places b clock None = refl
