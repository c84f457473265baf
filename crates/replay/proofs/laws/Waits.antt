-- The waits of an entry by hand: together they are the time, and each is accepted where the time fits.
use Rattle.std.specs.Prelude.{◌≡◌, ℕ, zero, suc, ◌<◌, ◌≤◌, true, false, List, [], ◌∷◌, ◌++◌, refl}
use Rattle.std.proofs.Common.{sym, ap, ◌∙◌, append-nil, arith}
use Rattle.std.proofs.lemmas.Bool.{not-true, not-false}
use Rattle.basics.specs.laws.Below.{below_at}
use Rattle.basics.specs.laws.Logic.{holds, fails, tested}
use Rattle.lamp.specs.declared.DriverTicks.{DriverTicks}
use Rattle.chip.specs.Kinds.{is_driver}
use Rattle.totals.specs.Wait.{exceeds}
use Rattle.refusals.specs.Refusals.{refuse, least, code_of}
use Rattle.refusals.specs.laws.Refusals.{code_both}
use Rattle.bus.specs.Devices.{bus_ok, device_at, record_at}
use Rattle.bus.specs.Place.{change_refusals, place_refusals, after_change}
use Rattle.bus.specs.Events.{step_reply, step_refusals, step_done, run_bus, run_replies}
use Rattle.bus.proofs.Promises.{run_well, step_code, refused_same}
use Rattle.bus.proofs.laws.Place.{position_free}
use Rattle.bus.proofs.laws.Replies.{ok_count}
use Rattle.bus.proofs.laws.Runs.{run_both}
use Rattle.bus.specs.declared.Bus.{Bus}
use Rattle.bus.specs.declared.Change.TheVariants.{Wait}
use Rattle.bus.specs.declared.Event.{Event}
use Rattle.bus.specs.declared.Event.TheVariants.{Change}
use Rattle.bus.specs.declared.Reply.{Reply}
use Rattle.replay.specs.Time.{fits, overruns_any, time_below}
use Rattle.replay.specs.ByHand.{waits_below, AllAccepted, last_value}
use Rattle.replay.proofs.laws.Time.{below_takes, below_stays, below_count, below_ahead}
use Rattle.replay.proofs.laws.Timed.{step_done_lem}

-- ---- events one after the other

pub accepted_both : (b : Bus) (l m : List Event) → AllAccepted b l → AllAccepted (run_bus b l) m → AllAccepted b (l ++ m)
accepted_both b [] m h g = g
accepted_both b (e ∷ l) m h g = (h.0, accepted_both (step_reply b e).bus l m h.1 g)

pub accepted_parts : (b : Bus) (l m : List Event) → AllAccepted b (l ++ m) → AllAccepted b l × AllAccepted (run_bus b l) m
accepted_parts b [] m h = (tt, h)
accepted_parts b (e ∷ l) m h = let r = accepted_parts (step_reply b e).bus l m h.1 in ((h.0, r.0), r.1)

pub last_value_lem : (v : ℕ) (b : Bus) (l : List Event) (e : Event) → last_value v (run_replies b (l ++ e ∷ [])) ≡ (step_reply (run_bus b l) e).value
last_value_lem v b [] e = refl
last_value_lem v b (x ∷ l) e = last_value_lem (step_reply b x).value (step_reply b x).bus l e

-- ---- the drivers below a position of a well-formed bus

module _ (ticks : DriverTicks) (b : Bus) (well : bus_ok b ≡ true) where
  abbrev wait : ℕ → Event
  wait n = Change n (Wait ticks.0)

  -- the next driver's wait, on the bus that the waits before it leave
  module _ (n : ℕ) (l : List Event) (h : n < b.count) (run : run_bus b l ≡ time_below ticks b n) where
    abbrev here : Bus
    here = run_bus b l

    few : n < 8
    few = omega (arith, ok_count b (rw well refl))

    as_before : record_at here n ≡ record_at b n
    as_before = rw run (below_ahead ticks b n n (omega arith) few)

    wait_code : code_of (step_refusals here (wait n)) ≡ code_of (refuse 6 (exceeds (record_at b n) ticks.0) ∷ [])
    unfolding step_refusals change_refusals least
    wait_code =
        let free = position_free here n (run_well b l well) (rw (run, below_count ticks b n) h) few in
        code_both (place_refusals here n) (change_refusals (record_at here n) (Wait ticks.0)) ∙ rw (free, as_before)

    wait_accepted : exceeds (record_at b n) ticks.0 ≡ false → step_reply here (wait n) ≡ step_done here (wait n)
    unfolding code_of least
    wait_accepted e = step_done_lem here (wait n) (wait_code ∙ rw e)

    wait_refused : exceeds (record_at b n) ticks.0 ≡ true → (step_reply here (wait n)).bus ≡ here
    unfolding code_of least
    wait_refused e =
        let c : (step_reply here (wait n)).code ≡ 6 = step_code here (wait n) ∙ wait_code ∙ rw e in
        ap (λ (r : Reply). r.bus) (refused_same here (wait n) (λ z. omega arith))

    driver_next : is_driver (device_at b n).chip ≡ true → (step_reply here (wait n)).bus ≡ time_below ticks b (suc n)
    unfolding step_done after_change
    driver_next e =
        elim (tested (exceeds (record_at b n) ticks.0)) [
          | holds t ↦ wait_refused t ∙ run ∙ sym (below_stays ticks b n (rw (e, t)))
          | fails t ↦ ap (λ (r : Reply). r.bus) (wait_accepted t) ∙ rw (as_before, run) (sym (below_takes ticks b n (rw (e, t))))
        ]

  -- together they are the time
  pub waits_run : (n : ℕ) → n ≤ b.count → run_bus b (waits_below ticks b n) ≡ time_below ticks b n
  unfolding waits_below time_below
  waits_run zero h = refl
  waits_run (suc n) h =
      let l = waits_below ticks b n in
      let run = waits_run n (omega arith) in
      elim (tested (is_driver (device_at b n).chip)) [
        | holds e ↦ rw e (run_both b l _ ∙ rw e at (driver_next n l h run e))
        | fails e ↦ rw e (rw (append-nil l) run)
      ]

  -- and all are accepted where it fits
  pub waits_accepted : overruns_any ticks b ≡ false → (n : ℕ) → n ≤ b.count → AllAccepted b (waits_below ticks b n)
  unfolding waits_below step_done
  waits_accepted room zero h = tt
  waits_accepted room (suc n) h =
      let l = waits_below ticks b n in
      let run = waits_run n (omega arith) in
      let fit : fits ticks (record_at b n) ≡ true = below_at (λ i. fits ticks (record_at b i)) n b.count h (not-false _ (rw well at room)) in
      elim (tested (is_driver (device_at b n).chip)) [
        | holds e ↦ rw e (accepted_both b l _ (waits_accepted room n (omega arith)) (ap (λ (r : Reply). r.code) (wait_accepted n l h run (not-true _ (rw e at fit))), tt))
        | fails e ↦ rw e (rw (append-nil l) (waits_accepted room n (omega arith)))
      ]
