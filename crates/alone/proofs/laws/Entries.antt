-- An entry of a recording by hand, for the device alone: the wait of its time stays, whoever its event is for.
use Rattle.std.specs.Prelude.{◌≡◌, true, false, eqb, refl, List, [], ◌∷◌, ◌++◌, ℕ, zero, suc, ◌≤◌, ◌<◌}
use Rattle.std.proofs.Common.{ap, ◌∙◌, ⊎_elim, arith, append-nil, eq-eqb, ne_eqb, eqb-true}
use Rattle.std.proofs.lemmas.Bool.{eqb-false}
use Rattle.basics.specs.laws.Logic.{holds, fails, tested, lt_or_ge}
use Rattle.lamp.specs.declared.DriverTicks.{DriverTicks}
use Rattle.chip.specs.Kinds.{is_driver}
use Rattle.totals.specs.declared.Record.{Record}
use Rattle.bus.specs.Devices.{device_at}
use Rattle.bus.proofs.laws.Steps.{below_count}
use Rattle.bus.specs.declared.Bus.{Bus}
use Rattle.bus.specs.declared.Event.{Event}
use Rattle.replay.specs.Time.{Clock, since}
use Rattle.replay.specs.Replay.{stamped}
use Rattle.replay.specs.ByHand.{wait_at, waits_below, by_hand}
use Rattle.alone.specs.Alone.{only, alone, Present, concerns, renamed, shortened}
use Rattle.alone.proofs.laws.Step.{alone_record}
use Rattle.alone.proofs.laws.Run.{shortened_both}

module _ (i : ℕ) (b : Bus) (p : Present i b) (ticks : DriverTicks) where
  -- its own wait
  own_wait : shortened i (wait_at ticks b i) ≡ wait_at ticks (alone i b) 0
  unfolding shortened
  own_wait =
      rw (ap (λ (r : Record). r.device.chip) (alone_record b i p.0 p.1.0))
      (elim (tested (is_driver (device_at b i).chip)) [ holds t ↦ rw (t, eq-eqb i i refl) refl | fails t ↦ rw t refl ])

  -- another's
  other_wait : (n : ℕ) → (n ≡ i → ⊥) → shortened i (wait_at ticks b n) ≡ []
  unfolding shortened
  other_wait n d =
      elim (tested (is_driver (device_at b n).chip)) [ holds t ↦ rw (t, ne_eqb n i d) refl | fails t ↦ rw t refl ]

  next_waits : (n : ℕ) → shortened i (waits_below ticks b (suc n)) ≡ shortened i (waits_below ticks b n) ++ shortened i (wait_at ticks b n)
  unfolding waits_below
  next_waits n = shortened_both i (waits_below ticks b n) (wait_at ticks b n)

  waits_before : (n : ℕ) → n ≤ i → shortened i (waits_below ticks b n) ≡ []
  unfolding waits_below shortened
  waits_before zero h = refl
  waits_before (suc n) h = next_waits n ∙ rw (waits_before n (omega arith), other_wait n (λ e. omega arith)) refl

  waits_past : (n : ℕ) → i < n → shortened i (waits_below ticks b n) ≡ wait_at ticks (alone i b) 0
  waits_past zero h = absurd (omega arith)
  waits_past (suc n) h =
      next_waits n ∙ elim (tested (eqb n i)) [
        | holds t ↦
            let e = eqb-true n i t in
            rw (waits_before n (omega arith)) (ap (λ (j : ℕ). shortened i (wait_at ticks b j)) e ∙ own_wait)
        | fails t ↦
            let d = eqb-false n i t in
            rw (other_wait n d, append-nil) (waits_past n (⊎_elim (λ l. l) (λ g. absurd (d (omega arith))) (lt_or_ge i n)))
      ]

  waits_left : shortened i (waits_below ticks b b.count) ≡ waits_below ticks (alone i b) (alone i b).count
  unfolding only waits_below
  waits_left = waits_past b.count (below_count b i p.1.0)

module _ (i : ℕ) (b : Bus) (p : Present i b) (clock : Clock) (at : ℕ) (e : Event) where
  halves : shortened i (by_hand b clock (stamped at e)) ≡ waits_below (since clock at) (alone i b) (alone i b).count ++ shortened i (e ∷ [])
  unfolding by_hand
  halves =
      shortened_both i (waits_below (since clock at) b b.count) (e ∷ [])
      ∙ ap (λ (t : List Event). t ++ shortened i (e ∷ [])) (waits_left i b p (since clock at))

  pub hand_kept : concerns i e ≡ true → shortened i (by_hand b clock (stamped at e)) ≡ by_hand (alone i b) clock (stamped at (renamed e))
  unfolding by_hand shortened
  hand_kept o = halves ∙ rw o refl

  pub hand_dropped : concerns i e ≡ false → shortened i (by_hand b clock (stamped at e)) ≡ waits_below (since clock at) (alone i b) (alone i b).count
  unfolding shortened
  hand_dropped o = halves ∙ rw o (append-nil _)
