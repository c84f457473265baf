-- A loop over the drivers: what a turn lends, and what it adds.
use Rattle.std.specs.Prelude.{◌≡◌, ℕ, suc, ◌+◌, ◌-◌, ◌*◌, ◌<◌, Bool, ◌&&◌, List, ◌++◌, length, take, drop, get_or, slice_set, refl}
use Rattle.std.proofs.Common.{sym, ap, ◌∙◌, add-one, arith}
use Rattle.std.proofs.lemmas.List.{set-get_or}
use Rattle.basics.specs.Below.{all_below}
use Rattle.basics.specs.laws.Logic.{holds, fails, tested}
use Rattle.basics.specs.laws.Parts.{part_long, with_own}
use Rattle.lamp.specs.declared.DriverTicks.{DriverTicks}
use Rattle.device.specs.declared.Device.{Device}
use Rattle.totals.specs.Totals.{record_of}
use Rattle.totals.specs.Wait.{waited}
use Rattle.totals.proofs.laws.Raised.{raised_long}
use Rattle.totals.specs.declared.Record.{Record}
use Rattle.bus.specs.Devices.{record_at, with_record}
use Rattle.bus.proofs.laws.Records.{lent, record_lent, record_back}
use Rattle.bus.specs.declared.Bus.{Bus}
use Rattle.replay.specs.Time.{fits, takes, time_below}
use Rattle.replay.proofs.laws.Time.{below_ahead}
use Rattle.replay.specs.laws.Passed.{timed}

timed_long : (ticks : DriverTicks) (r : Record) → length r.lit ≡ 16 → length r.unlit ≡ 16 → (length (timed ticks r).lit ≡ 16) × (length (timed ticks r).unlit ≡ 16)
unfolding waited
timed_long ticks r l u =
    elim (tested (takes ticks r)) [
      | holds e ↦ rw e (raised_long _ r.lit _, raised_long _ r.unlit _)
      | fails e ↦ rw e (l, u)
    ]

-- a record put back where it stood
own_record : (m : Bus) (i : ℕ) → length m.lit ≡ 128 → length m.unlit ≡ 128 → with_record m i (record_at m i) ≡ m
own_record m i l u = rw (with_own 8 16 i m.lit l, with_own 8 16 i m.unlit u, set-get_or m.devices i _) refl

-- a turn at position i of the bus so far, which lends its record
module _ (ticks : DriverTicks) (b m : Bus) (i : ℕ) (few : i < 8) (lit : length m.lit ≡ 128) (unlit : length m.unlit ≡ 128) (z : Device) (there : i < length m.devices) (so_far : m ≡ time_below ticks b i) where
  abbrev pub room_at : ℕ → Bool
  room_at j = fits ticks (record_at b j)

  abbrev pub at_hand : Record
  at_hand = record_of (get_or m.devices i z) (lent m.lit i lit few) (lent m.unlit i unlit few)

  same : record_at m i ≡ record_at b i
  same = rw so_far (below_ahead ticks b i i (omega arith) few)

  hand_is : at_hand ≡ record_at b i
  hand_is = record_lent z m i lit unlit few there ∙ same

  -- whether it has room for the time, and those before it
  pub turn_room : (before here : Bool) → before ≡ all_below i room_at → here ≡ fits ticks at_hand → (before && here) ≡ all_below (i + 1) room_at
  unfolding all_below
  turn_room before here e q = rw (add-one i, e, q ∙ ap (fits ticks) hand_is) refl

  more : with_record m i (timed ticks (record_at b i)) ≡ time_below ticks b (suc i)
  unfolding time_below
  more =
      elim (tested (takes ticks (record_at b i))) [
        | holds t ↦ rw t (ap (λ (x : Bus). with_record x i (waited (record_at b i) ticks.0)) so_far)
        | fails t ↦ rw t (ap (with_record m i) (sym same) ∙ own_record m i lit unlit ∙ so_far)
      ]

  -- it comes back, with the time where it has room
  pub turn_holds : (d : Device) (p q : List ℕ) → record_of d p q ≡ timed ticks at_hand
      → record { phase = m.phase; count = m.count; devices = slice_set m.devices i d; lit = take (16 * i) m.lit ++ (p ++ drop (16 * i + 16 - 16 * i) (drop (16 * i) m.lit)); unlit = take (16 * i) m.unlit ++ (q ++ drop (16 * i + 16 - 16 * i) (drop (16 * i) m.unlit)) } ≡ time_below ticks b (i + 1)
  turn_holds d p q is =
      record_back m i few lit unlit d p q _ (timed_long ticks (record_at b i) (part_long 16 i b.lit) (part_long 16 i b.unlit)) (is ∙ ap (timed ticks) hand_is) ∙ more ∙ rw (add-one i)
