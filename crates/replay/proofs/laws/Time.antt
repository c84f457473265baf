-- The drivers below a position, once they have waited: what stays of the bus.
use Rattle.std.specs.Prelude.{◌≡◌, ℕ, zero, suc, ◌<◌, ◌≤◌, true, false, length, refl}
use Rattle.std.proofs.Common.{ap, sym, ◌∙◌, arith, length-set}
use Rattle.basics.specs.laws.Logic.{holds, fails, tested}
use Rattle.lamp.specs.declared.DriverTicks.{DriverTicks}
use Rattle.totals.specs.Wait.{waited}
use Rattle.totals.proofs.Promises.{waited_kind}
use Rattle.totals.proofs.laws.Raised.{raised_long}
use Rattle.totals.specs.declared.Record.{Record}
use Rattle.bus.specs.Devices.{device_at, record_at, with_record}
use Rattle.bus.proofs.laws.Records.{kind_set, record_other}
use Rattle.bus.specs.declared.Bus.{Bus}
use Rattle.replay.specs.Time.{takes, time_below}

module _ (ticks : DriverTicks) (b : Bus) where
  -- a driver more, which takes the time or not
  pub below_takes : (n : ℕ) → takes ticks (record_at b n) ≡ true → time_below ticks b (suc n) ≡ with_record (time_below ticks b n) n (waited (record_at b n) ticks.0)
  unfolding time_below
  below_takes n e = rw e

  pub below_stays : (n : ℕ) → takes ticks (record_at b n) ≡ false → time_below ticks b (suc n) ≡ time_below ticks b n
  unfolding time_below
  below_stays n e = rw e

  -- what holds of the bus, and of one with a record that has waited, holds of the bus once the time has passed
  pub below_keeps : (P : Bus → Type 0) → P b → ((n : ℕ) → P (time_below ticks b n) → P (with_record (time_below ticks b n) n (waited (record_at b n) ticks.0))) → (n : ℕ) → P (time_below ticks b n)
  unfolding time_below
  below_keeps P p q zero = p
  below_keeps P p q (suc n) =
      elim (tested (takes ticks (record_at b n))) [ holds e ↦ rw e (q n (below_keeps P p q n)) | fails e ↦ rw e (below_keeps P p q n) ]

  pub below_count : (n : ℕ) → (time_below ticks b n).count ≡ b.count
  below_count = below_keeps (λ (x : Bus). x.count ≡ b.count) refl (λ n e. e)

  pub below_phase : (n : ℕ) → (time_below ticks b n).phase ≡ b.phase
  below_phase = below_keeps (λ (x : Bus). x.phase ≡ b.phase) refl (λ n e. e)

  waited_lit : (r : Record) → length (waited r ticks.0).lit ≡ 16
  unfolding waited
  waited_lit r = raised_long _ r.lit _

  waited_unlit : (r : Record) → length (waited r ticks.0).unlit ≡ 16
  unfolding waited
  waited_unlit r = raised_long _ r.unlit _

  -- a record that is not reached yet
  pub below_ahead : (n i : ℕ) → n ≤ i → i < 8 → record_at (time_below ticks b n) i ≡ record_at b i
  unfolding time_below
  below_ahead zero i h k = refl
  below_ahead (suc n) i h k =
      elim (tested (takes ticks (record_at b n))) [
        | holds e ↦ rw e (record_other (time_below ticks b n) n (waited (record_at b n) ticks.0) (waited_lit (record_at b n)) (waited_unlit (record_at b n)) i k (λ q. omega arith) ∙ below_ahead n i (omega arith) k)
        | fails e ↦ rw e (below_ahead n i (omega arith) k)
      ]

  -- the kind of each device
  kind_waited : (r : Record) → (waited r ticks.0).device.chip ≡ r.device.chip
  unfolding waited
  kind_waited r = waited_kind r.device ticks.0

  pub below_kind : (n i : ℕ) → n ≤ 8 → (device_at (time_below ticks b n) i).chip ≡ (device_at b i).chip
  unfolding time_below
  below_kind zero i h = refl
  below_kind (suc n) i h =
      let m = time_below ticks b n in
      let r = record_at b n in
      let same : (waited r ticks.0).device.chip ≡ (device_at m n).chip = kind_waited r ∙ ap (λ (x : Record). x.device.chip) (sym (below_ahead n n (omega arith) (omega arith))) in
      elim (tested (takes ticks r)) [
        | holds e ↦ rw e (kind_set m.devices n i (waited r ticks.0).device same ∙ below_kind n i (omega arith))
        | fails e ↦ rw e (below_kind n i (omega arith))
      ]

  pub below_places : (n : ℕ) → length (time_below ticks b n).devices ≡ length b.devices
  below_places = below_keeps (λ (x : Bus). length x.devices ≡ length b.devices) refl (λ n e. length-set (time_below ticks b n).devices n _ ∙ e)
