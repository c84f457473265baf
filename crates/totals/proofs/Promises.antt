-- Promises on a wait of a record that exceeds nothing, for any record: each output's lit total grows by the lit answer, its unlit total by the rest, both together by the wait; others stay;
-- the record is as legal afterwards as it was.
use Rattle.std.specs.Prelude.{◌≡◌, true, false, ◌&&◌, ℕ, ◌+◌, ◌-◌, ◌≤◌, ◌<◌}
use Rattle.std.proofs.Common.{ap, arith}
use Rattle.std.proofs.Math.Dec.{leb}
use Rattle.std.proofs.Math.ListN.{get_or}
use borrow.Author.Tests.{leb-true, le-leb, not-false}
use Rattle.basics.specs.laws.Below.{below_at, below_all}
use Rattle.basics.specs.laws.Logic.{tested, holds, fails, neither}
use Rattle.chip.specs.Kinds.{outputs_of}
use Rattle.chip.specs.laws.Registers.{outputs_few}
use Rattle.device.specs.Registers.{is_awake}
use Rattle.device.specs.Output.{lit_of}
use Rattle.device.specs.Wait.{is_too_long, after_wait}
use Rattle.device.specs.WellFormed.{well_formed}
use Rattle.device.proofs.Promises.{waited_shape}
use Rattle.device.proofs.laws.Output.{lit_few}
use Rattle.device.specs.declared.Device.{Device}
use Rattle.device.specs.declared.Phase.{Phase}
use Rattle.totals.specs.Totals.{total_limit, totals_within, totals_fit, legal_in}
use Rattle.totals.specs.Wait.{exceeds, waited}
use Rattle.totals.proofs.laws.Raised.{raised_there, raised_past}
use Rattle.totals.specs.declared.Record.{Record}

module _ (r : Record) (w out : ℕ) where
  module _ (there : out < outputs_of r.device.chip) where
    few : out < 16
    few = omega (arith, there, outputs_few r.device.chip)

    pub lit_grows : get_or (waited r w).lit out 0 ≡ get_or r.lit out 0 + lit_of r.device out w
    unfolding waited
    lit_grows = raised_there _ r.lit (outputs_of r.device.chip) out few there

    pub unlit_grows : get_or (waited r w).unlit out 0 ≡ get_or r.unlit out 0 + (w - lit_of r.device out w)
    unfolding waited
    unlit_grows = raised_there _ r.unlit (outputs_of r.device.chip) out few there

    pub both_grow : get_or (waited r w).lit out 0 + get_or (waited r w).unlit out 0 ≡ get_or r.lit out 0 + get_or r.unlit out 0 + w
    both_grow = rw (lit_grows, unlit_grows) (omega (arith, lit_few r.device out w))

  -- entries past the chip's outputs
  pub past_stays : outputs_of r.device.chip ≤ out → out < 16 → (get_or (waited r w).lit out 0 ≡ get_or r.lit out 0) × (get_or (waited r w).unlit out 0 ≡ get_or r.unlit out 0)
  unfolding waited
  past_stays h k = (
    raised_past _ r.lit (outputs_of r.device.chip) out k h,
    raised_past _ r.unlit (outputs_of r.device.chip) out k h,
  )

-- the kind of the device stays
pub waited_kind : (d : Device) (w : ℕ) → (after_wait d w).chip ≡ d.chip
unfolding after_wait
waited_kind d w = elim (tested (is_awake d)) [ holds e ↦ rw e | fails e ↦ rw e ]

module _ (r : Record) (w : ℕ) (e : exceeds r w ≡ false) where
  has_room : totals_fit r w ≡ true
  unfolding exceeds
  has_room = not-false (totals_fit r w) (neither (is_too_long r.device w) _ e).1

  room_at : (out : ℕ) → out < outputs_of r.device.chip → get_or r.lit out 0 + get_or r.unlit out 0 + w ≤ total_limit
  unfolding totals_within
  room_at out h =
      leb-true _ total_limit (below_at (λ i. leb (get_or r.lit i 0 + get_or r.unlit i 0 + w) total_limit) out (outputs_of r.device.chip) h has_room)

  -- the totals of both can be handed in
  pub before_fits : totals_fit r 0 ≡ true
  unfolding totals_within
  before_fits = below_all _ (outputs_of r.device.chip) (λ out h. le-leb (get_or r.lit out 0 + get_or r.unlit out 0 + 0) total_limit (omega (arith, room_at out h)))

  same_outputs : {out : ℕ} → out < outputs_of (waited r w).device.chip → out < outputs_of r.device.chip
  unfolding waited
  same_outputs h = rw (waited_kind r.device w) at h

  pub after_fits : totals_fit (waited r w) 0 ≡ true
  unfolding totals_within
  after_fits =
      below_all _ (outputs_of (waited r w).device.chip)
      (λ out h. le-leb (get_or (waited r w).lit out 0 + get_or (waited r w).unlit out 0 + 0) total_limit (omega (arith, room_at out (same_outputs h), both_grow r w out (same_outputs h))))

  device_shape : (p : Phase) → well_formed p (waited r w).device ≡ well_formed p r.device
  unfolding waited
  device_shape p = waited_shape p w r.device

  pub waited_legal : (p : Phase) → legal_in p (waited r w) ≡ legal_in p r
  waited_legal p = rw (before_fits, after_fits) (ap (λ b. b && true) (device_shape p))
