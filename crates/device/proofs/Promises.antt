-- A fresh device is well formed, and reset, OE, the outside levels and a wait keep a well-formed record well formed. What happens on the bus does too (crate `protocol`).
use Rattle.std.specs.Prelude.{◌≡◌, refl, Bool, true, ℕ}
use Rattle.basics.specs.laws.Logic.{tested, holds, fails}
use Rattle.chip.specs.Addresses.{address_allowed}
use Rattle.chip.specs.Promises.{reset_legal}
use Rattle.chip.specs.declared.Chip.{Chip}
use Rattle.device.specs.Fields.{with_oe, with_levels}
use Rattle.device.specs.Registers.{is_awake}
use Rattle.device.specs.Reset.{fresh, after_reset}
use Rattle.device.specs.Wait.{after_wait}
use Rattle.device.specs.WellFormed.{record_ok, well_formed}
use Rattle.device.proofs.laws.Wait.{advanced_within}
use Rattle.device.proofs.laws.WellFormed.{ok, fits, well, well_formed_ok, zero_within}
use Rattle.device.specs.declared.Device.{Device}
use Rattle.device.specs.declared.Phase.{Phase}

pub fresh_well : (p : Phase) (chip : Chip) (address : ℕ) → address_allowed chip address ≡ true → well_formed p (fresh chip address) ≡ true
fresh_well p chip address h =
    well p (fresh chip address) (record { legal = reset_legal chip; allowed = h; within = zero_within }) refl

pub reset_well : (p : Phase) (d : Device) → record_ok d ≡ true → well_formed p (after_reset d) ≡ true
unfolding after_reset
reset_well p d h = well p (after_reset d) (record { legal = reset_legal d.chip; allowed = (ok d h).allowed; within = zero_within }) refl

-- the kind stays
pub reset_kind : (d : Device) → (after_reset d).chip ≡ d.chip
unfolding after_reset
reset_kind d = refl

pub oe_well : (p : Phase) (oe : Bool) (d : Device) → well_formed p d ≡ true → well_formed p (with_oe d oe) ≡ true
oe_well p oe d h = well p (with_oe d oe) (ok d (well_formed_ok p d h)) (fits p d h)

pub levels_well : (p : Phase) (levels : ℕ) (d : Device) → well_formed p d ≡ true → well_formed p (with_levels d levels) ≡ true
levels_well p levels d h = well p (with_levels d levels) (ok d (well_formed_ok p d h)) (fits p d h)

-- a wait leaves any record as well formed as it was
pub waited_shape : (p : Phase) (w : ℕ) (d : Device) → well_formed p (after_wait d w) ≡ well_formed p d
unfolding after_wait well_formed record_ok
waited_shape p w d = elim (tested (is_awake d)) [ holds e ↦ rw (e, advanced_within d.count w) | fails e ↦ rw e ]
