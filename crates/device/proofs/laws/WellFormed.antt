-- Well-formedness taken apart, and put together.
use Rattle.std.specs.Prelude.{◌≡◌, refl, true, ◌&&◌, ℕ, leb}
use Rattle.basics.specs.laws.Logic.{and_left, and_right}
use Rattle.lamp.specs.Window.{count_limit}
use Rattle.chip.specs.Addresses.{address_allowed}
use Rattle.chip.specs.Control.{control_legal}
use Rattle.chip.specs.declared.Chip.{Chip}
use Rattle.device.specs.WellFormed.{record_ok, stage_fits, well_formed}
use Rattle.device.specs.declared.Device.{Device}
use Rattle.device.specs.declared.Phase.{Phase}

pub record Ok (chip : Chip) (control address count : ℕ) : Type 0 where
  pub legal : control_legal chip control ≡ true
  pub allowed : address_allowed chip address ≡ true
  pub within : leb count count_limit ≡ true

pub ok : (d : Device) → record_ok d ≡ true → Ok d.chip d.control d.address d.count
unfolding record_ok
ok d h =
    let both : (control_legal d.chip d.control && address_allowed d.chip d.address) ≡ true = and_left (control_legal d.chip d.control && address_allowed d.chip d.address) (leb d.count count_limit) h in
    record {
      legal = and_left (control_legal d.chip d.control) (address_allowed d.chip d.address) both;
      allowed = and_right (control_legal d.chip d.control) (address_allowed d.chip d.address) both;
      within = and_right (control_legal d.chip d.control && address_allowed d.chip d.address) (leb d.count count_limit) h;
    }

is_ok : (d : Device) → Ok d.chip d.control d.address d.count → record_ok d ≡ true
unfolding record_ok
is_ok d o = rw (o.legal, o.allowed, o.within) refl

-- a well-formed record is a legal one
pub well_formed_ok : (p : Phase) (d : Device) → well_formed p d ≡ true → record_ok d ≡ true
unfolding well_formed
well_formed_ok p d h = and_left (record_ok d) (stage_fits p d.stage) h

pub fits : (p : Phase) (d : Device) → well_formed p d ≡ true → stage_fits p d.stage ≡ true
unfolding well_formed
fits p d h = and_right (record_ok d) (stage_fits p d.stage) h

-- a legal record whose stage fits the phase is well formed
pub well : (p : Phase) (d : Device) → Ok d.chip d.control d.address d.count → stage_fits p d.stage ≡ true → well_formed p d ≡ true
unfolding well_formed
well p d o f = rw (is_ok d o, f) refl

pub zero_within : leb 0 count_limit ≡ true
zero_within = refl

abbrev pub WellIn : Phase → Device → Type 0
WellIn p d = well_formed p d ≡ true
