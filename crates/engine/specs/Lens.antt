-- The bus that lent state stands for: 64 bytes and a count for each device, and the totals. Any bytes stand for some device.
use Rattle.std.specs.Prelude.{ℕ, cond, List, eqb, ◌≡◌, get_or, take, drop, map, Result}
use Rattle.std.specs.List.{range_with_len}
use Rattle.basics.specs.Parts.{part}
use Rattle.chip.specs.Kinds.{chip_of}
use Rattle.chip.specs.declared.Chip.TheVariants.{Pca9635}
use Rattle.device.specs.declared.Device.{Device}
use Rattle.device.specs.declared.Phase.{Phase}
use Rattle.device.specs.declared.Stage.{Stage}
use Rattle.device.specs.declared.Stage.TheVariants.{Unselected, Control, Data, Talking, ResetCall, ResetFirst, ResetBoth}
use Rattle.device.specs.Reset.{fresh}
use Rattle.refusals.specs.Reasons.{code_in, value_in}
use Rattle.refusals.specs.declared.Reason.{Reason}
use Rattle.bus.specs.declared.Bus.{Bus}
use Rattle.bus.specs.declared.Reply.{Reply}
use Rattle.engine.specs.declared.Lent.{Lent}
use Rattle.engine.specs.declared.LentDevice.{LentDevice}

abbrev pub stage_of : ℕ → Stage
stage_of x =
    cond (eqb x 0) Unselected
    (cond (eqb x 1) Control
    (cond (eqb x 2) Data
    (cond (eqb x 3) Talking
    (cond (eqb x 4) ResetCall
    (cond (eqb x 5) ResetFirst ResetBoth)))))

abbrev pub stage_byte : Stage → ℕ
stage_byte Unselected = 0
stage_byte Control = 1
stage_byte Data = 2
stage_byte Talking = 3
stage_byte ResetCall = 4
stage_byte ResetFirst = 5
stage_byte ResetBoth = 6

-- a device by its 64 bytes and its count
unfoldable pub device_of : List ℕ → ℕ → Device
device_of p count =
    record {
      chip = chip_of (get_or p 0 0);
      stage = stage_of (get_or p 1 0);
      address = get_or p 2 0;
      control = get_or p 3 0;
      count = count;
      oe = eqb (get_or p 4 0) 1;
      levels = get_or p 5 0;
      written = take 28 (drop 8 p);
      effective = take 28 (drop 36 p);
    }

unfoldable pub devices_of : List ℕ → List ℕ → List Device
devices_of bytes counts = map (λ i. device_of (part 64 i bytes) (get_or counts i 0)) (range_with_len 0 8)

abbrev pub bus_of : Phase → ℕ → List ℕ → List ℕ → List ℕ → List ℕ → Bus
bus_of p n bytes counts lit unlit = record { phase = p; count = n; devices = devices_of bytes counts; lit = lit; unlit = unlit }

-- the device at a position
abbrev pub device_in : List ℕ → List ℕ → ℕ → Device
device_in bytes counts i = get_or (devices_of bytes counts) i (fresh Pca9635 0)

-- ---- what is lent

abbrev pub lent_bus : Lent → Bus
lent_bus l = bus_of l.phase l.count l.bytes.now l.counts.now l.lit.now l.unlit.now

abbrev pub lent_device : LentDevice → Device
lent_device l = device_of l.bytes.now l.count.now

-- the same four slices, whatever they now hold
pub record IsSameLoan (old new : Lent) : Type 0 where
  pub bytes : new.bytes.ghost_name ≡ old.bytes.ghost_name
  pub counts : new.counts.ghost_name ≡ old.counts.ghost_name
  pub lit : new.lit.ghost_name ≡ old.lit.ghost_name
  pub unlit : new.unlit.ghost_name ≡ old.unlit.ghost_name

pub record IsSameDevice (old new : LentDevice) : Type 0 where
  pub bytes : new.bytes.ghost_name ≡ old.bytes.ghost_name
  pub count : new.count.ghost_name ≡ old.count.ghost_name

-- a verdict and what it leaves as the reply of the bus
abbrev pub reply_of : Result ℕ Reason → Lent → Reply
reply_of r l = record { code = code_in r; value = value_in r; bus = lent_bus l }
