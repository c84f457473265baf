-- A put's byte that is not too large is a byte.
use Rattle.std.specs.Prelude.{◌≡◌, false, ℕ, ◌<◌}
use Rattle.std.proofs.Common.{arith, ltb-false}
use Rattle.bus.specs.Signals.{is_too_large}
use Rattle.bus.specs.declared.SignalEvent.{SignalEvent}
use Rattle.bus.specs.declared.SignalEvent.TheVariants.{Put}

pub put_byte : (s : SignalEvent) (byte : ℕ) → s ≡ Put byte → is_too_large s ≡ false → byte < 256
put_byte s byte e h = omega (arith, ltb-false 255 byte (rw e at h))
