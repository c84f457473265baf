-- `device::output::pair` meets its contract: the place of the output among four says the power of 4.
use Rattle.std.proofs.Common.{arith}
use Rattle.std.proofs.Math.Path.{refl}
use Rattle.std.specs.Prelude.{◌≡◌, ℕ, zero, suc, ◌*◌, ◌%◌, ◌^◌, ◌<◌}
use Rattle.device.proofs.output.pair.Goals as goal

two-bits : (k : ℕ) → k < 4 → 2 ^ (2 * k) ≡ 4 ^ k
two-bits zero h = refl
two-bits (suc zero) h = refl
two-bits (suc (suc zero)) h = refl
two-bits (suc (suc (suc zero))) h = refl
two-bits (suc (suc (suc (suc k)))) h = absurd (omega arith)

pub returns : goal.returns
returns c =
    rw (two-bits (c.args.out % 4) (omega arith))
