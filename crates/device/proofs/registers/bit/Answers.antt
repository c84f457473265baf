-- `device::registers::bit` meets its contract: a byte has no bit past bit 7.
use Rattle.std.proofs.Common.{arith, pow_mono, rules, nat_lt, false, refl}
use Rattle.std.specs.Prelude.{◌≡◌, ◌/◌, ◌^◌, ◌≤◌}
use native.Mathlib.Nat.{div-eq_of_lt}
use Rattle.device.proofs.registers.bit.Goals as goal

pub returns-else-k-lt8 : goal.returns-else-k-lt8
returns-else-k-lt8 c =
    let a = c.args in
    let h : 2 ^ 8 ≤ 2 ^ a.k = pow_mono c.if-k-lt8.false in
    let z : a.byte / 2 ^ a.k ≡ 0 = div-eq_of_lt (omega arith) in
    let n : nat_lt a.k 8 ≡ false = search rules in
    rw (z, n) refl
