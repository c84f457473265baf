-- `device::Device::input_byte` meets its contract. The loop's invariant: `byte` is the set of the inputs below i that are 1, and `weight` the weight of the next. The measure is the number of inputs left.
use Rattle.std.proofs.Common.{sym, ap, ◌∙◌, arith, eqb-true, rules}
use Rattle.std.proofs.Math.Path.{refl}
use Rattle.std.specs.Prelude.{◌≡◌, ℕ, ◌<◌, eqb, get_or}
use Rattle.basics.specs.laws.Bits.{mask_none, mask_more, mask_room, mask_byte, weight_more, weight_most}
use Rattle.basics.specs.laws.Table.{at}
use Rattle.device.specs.Output.{input_bit, blinker_outputs}
use Rattle.device.proofs.Device.input_byte.Goals as goal

output-at : (i : ℕ) → i < 8 → get_or blinker_outputs i 0 ≡ i
output-at i h = eqb-true _ _ (at 8 (λ (k : ℕ). eqb (get_or blinker_outputs k 0) k) refl i h)

pub loop-i-init : goal.loop-i-init
loop-i-init c =
    (search rules, search rules, mask_none _ _)

pub overflow_add-byte : goal.overflow_add-byte
overflow_add-byte c =
    let l = c.loop-i in
    let bits = input_bit c.args.self in
    let room = mask_room bits blinker_outputs l.i l.byte l.weight (search rules) l.invariant.1 l.invariant.2 in
    let most = weight_most c.input_bit.result c.input_weight-byte.result l.weight c.input_weight-byte.ensures in
    omega arith

pub loop-i-preserved : goal.loop-i-preserved
loop-i-preserved c =
    let l = c.loop-i in
    let d = c.args.self in (
      search rules,
      weight_more l.i l.weight l.invariant.1,
      mask_more (input_bit d) 0 blinker_outputs l.i l.byte l.weight c.input_weight-byte.result c.input_bit.result (search rules) l.invariant.1 l.invariant.2
          (c.input_bit.ensures ∙ ap (input_bit d) (sym (output-at l.i (search rules)))) c.input_weight-byte.ensures,
    )

pub overflow_cast-result : goal.overflow_cast-result
overflow_cast-result c =
    let l = c.loop-i in
    let byte = mask_byte (input_bit c.args.self) blinker_outputs l.i l.byte l.invariant.0 l.invariant.2 in
    omega arith
