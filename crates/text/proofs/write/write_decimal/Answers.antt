-- `write_decimal`: the last digits stand from the place after `first` on, and those before them are still to be put.
use Rattle.std.proofs.Common.{arith, length-set, rules}
use Rattle.std.specs.Prelude.{set, take, drop, ◌≡◌, ◌+◌, ◌-◌, ◌/◌, ◌%◌, ◌≤◌}
use Rattle.text.proofs.Writing.{Digits, digits_more, digits_all, digits_written}
use Rattle.text.specs.Text.{decimal}
use Rattle.text.proofs.write.write_decimal.Goals as goal

pub loop-rest-preserved : goal.loop-rest-preserved
loop-rest-preserved c =
    let more : (1 ≤ c.loop-rest.first) × Digits c.args.n (set c.loop-rest.digits c.loop-rest.first (48 + c.loop-rest.rest % 10)) (c.loop-rest.first - 1) (c.loop-rest.rest / 10) = let l = c.loop-rest in
    digits_more c.args.n l.digits l.first l.rest (omega (arith, l.invariant.0, l.invariant.1)) c.loop-rest-test.true l.invariant.2 in
    (search rules, simp length-set c.loop-rest.invariant.1, more.1)

pub returns-clause-written : goal.returns-clause-written
returns-clause-written c =
    let all : take (20 - c.loop-rest.first) (drop c.loop-rest.first (set c.loop-rest.digits c.loop-rest.first (48 + c.loop-rest.rest))) ≡ decimal c.args.n = let l = c.loop-rest in
    digits_all c.args.n l.digits l.first l.rest l.invariant.1 (omega (arith, l.invariant.0, l.invariant.1)) c.loop-rest-test.false l.invariant.2 in
    (digits_written c.args.out.now _ c.write_text.new.out c.args.at c.args.n c.write_text.result all c.write_text.ensures).0
