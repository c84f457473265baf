-- `digits`: what is left of the line is what is left of its end.
use Rattle.std.proofs.Common.{◌≡◌, ◌∙◌, arith, length, drop-drop}
use Rattle.text.proofs.Reading.{digits_at, digits_end}
use Rattle.text.proofs.read.digits.Goals as goal

pub returns-then-not-takes_digit : goal.returns-then-not-takes_digit
returns-then-not-takes_digit c = grind (arith, digits_at, drop-drop)

pub returns : goal.returns
returns c =
    let all : c.loop-i.i ≡ length c.rest_of-rest.result.now = omega arith in
    rw (← all, ← c.rest_of-rest.ensures) (digits_end _ _ _ _ _ c.rest_of-rest.ensures c.loop-i-test.false ∙ c.loop-i.invariant)
