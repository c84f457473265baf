-- By whether there is a reason yet, and whether its number is the lesser.
use Rattle.std.proofs.Common.{rules}
use Rattle.refusals.specs.Refusals.{least}
use Rattle.refusals.specs.Reasons.{number}
use Rattle.refusals.specs.laws.Reasons.{number_positive}
use Rattle.refusals.proofs.Lesser.{first_lesser, second_lesser}
use Rattle.refusals.proofs.verdict.lesser.Goals as goal

pub returns-in-Err : goal.returns-in-Err
returns-in-Err c =
    rw c.in-Err.is (first_lesser (number c.in-Err.other) (number c.args.reason) (number_positive c.in-Err.other) (search rules))

pub returns-in_default : goal.returns-in_default
returns-in_default c =
    rw c.in-Err.is (second_lesser (number c.in-Err.other) (number c.args.reason) (number_positive c.args.reason) (search rules))

pub returns-in_default-2 : goal.returns-in_default-2
unfolding least
returns-in_default-2 c =
    rw c.in_default.is
