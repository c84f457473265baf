-- `gcd`: each call is Euclid's step, with a smaller second number.
use Rattle.blink.proofs.+gcd.Given as goal

abbrev pub decreases-gcd : goal.decreases-gcd
decreases-gcd l = l.b
