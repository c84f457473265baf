-- `is_zero`: byte by byte.
use Rattle.std.proofs.Common.{rules, ◌≡◌, eqb, refl, true}
use Rattle.std.proofs.lemmas.Fn.{fold_over, fronts, slice_gives}
use Rattle.basics.specs.First.{all}
use Rattle.store.proofs.laws.Bytes.{zeros_more}
use Rattle.store.proofs.place.is_zero.Goals as goal

pub returns : goal.returns
returns c =
    rw c.iter.ensures.rest at (fold_over fronts (λ x. x.now) _ (λ l b. b ≡ all (λ x. eqb x 0) l) _ (λ l b x b' f' e k. (zeros_more l x.now b b' e (search rules), search rules)) c.iter.result _ true _ (slice_gives c.iter.result) refl c.fold.ensures.ran)
