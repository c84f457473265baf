-- `is_listed`: one of the list's pairs is the version.
use Rattle.std.proofs.Common.{ap, ◌∙◌, not}
use Rattle.std.proofs.Math.Path.{refl}
use Rattle.std.proofs.Math.Bool.{and-true}
use Rattle.basics.specs.laws.Below.{below_alike}
use Rattle.store.specs.Kept.{pairs, is_listed}
use Rattle.store.proofs.laws.Places.{chunks_any, pair_at}
use Rattle.store.proofs.kept.is_listed.Goals as goal

pub returns : goal.returns
unfolding is_listed
returns c =
    rw c.as_chunks.ensures.front at c.contains.ensures.value ∙ chunks_any _ 2 (pairs c.args.list.now) c.args.list.now ∙ ap not (below_alike _ _ (pairs c.args.list.now) (λ i h. ap not (rw (pair_at c.args.list.now i h, and-true) refl)))
