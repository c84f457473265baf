-- `all_held`: each of the list's pairs is held.
use Rattle.std.proofs.Common.{rules, tests, ap, ◌∙◌, get_or, List, ℕ}
use Rattle.std.proofs.lemmas.Iterator.{YieldsList-from_slice}
use Rattle.std.proofs.lemmas.Iterator.Search.{all_from_yields_List}
use Rattle.basics.specs.laws.Below.{below_alike}
use Rattle.store.specs.Kept.{pairs, all_held}
use Rattle.store.specs.Saved.{is_held}
use Rattle.store.specs.Layout.{saved_of}
use Rattle.store.proofs.laws.Places.{chunks_all, pair_at}
use Rattle.store.proofs.kept.all_held.Goals as goal

pub returns : goal.returns
unfolding all_held
returns c =
    let held = λ (p : List ℕ). is_held (get_or p 0 0) (get_or p 1 0) (saved_of c.args.places.bytes.now) in
    let e = all_from_yields_List held _ _ c.all.result c.all.ensures.ran (YieldsList-from_slice c.as_chunks.result.0.now cc) (λ x b q k. search (rules, tests)) in
    rw c.as_chunks.ensures.front at e ∙ chunks_all held 2 (pairs c.args.list.now) c.args.list.now ∙ below_alike _ _ (pairs c.args.list.now) (λ i h. ap held (pair_at c.args.list.now i h))
