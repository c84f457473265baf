use Rattle.std.proofs.Common.{rules, tests, ◌∙◌}
use Rattle.std.proofs.lemmas.Iterator.{YieldsList-from_slice}
use Rattle.std.proofs.lemmas.Iterator.Search.{all_from_yields_List}
use Rattle.store.specs.Layout.{place_ok, places_of}
use Rattle.store.proofs.laws.Layout.{right_size}
use Rattle.store.proofs.laws.Places.{places_all}
use Rattle.store.proofs.places.is_sound.Goals as goal

pub returns-then-store-eq-SIZE : goal.returns-then-store-eq-SIZE
unfolding places_of
returns-then-store-eq-SIZE c =
    let long = c.if-store-eq-SIZE.true in
    let e = all_from_yields_List place_ok _ _ c.all.result c.all.ensures.ran (YieldsList-from_slice c.as_chunks.result.0.now cc) (λ x b q k. search (rules, tests)) in
    right_size _ _ long (rw (c.as_chunks.ensures.front, long) at e ∙ places_all c.args.store.now long place_ok)
