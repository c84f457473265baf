use Rattle.std.proofs.Common.{rules, tests, ◌∙◌, eqb}
use Rattle.std.proofs.lemmas.Iterator.{YieldsList-from_slice}
use Rattle.std.proofs.lemmas.Iterator.Search.{position_from_yields_List}
use Rattle.store.specs.Layout.{version_in}
use Rattle.store.proofs.laws.Layout.{ok_long}
use Rattle.store.proofs.laws.Places.{places_free}
use Rattle.store.proofs.places.Places.free.Goals as goal

pub returns : goal.returns
returns c =
    let e = position_from_yields_List (λ p. eqb (version_in p) 0) _ _ c.position.result c.position.ensures.ran (YieldsList-from_slice c.places.result.now cc) (λ x b q k. search (rules, tests)) in
    rw c.places.ensures at e ∙ places_free _ (ok_long _ c.args.self.sound)
