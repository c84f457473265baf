use Rattle.std.proofs.Common.{rules, tests, ◌∙◌}
use Rattle.std.proofs.lemmas.Iterator.{YieldsList-from_slice}
use Rattle.std.proofs.lemmas.Iterator.Search.{any_from_yields_List}
use Rattle.store.specs.laws.Layout.{is_at}
use Rattle.store.proofs.laws.Layout.{ok_long}
use Rattle.store.proofs.laws.Places.{places_held}
use Rattle.store.proofs.places.Places.holds.Goals as goal

pub returns : goal.returns
returns c =
    let a = c.args in
    any_from_yields_List (is_at a.table a.version) _ _ _ c.any.ensures.ran (YieldsList-from_slice _ cc) (λ x b q k. search (rules, tests)) ∙ places_held a.self.bytes.now (ok_long _ a.self.sound) a.table a.version
