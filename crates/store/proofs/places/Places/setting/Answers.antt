use Rattle.std.proofs.Common.{◌≡◌, rules, tests, ap, ◌∙◌}
use Rattle.std.specs.Option.{option_map}
use Rattle.std.proofs.lemmas.Iterator.{YieldsList-from_slice}
use Rattle.std.proofs.lemmas.Iterator.Search.{find_from_yields_List}
use Rattle.store.specs.Layout.{setting_in}
use Rattle.store.specs.laws.Layout.{is_at}
use Rattle.store.proofs.laws.Layout.{ok_long}
use Rattle.store.proofs.laws.Places.{places_found}
use Rattle.store.proofs.places.Places.setting.Goals as goal

pub returns : goal.returns
returns c =
    let a = c.args in
    let e = find_from_yields_List (is_at a.table a.version) _ _ c.find.result c.find.ensures.ran (YieldsList-from_slice c.places.result.now cc) (λ x b q k. search (rules, tests)) in
    let f : c.map.result ≡ option_map setting_in (option_map (λ x. x.now) c.find.result) = search rules in
    f ∙ ap (option_map setting_in) (rw c.places.ensures at e) ∙ places_found a.self.bytes.now (ok_long _ a.self.sound) a.table a.version
