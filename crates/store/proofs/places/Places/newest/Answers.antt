use Rattle.std.proofs.Common.{rules, List, ℕ, Option, unwrap_or, sym, ap, ◌∙◌}
use Rattle.std.proofs.lemmas.Iterator.{YieldsList-from_map, YieldsList-from_slice}
use Rattle.std.proofs.lemmas.Iterator.Adapters.{option_map_id}
use Rattle.std.proofs.lemmas.Iterator.Consumers.{max_from_yields_List}
use Rattle.store.specs.Saved.{newest}
use Rattle.store.specs.Layout.{saved_at, places_of}
use Rattle.store.proofs.laws.Layout.{ok_long}
use Rattle.store.proofs.laws.Places.{greatest, places_newest}
use Rattle.store.proofs.places.Places.newest.Goals as goal

pub returns : goal.returns
returns c =
    let a = c.args in
    let version = λ (p : List ℕ). newest a.table (saved_at p) in
    let e = sym (option_map_id _) ∙ max_from_yields_List _ c.max.result c.max.ensures.ran (YieldsList-from_map _ version (YieldsList-from_slice c.places.result.now cc) c.map.ensures.closure (λ x r q k. search rules)) in
    c.unwrap_or.ensures ∙ ap (λ (o : Option ℕ). unwrap_or o 0) (rw c.places.ensures at e) ∙ greatest version (places_of a.self.bytes.now) ∙ places_newest a.self.bytes.now (ok_long _ a.self.sound) a.table
