-- `newest_of_each`: the greatest version of each table in the first places.
use Rattle.std.proofs.Common.{◌∙◌, arith, rules}
use Rattle.std.proofs.lemmas.List.{get_or-replicate}
use Rattle.store.proofs.laws.Layout.{ok_long, newest_none}
use Rattle.store.proofs.laws.Places.{turn_few, turn_raises, turns_over}
use Rattle.store.proofs.kept.newest_of_each.Goals as goal

pub loop-bytes-init : goal.loop-bytes-init
loop-bytes-init c =
    (λ t h. get_or-replicate 64 t 0 0 h ∙ newest_none t _, search rules)

pub bounds-greatest-table : goal.bounds-greatest-table
bounds-greatest-table c =
    omega (arith, c.from-table.ensures, c.table.ensures, turn_few _ c.args.places.sound _ _ c.places-bytes-items.ensures c.loop-bytes-test.true)

pub bounds-greatest-table-in-loop-bytes : goal.bounds-greatest-table-in-loop-bytes
bounds-greatest-table-in-loop-bytes c =
    omega (arith, c.from-table.ensures, c.table.ensures, turn_few _ c.args.places.sound _ _ c.places-bytes-items.ensures c.loop-bytes-test.true)

pub loop-bytes-preserved : goal.loop-bytes-preserved
loop-bytes-preserved c =
    (turn_raises _ c.args.places.sound _ _ c.places-bytes-items.ensures c.loop-bytes-test.true _ _ _ _ c.loop-bytes.invariant.1 c.loop-bytes.invariant.0 (c.from-table.ensures ∙ c.table.ensures) c.version.ensures c.max.ensures, search rules)

pub returns : goal.returns
returns c =
    let p = c.args.places in
    let all = turns_over p.bytes.now (ok_long _ p.sound) _ _ c.places-bytes-items.ensures c.loop-bytes.auto.bytes-index-end c.loop-bytes-test.false in
    rw all at c.loop-bytes.invariant.0
