-- `free_others`: the first i places are free where they are not kept, and so many are counted.
use Rattle.std.proofs.Common.{ap, ◌∙◌, arith, rules}
use Rattle.std.specs.Prelude.{◌<◌, ◌≡◌, List, ℕ, [], length, get_or}
use Rattle.basics.specs.laws.Parts.{with_part_long}
use Rattle.store.specs.Kept.{is_kept}
use Rattle.store.specs.Layout.{saved_of, places_of}
use Rattle.store.proofs.laws.Layout.{ok_long}
use Rattle.store.proofs.laws.Only.{turn_none, turn_frees, turn_keeps, seen}
use Rattle.store.proofs.laws.Places.{places_at}
use Rattle.store.proofs.kept.free_others.Goals as goal
use Rattle.store.proofs.kept.free_others.Goals.{then-is_freed, else-is_freed}

pub loop-i-init : goal.loop-i-init
loop-i-init c =
    let none = turn_none (is_kept c.args.list.now (saved_of c.args.store.now)) c.args.store.now in
    (none.0, none.1, search rules, ok_long _ c.requires.0)

pub loop-i-preserved : goal.loop-i-preserved
unfolding places_of
loop-i-preserved c =
    let store = c.args.store.now in
    let list = c.args.list.now in
    let now = c.loop-i.store in
    let at = c.loop-i.i in
    let there : at < 256 = search rules in
    let long = c.loop-i.invariant.3 in
    let items : c.as_chunks.result.0.now ≡ places_of now = rw long at c.as_chunks.ensures.front in
    let part = ap (λ (l : List (List ℕ)). get_or l at []) items ∙ places_at now long at there in
    let is = seen list c.args.greatest.now store now _ at c.is_freed.result c.requires.0 c.requires.1 there c.loop-i.invariant.0 part c.is_freed.ensures in
    elim c.if-is_freed.branch [
      | then-is_freed w ↦
          let turn = turn_frees (is_kept list (saved_of store)) store at c.loop-i.freed now c.is_freed.result is c.loop-i.invariant.0 c.loop-i.invariant.1 w.if-is_freed.true in
          let after = w.store-is ∙ w.put.ensures in
          (after ∙ turn.0, w.freed-is ∙ turn.1, omega (arith, w.freed-is, c.loop-i.invariant.2), ap length after ∙ with_part_long 256 40 at _ _)
      | else-is_freed w ↦
          let turn = turn_keeps (is_kept list (saved_of store)) store at c.loop-i.freed now c.is_freed.result is c.loop-i.invariant.0 c.loop-i.invariant.1 w.if-is_freed.false in
          (w.store-is ∙ turn.0, w.freed-is ∙ turn.1, omega (arith, w.freed-is, c.loop-i.invariant.2), ap length w.store-is ∙ long)
    ]
