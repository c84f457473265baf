-- `list_check`: the list's length, and whether all that it names are held.
use Rattle.std.proofs.Common.{sym, ◌∙◌, arith}
use Rattle.store.specs.Calls.{bytes}
use Rattle.store.proofs.laws.Calls.{keep_odd, keep_missing, keep_clear}
use Rattle.store.proofs.kept.list_check.Goals as goal

pub returns-then-list-ne0 : goal.returns-then-list-ne0
returns-then-list-ne0 c = keep_odd bytes _ _ c.args.places.sound (omega (arith, c.if-list-ne0.true))

pub returns-then-not-all_held : goal.returns-then-not-all_held
returns-then-not-all_held c =
    keep_missing bytes _ _ c.args.places.sound (λ o. omega (arith, o, c.if-list-ne0.false)) (sym c.all_held.ensures ∙ c.if-not-all_held.true)

pub returns : goal.returns
returns c =
    keep_clear bytes _ _ c.args.places.sound (λ o. omega (arith, o, c.if-list-ne0.false)) (sym c.all_held.ensures ∙ c.if-not-all_held.false)
