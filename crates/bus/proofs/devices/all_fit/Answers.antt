-- The loop: the totals of the first i devices can be handed in.
use Rattle.std.proofs.Common.{sym, ◌∙◌, rules}
use Rattle.basics.specs.laws.Below.{below_none, below_more, below_fails}
use Rattle.bus.specs.laws.Records.{fits_at}
use Rattle.bus.proofs.laws.Records.{fits_lent}
use Rattle.bus.proofs.devices.all_fit.Goals as goal

pub loop-i-init : goal.loop-i-init
loop-i-init c =
    (search rules, below_none _)

pub returns-then-not-fit : goal.returns-then-not-fit
returns-then-not-fit c =
    let a = c.args in
    below_fails (fits_at a.devices a.lit a.unlit) _ _ (search rules) (sym (c.fit.ensures ∙ fits_lent _ a.devices a.lit a.unlit c.loop-i.i (search rules) (search rules) (search rules) (search rules)) ∙ c.if-not-fit.true)

pub loop-i-preserved : goal.loop-i-preserved
loop-i-preserved c =
    let a = c.args in
    (search rules, below_more (fits_at a.devices a.lit a.unlit) _ c.loop-i.invariant.1 (sym (c.fit.ensures ∙ fits_lent _ a.devices a.lit a.unlit c.loop-i.i (search rules) (search rules) (search rules) (search rules)) ∙ c.if-not-fit.false))
