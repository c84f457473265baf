-- `all_within` meets its contract: the chain tests the two totals of each output.
use Rattle.std.proofs.Common.{ap, ◌∙◌, arith}
use Rattle.totals.specs.Totals.{totals_within}
use Rattle.totals.proofs.laws.Wait.{within_listed}
use Rattle.totals.proofs.limits.all_within.Goals as goal

pub returns : goal.returns
returns c =
    let a = c.args in
    let few = c.outputs.ensures.upper_bound in
    c.first_within.ensures
    ∙ within_listed c.outputs.result a.more a.lit.now a.unlit.now (omega arith) (omega arith)
    ∙ ap (λ n. totals_within n a.lit.now a.unlit.now a.more) c.outputs.ensures.value
