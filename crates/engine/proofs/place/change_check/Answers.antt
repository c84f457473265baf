-- A wait is judged in the unit of the kind.
use Rattle.std.proofs.Common.{◌∙◌, ap}
use Rattle.std.specs.Prelude.{Bool, [], ◌∷◌}
use Rattle.bus.specs.Place.{change_refusals}
use Rattle.refusals.specs.Refusals.{refuse, code_of}
use Rattle.totals.specs.Totals.{record_of}
use Rattle.totals.specs.Wait.{exceeds_for}
use Rattle.totals.proofs.laws.Wait.{bare_exceeds}
use Rattle.engine.proofs.place.change_check.Goals as goal

pub returns-in-Wait : goal.returns-in-Wait
unfolding change_refusals
returns-in-Wait c =
    let r = record_of c.args.d c.args.lit.now c.args.unlit.now in
    rw c.in-Wait.is
    (c.judge.ensures ∙ ap (λ (b : Bool). code_of (refuse 6 b ∷ [])) (c.exceeds.ensures ∙ ap (exceeds_for r) c.own_duration-duration.ensures ∙ bare_exceeds r _))
