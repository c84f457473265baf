-- A kind is found where its number is not refused.
use Rattle.std.specs.Prelude.{◌≡◌, refl, false, Option, Some, None, is_none}
use Rattle.std.specs.Option.{ok_or}
use Rattle.std.proofs.Common.{rules, ap, sym, ◌∙◌, true≢false}
use Rattle.refusals.specs.Refusals.{code_of}
use Rattle.refusals.specs.Reasons.{code_in}
use Rattle.refusals.specs.laws.Refusals.{accepted}
use Rattle.refusals.specs.declared.Reason.{Reason}
use Rattle.bus.specs.Add.{add_refusals}
use Rattle.bus.proofs.checks.add_check.Goals as goal

found_code : {A : Type 0} (found : Option A) (reason : Reason) → is_none found ≡ false → code_in (ok_or found reason) ≡ 0
found_code (Some x) reason e = refl
found_code None reason e = absurd (true≢false e)

pub returns-clause-code : goal.returns-clause-code
returns-clause-code c b o p n =
    let a = c.args in
    let none : 0 ≡ code_of (add_refusals b a.chip a.address) = search rules in
    let unknown = (accepted (add_refusals b a.chip a.address) refl (sym none)).0 in
    ap code_in c.ok_or.ensures.value ∙ found_code c.ok-found.result _ (ap is_none (c.ok-found.ensures.value ∙ c.try_from.ensures) ∙ unknown) ∙ none
