-- `keep`: refused by the shape or the list; else places are freed.
use Rattle.std.proofs.Common.{◌≡◌, rules, ◌∙◌}
use Rattle.refusals.specs.Reasons.{number}
use Rattle.refusals.specs.laws.Reasons.{number_positive}
use Rattle.store.specs.Calls.{answered, bytes, refused_with}
use Rattle.store.proofs.laws.Calls.{keep_unsound}
use Rattle.store.proofs.laws.Judged.{shape_is, keep_turned, keep_is}
use Rattle.store.proofs.calls.keep.Goals as goal

pub returns-in_err-places : goal.returns-in_err-places
returns-in_err-places c =
    let a = c.args in
    let reason = c.in_err-places.field-0.0 in
    let s = shape_is a.store.now (number reason) (number_positive reason) c.in_err-places.ensures.code in
    let e : answered c.from_residual.result a.store.now ≡ refused_with a.store.now (number reason) = search rules in
    e ∙ keep_turned a.store.now a.list.now (number reason) (number_positive reason) (s.1 ∙ keep_unsound bytes a.store.now a.list.now s.0)

pub returns-in_err-list_check : goal.returns-in_err-list_check
returns-in_err-list_check c =
    let a = c.args in
    let reason = c.in_err-list_check.field-0.0 in
    let e : answered c.from_residual-in_err-list_check.result a.store.now ≡ refused_with a.store.now (number reason) = search rules in
    e ∙ keep_turned a.store.now a.list.now (number reason) (number_positive reason) (rw c.in_ok-places.ensures.bytes at c.in_err-list_check.ensures)

pub returns : goal.returns
returns c =
    keep_is c.args.store.now c.args.list.now _ _ (rw c.in_ok-places.ensures.bytes at c.in_ok-list_check.ensures) c.free_others.ensures.store_after c.free_others.ensures.value
