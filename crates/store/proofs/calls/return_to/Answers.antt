-- `return_to`: refused by the shape or what is missing; else one place is written.
use Rattle.std.proofs.Common.{◌≡◌, rules, sym, ◌∙◌}
use Rattle.refusals.specs.Reasons.{number}
use Rattle.refusals.specs.laws.Reasons.{number_positive}
use Rattle.store.specs.Calls.{answered, refused_with}
use Rattle.store.proofs.laws.Layout.{ok_long, found_held}
use Rattle.store.proofs.laws.Judged.{shape_is, put_unsound, return_turned, return_is}
use Rattle.store.proofs.calls.return_to.Goals as goal

pub returns-in_err-places : goal.returns-in_err-places
returns-in_err-places c =
    let a = c.args in
    let reason = c.in_err-places.field-0.0 in
    let s = shape_is a.store.now (number reason) (number_positive reason) c.in_err-places.ensures.code in
    let e : answered c.from_residual.result a.store.now ≡ refused_with a.store.now (number reason) = search rules in
    e ∙ return_turned a.store.now a.table a.version (number reason) (number_positive reason) (s.1 ∙ sym (put_unsound a.store.now a.table _ s.0))

pub next_version-requires : goal.next_version-requires
next_version-requires c =
    let p = c.in_ok-places.places in
    λ s q. (found_held p.bytes.now p.sound c.args.table c.args.version s (sym c.setting.ensures ∙ q)).table_few

pub returns-in_err-again : goal.returns-in_err-again
returns-in_err-again c =
    let a = c.args in
    let reason = c.in_err-again.field-0.0 in
    let e : answered c.from_residual-in_err-again.result a.store.now ≡ refused_with a.store.now (number reason) = search rules in
    e ∙ return_turned a.store.now a.table a.version (number reason) (number_positive reason) (rw (c.setting.ensures, c.in_ok-places.ensures.bytes) at c.in_err-again.ensures.code)

pub put_next-requires : goal.put_next-requires
put_next-requires c =
    (rw c.in_ok-places.ensures.bytes at (ok_long _ c.in_ok-places.places.sound), c.in_ok-again.ensures.next.there)

pub returns : goal.returns
returns c =
    let a = c.args in
    rw c.put_next.ensures.value
    (return_is a.store.now a.table a.version _ c.in_ok-again.again (rw (c.setting.ensures, c.in_ok-places.ensures.bytes) at c.in_ok-again.ensures.code) (rw (c.setting.ensures, c.in_ok-places.ensures.bytes) at c.in_ok-again.ensures.next) c.put_next.ensures.store_after)
