-- `save`: refused by the text, the shape or what is missing; else one place is written.
use Rattle.std.proofs.Common.{◌≡◌, is_none, leb, rules, sym, ap, ◌∙◌}
use Rattle.refusals.specs.Reasons.{number, code_in}
use Rattle.refusals.specs.laws.Reasons.{number_positive}
use Rattle.refusals.specs.Refusals.{code_of}
use Rattle.setting.specs.Reader.{text_refusals, setting_of}
use Rattle.setting.specs.Promises.{reading_number, none_refused}
use Rattle.store.specs.Calls.{answered, refused_with}
use Rattle.store.proofs.laws.Layout.{ok_long}
use Rattle.store.proofs.laws.Judged.{shape_is, put_unsound, save_text, save_put, save_is}
use Rattle.store.proofs.calls.save.Goals as goal

pub returns-in_err-setting : goal.returns-in_err-setting
returns-in_err-setting c =
    let a = c.args in
    let reason = c.in_err-setting.field-0.0 in
    let e : answered c.from_residual.result a.store.now ≡ refused_with a.store.now (number reason) = search rules in
    e ∙ save_text a.store.now a.table a.text.now (number reason) (number_positive reason) (ap code_in c.in_err-setting.ensures ∙ reading_number a.text.now)

pub returns-in_err-places : goal.returns-in_err-places
returns-in_err-places c =
    let a = c.args in
    let reason = c.in_err-places.field-0.0 in
    let z : code_of (text_refusals a.text.now) ≡ 0 = sym (ap code_in c.in_ok-setting.ensures ∙ reading_number a.text.now) in
    let s = shape_is a.store.now (number reason) (number_positive reason) c.in_err-places.ensures.code in
    let e : answered c.from_residual-in_err-places.result a.store.now ≡ refused_with a.store.now (number reason) = search rules in
    e ∙ save_put a.store.now a.table a.text.now z (number reason) (number_positive reason) (s.1 ∙ sym (put_unsound a.store.now a.table _ s.0))

pub returns-in_err-next : goal.returns-in_err-next
returns-in_err-next c =
    let a = c.args in
    let reason = c.in_err-next.field-0.0 in
    let z : code_of (text_refusals a.text.now) ≡ 0 = sym (ap code_in c.in_ok-setting.ensures ∙ reading_number a.text.now) in
    let missing : is_none c.then_some.result ≡ leb 64 a.table = search rules in
    let e : answered c.from_residual-in_err-next.result a.store.now ≡ refused_with a.store.now (number reason) = search rules in
    e ∙ save_put a.store.now a.table a.text.now z (number reason) (number_positive reason) (rw (c.in_ok-places.ensures.bytes, missing) at c.in_err-next.ensures.code)

pub put_next-requires : goal.put_next-requires
put_next-requires c =
    (rw c.in_ok-places.ensures.bytes at (ok_long _ c.in_ok-places.places.sound), c.in_ok-next.ensures.next.there)

pub returns : goal.returns
returns c =
    let a = c.args in
    let z : code_of (text_refusals a.text.now) ≡ 0 = sym (ap code_in c.in_ok-setting.ensures ∙ reading_number a.text.now) in
    let missing : is_none c.then_some.result ≡ leb 64 a.table = search rules in
    let own : c.in_ok-next.next.setting ≡ c.in_ok-setting.setting = search (rules, c.in_ok-next.ensures.next.what) in
    let is : c.in_ok-setting.setting ≡ setting_of a.text.now = let f = c.in_ok-setting.ensures ∙ (none_refused a.text.now z).0 in cc in
    rw c.put_next.ensures.value
    (save_is a.store.now a.table a.text.now z _ _ c.in_ok-next.next (rw (c.in_ok-places.ensures.bytes, missing) at c.in_ok-next.ensures.code) (rw c.in_ok-places.ensures.bytes at c.in_ok-next.ensures.next) (own ∙ is) c.put_next.ensures.store_after)
