-- `read`: refused by the shape, where nothing is found, where the buffer is short; else the text.
use Rattle.std.proofs.Common.{◌≡◌, None, Some, rules, sym, ap, ◌∙◌, arith}
use Rattle.refusals.specs.Reasons.{number}
use Rattle.refusals.specs.laws.Reasons.{number_positive}
use Rattle.store.specs.Calls.{answered, bytes, refused_with}
use Rattle.store.proofs.laws.Calls.{read_unsound, read_missing, read_short}
use Rattle.store.proofs.laws.Judged.{shape_is, read_is}
use Rattle.store.proofs.calls.read.Goals as goal

pub returns-in_err-places : goal.returns-in_err-places
returns-in_err-places c =
    let a = c.args in
    let reason = c.in_err-places.field-0.0 in
    let s = shape_is a.store.now (number reason) (number_positive reason) c.in_err-places.ensures.code in
    let e : answered c.from_residual.result a.buffer.now ≡ refused_with a.buffer.now (number reason) = search rules in
    e ∙ ap (refused_with a.buffer.now) s.1 ∙ sym (read_unsound bytes a.store.now a.table a.version a.buffer.now s.0)

pub returns-in_err-setting : goal.returns-in_err-setting
returns-in_err-setting c =
    let a = c.args in
    let e : answered c.from_residual-in_err-setting.result a.buffer.now ≡ refused_with a.buffer.now 11 = search rules in
    let none : c.setting.result ≡ None = search rules in
    let ok = rw c.in_ok-places.ensures.bytes at c.in_ok-places.places.sound in
    e ∙ sym (read_missing bytes a.store.now a.table a.version a.buffer.now ok (rw c.in_ok-places.ensures.bytes at (sym c.setting.ensures ∙ none)))

pub returns-then-buffer-n : goal.returns-then-buffer-n
returns-then-buffer-n c =
    let a = c.args in
    let ok = rw c.in_ok-places.ensures.bytes at c.in_ok-places.places.sound in
    let there : c.setting.result ≡ Some c.in_ok-setting.setting = search rules in
    sym (read_short bytes a.store.now a.table a.version a.buffer.now c.in_ok-setting.setting ok (rw c.in_ok-places.ensures.bytes at (sym c.setting.ensures ∙ there)) (omega (arith, c.write_setting-n.ensures.stop, c.if-buffer-n.true)))

pub returns : goal.returns
returns c =
    let a = c.args in
    let ok = rw c.in_ok-places.ensures.bytes at c.in_ok-places.places.sound in
    let there : c.setting.result ≡ Some c.in_ok-setting.setting = search rules in
    read_is a.store.now a.table a.version a.buffer.now _ _ _ c.in_ok-setting.setting ok (rw c.in_ok-places.ensures.bytes at (sym c.setting.ensures ∙ there)) c.if-buffer-n.false c.write_setting-n.ensures c.copy_from_slice.ensures.after
