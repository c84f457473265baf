-- By the check, the run of its events and the bytes got in the buffer, or a refusal and the buffer as it was.
use Rattle.std.proofs.Common.{sym, ap, ◌∙◌, arith}
use Rattle.std.proofs.Math.Path.{refl}
use Rattle.std.specs.Prelude.{length}
use Rattle.bus.specs.declared.Reply.{Reply}
use Rattle.bus.proofs.laws.Replies.{answered, turned_by}
use Rattle.message.specs.Read.{read_refusals, read_reply}
use Rattle.message.proofs.laws.Buffer.{read_fits, buffer_stored, buffer_kept}
use Rattle.refusals.specs.laws.Reasons.{number_positive}
use Rattle.refusals.specs.laws.Refusals.{accepted}
use Rattle.message.proofs.read.read_message.Goals as goal

pub read_done-requires : goal.read_done-requires
read_done-requires c =
    let a = c.args in
    let none = accepted (read_refusals a.bus a.address a.control a.n a.place (length a.buffer.now)) refl (sym c.in-Ok.ensures) in
    let fits = read_fits a.bus a.address a.control a.n a.place a.buffer.now none in
    (fits.seven_bits, fits.inside)

pub returns-in-Ok-clause-value : goal.returns-in-Ok-clause-value
unfolding read_reply
returns-in-Ok-clause-value c =
    answered _ _ _ _ _ c.in-Ok.ensures refl c.read_done.ensures.value

pub returns-in-Ok-clause-buffer_after : goal.returns-in-Ok-clause-buffer_after
unfolding read_reply
returns-in-Ok-clause-buffer_after c =
    let a = c.args in
    let reply = answered _ _ _ _ _ c.in-Ok.ensures refl c.read_done.ensures.value in
    c.read_done.ensures.buffer_after ∙ buffer_stored a.bus a.address a.control a.n a.place a.buffer.now c.read_done.result reply (ap (λ (r : Reply). r.code) c.read_done.ensures.value)

pub returns-in-Err-clause-value : goal.returns-in-Err-clause-value
unfolding read_reply
returns-in-Err-clause-value c =
    turned_by _ _ _ _ _ c.in-Err.ensures c.refused_for.ensures

pub returns-in-Err-clause-buffer_after : goal.returns-in-Err-clause-buffer_after
unfolding read_reply
returns-in-Err-clause-buffer_after c =
    let a = c.args in
    let reply = turned_by _ _ _ _ _ c.in-Err.ensures c.refused_for.ensures in
    let positive = number_positive c.in-Err.reason in
    let code = ap (λ (r : Reply). r.code) c.refused_for.ensures in
    buffer_kept a.bus a.address a.control a.n a.place a.buffer.now c.refused_for.result reply (λ z. omega arith)
