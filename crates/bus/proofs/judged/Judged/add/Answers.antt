-- An add is done where no number of its list holds.
use Rattle.std.specs.Prelude.{refl}
use Rattle.std.proofs.Common.{sym, arith, leb-false}
use Rattle.chip.specs.Kinds.{chip_numbered}
use Rattle.chip.specs.laws.Addresses.{allowed_byte}
use Rattle.refusals.specs.laws.Refusals.{accepted}
use Rattle.bus.specs.Add.{add_refusals}
use Rattle.bus.specs.Events.{step_reply, step_refusals, step_done}
use Rattle.bus.proofs.laws.Replies.{answered, turned_by}
use Rattle.bus.proofs.judged.Judged.add.Goals as goal

pub overflow_cast-address : goal.overflow_cast-address
overflow_cast-address c =
    let a = c.args in
    let none = accepted (add_refusals a.self.now.bus a.chip a.address) refl (sym (c.in-Ok.ensures.code a.self.now.bus c.args.self.now.judged refl refl)) in
    omega (arith, allowed_byte (chip_numbered a.chip) a.address none.0 none.1.0)

pub with_added-requires : goal.with_added-requires
with_added-requires c =
    let a = c.args in
    let none = accepted (add_refusals a.self.now.bus a.chip a.address) refl (sym (c.in-Ok.ensures.code a.self.now.bus c.args.self.now.judged refl refl)) in
    omega (arith, leb-false 8 a.self.now.bus.count none.1.1.0)

pub returns-in-Ok : goal.returns-in-Ok
unfolding step_reply step_refusals step_done
returns-in-Ok c =
    let a = c.args in
    answered _ _ _ _ _ (c.in-Ok.ensures.code a.self.now.bus c.args.self.now.judged refl refl) refl (simp (c.done.ensures, c.with_added.ensures, c.fresh.ensures, c.in-Ok.ensures.kind))

pub returns-in-Err : goal.returns-in-Err
unfolding step_reply step_refusals
returns-in-Err c =
    turned_by _ _ _ _ _ (c.in-Err.ensures.code c.args.self.now.bus c.args.self.now.judged refl refl) c.refused_for.ensures
