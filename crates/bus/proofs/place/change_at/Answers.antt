-- A wait is that for the duration in the own unit; the others leave the totals.
use Rattle.std.proofs.Common.{sym, ap, ◌∙◌, rules}
use Rattle.std.proofs.Math.Path.{refl}
use Rattle.std.specs.Prelude.{◌≡◌, length}
use Rattle.basics.specs.laws.Lists.{as_long}
use Rattle.bus.specs.Devices.{device_at}
use Rattle.bus.specs.Events.{wait_reply}
use Rattle.bus.specs.Place.{change_refusals, after_change}
use Rattle.bus.specs.Units.{wait_for_reply}
use Rattle.bus.proofs.laws.Place.{position_there, levels_byte, placed_is}
use Rattle.bus.proofs.laws.Units.{own_wait}
use Rattle.device.proofs.laws.Wait.{own_is_own, own_amount}
use Rattle.refusals.specs.Refusals.{code_of}
use Rattle.bus.proofs.place.change_at.Goals as goal

pub wait_at-requires : goal.wait_at-requires
wait_at-requires c =
    ((position_there _ _ c.requires).2, c.requires)

pub returns-in-Wait : goal.returns-in-Wait
returns-in-Wait c =
    let a = c.args in
    let own = rw c.device_at-d.ensures at c.own_duration.ensures in
    rw c.in-Wait.is (c.wait_at.ensures ∙ ap (wait_for_reply a.bus a.dev) own ∙ own_wait a.bus a.dev _ (own_is_own (device_at a.bus a.dev).chip _) ∙ ap (wait_reply a.bus a.dev) (own_amount (device_at a.bus a.dev).chip _))

pub returns-in-Oe : goal.returns-in-Oe
unfolding change_refusals after_change
returns-in-Oe c =
    let lit_long : length c.args.bus.lit ≡ 128 = search (rules, as_long) in
    let unlit_long : length c.args.bus.unlit ≡ 128 = search (rules, as_long) in
    let code = rw (c.is_driver-is_driver.ensures, c.device_at-d.ensures) at c.level_check.ensures in
    rw c.in-Oe.is
    (c.placed.ensures ∙ placed_is _ _ _ _ _ c.requires code lit_long unlit_long (λ z. rw (c.with_oe.ensures, c.device_at-d.ensures) refl))

pub returns-in-Ext : goal.returns-in-Ext
unfolding change_refusals after_change
returns-in-Ext c =
    let lit_long : length c.args.bus.lit ≡ 128 = search (rules, as_long) in
    let unlit_long : length c.args.bus.unlit ≡ 128 = search (rules, as_long) in
    let code = rw (c.is_driver-is_driver.ensures, c.device_at-d.ensures) at c.level_check-in-Ext.ensures in
    rw c.in-Ext.is
    (c.placed-in-Ext.ensures ∙ placed_is _ _ _ _ _ c.requires code lit_long unlit_long (λ z. rw (c.with_levels.ensures, c.device_at-d.ensures, levels_byte c.in-Ext.level c.is_driver-is_driver.result (sym c.level_check-in-Ext.ensures ∙ z)) refl))

pub returns-in-Reset : goal.returns-in-Reset
unfolding change_refusals after_change code_of
returns-in-Reset c =
    let lit_long : length c.args.bus.lit ≡ 128 = search (rules, as_long) in
    let unlit_long : length c.args.bus.unlit ≡ 128 = search (rules, as_long) in
    rw c.in-Reset.is
    (c.placed-in-Reset.ensures ∙ placed_is _ _ _ _ _ c.requires refl lit_long unlit_long (λ z. rw (c.after_reset.ensures, c.device_at-d.ensures) refl))
