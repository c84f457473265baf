-- The totals of the device are lent, and given back; by its code, the wait is done or refused.
use Rattle.refusals.specs.Reasons.{number}
use Rattle.std.proofs.Common.{sym, ap, ◌∙◌, arith, rules}
use Rattle.std.proofs.Math.Path.{refl}
use Rattle.std.specs.Prelude.{◌≡◌, ◌<◌, length}
use Rattle.basics.specs.laws.Lists.{as_long}
use Rattle.basics.specs.laws.Parts.{part_long}
use Rattle.bus.specs.Devices.{record_at}
use Rattle.bus.specs.Units.{wait_refusals, wait_for_reply}
use Rattle.bus.proofs.laws.Place.{placed_code}
use Rattle.bus.proofs.laws.Records.{lent_long, record_lent, record_back}
use Rattle.bus.proofs.laws.Replies.{answered, turned_by}
use Rattle.refusals.specs.Refusals.{code_of}
use Rattle.refusals.specs.laws.Refusals.{accepted}
use Rattle.totals.specs.Wait.{exceeds_for, waited_for}
use Rattle.totals.specs.declared.Record.{Record}
use Rattle.totals.proofs.laws.Wait.{waited_long}
use Rattle.bus.proofs.units.wait_at.Goals as goal

pub wait-requires : goal.wait-requires
wait-requires c =
    let lit_long : length c.args.bus.lit ≡ 128 = search (rules, as_long) in
    let unlit_long : length c.args.bus.unlit ≡ 128 = search (rules, as_long) in
    let devices_long : length c.args.bus.devices ≡ 8 = search (rules, as_long) in
    let is_there : c.args.dev < length c.args.bus.devices = omega (arith, devices_long, c.requires.0) in
    let own = rw c.in_default.is at c.wait_check.ensures in
    let code_is : 0 ≡ code_of (wait_refusals (record_at c.args.bus c.args.dev) c.args.duration) = own ∙ ap (λ (r : Record). code_of (wait_refusals r c.args.duration)) (record_lent _ c.args.bus c.args.dev lit_long unlit_long c.requires.0 is_there) in
    let fits = (accepted (wait_refusals (record_at c.args.bus c.args.dev) c.args.duration) refl (sym code_is)).0 in (
      lent_long c.args.bus.lit c.args.dev lit_long c.requires.0,
      lent_long c.args.bus.unlit c.args.dev unlit_long c.requires.0,
      ap (λ (r : Record). exceeds_for r c.args.duration) (record_lent _ c.args.bus c.args.dev lit_long unlit_long c.requires.0 is_there) ∙ fits,
    )

pub returns : goal.returns
unfolding wait_for_reply
returns c =
    let lit_long : length c.args.bus.lit ≡ 128 = search (rules, as_long) in
    let unlit_long : length c.args.bus.unlit ≡ 128 = search (rules, as_long) in
    let devices_long : length c.args.bus.devices ≡ 8 = search (rules, as_long) in
    let is_there : c.args.dev < length c.args.bus.devices = omega (arith, devices_long, c.requires.0) in
    let own = rw c.in_default.is at c.wait_check.ensures in
    let code_is : 0 ≡ code_of (wait_refusals (record_at c.args.bus c.args.dev) c.args.duration) = own ∙ ap (λ (r : Record). code_of (wait_refusals r c.args.duration)) (record_lent _ c.args.bus c.args.dev lit_long unlit_long c.requires.0 is_there) in
    let a = c.args in
    let is = c.wait.ensures ∙ ap (λ (r : Record). waited_for r a.duration) (record_lent _ a.bus a.dev lit_long unlit_long c.requires.0 is_there) in
    let back = record_back a.bus a.dev c.requires.0 lit_long unlit_long c.wait.result _ _ (waited_for (record_at c.args.bus c.args.dev) a.duration) (waited_long (record_at c.args.bus c.args.dev) a.duration (part_long 16 a.dev a.bus.lit) (part_long 16 a.dev a.bus.unlit)) is in
    answered _ _ _ _ _ (placed_code a.bus a.dev 0 (wait_refusals (record_at c.args.bus c.args.dev) a.duration) c.requires.1 code_is) refl (c.done.ensures ∙ rw back refl)

pub returns-in-Err : goal.returns-in-Err
unfolding wait_for_reply
returns-in-Err c =
    let lit_long : length c.args.bus.lit ≡ 128 = search (rules, as_long) in
    let unlit_long : length c.args.bus.unlit ≡ 128 = search (rules, as_long) in
    let devices_long : length c.args.bus.devices ≡ 8 = search (rules, as_long) in
    let is_there : c.args.dev < length c.args.bus.devices = omega (arith, devices_long, c.requires.0) in
    let code_is : number c.in-Err.reason ≡ code_of (wait_refusals (record_at c.args.bus c.args.dev) c.args.duration) = c.in-Err.ensures ∙ ap (λ (r : Record). code_of (wait_refusals r c.args.duration)) (record_lent _ c.args.bus c.args.dev lit_long unlit_long c.requires.0 is_there) in
    turned_by _ _ _ _ _ (placed_code c.args.bus c.args.dev (number c.in-Err.reason) (wait_refusals (record_at c.args.bus c.args.dev) c.args.duration) c.requires.1 code_is) c.refused_for.ensures
