-- The first i devices are those of the array.
use Rattle.std.proofs.Common.{sym, ◌∙◌, rules}
use Rattle.std.specs.Prelude.{◌≡◌, ◌<◌, length}
use Rattle.basics.specs.laws.Lists.{get_or_there}
use Rattle.engine.specs.laws.Lists.{copy_more, copy_done}
use Rattle.engine.specs.Lens.{devices_of}
use Rattle.engine.specs.laws.Lens.{devices_long, none}
use Rattle.engine.proofs.lens.store_all.Goals as goal

pub loop-i-preserved : goal.loop-i-preserved
loop-i-preserved c =
    let a = c.args in
    let i = c.loop-i.i in
    let small : i < 8 = search rules in
    let there : i < length a.devices = search rules in
    c.store_in.ensures
    ∙ copy_more none a.devices (devices_of a.bytes.now a.counts.now) (devices_of c.loop-i.bytes c.loop-i.counts) i _ there (rw (devices_long a.bytes.now a.counts.now) small) c.loop-i.invariant (get_or_there _ none a.devices i there)

pub returns : goal.returns
returns c =
    let a = c.args in
    let done : c.loop-i.i ≡ 8 = search rules in
    let many : length a.devices ≡ 8 = search rules in
    copy_done a.devices (devices_of a.bytes.now a.counts.now) (devices_of c.loop-i.bytes c.loop-i.counts) c.loop-i.i (many ∙ sym done) (devices_long a.bytes.now a.counts.now ∙ sym done) c.loop-i.invariant
