-- Three parts are stored one behind the other, and `stored` says which device they stand for.
use Rattle.std.proofs.Common.{◌∙◌, rules}
use Rattle.std.specs.Prelude.{◌≡◌, length, refl}
use Rattle.basics.specs.laws.Lists.{as_long}
use Rattle.chip.specs.laws.Kinds.{chip_back}
use Rattle.engine.specs.laws.Lens.{stored, stage_back, bit_back}
use Rattle.engine.proofs.lens.store.Goals as goal

pub returns : goal.returns
returns c =
    let d = c.args.d in
    let w : length d.written ≡ 28 = search (rules, as_long) in
    let e : length d.effective ≡ 28 = search (rules, as_long) in
    rw (c.copy_from_slice.ensures.after, c.copy_from_slice-2.ensures.after, c.copy_from_slice-3.ensures.after)
    (stored _ _ _ _ _ _ _ _ c.args.bytes.now c.requires d.written w d.effective d.count e
    ∙ rw (c.kind.ensures, c.stage_byte.ensures, c.from.ensures, chip_back d.chip, stage_back d.stage, bit_back d.oe) refl)
