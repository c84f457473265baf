use Rattle.std.proofs.Common.{rules, sym, ◌∙◌}
use Rattle.store.proofs.laws.Layout.{setting_is}
use Rattle.store.proofs.place.Place.is_setting_ok.Goals as goal

pub returns-then-allows : goal.returns-then-allows
returns-then-allows c =
    setting_is c.args.self.bytes.now _ _ c.of_kind-chip.ensures c.from.ensures _ _ (search rules) (c.from-past.ensures ∙ c.writables.ensures) (sym c.allows.ensures ∙ c.if-allows.true) c.is_zero.ensures
