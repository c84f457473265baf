-- That no number of a position holds says that it is one of the eight, and that none of the change holds.
use Rattle.engine.specs.Lens.{lent_bus}
use Rattle.engine.specs.laws.Steps.{change_there, change_accepted, ask_there}
use Rattle.engine.proofs.Lent.act.Goals as goal

pub change-requires-clause-there : goal.change-requires-clause-there
change-requires-clause-there c =
    change_there (lent_bus c.args.self.now) _ _ (rw c.in-Change.is at c.requires)

pub change-requires-clause-accepted : goal.change-requires-clause-accepted
change-requires-clause-accepted c =
    change_accepted (lent_bus c.args.self.now) _ _ (rw c.in-Change.is at c.requires)

pub ask-requires : goal.ask-requires
ask-requires c =
    ask_there (lent_bus c.args.self.now) _ _ (rw c.in-Ask.is at c.requires)
