-- `total_at`: of an output that is there, by k even or odd.
use Rattle.std.proofs.Common.{rules, ne_eqb, eq-eqb}
use Rattle.script.specs.laws.Totals.{total_is}
use Rattle.script.proofs.recording.total_at.Goals as goal

pub returns-then-not-is_there : goal.returns-then-not-is_there
returns-then-not-is_there c = rw c.if-not-is_there.true at (total_is c.args.bus.now c.args.k _ _ c.requires (search rules) c.is_there.ensures)

pub returns-then-k-eq0 : goal.returns-then-k-eq0
returns-then-k-eq0 c = rw (c.if-not-is_there.false, eq-eqb _ 0 c.if-k-eq0.true) at (total_is c.args.bus.now c.args.k _ _ c.requires (search rules) c.is_there.ensures)

pub returns-else-k-eq0 : goal.returns-else-k-eq0
returns-else-k-eq0 c = rw (c.if-not-is_there.false, ne_eqb _ 0 c.if-k-eq0.false) at (total_is c.args.bus.now c.args.k _ _ c.requires (search rules) c.is_there.ensures)
