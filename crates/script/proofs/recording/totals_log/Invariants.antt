-- The loop: the first k totals are written.
use Rattle.std.specs.Prelude.{◌≡◌, ◌++◌, drop}
use Rattle.basics.specs.Tabulate.{tabulate}
use Rattle.script.specs.Totals.{total_at}
use Rattle.script.proofs.recording.totals_log.Given as goal

abbrev pub invariant-loop-k : goal.invariant-loop-k
invariant-loop-k l = l.total-items ≡ tabulate l.k (total_at l.bus) ++ drop l.k l.initial.total-items
