-- A run of two lists of events, one after the other; no run changes how many places there are, and none has fewer devices at its end.
use Rattle.std.specs.Prelude.{◌≡◌, refl, List, [], ◌∷◌, ◌++◌, ◌≤◌, length}
use Rattle.std.proofs.Common.{◌∙◌, le_refl, le_trans}
use Rattle.bus.specs.Events.{step_reply, run_bus}
use Rattle.bus.proofs.laws.Steps.{step_grows}
use Rattle.bus.proofs.laws.WellFormed.{step_places}
use Rattle.bus.specs.declared.Bus.{Bus}
use Rattle.bus.specs.declared.Event.{Event}

pub run_both : (b : Bus) (l m : List Event) → run_bus b (l ++ m) ≡ run_bus (run_bus b l) m
run_both b [] m = refl
run_both b (e ∷ l) m = run_both (step_reply b e).bus l m

pub run_places : (b : Bus) (l : List Event) → length (run_bus b l).devices ≡ length b.devices
run_places b [] = refl
run_places b (e ∷ l) = run_places (step_reply b e).bus l ∙ step_places b e

pub run_grows : (b : Bus) (l : List Event) → b.count ≤ (run_bus b l).count
run_grows b [] = le_refl b.count
run_grows b (e ∷ l) = le_trans (step_grows b e) (run_grows (step_reply b e).bus l)
