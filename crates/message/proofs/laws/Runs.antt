-- Runs of signals: the bus, the acknowledged puts and the values of a run of two lists, one after the other.
use Rattle.std.specs.Prelude.{ℕ, suc, ◌+◌, ◌≡◌, refl, List, [], ◌∷◌, ◌++◌, map, length}
use Rattle.std.proofs.Common.{ap, arith}
use Rattle.std.proofs.lemmas.List.{map-append}
use Rattle.bus.specs.Events.{step_reply, run_bus}
use Rattle.bus.proofs.laws.Runs.{run_both}
use Rattle.bus.specs.declared.Bus.{Bus}
use Rattle.bus.specs.declared.Event.TheVariants.{Signal}
use Rattle.bus.specs.declared.SignalEvent.{SignalEvent}
use Rattle.message.specs.Message.{acked_puts}
use Rattle.message.specs.Read.{values_of}

pub run_append : (b : Bus) (l m : List SignalEvent) → run_bus b (map Signal (l ++ m)) ≡ run_bus (run_bus b (map Signal l)) (map Signal m)
run_append b l m = rw (map-append Signal l m) (run_both b (map Signal l) (map Signal m))

pub acked_append : (b : Bus) (l m : List SignalEvent) → acked_puts b (l ++ m) ≡ acked_puts b l + acked_puts (run_bus b (map Signal l)) m
unfolding acked_puts
acked_append b [] m = omega arith
acked_append b (s ∷ l) m = rw (acked_append (step_reply b (Signal s)).bus l m) (omega arith)

pub values_append : (b : Bus) (l m : List SignalEvent) → values_of b (l ++ m) ≡ values_of b l ++ values_of (run_bus b (map Signal l)) m
unfolding values_of
values_append b [] m = refl
values_append b (s ∷ l) m = ap (λ (t : List ℕ). (step_reply b (Signal s)).value ∷ t) (values_append (step_reply b (Signal s)).bus l m)

pub values_length : (b : Bus) (l : List SignalEvent) → length (values_of b l) ≡ length l
unfolding values_of
values_length b [] = refl
values_length b (s ∷ l) = ap suc (values_length (step_reply b (Signal s)).bus l)
