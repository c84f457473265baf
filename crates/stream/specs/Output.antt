-- Standard output: what may be handed over.
use Rattle.std.specs.Prelude.{ℕ, ◌+◌, ◌^◌, ◌<◌, ◌≡◌, false, List, length}
use Rattle.text.specs.Run.{Answered}
use Rattle.script.specs.Twin.{twin}
use Rattle.script.specs.declared.twin.State.{State}
use Rattle.stream.specs.declared.output.Output.{Output}

abbrev pub nothing_sent : State → Output
nothing_sent first = record { state = first; sent = 0; failed = false }

-- what is handed over are the answers to some lines, from where the output is, which is the place
pub record Sends (place : ℕ) (o : Output) (lines text : List ℕ) (next : State) : Type 0 where
  pub here : place ≡ o.sent
  pub answered : Answered twin o.state lines text next
  pub room : o.sent + length text < 2 ^ 64
