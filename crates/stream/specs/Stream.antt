-- What is promised of a stream of lines through fixed buffers.
use Rattle.std.specs.Prelude.{ℕ, ◌+◌, ◌^◌, ◌≤◌, ◌≡◌, true, cond, List, [], ◌++◌, ◌⊎◌, length, take}
use Rattle.text.specs.Lines.{end_of}
use Rattle.text.specs.Run.{Answered}
use Rattle.text.specs.Stream.{StandsFor}
use Rattle.script.specs.Twin.{twin}
use Rattle.script.specs.declared.twin.State.{State}
use Rattle.stream.specs.Input.{nothing_read}
use Rattle.stream.specs.Output.{nothing_sent}
use Rattle.stream.specs.declared.buffers.Stream.{Stream}
use Rattle.stream.specs.declared.input.Status.{Status}
use Rattle.stream.specs.declared.input.Status.TheVariants.{Open, Ended, Failed}

-- a stream has failed where its output has; else it is as its input is
abbrev pub status_of : Stream → Status
status_of s = cond s.output.failed Failed s.input.status

-- by the status; that there is no more, or that a call failed, the input and the output say
abbrev pub Holds : Status → State → List ℕ → List ℕ → Stream → List ℕ → Type 0
Holds Open first text written r kept = StandsFor twin first text written r.output.state kept
Holds Ended first text written r kept = Answered twin first text written r.output.state × (r.input.status ≡ Ended)
Holds Failed first text written r kept = (r.input.status ≡ Failed) ⊎ (r.output.failed ≡ true)

-- the bytes kept are of one line, whose end is still to come, and at most 95
pub record Unfinished (s : Stream) (buf : List ℕ) : Type 0 where
  pub few : s.have ≤ 95
  pub begun : s.have ≤ end_of (take s.have buf)

-- from s on, where `text` is the bytes kept and `more` read behind them, and `written` is handed over since
pub record Goes (s : Stream) (text : List ℕ) (more : ℕ) (r : Stream) (buf : List ℕ) : Type 0 where
  pub written : List ℕ
  pub read_is : r.input.read ≡ s.input.read + more
  pub sent_is : r.output.sent ≡ s.output.sent + length written
  pub holds : Holds (status_of r) s.output.state text written r (take r.have buf)
  pub kept : status_of r ≡ Open → Unfinished r buf

-- some bytes are read behind the bytes kept
pub record Turns (s : Stream) (old : List ℕ) (r : Stream) (new : List ℕ) : Type 0 where
  pub got : List ℕ
  pub goes : Goes s (take s.have old ++ got) (length got) r new

-- the places in the input and in the output are those of the stream: nothing was read or handed over since
pub record Stands (read sent : ℕ) (s : Stream) : Type 0 where
  pub read_is : read ≡ s.input.read
  pub sent_is : sent ≡ s.output.sent

-- ---- a whole run

-- nothing is read yet
abbrev pub begun : State → Stream
begun first = record { have = 0; input = nothing_read; output = nothing_sent first }

-- a run is a long turn, up to the end of the input, a failed call or 2^56 bytes
pub record Answers (first : State) (r : Stream) (buf : List ℕ) : Type 0 where
  pub turns : Turns (begun first) [] r buf
  pub over : status_of r ≡ Open → 2 ^ 56 ≤ r.input.read
