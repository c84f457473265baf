-- What the steps of a turn do, and ask: `Turns` and `Answers` of `Stream` say what they come to.
use Rattle.std.specs.Prelude.{ℕ, ◌+◌, ◌-◌, ◌*◌, ◌^◌, ◌≤◌, ◌<◌, min, ◌≡◌, Bool, true, false, ◌&&◌, List, length, take, drop, ltb}
use Rattle.text.specs.Lines.{end_of}
use Rattle.text.specs.Run.{Reached}
use Rattle.script.specs.Twin.{twin}
use Rattle.stream.specs.Stream.{status_of, Goes, Unfinished}
use Rattle.stream.specs.declared.input.Input.{Input}
use Rattle.stream.specs.declared.output.Output.{Output}
use Rattle.stream.specs.declared.buffers.Drained.{Drained}
use Rattle.stream.specs.declared.buffers.Stream.{Stream}
use Rattle.stream.specs.declared.input.Status.{Status}
use Rattle.stream.specs.declared.input.Status.TheVariants.{Open, Ended, Failed}

-- ---- lines in a buffer

-- from o on, the answers to the lines of the first `read` bytes are handed over
pub record HandedOver (o : Output) (text : List ℕ) (read : ℕ) (r : Output) : Type 0 where
  pub written : List ℕ
  pub reached : Reached twin o.state text read written r.state
  pub sent_is : r.sent ≡ o.sent + length written

-- so it is with what was read; and if no write failed, no complete line is left
pub record Drains (o : Output) (text : List ℕ) (r : Drained) : Type 0 where
  pub done : HandedOver o text r.read r.output
  pub stop : r.output.failed ≡ false → length text ≤ r.read + end_of (drop r.read text)

-- the first r bytes are those from `from` up to `end`, or the first 95 of them
pub record Kept (old : List ℕ) (from end : ℕ) (new : List ℕ) (r : ℕ) : Type 0 where
  pub count : r ≡ min 95 (end - from)
  pub text : take r new ≡ take r (drop from old)

-- ---- a turn

-- n bytes more, behind the bytes kept: that is no end
pub record Feeds (s : Stream) (n : ℕ) (old : List ℕ) (r : Stream) (new : List ℕ) : Type 0 where
  pub goes : Goes s (take (s.have + n) old) n r new
  pub on : status_of r ≡ Ended → ⊥

-- the bytes kept are all that is left
pub record Finishes (s : Stream) (old : List ℕ) (r : Stream) (new : List ℕ) : Type 0 where
  pub goes : Goes s (take s.have old) 0 r new
  pub over : status_of r ≡ Open → ⊥

-- what a turn asks: one line at most, unfinished, and counts that do not wrap
pub record Waits (s : Stream) (buf : List ℕ) : Type 0 where
  pub kept : Unfinished s buf
  pub short : s.input.read < 2 ^ 56
  pub place : s.output.sent ≤ 76 * s.input.read

-- what was read since fits behind the bytes kept, and is no end
pub record Reads (s : Stream) (i : Input) : Type 0 where
  pub on : i.status ≡ Open
  pub more : s.input.read ≤ i.read
  pub room : s.have + i.read ≤ s.input.read + 65536

-- nothing was read since, at the end of the input
pub record Ends (s : Stream) (i : Input) : Type 0 where
  pub ended : i.status ≡ Ended
  pub none : i.read ≡ s.input.read

abbrev pub is_open : Status → Bool
is_open Open = true
is_open Ended = false
is_open Failed = false

-- there is more to come, and less than 2^56 bytes are read
abbrev pub goes_on : Stream → Bool
goes_on s = is_open (status_of s) && ltb s.input.read (2 ^ 56)
