-- The twin as a machine over lines: the reply to a line, the state after it, and the line that answers it.
use Rattle.std.specs.Prelude.{None, ℕ, ◌+◌, cond, List, ltb}
use Rattle.bus.specs.Devices.{empty_bus}
use Rattle.bus.specs.Events.{request_reply}
use Rattle.bus.specs.declared.Bus.{Bus}
use Rattle.bus.specs.declared.Reply.{Reply}
use Rattle.replay.specs.Replay.{replayed}
use Rattle.text.specs.Run.{Machine}
use Rattle.script.specs.Parser.{parsed, parsed_entry}
use Rattle.script.specs.Answer.{answer_line}
use Rattle.script.specs.declared.twin.Form.{Form}
use Rattle.script.specs.declared.twin.Form.TheVariants.{Plain, Stamped}
use Rattle.script.specs.declared.twin.State.{State}

-- a line is answered by the bus: it names an event, or with a stamp an entry of a recording; any other is refused with 4
unfoldable pub reply_to : Bus → Form → List ℕ → Reply
reply_to b Plain l = request_reply b (parsed l)
reply_to b (Stamped clock) l = (replayed b clock (parsed_entry l)).reply

-- the form of the lines stays; the clock of stamped ones goes on
unfoldable pub form_after : Bus → Form → List ℕ → Form
form_after b Plain l = Plain
form_after b (Stamped clock) l = Stamped (replayed b clock (parsed_entry l)).clock

-- before the first line of a log of events, and of a recording
abbrev pub first_state : Form → State
first_state form = record { lines = 0; bus = empty_bus; form = form }

abbrev pub fresh_state : State
fresh_state = first_state Plain

abbrev pub fresh_replay : State
fresh_replay = first_state (Stamped None)

-- one more, up to the largest u64
abbrev pub next_number : ℕ → ℕ
next_number n = cond (ltb n 18446744073709551615) (n + 1) n

-- the state after a line
unfoldable pub after_line : State → List ℕ → State
after_line s l = record { lines = next_number s.lines; bus = (reply_to s.bus s.form l).bus; form = form_after s.bus s.form l }

-- the line that answers a line
unfoldable pub answer_to : State → List ℕ → List ℕ
answer_to s l = answer_line (next_number s.lines) (reply_to s.bus s.form l).code (reply_to s.bus s.form l).value

-- no answer takes more than 76 bytes
abbrev pub twin : Machine State
twin = record { next = after_line; answer = answer_to; room = 76 }
