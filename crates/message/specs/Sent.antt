-- A message under way: its bus and the puts acknowledged so far.
use Rattle.std.specs.Prelude.{◌+◌, List, map}
use Rattle.bus.specs.Replies.{done_with}
use Rattle.bus.specs.Events.{run_bus}
use Rattle.bus.specs.declared.Bus.{Bus}
use Rattle.bus.specs.declared.Event.TheVariants.{Signal}
use Rattle.bus.specs.declared.Reply.{Reply}
use Rattle.bus.specs.declared.SignalEvent.{SignalEvent}
use Rattle.message.specs.Message.{acked_puts}
use Rattle.message.specs.declared.sent.Sent.{Sent}

abbrev pub begun : Bus → Sent
begun b = record { acks = 0; bus = b }

-- after further events
unfoldable pub sent_by : Sent → List SignalEvent → Sent
sent_by s events = record { acks = s.acks + acked_puts s.bus events; bus = run_bus s.bus (map Signal events) }

abbrev pub ended : Sent → Reply
ended s = done_with s.acks s.bus
