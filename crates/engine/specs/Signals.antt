-- What a device answers any signal with: whether it acknowledges, which only a put asks, and the byte that it talks, which only a get asks.
use Rattle.std.specs.Prelude.{ℕ, Bool, false}
use Rattle.device.specs.declared.Device.{Device}
use Rattle.device.specs.declared.Phase.{Phase}
use Rattle.protocol.specs.Put.{acks_to}
use Rattle.protocol.specs.Read.{talk_of}
use Rattle.protocol.specs.declared.Signal.{Signal}
use Rattle.protocol.specs.declared.Signal.TheVariants.{Start, Stop, Put, Get}
use Rattle.bus.specs.declared.SignalEvent.{SignalEvent}
use Rattle.bus.specs.declared.SignalEvent.TheVariants as S

unfoldable pub acks_at : Phase → Signal → Device → Bool
acks_at p Start = λ d. false
acks_at p Stop = λ d. false
acks_at p (Put byte) = acks_to p byte
acks_at p (Get ack) = λ d. false

unfoldable pub talks_at : Signal → Device → ℕ
talks_at Start = λ d. 255
talks_at Stop = λ d. 255
talks_at (Put byte) = λ d. 255
talks_at (Get ack) = talk_of

-- an event's value, by the set of those that acknowledge and the AND of all that talk
abbrev pub value_by : SignalEvent → ℕ → ℕ → ℕ
value_by S.Start acks byte = 0
value_by S.Stop acks byte = 0
value_by (S.Put x) acks byte = acks
value_by (S.Get x) acks byte = byte
