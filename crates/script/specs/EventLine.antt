-- The line of each event, plain and stamped, and which events have one.
use Rattle.std.specs.Prelude.{ℕ, ◌^◌, ◌<◌, List, [], ◌++◌}
use Rattle.text.specs.Text.{text, entry, Short}
use Rattle.bus.specs.declared.Event.{Event}
use Rattle.bus.specs.declared.Change.TheVariants as C
use Rattle.bus.specs.declared.Event.TheVariants as E
use Rattle.bus.specs.declared.Question.TheVariants as Q
use Rattle.bus.specs.declared.SignalEvent.TheVariants as B

-- the bytes of an event's line, without the line feed
abbrev pub line_of : Event → List ℕ
line_of (E.Add chip addr) = entry "ev=add chip=" chip (entry " addr=" addr [])
line_of (E.Signal B.Start) = text "ev=start"
line_of (E.Signal (B.Put byte)) = entry "ev=put byte=" byte []
line_of (E.Signal (B.Get ack)) = entry "ev=get ack=" ack []
line_of (E.Signal B.Stop) = text "ev=stop"
line_of (E.Change dev (C.Wait ticks)) = entry "ev=wait dev=" dev (entry " ticks=" ticks [])
line_of (E.Change dev (C.Oe level)) = entry "ev=oe dev=" dev (entry " level=" level [])
line_of (E.Change dev (C.Ext level)) = entry "ev=ext dev=" dev (entry " level=" level [])
line_of (E.Change dev C.Reset) = entry "ev=reset dev=" dev []
line_of (E.Ask dev (Q.Lit out ticks)) = entry "ev=lit dev=" dev (entry " out=" out (entry " ticks=" ticks []))
line_of (E.Ask dev (Q.Pin out)) = entry "ev=pin dev=" dev (entry " out=" out [])

-- every number of the event is one that a line can hold
abbrev pub InRange : Event → Type 0
InRange (E.Add chip addr) = Short chip × Short addr
InRange (E.Signal B.Start) = Unit {0}
InRange (E.Signal (B.Put byte)) = Short byte
InRange (E.Signal (B.Get ack)) = Short ack
InRange (E.Signal B.Stop) = Unit {0}
InRange (E.Change dev (C.Wait ticks)) = Short dev × Short ticks
InRange (E.Change dev (C.Oe level)) = Short dev × Short level
InRange (E.Change dev (C.Ext level)) = Short dev × Short level
InRange (E.Change dev C.Reset) = Short dev
InRange (E.Ask dev (Q.Lit out ticks)) = Short dev × Short out × Short ticks
InRange (E.Ask dev (Q.Pin out)) = Short dev × Short out

-- ---- with a stamp

-- the bytes of a stamped event's line: the stamp, one space, and the event's line
abbrev pub stamped_line : ℕ → Event → List ℕ
stamped_line at e = entry "at=" at (text " " ++ line_of e)

-- the stamp is one of 32 bits, and every number of the event one that a line can hold
abbrev pub StampedInRange : ℕ → Event → Type 0
StampedInRange at e = (at < 2 ^ 32) × InRange e
