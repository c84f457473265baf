-- What a line comes to in a loop that has the bus at hand: a question for a device that stands on it, any other request, an entry of a recording.
use Rattle.std.specs.Prelude.{ℕ, Option, Some, None, Bool, List}
use Rattle.bus.specs.Asked.{asked_of}
use Rattle.bus.specs.declared.Asked.{Asked}
use Rattle.bus.specs.declared.Event.{Event}
use Rattle.text.specs.Read.{Rest, rest}
use Rattle.script.specs.Parser.{parsed, stamp_of, parsed_entry}
use Rattle.script.specs.declared.twin.Form.{Form}
use Rattle.script.specs.declared.twin.Form.TheVariants.{Plain, Stamped}
use Rattle.script.specs.declared.twin.Heard.{Heard}
use Rattle.script.specs.declared.twin.Heard.TheVariants as H

abbrev pub heard_as : Option Asked → Option Event → Heard
heard_as (Some a) r = H.Question a
heard_as None r = H.Request r

-- where the event's line begins
abbrev pub head_of : Form → List ℕ → Option Rest
head_of Plain l = Some (rest l 0)
head_of (Stamped clock) l = stamp_of l

unfoldable pub heard_by : Bool → ℕ → Form → List ℕ → Heard
heard_by ok count Plain l = heard_as (asked_of ok count (parsed l)) (parsed l)
heard_by ok count (Stamped clock) l = H.Entry clock (parsed_entry l)
