-- One start, stop, put or get on a lent row of records (RULES, Lent forms): what it answers, and the row afterwards.
use Rattle.std.specs.Prelude.{ℕ, Bool, cond, List, [], ◌∷◌, ◌++◌, map, ltb, length, take, drop}
use Rattle.basics.specs.First.{all}
use Rattle.device.specs.declared.Device.{Device}
use Rattle.device.specs.declared.Phase.{Phase}
use Rattle.totals.specs.Totals.{totals_fit}
use Rattle.totals.specs.declared.Record.{Record}
use Rattle.bus.specs.Devices.{empty_bus}
use Rattle.bus.specs.Place.{with_chip}
use Rattle.bus.specs.Replies.{refused_with}
use Rattle.bus.specs.Events.{step_reply}
use Rattle.bus.specs.declared.Bus.{Bus}
use Rattle.bus.specs.declared.Event.TheVariants.{Signal}
use Rattle.bus.specs.declared.Reply.{Reply}
use Rattle.bus.specs.declared.SignalEvent.{SignalEvent}
use Rattle.row.specs.declared.RowReply.{RowReply}
use Rattle.row.specs.declared.Rowed.{Rowed}

abbrev pub devices_of : List Record → List Device
devices_of = map (λ (r : Record). r.device)

-- the totals of each can be handed in
abbrev pub all_fit : List Record → Bool
all_fit = all (λ (r : Record). totals_fit r 0)

-- each record with a device in place of its own, and with its totals
abbrev pub refitted : List Record → List Device → List Record
refitted [] ds = []
refitted (r ∷ rs) [] = r ∷ rs
refitted (r ∷ rs) (d ∷ ds) = with_chip r d ∷ refitted rs ds

-- the bus whose devices are the row's; its totals are 0, since no signal looks at one
abbrev pub row_bus : Phase → List Record → Bus
row_bus p rs =
    record { phase = p; count = length rs; devices = devices_of rs ++ drop (length rs) empty_bus.devices; lit = empty_bus.lit; unlit = empty_bus.unlit }

abbrev pub refused_row : Phase → ℕ → RowReply
refused_row p k = record { code = k; value = 0; phase = p }

-- a bus's reply as a row's
abbrev pub row_replied : Reply → RowReply
row_replied r = record { code = r.code; value = r.value; phase = r.bus.phase }

-- 4 totals that cannot be handed in, which is less than every other number of a bus's signal; otherwise what the bus answers
abbrev pub answered : Bool → Bus → SignalEvent → Reply
answered fits b e = cond fits (step_reply b (Signal e)) (refused_with b 4)

abbrev pub row_answer : List Record → Phase → SignalEvent → Reply
row_answer rs p e = answered (all_fit rs) (row_bus p rs) e

-- 3 a row longer than 8
unfoldable pub row_reply : List Record → Phase → SignalEvent → RowReply
row_reply rs p e = cond (ltb 8 (length rs)) (refused_row p 3) (row_replied (row_answer rs p e))

unfoldable pub row_after : List Record → Phase → SignalEvent → List Record
row_after rs p e = cond (ltb 8 (length rs)) rs (refitted rs (row_answer rs p e).bus.devices)

-- the first n of some records are a row; the others stay
unfoldable pub row_of : List Record → ℕ → Phase → SignalEvent → Rowed
row_of rs n p e = record { records = row_after (take n rs) p e ++ drop n rs; reply = row_reply (take n rs) p e }
