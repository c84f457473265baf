-- What a sequence of events adds to an output's totals, wait by wait: the words of the theorems.
use Rattle.std.specs.Prelude.{ℕ, ◌+◌, ◌-◌, Bool, true, false, ◌&&◌, cond, List, [], ◌∷◌, eqb, get_or}
use Rattle.bus.specs.Devices.{record_at}
use Rattle.bus.specs.Events.{step_reply, lit_reply}
use Rattle.bus.specs.declared.Bus.{Bus}
use Rattle.bus.specs.declared.Change.{Change}
use Rattle.bus.specs.declared.Change.TheVariants.{Wait, Oe, Ext, Reset}
use Rattle.bus.specs.declared.Event.{Event}
use Rattle.bus.specs.declared.Event.TheVariants as E

-- an output's two totals
abbrev pub lit_total : Bus → ℕ → ℕ → ℕ
lit_total b dev out = get_or (record_at b dev).lit out 0

abbrev pub unlit_total : Bus → ℕ → ℕ → ℕ
unlit_total b dev out = get_or (record_at b dev).unlit out 0

-- how long a change waits
abbrev pub wait_of : Change → ℕ
wait_of (Wait w) = w
wait_of (Oe level) = 0
wait_of (Ext level) = 0
wait_of Reset = 0

-- how long an event lets the device at a position wait: 0 where it is no wait of that device, or refused
abbrev pub wait_share : ℕ → Bus → Event → ℕ
wait_share dev b (E.Add chip addr) = 0
wait_share dev b (E.Signal s) = 0
wait_share dev b (E.Change i c) = cond (eqb i dev && eqb (step_reply b (E.Change i c)).code 0) (wait_of c) 0
wait_share dev b (E.Ask i q) = 0

-- what a lit question for that time, just before the event, answers
abbrev pub lit_share : ℕ → ℕ → Bus → Event → ℕ
lit_share dev out b e = (lit_reply b dev out (wait_share dev b e)).value

-- whether an event is a wait, and of the device at a position
abbrev pub is_waiting : Change → Bool
is_waiting (Wait w) = true
is_waiting (Oe level) = false
is_waiting (Ext level) = false
is_waiting Reset = false

abbrev pub is_wait : Event → Bool
is_wait (E.Add chip addr) = false
is_wait (E.Signal s) = false
is_wait (E.Change i c) = is_waiting c
is_wait (E.Ask i q) = false

abbrev pub is_wait_at : ℕ → Event → Bool
is_wait_at dev (E.Add chip addr) = false
is_wait_at dev (E.Signal s) = false
is_wait_at dev (E.Change i c) = eqb i dev && is_waiting c
is_wait_at dev (E.Ask i q) = false

-- a bus with other totals
abbrev pub with_totals : Bus → List ℕ → List ℕ → Bus
with_totals b lit unlit = record { phase = b.phase; count = b.count; devices = b.devices; lit = lit; unlit = unlit }

-- ---- one event after the other, each on the bus that the one before left

unfoldable pub wait_sum : ℕ → Bus → List Event → ℕ
wait_sum dev b [] = 0
wait_sum dev b (e ∷ l) = wait_share dev b e + wait_sum dev (step_reply b e).bus l

unfoldable pub lit_sum : ℕ → ℕ → Bus → List Event → ℕ
lit_sum dev out b [] = 0
lit_sum dev out b (e ∷ l) = lit_share dev out b e + lit_sum dev out (step_reply b e).bus l

-- the rest of each wait
unfoldable pub rest_sum : ℕ → ℕ → Bus → List Event → ℕ
rest_sum dev out b [] = 0
rest_sum dev out b (e ∷ l) = (wait_share dev b e - lit_share dev out b e) + rest_sum dev out (step_reply b e).bus l
