-- A replay by hand: for each accepted entry a wait for every driver, and then the entry's event, all by calls on the bus.
use Rattle.std.specs.Prelude.{Option, Some, None, ◌≡◌, ℕ, zero, suc, cond, List, [], ◌∷◌, ◌++◌, ◌==◌}
use Rattle.lamp.specs.declared.DriverTicks.{DriverTicks}
use Rattle.chip.specs.Kinds.{is_driver}
use Rattle.bus.specs.Devices.{device_at}
use Rattle.bus.specs.Events.{step_reply, run_bus, run_replies}
use Rattle.bus.specs.declared.Bus.{Bus}
use Rattle.bus.specs.declared.Change.TheVariants.{Wait}
use Rattle.bus.specs.declared.Event.{Event}
use Rattle.bus.specs.declared.Event.TheVariants.{Change}
use Rattle.bus.specs.declared.Reply.{Reply}
use Rattle.replay.specs.Time.{Clock, since}
use Rattle.replay.specs.Replay.{replayed}
use Rattle.replay.specs.declared.Entry.{Entry}

-- a wait for the device at position i, where that is a driver
abbrev pub wait_at : DriverTicks → Bus → ℕ → List Event
wait_at ticks b i = cond (is_driver (device_at b i).chip) (Change i (Wait ticks.0) ∷ []) []

-- for every driver below position n, in rising order
unfoldable pub waits_below : DriverTicks → Bus → ℕ → List Event
waits_below ticks b zero = []
waits_below ticks b (suc n) = waits_below ticks b n ++ wait_at ticks b n

-- an entry by hand: the waits for its time, and then its event
unfoldable pub by_hand : Bus → Clock → Option Entry → List Event
by_hand b clock (Some x) = waits_below (since clock x.at) b b.count ++ x.event ∷ []
by_hand b clock None = []

-- the accepted entries of a recording, each by hand
unfoldable pub all_by_hand : Bus → Clock → List (Option Entry) → List (List Event)
all_by_hand b clock [] = []
all_by_hand b clock (x ∷ l) =
    cond ((replayed b clock x).reply.code == 0) (by_hand b clock x ∷ []) []
    ++ all_by_hand (replayed b clock x).reply.bus (replayed b clock x).clock l

-- all events, one after the other
abbrev pub flat : List (List Event) → List Event
flat [] = []
flat (l ∷ ls) = l ++ flat ls

-- ---- what is said of them

-- every event is accepted
abbrev pub AllAccepted : Bus → List Event → Type 0
AllAccepted b [] = Unit {0}
AllAccepted b (e ∷ l) = ((step_reply b e).code ≡ 0) × AllAccepted (step_reply b e).bus l

-- the value of the last of some replies, and v where there is none
abbrev pub last_value : ℕ → List Reply → ℕ
last_value v [] = v
last_value v (r ∷ l) = last_value r.value l

-- the value of the last event of each list
abbrev pub last_values : Bus → List (List Event) → List ℕ
last_values b [] = []
last_values b (l ∷ ls) = last_value 0 (run_replies b l) ∷ last_values (run_bus b l) ls

-- the values of the replies that have the code 0
abbrev pub accepted_values : List Reply → List ℕ
accepted_values [] = []
accepted_values (r ∷ l) = cond (r.code == 0) (r.value ∷ []) [] ++ accepted_values l
