-- One event, by its name or by its number, and a run of events.
use Rattle.std.specs.Prelude.{Option, Some, None, ℕ, cond, List, [], ◌∷◌, ◌++◌, eqb}
use Rattle.chip.specs.Kinds.{chip_numbered}
use Rattle.refusals.specs.Refusals.{Refusal}
use Rattle.bus.specs.Devices.{device_at, record_at, with_record, bus_after}
use Rattle.bus.specs.Replies.{refused_with, done_with, answer}
use Rattle.bus.specs.Add.{add_refusals, added_to}
use Rattle.bus.specs.Signals.{signal_of, signal_refusals, signal_value}
use Rattle.bus.specs.Place.{place_refusals, change_refusals, after_change, question_refusals, value_of}
use Rattle.bus.specs.declared.Bus.{Bus}
use Rattle.bus.specs.declared.Change.TheVariants as C
use Rattle.bus.specs.declared.Event.{Event}
use Rattle.bus.specs.declared.Event.TheVariants.{Add, Signal, Change, Ask}
use Rattle.bus.specs.declared.Question.TheVariants as Q
use Rattle.bus.specs.declared.Reply.{Reply}
use Rattle.bus.specs.declared.SignalEvent.TheVariants as S

-- the numbers that an event can be refused with
unfoldable pub step_refusals : Bus → Event → List Refusal
step_refusals b (Add chip addr) = add_refusals b chip addr
step_refusals b (Signal s) = signal_refusals b s
step_refusals b (Change dev c) = place_refusals b dev ++ change_refusals (record_at b dev) c
step_refusals b (Ask dev q) = place_refusals b dev ++ question_refusals (device_at b dev) q

-- the reply where none of them holds; add's value is the position
unfoldable pub step_done : Bus → Event → Reply
step_done b (Add chip addr) = done_with b.count (added_to b (chip_numbered chip) addr)
step_done b (Signal s) = done_with (signal_value b s) (bus_after (signal_of s) b)
step_done b (Change dev c) = done_with 0 (with_record b dev (after_change (record_at b dev) c))
step_done b (Ask dev q) = done_with (value_of (device_at b dev) q) b

unfoldable pub step_reply : Bus → Event → Reply
step_reply b e = answer (step_refusals b e) b (step_done b e)

-- three of them by name
abbrev pub put_reply : Bus → ℕ → Reply
put_reply b byte = step_reply b (Signal (S.Put byte))

abbrev pub wait_reply : Bus → ℕ → ℕ → Reply
wait_reply b dev ticks = step_reply b (Change dev (C.Wait ticks))

abbrev pub lit_reply : Bus → ℕ → ℕ → ℕ → Reply
lit_reply b dev out ticks = step_reply b (Ask dev (Q.Lit out ticks))

-- ---- what names an event, or none

-- 4 where it names none
abbrev pub request_reply : Bus → Option Event → Reply
request_reply b (Some e) = step_reply b e
request_reply b None = refused_with b 4

-- events by number, 1 to 11 in the order of the list of lines (RULES, Text), with as many of the arguments as the event has
unfoldable pub event_numbered : ℕ → ℕ → ℕ → ℕ → Option Event
event_numbered number x y z =
    cond (eqb number 1) (Some (Add x y))
    (cond (eqb number 2) (Some (Signal S.Start))
    (cond (eqb number 3) (Some (Signal (S.Put x)))
    (cond (eqb number 4) (Some (Signal (S.Get x)))
    (cond (eqb number 5) (Some (Signal S.Stop))
    (cond (eqb number 6) (Some (Change x (C.Wait y)))
    (cond (eqb number 7) (Some (Change x (C.Oe y)))
    (cond (eqb number 8) (Some (Change x (C.Ext y)))
    (cond (eqb number 9) (Some (Change x C.Reset))
    (cond (eqb number 10) (Some (Ask x (Q.Lit y z)))
    (cond (eqb number 11) (Some (Ask x (Q.Pin y)))
    None))))))))))

abbrev pub numbered_reply : Bus → ℕ → ℕ → ℕ → ℕ → Reply
numbered_reply b number x y z = request_reply b (event_numbered number x y z)

-- ---- a run: one event after the other, each on the bus that the one before left

abbrev pub run_bus : Bus → List Event → Bus
run_bus b [] = b
run_bus b (e ∷ l) = run_bus (step_reply b e).bus l

-- the replies of a run, in order
abbrev pub run_replies : Bus → List Event → List Reply
run_replies b [] = []
run_replies b (e ∷ l) = step_reply b e ∷ run_replies (step_reply b e).bus l
