-- The twelve marked examples (RULES, Marked examples): one table, one test, one claim.
use Rattle.std.specs.Prelude.{◌≡◌, refl, Bool, true, ◌&&◌, List, [], ◌∷◌, ◌++◌, ℕ, ◌+◌, ◌*◌, ◌-◌, eqb}
use Rattle.basics.specs.Divisors.{euclid, gcd_of, lcm_of}
use Rattle.blink.specs.Start.{common_start}
use Rattle.bus.specs.Devices.{empty_bus, bus_ok}
use Rattle.bus.specs.Events.{step_reply, step_refusals, step_done}
use Rattle.basics.specs.Below.{all_below}
use Rattle.basics.specs.Bits.{mask_first}
use Rattle.basics.specs.Parts.{part, with_part}
use Rattle.totals.specs.Totals.{totals_within, raised}
use Rattle.totals.specs.Wait.{exceeds, waited}
use Rattle.basics.specs.First.{map_first, all_first, and_first}
use Rattle.refusals.specs.Refusals.{least, code_of}
use Rattle.bus.specs.Place.{change_refusals, after_change, question_refusals, value_of, blink_reply}
use Rattle.bus.specs.Replies.{answer}
use Rattle.chip.specs.Addresses.{address_allowed}
use Rattle.chip.specs.Control.{control_legal, control_moved}
use Rattle.chip.specs.Registers.{pointed, is_buffered}
use Rattle.chip.specs.Values.{reset_registers, stored_byte, read_byte}
use Rattle.device.specs.Output.{driver_output, blinker_output, lamp_lit, lit_of, pin_of, input_byte}
use Rattle.device.specs.Registers.{in_effect, is_awake}
use Rattle.device.specs.Reset.{after_reset}
use Rattle.device.specs.Wait.{overruns, advanced, after_wait}
use Rattle.device.specs.WellFormed.{record_ok, well_formed}
use Rattle.lamp.specs.Blinker.{lit_below, lit_from, blinker_lit}
use Rattle.lamp.specs.Driver.{individual, grouped, driver_lit}
use Rattle.lamp.specs.Window.{lit_ticks, counted_ticks}
use Rattle.protocol.specs.Put.{after_put, acks_to}
use Rattle.protocol.specs.Read.{register_byte, pointed_byte, talk_of, after_talk, after_get}
use Rattle.protocol.specs.Selection.{own_address, answers_shared, answers, stage_after_address}
use Rattle.protocol.specs.Signals.{phase_after_signal, after_signal}
use Rattle.basics.specs.Tabulate.{tabulate}
use Rattle.protocol.specs.Stop.{committed, after_commit, after_stop}
use Rattle.protocol.specs.Write.{after_control, new_byte, effective_after_data, wakes, count_after_data, after_data, after_byte, acks_data}
use Rattle.bus.specs.declared.Bus.{Bus}
use Rattle.bus.specs.declared.Event.{Event}
use Rattle.bus.specs.declared.Change.TheVariants.{Wait}
use Rattle.bus.specs.declared.Event.TheVariants.{Add, Signal, Change, Ask}
use Rattle.bus.specs.declared.Question.TheVariants.{Lit}
use Rattle.bus.specs.declared.SignalEvent.{SignalEvent}
use Rattle.bus.specs.declared.SignalEvent.TheVariants.{Start, Stop, Put, Get}
use Rattle.bus.specs.declared.Reply.{Reply}

-- an event with the value asked for it, or with a bound besides, which the value has to reach; the blink-start question; every code in the table is 0
pub data Step : Type 0 where
  on : Event → ℕ → Step
  reaching : Event → ℕ → (ℕ → Bool) → Step
  blinks : ℕ → ℕ → Step

abbrev pub reply_to : Bus → Step → Reply
reply_to b (on e v) = step_reply b e
reply_to b (reaching e v p) = step_reply b e
reply_to b (blinks dev v) = blink_reply b dev

-- whether a value is the one asked for, and reaches the bound
abbrev pub fits : Step → ℕ → Bool
fits (on e v) x = eqb x v
fits (reaching e v p) x = eqb x v && p x
fits (blinks dev v) x = eqb x v

-- each step is accepted and its value fits, one after the other from a bus
unfoldable pub passes : Bus → List Step → Bool
passes b [] = true
passes b (s ∷ l) = eqb (reply_to b s).code 0 && fits s (reply_to b s).value && passes (reply_to b s).bus l

-- ---- bounds, of a value x of lit

-- 256 times x is below w N by the bound N (256 - N), which is this number
abbrev pub below_by : (w N bound : ℕ) → ℕ → Bool
below_by w N bound x = eqb (w * N) (256 * x + bound) && eqb bound (N * (256 - N))

-- 65,536 times x is above w M N by the bound M N (131,328 - 512 M - N), which is this number
abbrev pub above_by : (w M N bound : ℕ) → ℕ → Bool
above_by w M N bound x = eqb (65536 * x) (w * M * N + bound) && eqb bound (M * N * (131328 - 512 * M - N))

-- ---- events and messages

abbrev signal : SignalEvent → ℕ → Step
signal s v = on (Signal s) v

abbrev lit : ℕ → ℕ → ℕ → Event
lit dev out ticks = Ask dev (Lit out ticks)

-- a write to the board at the 7-bit address 21, every byte acknowledged
abbrev written : List Step → List Step
written bytes = signal Start 0 ∷ signal (Put 42) 1 ∷ bytes ++ signal Stop 0 ∷ []

abbrev byte : ℕ → Step
byte x = signal (Put x) 1

-- the board's register at this control byte reads as v
abbrev reads : ℕ → ℕ → List Step
reads control v =
    signal Start 0 ∷ signal (Put 42) 1 ∷ signal (Put control) 1 ∷ signal Start 0 ∷ signal (Put 43) 1 ∷ signal (Get 0) v ∷ signal Stop 0 ∷ []

-- a PCA9635 awake, output 0 at brightness 64 in this mode, GRPPWM 1
abbrev lamp : ℕ → List Step
lamp ledout = on (Add 9635 21) 0 ∷ written (byte 128 ∷ byte 1 ∷ []) ++ written (byte 2 ∷ byte 64 ∷ []) ++ written (byte 18 ∷ byte 1 ∷ byte 1 ∷ []) ++ written (byte 20 ∷ byte ledout ∷ [])

-- ---- the table

unfoldable pub table : List (List Step)
table =
    -- 1. fresh 9635, two gets: 91h, 05h
    (on (Add 9635 21) 0 ∷ signal Start 0 ∷ signal (Put 43) 1 ∷ signal (Get 1) 145 ∷ signal (Get 0) 5 ∷ [])
    -- 2. control 9Bh legal on 9635, 9Ch not
    ∷ (on (Add 9635 21) 0 ∷ signal Start 0 ∷ signal (Put 42) 1 ∷ signal (Put 155) 1 ∷ signal Start 0 ∷ signal (Put 42) 1 ∷ signal (Put 156) 0 ∷ [])
    -- 3. 9634, option 111: 0Bh goes to 02h. EBh, then a byte for GRPFREQ and one that lands in PWM0
    ∷ (on (Add 9634 21) 0 ∷ written (byte 235 ∷ byte 7 ∷ byte 9 ∷ []) ++ reads 2 9)
    -- 4. the same: 11h goes to 00h. F1h, then a byte for ALLCALLADR and one that lands in MODE1
    ∷ (on (Add 9634 21) 0 ∷ written (byte 241 ∷ byte 224 ∷ byte 1 ∷ []) ++ reads 0 1)
    -- 5. 06 A5 5A STOP resets; 06 A5 5A 00 STOP doesn't
    ∷ (on (Add 9635 21) 0 ∷ written (byte 2 ∷ byte 64 ∷ []) ++ signal Start 0 ∷ byte 6 ∷ byte 165 ∷ byte 90 ∷ signal Stop 0 ∷ reads 2 0)
    ∷ (on (Add 9635 21) 0 ∷ written (byte 2 ∷ byte 64 ∷ []) ++ signal Start 0 ∷ byte 6 ∷ byte 165 ∷ byte 90 ∷ signal (Put 0) 0 ∷ signal Stop 0 ∷ reads 2 64)
    -- 6. E3h into SUBADR1 reads E2h
    ∷ (on (Add 9635 21) 0 ∷ written (byte 24 ∷ byte 227 ∷ []) ++ reads 24 226)
    -- 7. N=64, t=0, w=100: 64 lit
    ∷ (lamp 2 ++ on (lit 0 0 100) 64 ∷ [])
    -- 8. N=64, t=64, w=192: 0 lit, bound 12,288 reached
    ∷ (lamp 2 ++ on (Change 0 (Wait 64)) 0 ∷ reaching (lit 0 0 192) 0 (below_by 192 64 12288) ∷ [])
    -- 9. M=1, N=64, t=0, w=320: 128 lit, bound 8,368,128 reached
    ∷ (lamp 3 ++ reaching (lit 0 0 320) 128 (above_by 320 1 64 8368128) ∷ [])
    -- 10. 9531 in BLINK0, PSC0 1, PWM0 128: 256 lit of 512
    ∷ (on (Add 9531 5) 0 ∷ signal Start 0 ∷ signal (Put 202) 1 ∷ byte 17 ∷ byte 1 ∷ byte 128 ∷ signal Start 0 ∷ signal (Put 202) 1 ∷ byte 5 ∷ byte 2 ∷ signal Stop 0 ∷ on (lit 0 0 512) 256 ∷ [])
    -- 11. 9551 in BLINK0, PWM0 0: always lit
    ∷ (on (Add 9551 5) 0 ∷ signal Start 0 ∷ signal (Put 202) 1 ∷ byte 17 ∷ byte 0 ∷ byte 0 ∷ signal Start 0 ∷ signal (Put 202) 1 ∷ byte 5 ∷ byte 2 ∷ signal Stop 0 ∷ on (lit 0 0 600) 600 ∷ [])
    -- 12. PSC 5 and 3: blink starts meet after 3,072 steps
    ∷ (on (Add 9531 5) 0 ∷ signal Start 0 ∷ signal (Put 202) 1 ∷ byte 17 ∷ byte 5 ∷ byte 128 ∷ byte 3 ∷ signal Stop 0 ∷ blinks 0 3072 ∷ [])
    ∷ []

unfoldable pub all_pass : List (List Step) → Bool
all_pass [] = true
all_pass (row ∷ l) = passes empty_bus row && all_pass l

pub dozen : all_pass table ≡ true
unfolding all_pass table passes euclid gcd_of lcm_of common_start bus_ok step_reply step_refusals step_done map_first all_first mask_first and_first least code_of answer change_refusals after_change question_refusals value_of blink_reply address_allowed control_legal control_moved pointed is_buffered reset_registers stored_byte read_byte driver_output blinker_output lamp_lit lit_of pin_of input_byte in_effect is_awake after_reset overruns advanced after_wait all_below part with_part totals_within raised exceeds waited record_ok well_formed lit_below lit_from blinker_lit individual grouped driver_lit lit_ticks counted_ticks after_put acks_to register_byte pointed_byte talk_of after_talk after_get own_address answers_shared answers stage_after_address phase_after_signal after_signal tabulate committed after_commit after_stop after_control new_byte effective_after_data wakes count_after_data after_data after_byte acks_data
dozen = refl
