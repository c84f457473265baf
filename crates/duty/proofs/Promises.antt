-- Demand 3 on the answers of lit: the bounds for every bus, position, output and length, and that each bound is reached; and what a whole blink period has.
-- That the buses of which these speak exist is in `Witness`. Once over the number of outputs: a driver's chip is a variable.
use Rattle.std.specs.Prelude.{◌≡◌, refl, Bool, true, ℕ, ◌+◌, ◌-◌, ◌*◌, ◌≤◌, ◌<◌, ltb}
use Rattle.std.proofs.Common.{ap, ◌∙◌, arith}
use Rattle.basics.specs.laws.Logic.{neither}
use Rattle.lamp.specs.Window.{lit_ticks, count_limit, counted_ticks}
use Rattle.lamp.specs.Driver.{driver_lit}
use Rattle.lamp.specs.Duty.{Bounded}
use Rattle.lamp.proofs.Promises.{individual_duty, dimmed_duty, blink_period_count}
use Rattle.lamp.specs.declared.DriverMode.{DriverMode}
use Rattle.lamp.specs.declared.DriverMode.TheVariants as Mode
use Rattle.chip.specs.Kinds.{outputs_of}
use Rattle.device.specs.Registers.{is_awake}
use Rattle.device.specs.Output.{driver_output, lamp_lit, lit_of}
use Rattle.device.specs.Wait.{overruns}
use Rattle.device.specs.declared.Device.{Device}
use Rattle.bus.specs.Devices.{device_at}
use Rattle.bus.specs.Place.{question_refusals, value_of}
use Rattle.bus.specs.Events.{step_reply, step_refusals, step_done, lit_reply}
use Rattle.bus.proofs.laws.Replies.{answer_done}
use Rattle.bus.specs.declared.Bus.{Bus}
use Rattle.bus.specs.declared.Event.TheVariants.{Ask}
use Rattle.bus.specs.declared.Question.TheVariants.{Lit}
use Rattle.bus.specs.declared.Reply.{Reply}
use Rattle.duty.specs.Output.{Output, Individual, Dimmed, Blinking}
use Rattle.duty.specs.laws.Lit.{in_limit, individual_mode, dimmed_mode, blinking_mode, counts, lit_accepted}
use Rattle.duty.specs.Promises.{Within, Reached, Above, Below}

-- ---- lit's value is the tick-by-tick sum

-- for an awake device, driver or blinker: the number of ticks among t .. t+w-1 at which the lamp's test holds
pub lit_sum_lem : (b : Bus) (dev out w : ℕ) → (lit_reply b dev out w).code ≡ 0 → is_awake (device_at b dev) ≡ true → (lit_reply b dev out w).value ≡ lit_ticks (lamp_lit (device_at b dev) out) (device_at b dev).count w
unfolding step_reply step_refusals step_done question_refusals value_of lit_of counted_ticks
lit_sum_lem b dev out w c a =
    let done = answer_done (step_refusals b (Ask dev (Lit out w))) b (step_done b (Ask dev (Lit out w))) refl refl c in
    let long = neither (ltb count_limit w) (overruns (device_at b dev) w) done.0.1.1.0 in
    ap (λ (r : Reply). r.value) done.1 ∙ rw (a, in_limit (device_at b dev) w a long.1) refl

-- ---- what an output follows

counted : (m : DriverMode) (mode N : ℕ) (b : Bus) (dev out w : ℕ) → Output (device_at b dev) out mode N → driver_output (device_at b dev) (outputs_of (device_at b dev).chip) out ≡ m → (lit_reply b dev out w).code ≡ 0 → (lit_reply b dev out w).value ≡ lit_ticks (driver_lit m) (device_at b dev).count w
counted m mode N b dev out w o e c = lit_sum_lem b dev out w c o.awake ∙ counts (device_at b dev) out w mode N m o e

individual_counts : (N : ℕ) (b : Bus) (dev out w : ℕ) → Individual (device_at b dev) out N → (lit_reply b dev out w).code ≡ 0 → (lit_reply b dev out w).value ≡ lit_ticks (driver_lit (Mode.Individual N)) (device_at b dev).count w
individual_counts N b dev out w o = counted (Mode.Individual N) 2 N b dev out w o (individual_mode (device_at b dev) out N o)

dimmed_counts : (M N : ℕ) (b : Bus) (dev out w : ℕ) → Dimmed (device_at b dev) out M N → (lit_reply b dev out w).code ≡ 0 → (lit_reply b dev out w).value ≡ lit_ticks (driver_lit (Mode.Dimmed N M)) (device_at b dev).count w
dimmed_counts M N b dev out w o = counted (Mode.Dimmed N M) 3 N b dev out w o.output (dimmed_mode (device_at b dev) out M N o)

-- ---- the bounds, over every window

bounds : (lit : ℕ → Bool) (S K B : ℕ) → Bounded lit S K B → (t w v : ℕ) → v ≡ lit_ticks lit t w → Within S K B w v
bounds lit S K B D t w v e = rw e (D.over t w, D.under t w)

pub individual_bound : (N : ℕ) → N < 256 → (b : Bus) (dev out w : ℕ) → Individual (device_at b dev) out N → (lit_reply b dev out w).code ≡ 0 → Within 256 N (N * (256 - N)) w (lit_reply b dev out w).value
individual_bound N h b dev out w o c =
    bounds (driver_lit (Mode.Individual N)) 256 N (N * (256 - N)) (individual_duty N h) (device_at b dev).count w (lit_reply b dev out w).value
    (individual_counts N b dev out w o c)

pub dimmed_bound_lem : (M N : ℕ) → M < 256 → N < 256 → (b : Bus) (dev out w : ℕ) → Dimmed (device_at b dev) out M N → (lit_reply b dev out w).code ≡ 0 → Within 65536 (M * N) (M * N * (131328 - 512 * M - N)) w (lit_reply b dev out w).value
dimmed_bound_lem M N hM hN b dev out w o c =
    bounds (driver_lit (Mode.Dimmed N M)) 65536 (M * N) (M * N * (131328 - 512 * M - N)) (dimmed_duty M N hM hN) (device_at b dev).count w (lit_reply b dev out w).value
    (dimmed_counts M N b dev out w o c)

-- ---- each bound is reached

reached : (lit : ℕ → Bool) (set : Device → ℕ → Type 0) (far : ℕ → ℕ → Type 0) → ((b : Bus) (dev out w : ℕ) → set (device_at b dev) out → (lit_reply b dev out w).code ≡ 0 → (lit_reply b dev out w).value ≡ lit_ticks lit (device_at b dev).count w) → (t w : ℕ) → t + w ≤ count_limit → far w (lit_ticks lit t w) → Reached set far
reached lit set far count t w h f = (
  t,
  w,
  h,
  λ b dev out s o.
      let c = lit_accepted b dev out t w s h in
      (c, rw (count b dev out w o c, s.at) f),
)

pub individual_reached : (N : ℕ) → N < 256 → Reached (λ d out. Individual d out N) (Above 256 N (N * (256 - N))) × Reached (λ d out. Individual d out N) (Below 256 N (N * (256 - N)))
individual_reached N h =
    let D = individual_duty N h in (
      reached (driver_lit (Mode.Individual N)) (λ d out. Individual d out N) (Above 256 N (N * (256 - N))) (individual_counts N) D.above.0 D.above.1 D.above.2 D.above.3,
      reached (driver_lit (Mode.Individual N)) (λ d out. Individual d out N) (Below 256 N (N * (256 - N))) (individual_counts N) D.below.0 D.below.1 D.below.2 D.below.3,
    )

pub dimmed_reached : (M N : ℕ) → M < 256 → N < 256 → Reached (λ d out. Dimmed d out M N) (Above 65536 (M * N) (M * N * (131328 - 512 * M - N))) × Reached (λ d out. Dimmed d out M N) (Below 65536 (M * N) (M * N * (131328 - 512 * M - N)))
dimmed_reached M N hM hN =
    let D = dimmed_duty M N hM hN in
    let B : ℕ = M * N * (131328 - 512 * M - N) in (
      reached (driver_lit (Mode.Dimmed N M)) (λ d out. Dimmed d out M N) (Above 65536 (M * N) B) (dimmed_counts M N) D.above.0 D.above.1 D.above.2 D.above.3,
      reached (driver_lit (Mode.Dimmed N M)) (λ d out. Dimmed d out M N) (Below 65536 (M * N) B) (dimmed_counts M N) D.below.0 D.below.1 D.below.2 D.below.3,
    )

-- ---- a whole blink period

-- from whatever tick it starts, not only from a multiple of the period
pub blink_period_lit : (G M N : ℕ) → M < 256 → N < 256 → (b : Bus) (dev out : ℕ) → Blinking (device_at b dev) out G M N → (lit_reply b dev out ((G + 1) * 1048576)).code ≡ 0 → (lit_reply b dev out ((G + 1) * 1048576)).value ≡ 16 * M * N * (G + 1)
blink_period_lit G M N hM hN b dev out o c =
    omega (
      arith,
      counted (Mode.Blinking N M G) 3 N b dev out ((G + 1) * 1048576) o.output (blinking_mode (device_at b dev) out G M N o) c,
      blink_period_count G M N hM hN (device_at b dev).count,
    )
