-- Demand 3 over natural numbers: how far the lit ticks of an awake driver's output can be from its duty, and that each bound is reached;
-- and the lit ticks of a whole blink period. `Bounded` is defined in `Duty`, the modes in `Driver`; how these are shown is in `laws`.
use Rattle.std.specs.Prelude.{◌≡◌, refl, ℕ, ◌+◌, ◌-◌, ◌*◌, ◌<◌}
use Rattle.std.proofs.Common.{le_of_lt, arith}
use Rattle.lamp.specs.Window.{lit_ticks}
use Rattle.lamp.specs.Driver.{blink_period, driver_lit}
use Rattle.lamp.specs.Duty.{Bounded}
use Rattle.lamp.specs.declared.DriverMode.TheVariants.{Individual, Dimmed, Blinking}
use Rattle.lamp.proofs.laws.Count.{window, same, individual_counts, dimmed_counts, blinking_counts, blink_more}
use Rattle.lamp.proofs.laws.Drift.{bounded, individual_leads, dimmed_leads}

-- mode 10: 256 times the lit ticks and w * N differ by at most N * (256 - N)
pub individual_duty : (N : ℕ) → N < 256 → Bounded (driver_lit (Individual N)) 256 N (N * (256 - N))
unfolding driver_lit
individual_duty N h = bounded (same (individual_counts (le_of_lt h)) (λ t. refl)) (individual_leads N h)

-- mode 11 with DMBLNK 0: 65,536 times the lit ticks and w * M * N differ by at most M * N * (131,328 - 512 * M - N)
pub dimmed_duty : (M N : ℕ) → M < 256 → N < 256 → Bounded (driver_lit (Dimmed N M)) 65536 (M * N) (M * N * (131328 - 512 * M - N))
unfolding driver_lit
dimmed_duty M N hM hN = bounded (same (dimmed_counts hM hN) (λ t. refl)) (dimmed_leads M N hM hN)

-- mode 11 with DMBLNK 1: a whole period has exactly 16 * M * N * (G + 1) lit ticks, wherever it begins
pub blink_period_count : (G M N : ℕ) → M < 256 → N < 256 → (t : ℕ) → lit_ticks (driver_lit (Blinking N M G)) t (blink_period G) ≡ 16 * M * N * (G + 1)
unfolding driver_lit
blink_period_count G M N hM hN t = omega (arith, window (same (blinking_counts G hM hN) (λ x. refl)) t (blink_period G), blink_more G M N t)
