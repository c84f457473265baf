-- How far the lit ticks of a window can be from a duty (RULES, Duty bounds).
use Rattle.std.specs.Prelude.{◌≡◌, Bool, ℕ, ◌+◌, ◌*◌, ◌≤◌}
use Rattle.lamp.specs.Window.{lit_ticks, count_limit}

-- The duty K / S with the bound B. Over every window, S times the lit ticks and w * K differ by at most B (`over`, `under`);
-- and a window that ends by the limit reaches the bound above (`above`), and one reaches it below (`below`).
pub record Bounded (lit : ℕ → Bool) (S K B : ℕ) : Type 0 where
  pub over : (t w : ℕ) → S * lit_ticks lit t w ≤ w * K + B
  pub under : (t w : ℕ) → w * K ≤ S * lit_ticks lit t w + B
  pub above : (t : ℕ) × (w : ℕ) × (t + w ≤ count_limit) × (S * lit_ticks lit t w ≡ w * K + B)
  pub below : (t : ℕ) × (w : ℕ) × (t + w ≤ count_limit) × (w * K ≡ S * lit_ticks lit t w + B)
