-- A driver's group test.
use Rattle.std.specs.Prelude.{◌≡◌, ℕ, ◌%◌, ◌≤◌, ◌<◌}

-- it holds for the first `on` ticks of each `period`
pub record Group : Type 0 where
  pub period : ℕ
  pub on : ℕ

-- as registers make one: both are whole 256s
pub record IsGroup (period on : ℕ) : Type 0 where
  pub positive : 0 < period
  pub within : on ≤ period
  pub whole_period : period % 256 ≡ 0
  pub whole_on : on % 256 ≡ 0
