-- What the outputs of a driver share over a window: two stretches, one of all ticks and one of those at which the group test holds.
use Rattle.std.specs.Prelude.{Bool, cond, ℕ, ◌+◌, ◌-◌, ◌*◌, ◌/◌, ◌%◌, ◌^◌, min, ◌≤◌, ◌<◌, leb, eqb}
use Rattle.std.proofs.Math.Dec.{ltb}
use Rattle.lamp.specs.Window.{one_if, count_limit}
use Rattle.lamp.specs.Driver.{blink_period, blink_on}
use Rattle.lamp.specs.laws.Count.{duty_count}
use Rattle.lamp.specs.laws.Group.{Group}
use Rattle.lamp.specs.declared.Shared.{Shared}
use Rattle.lamp.specs.declared.Stretch.{Stretch}

-- the group's period and on-time, by DMBLNK
abbrev pub group_of : Bool → ℕ → ℕ → Group
group_of dmblnk M G = cond dmblnk (record { period = blink_period G; on = blink_on G M }) (record { period = 131072; on = 512 * M })

-- the ticks below x at which the group test holds
abbrev pub group_below : Group → ℕ → ℕ
group_below g x = duty_count g.period g.on x

-- the ticks from one count up to another, by 256s
abbrev pub between : ℕ → ℕ → Stretch
between from end = record { whole = end / 256 - from / 256; first = from % 256; last = end % 256 }

-- one tick or none, at a place among 256
abbrev pub single : ℕ → ℕ → Stretch
single place n = record { whole = 0; first = place; last = place + n }

-- awake: the window, none of it where it ends past the limit
abbrev pub awake_shared : Group → ℕ → ℕ → Shared
awake_shared g t w =
    cond (leb (t + w) count_limit) (record { on = w; each = 1; all = between t (t + w); group = between (group_below g t) (group_below g (t + w)) })
    (record { on = 0; each = 1; all = between 0 0; group = between 0 0 })

-- asleep: the present tick, which stands for all of them
abbrev pub asleep_shared : Group → ℕ → ℕ → Shared
asleep_shared g t w =
    record { on = w; each = w; all = single (t % 256) 1; group = single (t % 256) (one_if (ltb (t % g.period) g.on)) }

unfoldable pub shared_of : Bool → Group → ℕ → ℕ → Shared
shared_of awake g t w = cond awake (awake_shared g t w) (asleep_shared g t w)

-- its ends are in order, and no count of its ticks passes 64 bits
abbrev pub Sound : Stretch → Type 0
Sound x = (x.first ≤ x.last + 256 * x.whole) × (x.whole ≤ count_limit)

-- the ticks of a stretch that are lit at brightness N
abbrev pub lit_on : ℕ → Stretch → ℕ
lit_on N x = N * x.whole + min x.last N - min x.first N

-- by the two LEDOUT bits
abbrev pub stretch_of : ℕ → Shared → Stretch
stretch_of ledout s = cond (eqb ledout 2) s.all s.group

unfoldable pub shared_lit : ℕ → ℕ → Shared → ℕ
shared_lit ledout N s = cond (eqb ledout 0) 0 (cond (eqb ledout 1) s.on (lit_on N (stretch_of ledout s) * s.each))

-- whatever the brightness, the lit ticks fit
abbrev pub Fits : ℕ → Shared → Type 0
Fits ledout s = Sound (stretch_of ledout s) × ((N : ℕ) → N < 256 → shared_lit ledout N s < 2 ^ 64)
