-- A window of ticks and its lit ticks (RULES, Lit counts). A window is a tick count t and a length w: the ticks t, t + 1, .., t + w - 1.
use Rattle.std.specs.Prelude.{ℕ, zero, suc, ◌+◌, ◌^◌, Bool, cond, leb}

-- 1 for a lit tick, 0 for an unlit one
abbrev pub one_if : Bool → ℕ
one_if lit = cond lit 1 0

-- the lit ticks of a window, counted tick by tick, for any test of a tick
unfoldable pub lit_ticks : (ℕ → Bool) → ℕ → ℕ → ℕ
lit_ticks lit t zero = 0
lit_ticks lit t (suc w) = lit_ticks lit t w + one_if (lit (t + w))

-- the largest count that a device reaches
abbrev pub count_limit : ℕ
count_limit = 2 ^ 48

-- the lit ticks of a window that ends by the limit; 0 for one that does not, which every call above refuses
unfoldable pub counted_ticks : (ℕ → Bool) → ℕ → ℕ → ℕ
counted_ticks lit t w = cond (leb (t + w) count_limit) (lit_ticks lit t w) 0
