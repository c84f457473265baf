-- Prefix counts (`Counts` of Cycle.antt). One gives every window's count (`window`).
-- `every`, `first`, `opposite`, `only` and `cycle` make prefix counts, and the closed form of each mode is put together of them.
use Rattle.std.specs.Prelude.{◌≡◌, refl, Bool, true, false, not, ◌&&◌, ℕ, zero, suc, min, ◌+◌, ◌-◌, ◌*◌, ◌/◌, ◌%◌, ◌^◌, ◌≤◌, ◌<◌, ltb, leb}
use Rattle.std.proofs.Common.{sym, ap, ◌∙◌, le_of_lt, zero-add, add-suc, add-zero, mod-lt, div-add-mod', mul-le-mul_right, add-one, arith, lit<, lt-ltb, le-ltb, le-leb, leb-true, leb-false, ltb-true, ltb-false}
use Rattle.std.proofs.Math.Bool.{and-true, and-false}
use Rattle.std.proofs.Math.Nat.{zero-min, min-eq_left, min-eq_right}
use Rattle.std.proofs.Math.Arith.{digits_lt, mod-mul}
use Rattle.std.proofs.lemmas.Bool.{lt-leb}
use Rattle.basics.specs.laws.Division.{div_mod_of}
use Rattle.basics.specs.laws.Logic.{tested, holds, fails}
use Rattle.lamp.specs.Window.{one_if, lit_ticks, count_limit, counted_ticks}
use Rattle.lamp.specs.Driver.{individual, grouped, dimmed, blink_period, blink_on, blinking}
use Rattle.lamp.specs.Blinker.{step_count, lit_below, lit_from}
use Rattle.lamp.specs.laws.Count.{duty_count}
use Rattle.lamp.proofs.laws.Cycle.{Counts, cycle}

-- ---- what a prefix count gives

-- the lit ticks of a window are the difference of the counts at its ends
pub window : {lit : ℕ → Bool} {F : ℕ → ℕ} → Counts lit F → (t w : ℕ) → lit_ticks lit t w + F t ≡ F (t + w)
unfolding lit_ticks
window C t zero = rw add-zero (omega arith)
window C t (suc w) = rw add-suc (omega (arith, window C t w, C.step (t + w)))

-- there is no other prefix count than the number of lit ticks from tick 0 on
pub from_zero : {lit : ℕ → Bool} {F : ℕ → ℕ} → Counts lit F → (x : ℕ) → F x ≡ lit_ticks lit 0 x
from_zero C x = omega (arith, C.start, rw zero-add at (window C 0 x))

pub at_most_one : (b : Bool) → one_if b ≤ 1
at_most_one true = omega arith
at_most_one false = omega arith

-- no more ticks are lit than pass
pub within : {lit : ℕ → Bool} {F : ℕ → ℕ} → Counts lit F → (x : ℕ) → F x ≤ x
within C zero = omega (arith, C.start)
within {lit} C (suc x) = omega (arith, C.step x, at_most_one (lit x), within C x)

-- a test of a sum is one of a difference
pub moved : (a m l : ℕ) → m ≤ l → leb a (l - m) ≡ leb (a + m) l
moved a m l h = elim (tested (leb a (l - m))) [
  | holds e ↦ e ∙ sym (le-leb (a + m) l (omega (arith, leb-true a (l - m) e)))
  | fails e ↦ e ∙ sym (lt-leb (a + m) l (omega (arith, leb-false a (l - m) e)))
]

-- ---- how prefix counts are made

-- the lit ticks from t on, counted from t
pub from : (lit : ℕ → Bool) (t : ℕ) → Counts (λ x. lit (t + x)) (lit_ticks lit t)
unfolding lit_ticks
from lit t = record { start = refl; step = λ x. refl }

-- no tick, and every tick
pub never : Counts (λ _. false) (λ _. 0)
never = record { start = refl; step = λ x. refl }

pub every : Counts (λ _. true) (λ x. x)
every = record { start = refl; step = λ x. omega arith }

-- the same ticks
pub same : {lit lit' : ℕ → Bool} {F : ℕ → ℕ} → Counts lit F → ((x : ℕ) → lit' x ≡ lit x) → Counts lit' F
same C e = record { start = C.start; step = λ x. rw (e x) (C.step x) }

-- the lit ticks from tick 0 on
pub prefix : (lit : ℕ → Bool) → Counts lit (lit_ticks lit 0)
prefix lit = same (from lit 0) (λ x. rw (zero-add x))

-- no later tick lowers a count
pub grows : (lit : ℕ → Bool) (t w : ℕ) → lit_ticks lit 0 t ≤ lit_ticks lit 0 (t + w)
grows lit t w = omega (arith, window (prefix lit) t w)

-- the lit ticks of a window where the test of the limit holds, and where not
module _ (lit : ℕ → Bool) (t w : ℕ) (b : Bool) (e : b ≡ leb (t + w) count_limit) where
  pub within_counted : b ≡ true → lit_ticks lit 0 (t + w) - lit_ticks lit 0 t ≡ counted_ticks lit t w
  unfolding counted_ticks
  within_counted h = rw (sym e ∙ h) (omega (arith, window (prefix lit) t w))

  pub beyond_none : b ≡ false → 0 ≡ counted_ticks lit t w
  unfolding counted_ticks
  beyond_none h = rw (sym e ∙ h)

-- no more ticks of a window are lit than it has
pub counted_few : (lit : ℕ → Bool) (t w : ℕ) → counted_ticks lit t w ≤ w
unfolding counted_ticks
counted_few lit t w =
    elim (tested (leb (t + w) count_limit)) [ holds e ↦ rw e (within (from lit t) w) | fails e ↦ rw e (omega arith) ]

-- the end of a window that ends by the limit fits
pub within_fits : (t w : ℕ) (b : Bool) → b ≡ leb (t + w) count_limit → b ≡ true → t + w < 2 ^ 64
within_fits t w b e h = omega (arith, leb-true (t + w) count_limit (sym e ∙ h))

-- the other ticks
opposite : {lit lit' : ℕ → Bool} {F : ℕ → ℕ} → Counts lit F → ((x : ℕ) → lit' x ≡ not (lit x)) → Counts lit' (λ x. x - F x)
opposite {lit} C e = record { start = omega arith; step = λ x. rw (e x) (omega (arith, C.step x, within C x, one (lit x))) }
  where
    one : (b : Bool) → one_if (not b) + one_if b ≡ 1
    one true = refl
    one false = refl

-- the first L ticks
first : (L : ℕ) → Counts (λ x. ltb x L) (λ x. min x L)
first L = record { start = zero-min L; step = next }
  where
    next : (x : ℕ) → min (suc x) L ≡ min x L + one_if (ltb x L)
    next x = elim (tested (ltb x L)) [
      | holds e ↦ rw e (omega (arith, ltb-true x L e))
      | fails e ↦ rw e (omega (arith, ltb-false x L e))
    ]

-- the lit ones among the ticks at which `on` holds, where such a tick x, which is number A x among them, is lit as the tick A x is
only : {lit on : ℕ → Bool} {F A : ℕ → ℕ} → Counts lit F → Counts on A → ((x : ℕ) → on x ≡ true → lit (A x) ≡ lit x) → Counts (λ x. lit x && on x) (λ x. F (A x))
only {lit} {on} {F} {A} C D alike = record { start = rw D.start C.start; step = next }
  where
    next : (x : ℕ) → F (A (suc x)) ≡ F (A x) + one_if (lit x && on x)
    next x = elim (tested (on x)) [
      | holds e ↦ rw (D.step x, e, and-true, add-one, C.step (A x), alike x e) refl
      | fails e ↦ rw (D.step x, e, and-false, add-zero (A x)) (omega arith)
    ]

-- ---- the closed forms

pub duty_counts : {P L : ℕ} → 0 < P → L ≤ P → Counts (λ x. ltb (x % P) L) (duty_count P L)
unfolding duty_count
duty_counts {P} {L} pos h = cycle P pos (first L) (min-eq_right h)

pub duty_at : (L q : ℕ) {P r x : ℕ} → r < P → x ≡ q * P + r → duty_count P L x ≡ q * L + min r L
unfolding duty_count
duty_at L q h e = rw ((div_mod_of q h e).0, (div_mod_of q h e).1) refl

-- k whole periods more, wherever they begin
pub duty_more : (P L k x : ℕ) → 0 < P → duty_count P L (k * P + x) ≡ k * L + duty_count P L x
unfolding duty_count
duty_more P L k x pos =
    let p : ((k * P + x) / P ≡ k + x / P) × ((k * P + x) % P ≡ x % P) = div_mod_of (k + x / P) (mod-lt x pos) (omega (arith, div-add-mod' x P)) in
    rw (p.0, p.1) (omega arith)

pub individual_counts : {N : ℕ} → N ≤ 256 → Counts (individual N) (duty_count 256 N)
unfolding individual
individual_counts h = duty_counts (lit< tt) h

-- brightness N within the first L ticks of each P, both multiples of 256: the ticks at which the group test holds are counted first, and N of each 256 of them
abbrev pub group_count : ℕ → ℕ → ℕ → ℕ → ℕ
group_count P L N x = duty_count 256 N (duty_count P L x)

-- a tick at which the group test holds is at the same place of its 256 as its number among such ticks
same_place : (P L x : ℕ) → P % 256 ≡ 0 → L % 256 ≡ 0 → x % P < L → duty_count P L x % 256 ≡ x % 256
unfolding duty_count
same_place P L x hP hL h =
    let p : P ≡ P / 256 * 256 = omega arith in
    let l : L ≡ L / 256 * 256 = omega arith in
    rw (min-eq_left (le_of_lt h)) (omega (arith, div-add-mod' x P, ap (λ (n : ℕ). x / P * n) p, ap (λ (n : ℕ). x / P * n) l))

pub group_counts : {P L N : ℕ} → 0 < P → P % 256 ≡ 0 → L % 256 ≡ 0 → L ≤ P → N ≤ 256 → Counts (grouped P L N) (group_count P L N)
unfolding grouped individual
group_counts {P} {L} {N} pos hP hL h hN =
    only (individual_counts hN) (duty_counts pos h) (λ x e. ap (λ (n : ℕ). ltb n N) (same_place P L x hP hL (ltb-true (x % P) L e)))

-- k whole periods more, wherever they begin
pub group_more : (P L N k x : ℕ) → 0 < P → L % 256 ≡ 0 → group_count P L N (k * P + x) ≡ k * (L / 256 * N) + group_count P L N x
group_more P L N k x pos hL =
    let l : L ≡ L / 256 * 256 = omega arith in
    let e : k * L + duty_count P L x ≡ k * (L / 256) * 256 + duty_count P L x = omega (arith, ap (λ (n : ℕ). k * n) l) in
    rw (duty_more P L k x pos, e, duty_more 256 N (k * (L / 256)) (duty_count P L x) (lit< tt)) (omega arith)

pub dimmed_counts : {M N : ℕ} → M < 256 → N < 256 → Counts (dimmed M N) (group_count 131072 (512 * M) N)
dimmed_counts hM hN = group_counts (lit< tt) refl (omega arith) (omega arith) (le_of_lt hN)

pub blink_on_within : (G M : ℕ) → M < 256 → blink_on G M ≤ blink_period G
blink_on_within G M h = omega (arith, mul-le-mul_right (G + 1) (le_of_lt h))

pub blinking_counts : (G : ℕ) {M N : ℕ} → M < 256 → N < 256 → Counts (blinking G M N) (group_count (blink_period G) (blink_on G M) N)
blinking_counts G {M} hM hN =
    group_counts (omega arith) (omega arith) (omega arith) (blink_on_within G M hM) (le_of_lt hN)

-- one blink period more
pub blink_more : (G M N x : ℕ) → group_count (blink_period G) (blink_on G M) N (x + blink_period G) ≡ 16 * M * N * (G + 1) + group_count (blink_period G) (blink_on G M) N x
blink_more G M N x =
    let l : blink_on G M / 256 ≡ 16 * M * (G + 1) = omega arith in
    let e : 1 * blink_period G + x ≡ x + blink_period G = omega arith in
    omega (arith, rw (l, e) at (group_more (blink_period G) (blink_on G M) N 1 x (omega arith) (omega arith)))

-- a blinker's duty in ticks: the prescaler makes one step of q ticks, and 256 steps are the period
below_is : (q D x : ℕ) → 0 < q → ltb (x / q % 256) D ≡ ltb (x % (256 * q)) (D * q)
below_is q D x pos =
    let c = x / q % 256 in
    rw (mod-mul x (lit< tt) pos) (elim (tested (ltb c D)) [
      | holds e ↦ e ∙ sym (lt-ltb (c * q + x % q) (D * q) (digits_lt (ltb-true c D e) (mod-lt x pos)))
      | fails e ↦ e ∙ sym (le-ltb (c * q + x % q) (D * q) (omega (arith, mul-le-mul_right q (ltb-false c D e))))
    ])

pub below_counts : (S D : ℕ) → D ≤ 256 → Counts (lit_below S D) (duty_count (256 * (S + 1)) (D * (S + 1)))
unfolding lit_below
below_counts S D h =
    same (duty_counts (omega arith) (mul-le-mul_right (S + 1) h)) (λ x. below_is (S + 1) D x (omega arith))

-- the PCA9551 is lit where the PCA9531 is not
pub from_counts : (S D : ℕ) → Counts (lit_from S D) (λ x. x - lit_ticks (lit_below S D) 0 x)
unfolding lit_below lit_from
from_counts S D = opposite (prefix (lit_below S D)) (λ x. rest (step_count S x))
  where
    rest : (a : ℕ) → leb D a ≡ not (ltb a D)
    rest a = elim (tested (ltb a D)) [
      | holds e ↦ rw e (lt-leb D a (ltb-true a D e))
      | fails e ↦ rw e (le-leb D a (ltb-false a D e))
    ]
