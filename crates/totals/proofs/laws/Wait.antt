-- A wait, output by output: what each one's totals grow by, and that both together stay within the limit.
use Rattle.std.specs.Prelude.{◌≡◌, refl, true, false, not, ◌&&◌, List, ℕ, zero, suc, ◌+◌, ◌-◌, ◌≤◌, ◌<◌, leb, length, get_or, set, take}
use Rattle.std.proofs.Common.{ap, ◌∙◌, arith, leb-true}
use Rattle.std.proofs.lemmas.Bool.{not-false}
use Rattle.std.specs.List.{list_all, zip}
use Rattle.std.proofs.lemmas.Slice.Zip.{get_or-zip, length-zip}
use Rattle.basics.specs.laws.Below.{below_at, below_alike}
use Rattle.basics.specs.laws.Chains.{all_of_first}
use Rattle.basics.specs.laws.Logic.{tested, holds, fails, neither}
use Rattle.lamp.specs.declared.BlinkerSteps.{BlinkerSteps}
use Rattle.chip.specs.Kinds.{is_driver, outputs_of}
use Rattle.chip.specs.laws.Registers.{outputs_few}
use Rattle.device.specs.Output.{ls_of, lit_of}
use Rattle.device.specs.laws.Output.{lit_by}
use Rattle.device.proofs.laws.Output.{blinker_lit_lem, lit_few}
use Rattle.device.specs.declared.Device.{Device}
use Rattle.lamp.specs.Duration.{amount}
use Rattle.lamp.specs.declared.Duration.{Duration}
use Rattle.device.specs.Wait.{is_own, is_too_long_for, own_duration}
use Rattle.device.proofs.laws.Wait.{own_is_own, own_amount}
use Rattle.totals.specs.Totals.{total_limit, totals_within, totals_fit, raised}
use Rattle.totals.specs.Wait.{exceeds, waited, exceeds_for, waited_for}
use Rattle.totals.proofs.laws.Raised.{raised_long, raised_past, raised_more}
use Rattle.totals.specs.declared.Record.{Record}
use Rattle.totals.specs.laws.Wait.{lits_of}

-- ---- a blinker's outputs, by their LS bits

pub lits_give : (d : Device) (out w ls : ℕ) (x : BlinkerSteps) → is_driver d.chip ≡ false → ls ≡ ls_of d out → ls < 4 → x ≡ get_or (lits_of d w) ls x → x.0 ≡ lit_of d out w
lits_give d out w ls x e p h q = ap (λ (y : BlinkerSteps). y.0) q ∙ go ls h ∙ ap (λ (n : ℕ). lit_by d n w) p ∙ blinker_lit_lem d out w e
  where
    go : (n : ℕ) → n < 4 → (get_or (lits_of d w) n x).0 ≡ lit_by d n w
    go zero h = refl
    go (suc zero) h = refl
    go (suc (suc zero)) h = refl
    go (suc (suc (suc zero))) h = refl
    go (suc (suc (suc (suc n)))) h = absurd (omega arith)

-- ---- room

-- the test of room as a chain makes it, of each two totals
pub within_listed : (n w : ℕ) (lit unlit : List ℕ) → n ≤ length lit → n ≤ length unlit → list_all (λ p. leb (p.0 + p.1 + w) total_limit) (take n (zip lit unlit)) ≡ totals_within n lit unlit w
unfolding totals_within
within_listed n w lit unlit h k =
    all_of_first (λ p. leb (p.0 + p.1 + w) total_limit) (zip lit unlit) (0, 0) n (rw length-zip (omega arith))
    ∙ below_alike _ _ n (λ i l. ap (λ (p : ℕ × ℕ). leb (p.0 + p.1 + w) total_limit) (get_or-zip lit unlit i (0, 0) (omega arith) (omega arith)))

-- where there is room for a wait, there is for its lit part and for the rest
pub room : (n out w x : ℕ) (lit unlit : List ℕ) → totals_within n lit unlit w ≡ true → out < n → x ≤ w → (get_or lit out 0 + x ≤ total_limit) × (get_or unlit out 0 + (w - x) ≤ total_limit)
unfolding totals_within
room n out w x lit unlit e h k =
    let b = leb-true (get_or lit out 0 + get_or unlit out 0 + w) total_limit (below_at (λ i. leb (get_or lit i 0 + get_or unlit i 0 + w) total_limit) out n h e) in
    (omega (arith, b), omega (arith, b))

-- and so as the totals stand before output i has its turn
pub room_now : (n i w x : ℕ) (f g : ℕ → ℕ) (lit₀ unlit₀ lit unlit : List ℕ) → totals_within n lit₀ unlit₀ w ≡ true → i < n → n ≤ 16 → x ≤ w → lit ≡ raised i f lit₀ → unlit ≡ raised i g unlit₀ → (get_or lit i 0 + x ≤ total_limit) × (get_or unlit i 0 + (w - x) ≤ total_limit)
room_now n i w x f g lit₀ unlit₀ lit unlit e h k m p q =
    rw (p, q, raised_past f lit₀ i i (omega arith) (omega arith), raised_past g unlit₀ i i (omega arith) (omega arith)) (room n i w x lit₀ unlit₀ e h m)

-- and so for the part of the wait that output i is lit
pub turn_room : (d : Device) (w i : ℕ) (lit₀ unlit₀ lit unlit : List ℕ) → totals_within (outputs_of d.chip) lit₀ unlit₀ w ≡ true → i < outputs_of d.chip → lit ≡ raised i (λ out. lit_of d out w) lit₀ → unlit ≡ raised i (λ out. w - lit_of d out w) unlit₀ → (get_or lit i 0 + lit_of d i w ≤ total_limit) × (get_or unlit i 0 + (w - lit_of d i w) ≤ total_limit)
turn_room d w i lit₀ unlit₀ lit unlit e h p q =
    room_now (outputs_of d.chip) i w (lit_of d i w) (λ out. lit_of d out w) (λ out. w - lit_of d out w) lit₀ unlit₀ lit unlit e h (outputs_few d.chip) (lit_few d i w) p q

-- with that part added, and the rest, the totals of one more output have grown
pub turn_raised : (d : Device) (w i x y z : ℕ) (lit₀ unlit₀ lit unlit : List ℕ) → i < outputs_of d.chip → x ≡ lit_of d i w → y ≡ get_or lit i 0 + x → z ≡ get_or unlit i 0 + (w - x) → lit ≡ raised i (λ out. lit_of d out w) lit₀ → unlit ≡ raised i (λ out. w - lit_of d out w) unlit₀ → (set lit i y ≡ raised (i + 1) (λ out. lit_of d out w) lit₀) × (set unlit i z ≡ raised (i + 1) (λ out. w - lit_of d out w) unlit₀)
turn_raised d w i x y z lit₀ unlit₀ lit unlit h e f g p q =
    let most = outputs_few d.chip in
    (raised_more _ lit₀ lit i y (omega arith) p (rw e at f), raised_more _ unlit₀ unlit i z (omega arith) q (rw e at g))

-- a wait that exceeds nothing, in the own unit, has room
pub own_room : (r : Record) (w : Duration) → exceeds_for r w ≡ false → is_own r.device.chip w ≡ true → totals_fit r (amount w) ≡ true
own_room r w e own =
    not-false (totals_fit r (amount w)) (rw own at (neither (is_too_long_for r.device w) (is_own r.device.chip w && not (totals_fit r (amount w))) e).1)

-- ---- a bare number, in the unit of the device's kind

module _ (r : Record) (n : ℕ) where
  pub bare_exceeds : exceeds_for r (own_duration r.device.chip n) ≡ exceeds r n
  unfolding exceeds
  bare_exceeds = rw (own_is_own r.device.chip n, own_amount r.device.chip n)

  pub bare_waited : waited_for r (own_duration r.device.chip n) ≡ waited r n
  bare_waited = rw (own_is_own r.device.chip n, own_amount r.device.chip n)

-- a wait leaves 16 totals of each sort
pub waited_long : (r : Record) (w : Duration) → length r.lit ≡ 16 → length r.unlit ≡ 16 → (length (waited_for r w).lit ≡ 16) × (length (waited_for r w).unlit ≡ 16)
unfolding waited
waited_long r w l u =
    elim (tested (is_own r.device.chip w)) [
      | holds e ↦ rw e (raised_long _ r.lit _, raised_long _ r.unlit _)
      | fails e ↦ rw e (l, u)
    ]
