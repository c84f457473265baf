-- The failures of earlier versions cannot recur: a shared call address is heard; nothing of a message takes effect before its STOP while OCH is 0; and at the STOP all of it does, unless that STOP resets the driver.
-- The third failure, lit time by rounding, is met by lit's answers being the tick-by-tick sum (crate `duty`).
use Rattle.std.specs.Prelude.{◌≡◌, refl, Bool, true, false, cond, ◌⊎◌, List, [], ◌∷◌, ℕ, ◌+◌, ◌/◌, ◌%◌, ◌<◌, eqb, ltb, leb}
use Rattle.std.proofs.Common.{◌∙◌, true≢false, inl, inr, arith, eq-eqb, ne_eqb, ltb-true}
use Rattle.std.proofs.Math.Bool.{or-true}
use Rattle.basics.specs.Bits.{bit}
use Rattle.basics.specs.laws.Logic.{and_right}
use Rattle.basics.specs.laws.Tabulate.{get_or-tabulate}
use Rattle.chip.specs.Kinds.{is_driver, outputs_of}
use Rattle.chip.specs.Registers.{mode1, pwm0, subadr1, allcalladr, in_buffer, is_buffered}
use Rattle.chip.specs.laws.Registers.{registers_few}
use Rattle.device.specs.Registers.{held, in_effect, is_awake, is_och}
use Rattle.device.specs.declared.Device.{Device}
use Rattle.device.specs.declared.Phase.{Phase}
use Rattle.device.specs.declared.Phase.TheVariants as P
use Rattle.device.specs.declared.Stage.TheVariants.{Control, Talking}
use Rattle.protocol.specs.Selection.{own_address, shared_by, answers_shared, answers, stage_after_address}
use Rattle.protocol.specs.Put.{is_selected, acks_to}
use Rattle.protocol.specs.Stop.{committed_at, committed, after_commit, took_reset, after_stop}
use Rattle.protocol.specs.Signals.{phase_after_signal, after_signal}
use Rattle.protocol.proofs.laws.Effective.{put_same, get_same}
use Rattle.protocol.specs.declared.Signal.{Signal}
use Rattle.protocol.specs.declared.Signal.TheVariants.{Start, Stop, Put, Get}

-- ---- own and shared addresses

-- bit k of MODE1 lets a driver with n outputs answer the address in register r: ALLCALLADR by bit 0, SUBADR1, 2, 3 by bits 3, 2, 1
abbrev pub Lets : ℕ → ℕ → ℕ → Type 0
Lets n k r =
    ((k ≡ 0) × (r ≡ allcalladr n))
    ⊎ (((k ≡ 3) × (r ≡ subadr1 n)) ⊎ (((k ≡ 2) × (r ≡ subadr1 n + 1)) ⊎ ((k ≡ 1) × (r ≡ subadr1 n + 2))))

shared_answered : (d : Device) (k r address : ℕ) → Lets (outputs_of d.chip) k r → shared_by d k r address ≡ true → answers_shared d (outputs_of d.chip) address ≡ true
unfolding answers_shared
shared_answered d k r address (inl x) h = rw (rw (x.0, x.1) at h) refl
shared_answered d k r address (inr (inl x)) h = rw (rw (x.0, x.1) at h, or-true) refl
shared_answered d k r address (inr (inr (inl x))) h = rw (rw (x.0, x.1) at h, or-true) refl
shared_answered d k r address (inr (inr (inr x))) h = rw (rw (x.0, x.1) at h, or-true) refl

answered_heard : (d : Device) (byte : ℕ) → answers d (byte / 2) ≡ true → (byte / 2 ≡ 3 → ⊥) → acks_to P.Address byte d ≡ true
unfolding acks_to stage_after_address
answered_heard d byte e other = rw (ne_eqb (byte / 2) 3 other, e) (go (eqb (byte % 2) 0))
  where
    go : (even : Bool) → is_selected (cond even Control Talking) ≡ true
    go true = refl
    go false = refl

-- a device acknowledges its own address, but for address 3 (06h, 07h: the software reset call's), for reads and writes alike
pub own_address_heard : (d : Device) (byte : ℕ) → own_address d ≡ byte / 2 → (byte / 2 ≡ 3 → ⊥) → acks_to P.Address byte d ≡ true
unfolding answers
own_address_heard d byte e = answered_heard d byte (rw (eq-eqb (own_address d) (byte / 2) e) refl)

-- a driver acknowledges each shared address that MODE1 lets it answer, but for address 3, whatever its own address is, awake or asleep, for reads and writes alike
pub shared_call_heard : (d : Device) (k r byte : ℕ) → is_driver d.chip ≡ true → Lets (outputs_of d.chip) k r → bit k (held d mode1) ≡ true → held d r / 2 ≡ byte / 2 → (byte / 2 ≡ 3 → ⊥) → acks_to P.Address byte d ≡ true
unfolding answers
shared_call_heard d k r byte driver lets on e =
    answered_heard d byte
    (rw (driver, shared_answered d k r (byte / 2) lets (rw (on, eq-eqb (held d r / 2) (byte / 2) e) refl), or-true) refl)

-- ---- nothing before STOP

abbrev pub is_stop : Signal → Bool
is_stop Start = false
is_stop Stop = true
is_stop (Put byte) = false
is_stop (Get ack) = false

-- with OCH 0 no signal but STOP changes what is in effect
pub before_stop_same : (p : Phase) (s : Signal) (d : Device) → is_och d ≡ false → is_stop s ≡ false → (after_signal p s d).effective ≡ d.effective
unfolding after_signal
before_stop_same p Start d o n = refl
before_stop_same p Stop d o n = absurd (true≢false n)
before_stop_same p (Put byte) d o n = put_same p byte d o
before_stop_same p (Get ack) d o n = get_same ack d

-- a device after a run of signals
abbrev pub after_signals : Phase → Device → List Signal → Device
after_signals p d [] = d
after_signals p d (s ∷ l) = after_signals (phase_after_signal p s) (after_signal p s d) l

-- no STOP among the signals, and OCH 0 at each of them
abbrev pub OpenWithoutOch : Phase → Device → List Signal → Type 0
OpenWithoutOch p d [] = Unit {0}
OpenWithoutOch p d (s ∷ l) = (is_och d ≡ false) × (is_stop s ≡ false) × OpenWithoutOch (phase_after_signal p s) (after_signal p s d) l

-- so a half-sent table is never shown
pub half_sent_hidden : (p : Phase) (d : Device) (l : List Signal) → OpenWithoutOch p d l → (after_signals p d l).effective ≡ d.effective
half_sent_hidden p d [] h = refl
half_sent_hidden p d (s ∷ l) h =
    half_sent_hidden (phase_after_signal p s) (after_signal p s d) l h.2 ∙ before_stop_same p s d h.0 h.1

-- ---- all of it at STOP

-- after a STOP an awake driver, unless that STOP resets it, has PWM0 through LEDOUT in effect as written
pub all_shown_at_stop : (d : Device) (r : ℕ) → is_driver d.chip ≡ true → is_awake d ≡ true → took_reset d.stage ≡ false → is_buffered d.chip r ≡ true → in_effect (after_stop d) r ≡ held d r
unfolding after_stop after_commit in_effect is_buffered committed
all_shown_at_stop d r driver awake kept buffered =
    let inside : in_buffer (outputs_of d.chip) r ≡ true = rw driver at buffered in
    let below : r < 28 = omega (arith, registers_few d.chip, ltb-true r (subadr1 (outputs_of d.chip)) (and_right (leb pwm0 r) (ltb r (subadr1 (outputs_of d.chip))) inside)) in
    rw (driver, kept, awake)
    (rw (driver, inside) (get_or-tabulate 28 (committed_at (outputs_of d.chip) d.written d.effective) r below ∙ rw inside refl))
