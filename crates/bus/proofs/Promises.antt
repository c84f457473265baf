-- Promises on every event, for any bus (demand 1): the code is the least number whose condition holds; a refused event has value 0 and leaves the bus as it was;
-- a well-formed bus stays well formed, and is never refused for its shape.
use Rattle.std.specs.Prelude.{Option, Some, None, ◌≡◌, Bool, true, false, not, ◌&&◌, ◌⊎◌, List, [], ◌∷◌, ℕ, ◌/◌, ◌^◌, ◌≤◌, ◌<◌, ltb, length, take}
use Rattle.std.proofs.Math.Path.{refl}
use Rattle.std.proofs.Common.{sym, ap, ◌∙◌, inl, inr, arith, lt-ltb}
use Rattle.std.proofs.Math.Bool.{true≢false}
use Rattle.std.proofs.lemmas.Bool.{not-false}
use Rattle.basics.specs.laws.Logic.{holds, fails, tested}
use Rattle.lamp.specs.Duration.{amount}
use Rattle.lamp.specs.declared.Duration.{Duration}
use Rattle.basics.specs.Bits.{bit, mask_first}
use Rattle.basics.specs.laws.Bits.{mask_small, first_bit}
use Rattle.chip.specs.Kinds.{is_driver, outputs_of}
use Rattle.chip.specs.Registers.{mode1}
use Rattle.device.specs.Registers.{held}
use Rattle.device.specs.Start.{common_start_of}
use Rattle.device.specs.Wait.{is_own}
use Rattle.device.specs.declared.Device.{Device}
use Rattle.device.specs.declared.Phase.TheVariants.{Address}
use Rattle.protocol.specs.Selection.{own_address}
use Rattle.protocol.specs.Put.{acks_to}
use Rattle.protocol.proofs.Guarantees.{Lets, own_address_heard, shared_call_heard}
use Rattle.refusals.specs.Refusals.{code_of}
use Rattle.refusals.specs.laws.Refusals.{Exact}
use Rattle.basics.specs.Below.{all_below}
use Rattle.basics.specs.First.{all_first}
use Rattle.bus.specs.Devices.{bus_ok, device_at, empty_bus}
use Rattle.bus.specs.Replies.{refused_with, done_with}
use Rattle.bus.specs.Signals.{ack_set}
use Rattle.bus.specs.Place.{blink_refusals, blink_reply}
use Rattle.bus.specs.Units.{is_foreign, wait_for_refusals, wait_for_reply, lit_for_refusals, lit_for_reply}
use Rattle.bus.specs.Events.{step_reply, step_refusals, step_done, put_reply, wait_reply, lit_reply, request_reply, event_numbered, numbered_reply, run_bus}
use Rattle.basics.specs.laws.First.{empty_none, none_empty}
use Rattle.bus.proofs.laws.Replies.{answer_bus, answer_code, answer_exact, answer_done, answer_refused}
use Rattle.bus.proofs.laws.Units.{own_wait, own_lit}
use Rattle.bus.proofs.laws.WellFormed.{step_positive, shape_holds, done_shape, done_code}
use Rattle.bus.specs.declared.Bus.{Bus}
use Rattle.bus.specs.declared.Change.TheVariants.{Wait}
use Rattle.bus.specs.declared.Event.{Event}
use Rattle.bus.specs.declared.Event.TheVariants.{Signal, Change}
use Rattle.bus.specs.declared.SignalEvent.TheVariants.{Put}
use Rattle.bus.specs.declared.Reply.{Reply}

-- ---- the code

pub step_code : (b : Bus) (e : Event) → (step_reply b e).code ≡ code_of (step_refusals b e)
unfolding step_reply
step_code b e = answer_code (step_refusals b e) b (step_done b e) (done_code b e)

-- a code other than 0 is given exactly when its condition holds and no smaller one's does
pub code_exact : (b : Bus) (e : Event) → Exact (step_refusals b e) (step_reply b e).code
unfolding step_reply
code_exact b e = answer_exact (step_refusals b e) b (step_done b e) (done_code b e)

-- ---- refused events

pub refused_same : (b : Bus) (e : Event) → ((step_reply b e).code ≡ 0 → ⊥) → step_reply b e ≡ refused_with b (step_reply b e).code
unfolding step_reply
refused_same b e = answer_refused (step_refusals b e) b (step_done b e) (done_code b e)

-- ---- the blink-start question

pub blink_exact : (b : Bus) (dev : ℕ) → Exact (blink_refusals b dev) (blink_reply b dev).code
unfolding blink_reply
blink_exact b dev = answer_exact (blink_refusals b dev) b (done_with (common_start_of (device_at b dev)) b) refl

pub blink_refused : (b : Bus) (dev : ℕ) → ((blink_reply b dev).code ≡ 0 → ⊥) → blink_reply b dev ≡ refused_with b (blink_reply b dev).code
unfolding blink_reply
blink_refused b dev = answer_refused (blink_refusals b dev) b (done_with (common_start_of (device_at b dev)) b) refl

-- ---- events by number

-- a reply to an event, or refused with 4
abbrev pub IsNumbered : Bus → Reply → Type 0
IsNumbered b r = ((e : Event) × (r ≡ step_reply b e)) ⊎ (r ≡ refused_with b 4)

pub numbered_is : (b : Bus) (number x y z : ℕ) → IsNumbered b (numbered_reply b number x y z)
numbered_is b number x y z = go (event_numbered number x y z)
  where
    go : (r : Option Event) → IsNumbered b (request_reply b r)
    go (Some e) = inl (e, refl)
    go None = inr refl

-- ---- wait and lit in a unit

module _ (b : Bus) (dev : ℕ) (w : Duration) where
  pub wait_for_exact : Exact (wait_for_refusals b dev w) (wait_for_reply b dev w).code
  unfolding wait_for_reply
  wait_for_exact = answer_exact (wait_for_refusals b dev w) b _ refl

  pub wait_for_refused : ((wait_for_reply b dev w).code ≡ 0 → ⊥) → wait_for_reply b dev w ≡ refused_with b (wait_for_reply b dev w).code
  unfolding wait_for_reply
  wait_for_refused = answer_refused (wait_for_refusals b dev w) b _ refl

  pub lit_for_exact : (out : ℕ) → Exact (lit_for_refusals b dev out w) (lit_for_reply b dev out w).code
  unfolding lit_for_reply
  lit_for_exact out = answer_exact (lit_for_refusals b dev out w) b _ refl

  pub lit_for_refused : (out : ℕ) → ((lit_for_reply b dev out w).code ≡ 0 → ⊥) → lit_for_reply b dev out w ≡ refused_with b (lit_for_reply b dev out w).code
  unfolding lit_for_reply
  lit_for_refused out = answer_refused (lit_for_refusals b dev out w) b _ refl

  -- in the device's own unit the answer is that to the bare number
  pub own_unit : is_foreign (device_at b dev) w ≡ false → (wait_for_reply b dev w ≡ wait_reply b dev (amount w)) × ((out : ℕ) → lit_for_reply b dev out w ≡ lit_reply b dev out (amount w))
  own_unit e = let own = not-false (is_own (device_at b dev).chip w) e in (own_wait b dev w own, own_lit b dev w own)

  -- in the other unit every wait and lit is refused
  pub other_unit : is_foreign (device_at b dev) w ≡ true → ((wait_for_reply b dev w).code ≡ 0 → ⊥) × ((out : ℕ) → (lit_for_reply b dev out w).code ≡ 0 → ⊥)
  unfolding wait_for_reply lit_for_reply
  other_unit e = (
    λ c. true≢false (sym e ∙ (answer_done (wait_for_refusals b dev w) b _ refl refl c).0.1.1.1.0),
    λ out c. true≢false (sym e ∙ (answer_done (lit_for_refusals b dev out w) b _ refl refl c).0.1.1.1.1.0),
  )

-- ---- a put's value

-- none of the devices present acknowledges
abbrev pub nobody_acks : Bus → ℕ → Bool
nobody_acks b byte = all_first b.count (λ d. not (acks_to b.phase byte d)) b.devices

value_is : (b : Bus) (byte : ℕ) → (put_reply b byte).code ≡ 0 → (put_reply b byte).value ≡ ack_set b byte
unfolding step_reply step_refusals step_done
value_is b byte c =
    ap (λ (r : Reply). r.value) (answer_done (step_refusals b (Signal (Put byte))) b (step_done b (Signal (Put byte))) refl refl c).1

-- an accepted put's value is 0 exactly when nobody acknowledges
pub put_unheard : (b : Bus) (byte : ℕ) → (put_reply b byte).code ≡ 0 → ((put_reply b byte).value ≡ 0 → nobody_acks b byte ≡ true) × (nobody_acks b byte ≡ true → (put_reply b byte).value ≡ 0)
unfolding all_first mask_first
put_unheard b byte c =
    let p = acks_to b.phase byte in
    let ds = take b.count b.devices in (
      λ z. empty_none 1 p ds (omega arith) (sym (value_is b byte c) ∙ z),
      λ n. value_is b byte c ∙ none_empty 1 p ds n,
    )

-- bit i of it is set exactly when i is below the count and the device at i acknowledges
pub put_set : (b : Bus) (byte i : ℕ) → b.count ≤ length b.devices → (put_reply b byte).code ≡ 0 → bit i (put_reply b byte).value ≡ (ltb i b.count && acks_to b.phase byte (device_at b i))
put_set b byte i wide c =
    rw (value_is b byte c) (first_bit (acks_to b.phase byte) _ b.devices b.count i wide)

-- and no higher bit is
pub put_small : (b : Bus) (byte : ℕ) → (put_reply b byte).code ≡ 0 → (put_reply b byte).value < 2 ^ b.count
put_small b byte c = rw (value_is b byte c) (mask_small (acks_to b.phase byte) b.devices b.count)

-- an address byte is for the device: it has the device's own address, or one that MODE1 lets a driver share
abbrev pub Addressed : Device → ℕ → Type 0
Addressed d byte =
    (own_address d ≡ byte / 2)
    ⊎ ((is_driver d.chip ≡ true) × (k : ℕ) × (r : ℕ) × Lets (outputs_of d.chip) k r × (bit k (held d mode1) ≡ true) × (held d r / 2 ≡ byte / 2))

addressed_heard : (d : Device) (byte : ℕ) → (byte / 2 ≡ 3 → ⊥) → Addressed d byte → acks_to Address byte d ≡ true
addressed_heard d byte other (inl own) = own_address_heard d byte own other
addressed_heard d byte other (inr h) = shared_call_heard d h.1 h.2 byte h.0 h.3 h.4 h.5 other

-- an address that two boards answer shows both, but for address 3, the software reset call's
pub both_shown : (b : Bus) (byte i j : ℕ) → b.count ≤ length b.devices → (put_reply b byte).code ≡ 0 → b.phase ≡ Address → (byte / 2 ≡ 3 → ⊥) → (i < b.count) × Addressed (device_at b i) byte → (j < b.count) × Addressed (device_at b j) byte → (bit i (put_reply b byte).value ≡ true) × (bit j (put_reply b byte).value ≡ true)
both_shown b byte i j wide c address other h k = (shown i h, shown j k)
  where
    shown : (i : ℕ) → (i < b.count) × Addressed (device_at b i) byte → bit i (put_reply b byte).value ≡ true
    shown i h =
        put_set b byte i wide c
        ∙ rw (lt-ltb i b.count h.0, address, addressed_heard (device_at b i) byte other h.1) refl

-- ---- well-formedness

-- an event, accepted or refused, leaves a bus as well formed as it was; one that is not is refused
pub step_shape : (b : Bus) (e : Event) → bus_ok (step_reply b e).bus ≡ bus_ok b
unfolding step_reply
step_shape b e =
    answer_bus (step_refusals b e) b (step_done b e) (λ (x : Bus). bus_ok x ≡ bus_ok b) (step_positive b e) refl (done_shape b e)

pub step_well : (b : Bus) (e : Event) → bus_ok b ≡ true → bus_ok (step_reply b e).bus ≡ true
step_well b e h = step_shape b e ∙ h

-- and so does a wait in a unit
pub wait_for_shape : (b : Bus) (dev : ℕ) (w : Duration) → bus_ok (wait_for_reply b dev w).bus ≡ bus_ok b
wait_for_shape b dev w =
    elim (tested (is_foreign (device_at b dev) w)) [
      | holds e ↦ ap (λ (r : Reply). bus_ok r.bus) (wait_for_refused b dev w (other_unit b dev w e).0)
      | fails e ↦ ap (λ (r : Reply). bus_ok r.bus) (own_unit b dev w e).0 ∙ step_shape b (Change dev (Wait (amount w)))
    ]

pub empty_well : bus_ok empty_bus ≡ true
unfolding bus_ok all_first all_below
empty_well = refl

-- and through a run of any events
pub run_well : (b : Bus) (l : List Event) → bus_ok b ≡ true → bus_ok (run_bus b l) ≡ true
run_well b [] h = h
run_well b (e ∷ l) h = run_well (step_reply b e).bus l (step_well b e h)

-- a well-formed bus is never refused for its shape
pub never_shape : (b : Bus) (e : Event) → bus_ok b ≡ true → (step_reply b e).code ≡ 4 → ⊥
never_shape b e h c = true≢false (sym ((code_exact b e 4 (omega arith)).0 c).0 ∙ shape_holds b e ∙ ap not h)
