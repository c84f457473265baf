-- A change or a question at a position: its code is that of the position or of the device there, and what one that is not refused comes with.
use Rattle.std.specs.Prelude.{◌≡◌, Bool, true, false, cond, List, ◌++◌, ℕ, ◌%◌, ◌≤◌, ◌<◌, ltb, eqb, length}
use Rattle.std.proofs.Math.Path.{refl}
use Rattle.std.proofs.Common.{sym, arith, eqb-true, leb-false, lt-ltb, ltb-true, ltb-false, ◌∙◌}
use Rattle.std.proofs.lemmas.Bool.{eqb-false, not-false}
use Rattle.basics.specs.laws.Logic.{holds, fails, tested, and_right}
use Rattle.chip.specs.Kinds.{outputs_of}
use Rattle.chip.specs.laws.Registers.{outputs_few}
use Rattle.device.specs.declared.Device.{Device}
use Rattle.totals.specs.declared.Record.{Record}
use Rattle.refusals.specs.Reasons.{number}
use Rattle.refusals.specs.laws.Reasons.{number_positive}
use Rattle.refusals.specs.declared.Reason.{Reason}
use Rattle.refusals.specs.Refusals.{Refusal, least, code_of}
use Rattle.refusals.specs.laws.Refusals.{refused_both, above, code_first, accepted}
use Rattle.bus.specs.Devices.{bus_ok, has_device, device_at, record_at, with_device}
use Rattle.bus.specs.Place.{place_refusals, level_refusals, change_refusals, with_chip, after_change, is_missing, question_refusals, value_of}
use Rattle.bus.specs.Replies.{refused_with, done_with}
use Rattle.bus.specs.Events.{step_refusals, step_done, step_reply}
use Rattle.bus.proofs.laws.Records.{with_device_is}
use Rattle.bus.proofs.laws.Replies.{answered, turned_away, answer_is}
use Rattle.bus.specs.declared.Bus.{Bus}
use Rattle.bus.specs.declared.Change.{Change}
use Rattle.bus.specs.declared.Change.TheVariants.{Wait, Oe, Ext, Reset}
use Rattle.bus.specs.declared.Event.TheVariants as E
use Rattle.bus.specs.declared.Question.{Question}
use Rattle.bus.specs.declared.Question.TheVariants.{Lit, Pin}

-- where a position has no number, what stands there has the code
pub placed_code : (b : Bus) (dev k : ℕ) (own : List Refusal) → code_of (place_refusals b dev) ≡ 0 → k ≡ code_of own → k ≡ code_of (place_refusals b dev ++ own)
unfolding least
placed_code b dev k own z e = refused_both (place_refusals b dev) own 0 k k (sym z) e refl

-- a position's own numbers come first, whatever the device is asked
position_few : (b : Bus) (dev : ℕ) → code_of (place_refusals b dev) ≤ 4
unfolding code_of least
position_few b dev =
    elim (tested (has_device b dev)) [
      | holds e ↦ rw e (elim (tested (bus_ok b)) [ holds o ↦ rw o (omega arith) | fails o ↦ rw o (omega arith) ])
      | fails e ↦ rw e (elim (tested (bus_ok b)) [ holds o ↦ rw o (omega arith) | fails o ↦ rw o (omega arith) ])
    ]

pub questions_above : (d : Device) (q : Question) → above 4 (question_refusals d q) ≡ true
unfolding question_refusals
questions_above d (Lit out ticks) = refl
questions_above d (Pin out) = refl

pub changes_above : (r : Record) (c : Change) → above 4 (change_refusals r c) ≡ true
unfolding change_refusals
changes_above r (Wait ticks) = refl
changes_above r (Oe level) = refl
changes_above r (Ext level) = refl
changes_above r Reset = refl

pub position_first : (b : Bus) (dev : ℕ) (own : List Refusal) → above 4 own ≡ true → (code_of (place_refusals b dev) ≡ 0 → ⊥) → code_of (place_refusals b dev ++ own) ≡ code_of (place_refusals b dev)
position_first b dev own h p = code_first (place_refusals b dev) own 4 p (position_few b dev) h

pub position_refused : (b : Bus) (dev : ℕ) (own : List Refusal) (reason : Reason) → above 4 own ≡ true → number reason ≡ code_of (place_refusals b dev) → number reason ≡ code_of (place_refusals b dev ++ own)
position_refused b dev own reason h e =
    e ∙ sym (position_first b dev own h (λ z. let n = number_positive reason in omega (arith, e, z)))

-- a position without a number has a device, and is one of the eight
pub position_there : (b : Bus) (dev : ℕ) → code_of (place_refusals b dev) ≡ 0 → (has_device b dev ≡ true) × (bus_ok b ≡ true) × (dev < 8)
position_there b dev z =
    let n = accepted (place_refusals b dev) refl z in
    let there = not-false (has_device b dev) n.0 in
    (there, not-false (bus_ok b) n.1.0, ltb-true dev 8 (and_right (ltb dev b.count) (ltb dev 8) there))

-- and there are none where a device stands on a well-formed bus
pub position_free : (b : Bus) (dev : ℕ) → bus_ok b ≡ true → dev < b.count → dev < 8 → code_of (place_refusals b dev) ≡ 0
unfolding code_of least
position_free b dev o h k = rw (lt-ltb dev b.count h, lt-ltb dev 8 k, o) refl

-- what the device answers is the reply where its position has no number
pub device_answers : (b : Bus) (dev : ℕ) (q : Question) (d : Device) (k v : ℕ) → code_of (place_refusals b dev) ≡ 0 → d ≡ device_at b dev → k ≡ code_of (question_refusals d q) → v ≡ cond (eqb k 0) (value_of d q) 0 → record { code = k; value = v; bus = b } ≡ step_reply b (E.Ask dev q)
unfolding step_reply step_refusals step_done
device_answers b dev q d k v z e p w = answer_is _ _ _ _ _ (placed_code b dev k (question_refusals (device_at b dev) q) z (rw (← e) p)) (rw (← e) w)

-- outside levels that are not refused are a byte
pub levels_byte : (level : ℕ) (wrong : Bool) → code_of (level_refusals 255 level wrong) ≡ 0 → level % 256 ≡ level
levels_byte level wrong z = omega (arith, ltb-false 255 level (accepted (level_refusals 255 level wrong) refl z).0)

-- a change that is no wait, at a position that has no number: by its code it is done, and leaves the totals, or refused
pub placed_is : (b : Bus) (dev k : ℕ) (c : Change) (d : Device) → code_of (place_refusals b dev) ≡ 0 → k ≡ code_of (change_refusals (record_at b dev) c) → length b.lit ≡ 128 → length b.unlit ≡ 128 → (k ≡ 0 → after_change (record_at b dev) c ≡ with_chip (record_at b dev) d)
    → cond (eqb k 0) (done_with 0 (with_device b dev d)) (refused_with b k) ≡ step_reply b (E.Change dev c)
unfolding step_reply step_refusals step_done
placed_is b dev k c d free code l u after =
    let own = placed_code b dev k (change_refusals (record_at b dev) c) free code in
    elim (tested (eqb k 0)) [
      | holds t ↦ let z = eqb-true k 0 t in rw t (answered _ _ _ _ k own z (rw (after z, with_device_is b dev d l u) refl))
      | fails t ↦ rw t (turned_away _ _ _ _ k own (eqb-false k 0 t) refl)
    ]

module _ (d : Device) where
  pub output_byte : (out : ℕ) → is_missing d out ≡ false → out < 256
  output_byte out e = omega (arith, outputs_few d.chip, leb-false (outputs_of d.chip) out e)

  pub lit_byte : (q : Question) (out ticks : ℕ) → q ≡ Lit out ticks → code_of (question_refusals d q) ≡ 0 → out < 256
  unfolding question_refusals
  lit_byte q out ticks e z = output_byte out (accepted (question_refusals d (Lit out ticks)) refl (rw e at z)).1.0

  pub pin_byte : (q : Question) (out : ℕ) → q ≡ Pin out → code_of (question_refusals d q) ≡ 0 → out < 256
  unfolding question_refusals
  pin_byte q out e z = output_byte out (accepted (question_refusals d (Pin out)) refl (rw e at z)).0
