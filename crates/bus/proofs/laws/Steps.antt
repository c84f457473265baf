-- One event, by its code: accepted, no refusal holds and it is done; refused, the bus stays. A device stays where it is, and of its kind, and one that is added stands at the next position.
use Rattle.std.specs.Prelude.{Option, Some, None, ◌≡◌, true, false, ℕ, ◌+◌, ◌≤◌, ◌<◌, ltb, eqb}
use Rattle.std.proofs.Math.Path.{refl}
use Rattle.std.proofs.Common.{sym, ap, subst, true≢false, le_refl, arith, get_or-set_other}
use borrow.Author.Tests.{eqb-true, eqb-false, leb-false, ltb-true, lt-ltb, not-false}
use Rattle.basics.specs.laws.Logic.{holds, fails, tested, and_left, and_right}
use Rattle.basics.specs.laws.First.{map_keeps}
use Rattle.chip.specs.declared.Chip.{Chip}
use Rattle.chip.specs.Kinds.{chip_numbered, is_unknown}
use Rattle.device.specs.declared.Device.{Device}
use Rattle.protocol.specs.Signals.{after_signal}
use Rattle.protocol.proofs.laws.Kind.{signal_kind}
use Rattle.refusals.specs.laws.Refusals.{NoneHolds}
use Rattle.bus.specs.Devices.{bus_ok, has_device, device_at}
use Rattle.bus.specs.Add.{added_to}
use Rattle.bus.specs.Signals.{signal_of}
use Rattle.bus.specs.Events.{step_reply, step_refusals, step_done}
use Rattle.bus.proofs.laws.Records.{kind_set}
use Rattle.bus.proofs.laws.Replies.{answer_bus, answer_done, answer_refused}
use Rattle.bus.proofs.laws.WellFormed.{step_positive, done_code, change_kept}
use Rattle.bus.specs.declared.Bus.{Bus}
use Rattle.bus.specs.declared.Event.{Event}
use Rattle.bus.specs.declared.Event.TheVariants as E
use Rattle.bus.specs.declared.Reply.{Reply}

pub done : (b : Bus) (e : Event) → (step_reply b e).code ≡ 0 → NoneHolds (step_refusals b e) × (step_reply b e ≡ step_done b e)
unfolding step_reply
done b e z = answer_done (step_refusals b e) b (step_done b e) (done_code b e) (step_positive b e) z

pub stays : (b : Bus) (e : Event) → ((step_reply b e).code ≡ 0 → ⊥) → (step_reply b e).bus ≡ b
unfolding step_reply
stays b e n = ap (λ (r : Reply). r.bus) (answer_refused (step_refusals b e) b (step_done b e) (done_code b e) n)

-- ---- a position where a device stands

module _ (b : Bus) (dev : ℕ) (there : has_device b dev ≡ true) where
  pub below_count : dev < b.count
  below_count = ltb-true dev b.count (and_left (ltb dev b.count) (ltb dev 8) there)

  pub below_eight : dev < 8
  below_eight = ltb-true dev 8 (and_right (ltb dev b.count) (ltb dev 8) there)

module _ (b : Bus) (dev : ℕ) (h : bus_ok b ≡ true) (there : has_device b dev ≡ true) where
  abbrev pub Stands : Bus → Type 0
  Stands x = (has_device x dev ≡ true) × ((device_at x dev).chip ≡ (device_at b dev).chip)

  added_stands : (found : Option Chip) (address : ℕ) → Stands (added_to b found address)
  added_stands None address = (there, refl)
  added_stands (Some chip) address = (
    rw (lt-ltb dev (b.count + 1) (omega (arith, below_count b dev there)), lt-ltb dev 8 (below_eight b dev there)) refl,
    ap (λ (d : Device). d.chip) (get_or-set_other b.devices b.count dev _ _ (λ e. omega (arith, below_count b dev there))),
  )

  done_stands : (e : Event) → NoneHolds (step_refusals b e) → Stands (step_done b e).bus
  unfolding step_done step_refusals
  done_stands (E.Add chip addr) m = added_stands (chip_numbered chip) addr
  done_stands (E.Signal s) m = (there, map_keeps (after_signal b.phase (signal_of s)) (λ (d : Device). d.chip) (signal_kind b.phase (signal_of s)) _ b.count b.devices dev)
  done_stands (E.Change i c) m = (there, kind_set b.devices i dev _ (change_kept b i h (not-false (has_device b i) m.0) c m.1.1).kind)
  done_stands (E.Ask i q) m = (there, refl)

  pub step_stands : (e : Event) → Stands (step_reply b e).bus
  step_stands e =
      elim (tested (eqb (step_reply b e).code 0)) [
        | holds t ↦ let d = done b e (eqb-true _ 0 t) in subst Stands (ap (λ (r : Reply). r.bus) (sym d.1)) (done_stands e d.0)
        | fails t ↦ subst Stands (sym (stays b e (eqb-false _ 0 t))) (there, refl)
      ]

-- ---- a device that is added

known_added : (b : Bus) (found : Option Chip) (address : ℕ) → is_unknown found ≡ false → (added_to b found address).count ≡ b.count + 1
known_added b None address u = absurd (true≢false u)
known_added b (Some chip) address u = refl

module _ (b : Bus) (chip addr : ℕ) (z : (step_reply b (E.Add chip addr)).code ≡ 0) where
  pub added_count : (step_reply b (E.Add chip addr)).bus.count ≡ b.count + 1
  unfolding step_done step_refusals
  added_count = let d = done b (E.Add chip addr) z in rw d.1 (known_added b (chip_numbered chip) addr d.0.0)

  pub added_there : has_device (step_reply b (E.Add chip addr)).bus b.count ≡ true
  unfolding step_refusals
  added_there =
      let few = leb-false 8 b.count (done b (E.Add chip addr) z).0.1.1.0 in
      rw (added_count, lt-ltb b.count (b.count + 1) (omega arith), lt-ltb b.count 8 few) refl

-- ---- the number of devices never falls

known_grows : (b : Bus) (found : Option Chip) (address : ℕ) → b.count ≤ (added_to b found address).count
known_grows b None address = le_refl b.count
known_grows b (Some chip) address = omega arith

done_grows : (b : Bus) (e : Event) → b.count ≤ (step_done b e).bus.count
unfolding step_done
done_grows b (E.Add chip addr) = known_grows b (chip_numbered chip) addr
done_grows b (E.Signal s) = le_refl b.count
done_grows b (E.Change dev c) = le_refl b.count
done_grows b (E.Ask dev q) = le_refl b.count

pub step_grows : (b : Bus) (e : Event) → b.count ≤ (step_reply b e).bus.count
unfolding step_reply
step_grows b e =
    answer_bus (step_refusals b e) b (step_done b e) (λ (x : Bus). b.count ≤ x.count) (step_positive b e) (le_refl b.count) (λ n. done_grows b e)
