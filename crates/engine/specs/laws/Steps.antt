-- Steps on lent state: what comes with an event that no number holds of, and what a signal does.
use Rattle.std.specs.Prelude.{ℕ, ◌≤◌, ◌<◌, ◌≡◌, refl, true, false, cond, List, ◌++◌, eqb, Result, Ok, Err}
use Rattle.std.specs.Result.{result_unwrap_or}
use Rattle.std.proofs.Common.{sym, ◌∙◌, arith, leb-false, eq-eqb}
use Rattle.std.proofs.lemmas.Bool.{not-false}
use Rattle.basics.specs.Bits.{mask_first}
use Rattle.basics.specs.First.{and_first}
use Rattle.chip.specs.Kinds.{chip_numbered}
use Rattle.chip.specs.laws.Addresses.{allowed_byte}
use Rattle.refusals.specs.Reasons.{code_in, value_in}
use Rattle.refusals.specs.declared.Reason.{Reason}
use Rattle.refusals.specs.Refusals.{Refusal, code_of}
use Rattle.refusals.specs.laws.Refusals.{accepted, code_both, least_none}
use Rattle.bus.specs.Add.{add_refusals}
use Rattle.bus.specs.Devices.{bus_ok, record_at, device_at}
use Rattle.bus.specs.Events.{step_refusals}
use Rattle.bus.specs.Place.{place_refusals, change_refusals, question_refusals}
use Rattle.bus.specs.Signals.{signal_of, signal_refusals, is_too_large, signal_value}
use Rattle.bus.specs.declared.Bus.{Bus}
use Rattle.bus.specs.declared.Change.{Change}
use Rattle.bus.specs.declared.Event.{Event}
use Rattle.bus.specs.declared.Event.TheVariants as E
use Rattle.bus.specs.declared.Question.{Question}
use Rattle.bus.specs.declared.SignalEvent.{SignalEvent}
use Rattle.bus.specs.declared.SignalEvent.TheVariants as S
use Rattle.bus.proofs.laws.Place.{position_there}
use Rattle.bus.proofs.laws.Replies.{ok_count}
use Rattle.engine.specs.Signals.{acks_at, talks_at, value_by}

-- ---- what no number holds of

placed_both : (b : Bus) (dev : ℕ) (own : List Refusal) → code_of (place_refusals b dev ++ own) ≡ 0 → (code_of (place_refusals b dev) ≡ 0) × (code_of own ≡ 0)
placed_both b dev own e = least_none (code_of (place_refusals b dev)) (code_of own) (sym (code_both (place_refusals b dev) own) ∙ e)

pub step_ok : (b : Bus) (e : Event) → code_of (step_refusals b e) ≡ 0 → bus_ok b ≡ true
unfolding step_refusals
step_ok b (E.Add chip addr) z = not-false (bus_ok b) (accepted (add_refusals b chip addr) refl z).1.1.1.0
step_ok b (E.Signal s) z = not-false (bus_ok b) (accepted (signal_refusals b s) refl z).0
step_ok b (E.Change dev c) z = (position_there b dev (placed_both b dev (change_refusals (record_at b dev) c) z).0).1
step_ok b (E.Ask dev q) z = (position_there b dev (placed_both b dev (question_refusals (device_at b dev) q) z).0).1

pub few : (b : Bus) (e : Event) → code_of (step_refusals b e) ≡ 0 → b.count ≤ 8
few b e z = ok_count b (rw (step_ok b e z) refl)

pub signal_small : (b : Bus) (s : SignalEvent) → code_of (step_refusals b (E.Signal s)) ≡ 0 → is_too_large s ≡ false
unfolding step_refusals
signal_small b s z = (accepted (signal_refusals b s) refl z).1.1.0

pub add_free : (b : Bus) (chip addr : ℕ) → code_of (step_refusals b (E.Add chip addr)) ≡ 0 → (b.count < 8) × (addr < 256)
unfolding step_refusals
add_free b chip addr z =
    let none = accepted (add_refusals b chip addr) refl z in
    (omega (arith, leb-false 8 b.count none.1.1.0), omega (arith, allowed_byte (chip_numbered chip) addr none.0 none.1.0))

module _ (b : Bus) (dev : ℕ) where
  pub change_there : (c : Change) → code_of (step_refusals b (E.Change dev c)) ≡ 0 → dev < 8
  unfolding step_refusals
  change_there c z = (position_there b dev (placed_both b dev (change_refusals (record_at b dev) c) z).0).2

  pub change_accepted : (c : Change) → code_of (step_refusals b (E.Change dev c)) ≡ 0 → code_of (change_refusals (record_at b dev) c) ≡ 0
  unfolding step_refusals
  change_accepted c z = (placed_both b dev (change_refusals (record_at b dev) c) z).1

  pub ask_there : (q : Question) → code_of (step_refusals b (E.Ask dev q)) ≡ 0 → dev < 8
  unfolding step_refusals
  ask_there q z = (position_there b dev (placed_both b dev (question_refusals (device_at b dev) q) z).0).2

  pub ask_accepted : (q : Question) → code_of (step_refusals b (E.Ask dev q)) ≡ 0 → code_of (question_refusals (device_at b dev) q) ≡ 0
  unfolding step_refusals
  ask_accepted q z = (placed_both b dev (question_refusals (device_at b dev) q) z).1

pub asked_value : (r : Result ℕ Reason) (w : ℕ) → code_in r ≡ 0 → value_in r ≡ cond (eqb (code_in r) 0) w 0 → result_unwrap_or r 0 ≡ w
asked_value r w z e = unwrapped r ∙ e ∙ rw (eq-eqb (code_in r) 0 z) refl
  where
    unwrapped : (r : Result ℕ Reason) → result_unwrap_or r 0 ≡ value_in r
    unwrapped (Ok v) = refl
    unwrapped (Err reason) = refl

-- ---- what a signal's value is

pub signal_is : (event : SignalEvent) (b : Bus) (acks byte : ℕ) → acks ≡ mask_first b.count (acks_at b.phase (signal_of event)) b.devices → byte ≡ and_first b.count (talks_at (signal_of event)) b.devices
    → value_by event acks byte ≡ signal_value b event
unfolding acks_at talks_at
signal_is S.Start b acks byte s a = refl
signal_is S.Stop b acks byte s a = refl
signal_is (S.Put x) b acks byte s a = s
signal_is (S.Get x) b acks byte s a = a

-- what an event that is not refused asks of what is done, and what that comes to
pub ruleset acts = (few, signal_small, add_free, ask_accepted, asked_value, signal_is)
