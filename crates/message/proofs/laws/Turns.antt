-- Signals that are all in turn: each is done, on any well-formed bus; the events of both messages are such.
use Rattle.std.specs.Prelude.{ℕ, zero, suc, ◌+◌, ◌*◌, ◌%◌, ◌≤◌, ◌<◌, ◌≡◌, Bool, true, false, ltb, eqb, length}
use Rattle.std.proofs.Math.Path.{refl}
use Rattle.std.proofs.Common.{sym, arith}
use mathlib.Core.List.{List, [], ◌∷◌, ◌++◌, map, append_assoc}
use borrow.Author.Tests.{ltb-true, ltb-false, lt-ltb, le-ltb, eq-eqb, ne_eqb, not-false}
use Rattle.basics.specs.First.{all}
use Rattle.basics.specs.Tabulate.{tabulate}
use Rattle.basics.specs.laws.Logic.{and_left, and_right}
use Rattle.device.specs.declared.Phase.{Phase}
use Rattle.device.specs.declared.Phase.TheVariants as P
use Rattle.protocol.specs.Signals.{in_turn, phase_after_signal}
use Rattle.refusals.specs.Refusals.{least, code_of}
use Rattle.refusals.specs.laws.Refusals.{NoneHolds}
use Rattle.bus.specs.Devices.{bus_ok, bus_after}
use Rattle.bus.specs.Signals.{signal_of, is_too_large, signal_refusals}
use Rattle.bus.specs.Events.{step_reply, step_refusals, step_done, run_replies}
use Rattle.bus.proofs.Promises.{step_well}
use Rattle.bus.proofs.laws.Replies.{answered}
use Rattle.bus.specs.declared.Bus.{Bus}
use Rattle.bus.specs.declared.Event.TheVariants.{Signal}
use Rattle.bus.specs.declared.Reply.{Reply}
use Rattle.bus.specs.declared.SignalEvent.{SignalEvent}
use Rattle.bus.specs.declared.SignalEvent.TheVariants.{Start, Stop, Put, Get}
use Rattle.message.specs.Write.{write_events, write_refusals}
use Rattle.message.specs.Read.{ack_at, gets_of, read_events, read_refusals}
use Rattle.message.proofs.laws.Gets.{gets_suc}
use Rattle.message.proofs.laws.Buffer.{read_fits}

abbrev pub is_done : Reply → Bool
is_done r = eqb r.code 0

abbrev pub is_byte : ℕ → Bool
is_byte x = ltb x 256

-- from a phase on, each signal in turn, with a number that is not too large
abbrev Turns : Phase → List SignalEvent → Type 0
Turns p [] = Unit {0}
Turns p (s ∷ l) =
    (in_turn p (signal_of s) ≡ true) × (is_too_large s ≡ false) × Turns (phase_after_signal p (signal_of s)) l

-- ---- what is in turn is done

in_turn_done : (b : Bus) (s : SignalEvent) → bus_ok b ≡ true → in_turn b.phase (signal_of s) ≡ true → is_too_large s ≡ false → step_reply b (Signal s) ≡ step_done b (Signal s)
unfolding step_reply step_refusals code_of least
in_turn_done b s ok t h = sym (answered (signal_refusals b s) b _ _ _ refl (rw (ok, t, h) refl) refl)

turns_done : (b : Bus) (l : List SignalEvent) → bus_ok b ≡ true → Turns b.phase l → all is_done (run_replies b (map Signal l)) ≡ true
unfolding step_done
turns_done b [] ok t = refl
turns_done b (s ∷ l) ok t =
    let done : step_reply b (Signal s) ≡ step_done b (Signal s) = in_turn_done b s ok t.0 t.1 in
    rw done (turns_done (bus_after (signal_of s) b) l (rw done at (step_well b (Signal s) ok)) t.2)

-- ---- the messages

puts_turn : (bytes : List ℕ) → all is_byte bytes ≡ true → Turns P.Write (map Put bytes ++ Stop ∷ [])
unfolding phase_after_signal
puts_turn [] h = (refl, refl, tt)
puts_turn (x ∷ l) h =
    let byte = ltb-true x 256 (and_left (is_byte x) (all is_byte l) h) in
    (refl, le-ltb 255 x (omega arith), puts_turn l (and_right (is_byte x) (all is_byte l) h))

-- the gets that are not the last, and all of them
gets_turn : (n k : ℕ) (m : List SignalEvent) → k < n → Turns P.Read m → Turns P.Read (gets_of n k ++ m)
unfolding gets_of tabulate phase_after_signal
gets_turn n zero m h t = t
gets_turn n (suc k) m h t =
    rw (gets_suc, append_assoc)
    (gets_turn n k (Get (ack_at n k) ∷ m) (omega arith) (rw (lt-ltb (k + 1) n (omega arith)) (refl, refl, t)))

all_gets_turn : (n : ℕ) → 0 < n → Turns P.Read (gets_of n n ++ Stop ∷ [])
unfolding phase_after_signal
all_gets_turn zero h = absurd (omega arith)
all_gets_turn (suc k) h =
    rw (gets_suc, append_assoc)
    (gets_turn (suc k) k (Get (ack_at (suc k) k) ∷ Stop ∷ []) (omega arith) (rw (le-ltb (k + 1) (suc k) (omega arith)) (refl, refl, (refl, refl, tt))))

-- an address byte, for a write and for a read
module _ (address : ℕ) (l : List SignalEvent) (h : address ≤ 127) where
  write_turn : Turns P.Write l → Turns P.Address (Put (2 * address) ∷ l)
  unfolding phase_after_signal
  write_turn t = (refl, le-ltb 255 (2 * address) (omega arith), rw (eq-eqb (2 * address % 2) 0 (omega arith)) t)

  read_turn : Turns P.Read l → Turns P.Address (Put (2 * address + 1) ∷ l)
  unfolding phase_after_signal
  read_turn t =
      (refl, le-ltb 255 (2 * address + 1) (omega arith), rw (ne_eqb ((2 * address + 1) % 2) 0 (λ e. omega arith)) t)

module _ (b : Bus) (address : ℕ) where
  pub write_done : (bytes : List ℕ) → all is_byte bytes ≡ true → NoneHolds (write_refusals b address) → all is_done (run_replies b (map Signal (write_events address bytes))) ≡ true
  unfolding phase_after_signal
  write_done bytes h none =
      let small : address ≤ 127 = ltb-false 127 address none.1.1.0 in
      turns_done b (write_events address bytes) (not-false (bus_ok b) none.0)
      (refl, refl, write_turn address (map Put bytes ++ Stop ∷ []) small (puts_turn bytes h))

  pub read_done : (control n place : ℕ) (buffer : List ℕ) → NoneHolds (read_refusals b address control n place (length buffer)) → all is_done (run_replies b (map Signal (read_events address control n))) ≡ true
  unfolding phase_after_signal
  read_done control n place buffer none =
      let h = read_fits b address control n place buffer none in
      let gets = gets_of n n ++ Stop ∷ [] in
      let read = read_turn address gets h.seven_bits (all_gets_turn n h.some) in
      let tail = Put control ∷ Start ∷ Put (2 * address + 1) ∷ gets in
      turns_done b (read_events address control n) h.well
      (refl, refl, write_turn address tail h.seven_bits (refl, le-ltb 255 control h.eight_bits, (refl, refl, read)))
