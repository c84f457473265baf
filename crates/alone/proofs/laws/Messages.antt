-- The messages heard by the device alone: their signals are for all, fewer puts are acknowledged, and the bytes got have every bit of the common ones.
use Rattle.std.specs.Prelude.{◌≡◌, refl, true, cond, eqb, get_or, List, [], ◌∷◌, map, ℕ, zero, suc, ◌≤◌}
use Rattle.std.proofs.Common.{sym, ◌∙◌, eqb-true, ap, arith}
use Rattle.basics.specs.Bits.{bit}
use Rattle.basics.specs.laws.Bits.{no_bit}
use Rattle.basics.specs.laws.Logic.{holds, fails, tested}
use Rattle.refusals.specs.Refusals.{Refusal, code_of}
use Rattle.bus.specs.Devices.{record_at}
use Rattle.bus.specs.Replies.{answer}
use Rattle.bus.specs.Events.{step_reply, run_bus}
use Rattle.bus.specs.declared.Bus.{Bus}
use Rattle.bus.specs.declared.Event.{Event}
use Rattle.bus.specs.declared.Event.TheVariants.{Signal}
use Rattle.bus.specs.declared.SignalEvent.{SignalEvent}
use Rattle.bus.specs.declared.SignalEvent.TheVariants.{Start, Stop, Put, Get}
use Rattle.message.specs.Message.{ack_of, acked_puts, message_done}
use Rattle.message.specs.Write.{write_refusals}
use Rattle.message.specs.Read.{read_refusals, values_of}
use Rattle.alone.specs.Alone.{alone, Present, shortened, AsAlone, get_reply}
use Rattle.alone.proofs.laws.Only.{only_phase}
use Rattle.alone.proofs.laws.Step.{alone_well}
use Rattle.alone.proofs.laws.Run.{step_present, kept, run}
use Rattle.alone.proofs.laws.Values.{put_value, get_value}

-- signals are for all
signals_kept : (i : ℕ) (l : List SignalEvent) → shortened i (map Signal l) ≡ map Signal l
unfolding shortened
signals_kept i [] = refl
signals_kept i (s ∷ l) = ap (λ (t : List Event). Signal s ∷ t) (signals_kept i l)

module _ (i : ℕ) where
  pub signals_run : (b : Bus) (l : List SignalEvent) → Present i b → run_bus (alone i b) (map Signal l) ≡ alone i (run_bus b (map Signal l))
  signals_run b l p = ap (run_bus (alone i b)) (sym (signals_kept i l)) ∙ run i b (map Signal l) p

  -- a put that the device acknowledges is acknowledged
  fewer : (v w : ℕ) → v ≡ cond (bit i w) 1 0 → cond (eqb v 0) 0 1 ≤ cond (eqb w 0) 0 1
  fewer v w e =
      elim (tested (eqb w 0)) [
        | holds t ↦ let z : v ≡ 0 = e ∙ rw (eqb-true w 0 t, no_bit i) refl in rw (z, t) (omega arith)
        | fails t ↦ rw t (elim (tested (eqb v 0)) [ holds u ↦ rw u (omega arith) | fails u ↦ rw u (omega arith) ])
      ]

  ack_alone : (b : Bus) (s : SignalEvent) → Present i b → ack_of s (step_reply (alone i b) (Signal s)) ≤ ack_of s (step_reply b (Signal s))
  ack_alone b Start p = omega arith
  ack_alone b Stop p = omega arith
  ack_alone b (Put byte) p = fewer _ _ (put_value i b p byte)
  ack_alone b (Get ack) p = omega arith

  acks_alone : (b : Bus) (l : List SignalEvent) → Present i b → acked_puts (alone i b) l ≤ acked_puts b l
  unfolding acked_puts
  acks_alone b [] p = omega arith
  acks_alone b (s ∷ l) p =
      let on = acks_alone (step_reply b (Signal s)).bus l (step_present i b (Signal s) p) in
      omega (arith, ap (λ (x : Bus). acked_puts x l) (kept i b (Signal s) p refl).1, on, ack_alone b s p)

  pub gets_alone : (b : Bus) (acks : List ℕ) (n k : ℕ) → Present i b → bit k (get_or (values_of b (map Get acks)) n 0) ≡ true → bit k (get_or (values_of (alone i b) (map Get acks)) n 0) ≡ true
  unfolding values_of
  gets_alone b [] n k p e = e
  gets_alone b (ack ∷ acks) zero k p e = get_value i b p ack k e
  gets_alone b (ack ∷ acks) (suc n) k p e =
      rw (kept i b (Signal (Get ack)) p refl).1 (gets_alone (get_reply b ack).bus acks n k (step_present i b (Signal (Get ack)) p) e)

  -- ---- a message, by its refusals and its signals

  pub message_alone : (b : Bus) (l : List Refusal) (s : List SignalEvent) → Present i b → AsAlone i (answer l (alone i b) (message_done (alone i b) s)) (answer l b (message_done b s)) × ((answer l (alone i b) (message_done (alone i b) s)).value ≤ (answer l b (message_done b s)).value)
  unfolding answer
  message_alone b l s p =
      elim (tested (eqb (code_of l) 0)) [
        | holds t ↦ rw t ((refl, signals_run b s p), acks_alone b s p)
        | fails t ↦ rw t ((refl, refl), omega arith)
      ]

  -- which ask of a bus whether it is well formed, and of its phase
  pub write_refusals_lem : (b : Bus) (address : ℕ) → Present i b → write_refusals (alone i b) address ≡ write_refusals b address
  write_refusals_lem b address p = rw (alone_well b i p.0 p.1.0, p.0, only_phase b.phase (record_at b i)) refl

  pub read_refusals_lem : (b : Bus) (address control n place size : ℕ) → Present i b → read_refusals (alone i b) address control n place size ≡ read_refusals b address control n place size
  read_refusals_lem b address control n place size p = rw (alone_well b i p.0 p.1.0, p.0, only_phase b.phase (record_at b i)) refl
