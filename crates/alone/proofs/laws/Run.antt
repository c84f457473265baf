-- A sequence of events on a bus and on the device alone.
use Rattle.std.specs.Prelude.{◌≡◌, true, false, cond, ℕ, refl, List, [], ◌∷◌, ◌++◌}
use Rattle.std.proofs.Common.{sym, ap, ◌∙◌, arith, append_assoc}
use Rattle.basics.specs.laws.Logic.{holds, fails, tested}
use Rattle.bus.specs.Events.{step_reply, run_bus}
use Rattle.bus.proofs.Promises.{step_well}
use Rattle.bus.proofs.laws.Steps.{below_eight, step_stands}
use Rattle.bus.proofs.laws.WellFormed.{step_places}
use Rattle.bus.specs.declared.Bus.{Bus}
use Rattle.bus.specs.declared.Event.{Event}
use Rattle.replay.specs.ByHand.{AllAccepted}
use Rattle.alone.specs.Alone.{alone, Present, concerns, renamed, shortened, AsAlone}
use Rattle.alone.proofs.laws.Step.{step_left, code_alone, step_alone}

module _ (i : ℕ) where
  -- a device stays where it is
  pub step_present : (b : Bus) (e : Event) → Present i b → Present i (step_reply b e).bus
  step_present b e p =
      (step_well b e p.0, ((step_stands b i p.0 p.1.0 e).0, step_places b e ∙ p.1.1))

  pub run_present : (b : Bus) (l : List Event) → Present i b → Present i (run_bus b l)
  run_present b [] p = p
  run_present b (e ∷ l) p = run_present (step_reply b e).bus l (step_present b e p)

  -- an event for it, and one for others
  pub kept : (b : Bus) (e : Event) → Present i b → concerns i e ≡ true → AsAlone i (step_reply (alone i b) (renamed e)) (step_reply b e)
  kept b e p o =
      let few = below_eight b i p.1.0 in
      (code_alone b i p.0 p.1.0 e o, step_alone b i p.0 p.1.0 (omega (arith, p.1.1, few)) e o)

  pub dropped : (b : Bus) (e : Event) → Present i b → concerns i e ≡ false → alone i (step_reply b e).bus ≡ alone i b
  dropped b e p o = step_left b i p.0 p.1.0 e o

  pub run : (b : Bus) (l : List Event) → Present i b → run_bus (alone i b) (shortened i l) ≡ alone i (run_bus b l)
  unfolding shortened
  run b [] p = refl
  run b (e ∷ l) p =
      let on = run (step_reply b e).bus l (step_present b e p) in
      elim (tested (concerns i e)) [
        | holds o ↦ rw o (ap (λ (x : Bus). run_bus x (shortened i l)) (kept b e p o).1 ∙ on)
        | fails o ↦ rw o (ap (λ (x : Bus). run_bus x (shortened i l)) (sym (dropped b e p o)) ∙ on)
      ]

  pub accepted : (b : Bus) (l : List Event) → Present i b → AllAccepted b l → AllAccepted (alone i b) (shortened i l)
  unfolding shortened
  accepted b [] p a = tt
  accepted b (e ∷ l) p a =
      let on = accepted (step_reply b e).bus l (step_present b e p) a.1 in
      elim (tested (concerns i e)) [
        | holds o ↦ let k = kept b e p o in rw o (k.0 ∙ a.0, rw k.1 on)
        | fails o ↦ rw o (rw (dropped b e p o) at on)
      ]

-- of two lists, one after the other
pub shortened_both : (i : ℕ) (l m : List Event) → shortened i (l ++ m) ≡ shortened i l ++ shortened i m
unfolding shortened
shortened_both i [] m = refl
shortened_both i (e ∷ l) m =
    ap (λ (t : List Event). cond (concerns i e) (renamed e ∷ []) [] ++ t) (shortened_both i l m)
    ∙ sym (append_assoc (cond (concerns i e) (renamed e ∷ []) []) (shortened i l) (shortened i m))
