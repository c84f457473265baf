-- Laws of the lines of a buffer: batch by batch, and what is kept of the last.
use Prim.Native.Nat.{ℕ, zero, suc, ◌+◌, ◌-◌, ◌*◌, ◌^◌, ◌≤◌, ◌<◌, min}
use mathlib.Core.Path.{◌≡◌, refl, sym, ap, ◌∙◌}
use mathlib.Core.Bool.{false}
use mathlib.Core.List.{List, [], ◌∷◌, ◌++◌}
use mathlib.Core.Logic.{⊎_elim}
use native.Mathlib.Numerals.{unary_clauses}
use native.Mathlib.Nat.{zero-min, min-zero, suc-min-suc}
use native.Mathlib.Omega.{arith}
use lib.ListN.{length, take, drop, length-append, length-take, length-drop}
use lib.Seq.{take_all, take-nil}
use Rattle.text.specs.Lines.{lines_of, end_of}
use Rattle.text.specs.Run.{answers, Runs}
use Rattle.text.specs.laws.Run.{reached_none, reached_both, answered_room}
use Rattle.text.specs.laws.Write.{written_first}
use Rattle.script.specs.Promises.{answer_room}
use Rattle.script.specs.Twin.{twin}
use Rattle.script.specs.declared.twin.State.{State}
use Rattle.script.specs.declared.twin.Ran.{Ran}
use Rattle.stream.specs.Output.{Sends}
use Rattle.stream.specs.Steps.{HandedOver}
use Rattle.stream.specs.declared.output.Output.{Output}

pub handed_none : (o : Output) (text : List ℕ) → HandedOver o text 0 o
handed_none o text = record { written = []; reached = reached_none twin o.state text; sent_is = omega arith }

module _ (o : Output) (text : List ℕ) (from : ℕ) (now : Output) (a : HandedOver o text from now)
    (state : State) (q : state ≡ now.state) (old new part : List ℕ) (r : Ran) (e : part ≡ take (length text - from) (drop from text)) (b : Runs twin state part old new r.read r.wrote r.state) where
  part_is : part ≡ drop from text
  part_is = e ∙ take_all (length text - from) (drop from text) (rw length-drop (omega arith))

  ran : Runs twin now.state (drop from text) old new r.read r.wrote r.state
  ran = rw (q, part_is) at b

  answers_there : take r.wrote new ≡ ran.written
  answers_there = written_first ran.text

  pub handed_more : (next : Output) → (next.state ≡ r.state) × (next.sent ≡ now.sent + length (take r.wrote new)) → HandedOver o text (from + r.read) next
  handed_more next h = record {
    written = a.written ++ ran.written;
    reached = rw h.0 (reached_both twin a.reached ran.reached);
    sent_is = rw length-append (omega (arith, h.1, a.sent_is, ap length answers_there));
  }

  pub sends_batch : (place : ℕ) → place ≡ now.sent → o.sent + 76 * length text < 2 ^ 64 → Sends place now (take (from + r.read - from) (drop from text)) (take r.wrote new) r.state
  sends_batch place here h =
      let z : from + r.read - from ≡ r.read = omega arith in
      let next : Output = record { state = r.state; sent = now.sent + length (take r.wrote new); failed = false } in
      let m = handed_more next (refl, refl) in
      record {
        here = here;
        answered = rw (z, answers_there) ran.reached.answered;
        room = omega (arith, m.sent_is, answered_room twin answer_room m.reached.answered, length-take (from + r.read) text);
      }

  pub none_left : r.read ≡ 0 → 76 ≤ length old → length text ≤ from + end_of (drop from text)
  unfolding lines_of answers
  none_left z h =
      let n : r.wrote ≡ 0 = ran.text.stop ∙ rw (ran.reached.answered.written_is, z) in
      ⊎_elim (λ (g : length (drop from text) ≤ r.read + end_of (drop r.read (drop from text))). omega (arith, rw (z, length-drop) at g))
      (λ (g : length old < r.wrote + 76). absurd (omega arith))
      ran.stop

pub take_min : (n m : ℕ) (l : List ℕ) → take (min n m) l ≡ take n (take m l)
take_min zero m l = rw zero-min
take_min (suc n) zero l = rw min-zero
take_min (suc n) (suc m) [] = take-nil (min (suc n) (suc m))
take_min (suc n) (suc m) (x ∷ l) = rw suc-min-suc (ap (λ (t : List ℕ). x ∷ t) (take_min n m l))

pub drop-take : (a n : ℕ) (l : List ℕ) → drop a (take n l) ≡ take (n - a) (drop a l)
drop-take zero n l = simp unary_clauses
drop-take (suc a) zero l = let z : 0 - suc a ≡ 0 = omega arith in rw z
drop-take (suc a) (suc n) [] = sym (take-nil (suc n - suc a))
drop-take (suc a) (suc n) (x ∷ l) = simp unary_clauses (drop-take a n l)
