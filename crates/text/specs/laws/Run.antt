-- Laws of a run over lines: some lines and then others, each line counts, what a turn of a loop over lines adds.
use Rattle.std.specs.Prelude.{ℕ, suc, ◌+◌, ◌-◌, ◌*◌, ◌≤◌, ◌<◌, ◌≡◌, ◌⊎◌, length, drop}
use Rattle.std.proofs.Math.Path.{refl, sym, ap}
use Rattle.std.proofs.Common.{◌∙◌, add-suc, mul-suc, mul-le-mul_left, length-append, length-drop, take-add}
use mathlib.Core.List.{List, [], ◌∷◌, ◌++◌, append_assoc, append-nil}
use native.Mathlib.Omega.{arith}
use Rattle.std.proofs.Math.ListN.{take}
use Rattle.text.specs.Lines.{lines_of, end_of, Whole}
use Rattle.text.specs.Write.{Written}
use Rattle.text.specs.Run.{Machine, after, answers, Answered, Reached, Runs}
use Rattle.text.specs.laws.Lines.{first_line, whole_both, few_lines}
use Rattle.text.specs.laws.Write.{then}

module _ {S : Type 0} (m : Machine S) where
  -- ---- some lines, and then others

  pub after_both : (s : S) (ls ms : List (List ℕ)) → after m s (ls ++ ms) ≡ after m (after m s ls) ms
  unfolding after
  after_both s [] ms = refl
  after_both s (l ∷ ls) ms = after_both (m.next s l) ls ms

  pub answers_both : (s : S) (ls ms : List (List ℕ)) → answers m s (ls ++ ms) ≡ answers m s ls ++ answers m (after m s ls) ms
  unfolding answers after
  answers_both s [] ms = refl
  answers_both s (l ∷ ls) ms = ap (λ (t : List ℕ). m.answer s l ++ t) (answers_both (m.next s l) ls ms) ∙ sym (append_assoc (m.answer s l) _ _)

  -- what ends with a line, and then more
  pub answered_both : {s mid state : S} {p q w v : List ℕ} → Whole p → Answered m s p w mid → Answered m mid q v state → Answered m s (p ++ q) (w ++ v) state
  answered_both {s} {mid} {state} {p} {q} {w} {v} h a b = record {
    state_is = rw (h.lines q, after_both, ← a.state_is) b.state_is;
    written_is = rw (h.lines q, answers_both, ← a.state_is, ← a.written_is, ← b.written_is);
  }

  -- ---- what holds of any lines

  -- what no line changes
  pub after_same : {A : Type 0} (f : S → A) → ((s : S) (l : List ℕ) → f (m.next s l) ≡ f s) → (s : S) (ls : List (List ℕ)) → f (after m s ls) ≡ f s
  unfolding after
  after_same f h s [] = refl
  after_same f h s (l ∷ ls) = after_same f h (m.next s l) ls ∙ h s l

  -- what counts each line, up to some number
  pub after_count : (f : S → ℕ) (most : ℕ) → ((s : S) (l : List ℕ) → f s < most → f (m.next s l) ≡ f s + 1) → (s : S) (ls : List (List ℕ)) → f s + length ls ≤ most → f (after m s ls) ≡ f s + length ls
  unfolding after
  after_count f most h s [] g = omega arith
  after_count f most h s (l ∷ ls) g =
      let e = h s l (omega arith) in
      after_count f most h (m.next s l) ls (omega arith) ∙ omega arith

  -- answers that fit their room
  module _ (fits : (s : S) (l : List ℕ) → length (m.answer s l) ≤ m.room) where
    pub answers_room : (s : S) (ls : List (List ℕ)) → length (answers m s ls) ≤ m.room * length ls
    unfolding answers
    answers_room s [] = omega arith
    answers_room s (l ∷ ls) = rw (length-append, mul-suc) (omega (arith, fits s l, answers_room (m.next s l) ls))

    -- each line has a byte at least
    pub answered_room : {s state : S} {text written : List ℕ} → Answered m s text written state → length written ≤ m.room * length text
    answered_room {s} {state} {text} {written} a =
        rw a.written_is (omega (arith, answers_room s (lines_of text), mul-le-mul_left m.room (few_lines text)))

  -- ---- a loop over lines

  pub reached_none : (s : S) (input : List ℕ) → Reached m s input 0 [] s
  unfolding lines_of answers after
  reached_none s input = record { within = omega arith; whole = record { lines = λ t. refl }; answered = record { state_is = refl; written_is = refl } }

  pub reached_both : {s mid state : S} {input w v : List ℕ} {from read : ℕ} → Reached m s input from w mid → Reached m mid (drop from input) read v state → Reached m s input (from + read) (w ++ v) state
  reached_both {s} {mid} {state} {input} {w} {v} {from} {read} a b =
      let e = take-add from read input in
      record {
        within = omega (arith, a.within, b.within, length-drop from input);
        whole = rw e (whole_both _ _ a.whole b.whole);
        answered = rw e (answered_both a.whole a.answered b.answered);
      }

  -- a line, up to its line feed
  reached_line : (s : S) (input : List ℕ) → end_of input < length input → Reached m s input (suc (end_of input)) (m.answer s (take (end_of input) input)) (m.next s (take (end_of input) input))
  unfolding lines_of answers after
  reached_line s input h =
      let e : lines_of (take (suc (end_of input)) input) ≡ take (end_of input) input ∷ [] = ap lines_of (sym (append-nil (take (suc (end_of input)) input))) ∙ first_line input [] h in
      record {
        within = omega arith;
        whole = record { lines = λ t. rw e (first_line input t h) };
        answered = record { state_is = rw e; written_is = rw e (sym (append-nil (m.answer s (take (end_of input) input)))) };
      }

  -- what a loop has done so far: the answers are at the start of the buffer
  pub record Did (s : S) (input old new : List ℕ) (read wrote : ℕ) (state : S) : Type 0 where
    pub written : List ℕ
    pub reached : Reached m s input read written state
    pub text : Written old 0 written new wrote

  pub did_none : (s : S) (input old : List ℕ) → Did s input old old 0 0 s
  did_none s input old = record { written = []; reached = reached_none s input; text = record { room = omega arith; text = refl; stop = refl } }

  -- the next line
  pub did_more : {s state after-it : S} {input old new new' : List ℕ} {read wrote at : ℕ} (end : ℕ) → Did s input old new read wrote state → end ≡ read + end_of (drop read input) → end < length input
      → after-it ≡ m.next state (take (end - read) (drop read input)) → Written new wrote (m.answer state (take (end - read) (drop read input))) new' at → Did s input old new' (end + 1) at after-it
  did_more {s} {state} {after-it} {input} {old} {new} {new'} {read} {wrote} {at} end d e h n w =
      let z : end - read ≡ end_of (drop read input) = omega arith in
      let q : end + 1 ≡ read + suc (end_of (drop read input)) = rw add-suc (omega arith) in
      record {
        written = d.written ++ m.answer state (take (end_of (drop read input)) (drop read input));
        reached = rw (q, n, z) (reached_both d.reached (reached_line state (drop read input) (rw length-drop (omega arith))));
        text = then d.text (rw z at w);
      }

  -- and where it stops
  pub did_all : {s state : S} {input old new : List ℕ} {read wrote : ℕ} → Did s input old new read wrote state → (length input ≤ read + end_of (drop read input)) ⊎ (length old < wrote + m.room) → Runs m s input old new read wrote state
  did_all d h = record { written = d.written; reached = d.reached; text = d.text; stop = h }
