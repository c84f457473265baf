-- Laws of a stream: piece by piece, and of a line whose end is still to come the first bytes are enough.
use Rattle.std.specs.Prelude.{ℕ, suc, ◌+◌, ◌≤◌, ◌<◌, ◌≡◌, refl, List, [], ◌∷◌, ◌++◌, length, take, drop}
use Rattle.std.proofs.Common.{sym, ap, ◌∙◌, append_assoc, append-nil, ⊎_elim, arith, length-append, length-drop, take-append-drop, take_all, length-take-le}
use Rattle.basics.specs.laws.Logic.{lt_or_ge}
use Rattle.text.specs.Lines.{lines_of, end_of}
use Rattle.text.specs.Run.{Machine, after, answers, Answered, Reached}
use Rattle.text.specs.Stream.{StandsFor}
use Rattle.text.specs.laws.Lines.{last_line, fed_all, free, free_take, glue, lines_glue, glue_some, glue_none}
use Rattle.text.specs.laws.Run.{answered_both}

module _ {S : Type 0} (m : Machine S) where
  -- ---- piece by piece

  pub stands_none : (s : S) → StandsFor m s [] [] s []
  stands_none s = record { on = λ t. record { state_is = refl; written_is = refl } }

  -- what stands for some bytes, and then more bytes
  module _ {first mid : S} {text kept w : List ℕ} (a : StandsFor m first text w mid kept) (got : List ℕ) {v : List ℕ} {state : S} where
    pub stands_ended : Answered m mid (kept ++ got) v state → Answered m first (text ++ got) (w ++ v) state
    stands_ended b = record { state_is = b.state_is ∙ (a.on got).state_is; written_is = ap (λ (x : List ℕ). w ++ x) b.written_is ∙ (a.on got).written_is }

  pub stands_more : {first mid : S} {text kept w : List ℕ} → StandsFor m first text w mid kept → (got : List ℕ) {v left : List ℕ} {state : S} → StandsFor m mid (kept ++ got) v state left → StandsFor m first (text ++ got) (w ++ v) state left
  stands_more {first} {mid} {text} {kept} {w} a got {v} {left} {state} b =
      record { on = λ t. rw (append_assoc text got t, append_assoc w v _) (stands_ended a (got ++ t) (rw (append_assoc kept got t) at (b.on t))) }

  -- ---- a last line, with the line feed that it lacks

  pub last_answered : {s state : S} {p written : List ℕ} {read : ℕ} → 0 < length p → length p ≤ end_of p → Reached m s (p ++ (10 ∷ [])) read written state
      → length (p ++ (10 ∷ [])) ≤ read + end_of (drop read (p ++ (10 ∷ []))) → Answered m s p written state
  last_answered {s} {state} {p} {written} {read} n u r h =
      let e : lines_of (take read (p ++ (10 ∷ []))) ≡ lines_of p = ap lines_of (fed_all p read h) ∙ last_line p n u in
      record { state_is = r.answered.state_is ∙ ap (after m s) e; written_is = r.answered.written_is ∙ ap (answers m s) e }

  -- ---- a line whose end is still to come

  -- where lines of more than `most` bytes are answered alike, what comes behind suc most bytes makes no difference
  module _ (most : ℕ) (alike : (s : S) (k l : List ℕ) → most < length k → most < length l → (m.next s k ≡ m.next s l) × (m.answer s k ≡ m.answer s l)) where
    -- a line cut to suc most bytes
    cut_alike : (s : S) (p l : List ℕ) → (m.next s (take (suc most) p ++ l) ≡ m.next s (p ++ l)) × (m.answer s (take (suc most) p ++ l) ≡ m.answer s (p ++ l))
    cut_alike s p l =
        ⊎_elim
        (λ (h : length p < suc (suc most)). rw (take_all (suc most) p (omega arith)) (refl, refl))
        (λ (h : suc (suc most) ≤ length p). alike s (take (suc most) p ++ l) (p ++ l) (rw (length-append, length-take-le (suc most) p (omega arith)) (omega arith)) (rw length-append (omega arith)))
        (lt_or_ge (length p) (suc (suc most)))

    -- and the lines behind it
    cut_first : (s : S) (k l : List ℕ) (ls : List (List ℕ)) → (m.next s k ≡ m.next s l) × (m.answer s k ≡ m.answer s l) → (after m s (k ∷ ls) ≡ after m s (l ∷ ls)) × (answers m s (k ∷ ls) ≡ answers m s (l ∷ ls))
    unfolding after answers
    cut_first s k l ls e = (rw e.0, rw (e.0, e.1))

    cut_lines : (s : S) (b : ℕ) (p : List ℕ) (ls : List (List ℕ)) → (after m s (glue (take (suc most) (b ∷ p)) ls) ≡ after m s (glue (b ∷ p) ls)) × (answers m s (glue (take (suc most) (b ∷ p)) ls) ≡ answers m s (glue (b ∷ p) ls))
    cut_lines s b p [] = rw (glue_none b (take most p), glue_none b p) (cut_first s _ _ [] (simp append-nil at (cut_alike s (b ∷ p) [])))
    cut_lines s b p (l ∷ ls) = rw (glue_some (take (suc most) (b ∷ p)) l ls, glue_some (b ∷ p) l ls) (cut_first s _ _ ls (cut_alike s (b ∷ p) l))

    cut : (s : S) (p t : List ℕ) → length p ≤ end_of p → (after m s (lines_of (take (suc most) p ++ t)) ≡ after m s (lines_of (p ++ t))) × (answers m s (lines_of (take (suc most) p ++ t)) ≡ answers m s (lines_of (p ++ t)))
    cut s [] t h = (refl, refl)
    cut s (b ∷ p) t h =
        let f = free (b ∷ p) h in
        rw (lines_glue (take (suc most) (b ∷ p)) t (free_take (suc most) (b ∷ p) f), lines_glue (b ∷ p) t f) (cut_lines s b p (lines_of t))

    -- the lines so far are answered, and of the last, unfinished one the first suc most bytes are kept
    pub stands_kept : {s state : S} {text written : List ℕ} {read : ℕ} → Reached m s text read written state → length text ≤ read + end_of (drop read text) → StandsFor m s text written state (take (suc most) (drop read text))
    stands_kept {s} {state} {text} {written} {read} r h = record { on = on }
      where
        rest : List ℕ
        rest = drop read text

        on : (t : List ℕ) → Answered m s (text ++ t) (written ++ answers m state (lines_of (take (suc most) rest ++ t))) (after m state (lines_of (take (suc most) rest ++ t)))
        on t =
            let c = cut state rest t (rw length-drop (omega arith)) in
            let e : text ++ t ≡ take read text ++ (rest ++ t) = ap (λ (x : List ℕ). x ++ t) (sym (take-append-drop read text)) ∙ append_assoc (take read text) rest t in
            rw (e, c.0, c.1) (answered_both m r.whole r.answered (record { state_is = refl; written_is = refl }))
