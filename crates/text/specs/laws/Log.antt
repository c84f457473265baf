-- Laws of a run over a whole log, whose last line may lack its line feed.
use Rattle.std.specs.Prelude.{ℕ, ◌+◌, ◌-◌, ◌*◌, ◌≤◌, ◌<◌, ◌≡◌, refl, List, [], ◌∷◌, ◌++◌, length, take}
use Rattle.std.proofs.Common.{sym, ap, ◌∙◌, append-nil, ⊎_elim, add-one, mul-suc, mul-le-mul_left, arith, le-leb, length-append}
use Rattle.std.proofs.lemmas.Bool.{lt-leb}
use Rattle.std.proofs.Math.ListN.{drop, length-drop, take-append-drop}
use Rattle.std.proofs.Math.Seq.{take_all}
use Rattle.text.specs.Lines.{lines_of, end_of}
use Rattle.text.specs.Write.{Written}
use Rattle.text.specs.Run.{Machine, after, answers, Answered, Runs, RunsLog}
use Rattle.text.specs.laws.Lines.{one_line, some_line}
use Rattle.text.specs.laws.Run.{answered_both, answers_room}
use Rattle.text.specs.laws.Write.{write_length, then}

module _ {S : Type 0} (m : Machine S) where
  pub no_room : (s : S) (log old : List ℕ) → length old < m.room * length (lines_of log) → RunsLog m s log old old 0
  no_room s log old h = rw (lt-leb _ _ h) (record { room = omega arith; text = refl; stop = refl })

  module _ {s state : S} {log old mid : List ℕ} {read wrote : ℕ} (room : m.room * length (lines_of log) ≤ length old) (b : Runs m s log old mid read wrote state) where
    written_log : {text new : List ℕ} {state' : S} {r : ℕ} → Answered m s log text state' → Written old 0 text new r → RunsLog m s log old new r
    written_log a w = rw (le-leb _ _ room, ← a.written_is) w

    -- every line had its line feed
    pub all_read : length log ≤ read → RunsLog m s log old mid wrote
    all_read g = written_log (rw (take_all read log g) at b.reached.answered) b.text

    -- a line is left, and room for its answer
    module _ (fits : (t : S) (l : List ℕ) → length (m.answer t l) ≤ m.room) (g : read < length log) where
      split : lines_of log ≡ lines_of (take read log) ++ lines_of (drop read log)
      split = ap lines_of (sym (take-append-drop read log)) ∙ b.reached.whole.lines (drop read log)

      room_left : wrote + m.room ≤ length old
      room_left =
          let n = length (lines_of (take read log)) in
          let e : n + 1 ≤ length (lines_of log) =
          rw (split, length-append) (omega (arith, some_line (drop read log) (rw length-drop (omega arith)))) in
          let r : length b.written ≤ m.room * n = rw b.reached.answered.written_is (answers_room m fits s (lines_of (take read log))) in
          omega (arith, rw (add-one, mul-suc) at (mul-le-mul_left m.room e), b.text.stop)

      pub room_there : wrote + m.room ≤ length mid
      room_there = rw (write_length old b.written mid 0 wrote b.text) room_left

      last : lines_of (drop read log) ≡ drop read log ∷ []
      last =
          one_line (drop read log) (rw length-drop (omega arith))
          (⊎_elim (λ (q : length log ≤ read + end_of (drop read log)). rw length-drop (omega arith)) (λ (q : length old < wrote + m.room). absurd (omega (arith, room_left))) b.stop)

      pub last_answered : {line new : List ℕ} {at : ℕ} → line ≡ take (length log - read) (drop read log) → Written mid wrote (m.answer state line) new at → RunsLog m s log old new at
      unfolding answers
      last_answered {line} {new} {at} q w =
          let l : line ≡ drop read log = q ∙ take_all (length log - read) (drop read log) (rw length-drop (omega arith)) in
          let a : Answered m state (drop read log) (m.answer state (drop read log)) (after m state (lines_of (drop read log))) =
          record { state_is = refl; written_is = rw last (sym (append-nil (m.answer state (drop read log)))) } in
          written_log (rw take-append-drop at (answered_both m b.reached.whole b.reached.answered a)) (then b.text (rw l at w))
