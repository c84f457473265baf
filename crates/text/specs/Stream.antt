-- A stream of lines, read piece by piece: what is kept of an unfinished line, with the state, stands for all that was read.
use Rattle.std.specs.Prelude.{ℕ, List, ◌++◌}
use Rattle.text.specs.Lines.{lines_of}
use Rattle.text.specs.Run.{Machine, after, answers, Answered}

module _ {S : Type 0} (m : Machine S) where
  -- `text` is read from `first` on, and `written` handed over: whatever comes, the state and the bytes kept lead to the state and the answers that are left
  pub record StandsFor (first : S) (text written : List ℕ) (state : S) (kept : List ℕ) : Type 0 where
    pub on : (t : List ℕ) → Answered m first (text ++ t) (written ++ answers m state (lines_of (kept ++ t))) (after m state (lines_of (kept ++ t)))
