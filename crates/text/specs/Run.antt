-- A run over lines, by any machine that answers each of them.
use Rattle.std.specs.Prelude.{ℕ, ◌+◌, ◌*◌, ◌≤◌, ◌<◌, ◌≡◌, cond, List, [], ◌∷◌, ◌++◌, ◌⊎◌, length, take, drop, leb}
use Rattle.text.specs.Lines.{lines_of, end_of, Whole}
use Rattle.text.specs.Write.{Written}

-- over any state: the state after a line, the answer to it, and the room for an answer
pub record Machine (S : Type 0) : Type 0 where
  pub next : S → List ℕ → S
  pub answer : S → List ℕ → List ℕ
  pub room : ℕ

module _ {S : Type 0} (m : Machine S) where
  -- the state after the lines ls, and the answers to them, one after the other
  unfoldable pub after : S → List (List ℕ) → S
  after s [] = s
  after s (l ∷ ls) = after (m.next s l) ls

  unfoldable pub answers : S → List (List ℕ) → List ℕ
  answers s [] = []
  answers s (l ∷ ls) = m.answer s l ++ answers (m.next s l) ls

  -- from s on, every line of `text` is answered, the last one too
  pub record Answered (s : S) (text written : List ℕ) (state : S) : Type 0 where
    pub state_is : state ≡ after s (lines_of text)
    pub written_is : written ≡ answers s (lines_of text)

  -- the first `read` bytes of the input end with a line, and are answered
  pub record Reached (s : S) (input : List ℕ) (read : ℕ) (written : List ℕ) (state : S) : Type 0 where
    pub within : read ≤ length input
    pub whole : Whole (take read input)
    pub answered : Answered s (take read input) written state

  -- a run puts the answers at the start of a buffer; it stops where no complete line is left, or no room for an answer
  pub record Runs (s : S) (input old new : List ℕ) (read wrote : ℕ) (state : S) : Type 0 where
    pub written : List ℕ
    pub reached : Reached s input read written state
    pub text : Written old 0 written new wrote
    pub stop : (length input ≤ read + end_of (drop read input)) ⊎ (length old < wrote + m.room)

  -- a whole log: the answers at the start of a buffer that has room for one to each line; in any other nothing is written
  abbrev pub RunsLog : S → List ℕ → List ℕ → List ℕ → ℕ → Type 0
  RunsLog s log old new r = Written old 0 (cond (leb (m.room * length (lines_of log)) (length old)) (answers s (lines_of log)) []) new r
