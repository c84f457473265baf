-- The answer to a line.
use Rattle.std.specs.Prelude.{ℕ, List, ◌++◌}
use Rattle.text.specs.Text.{text, decimal}

unfoldable pub answer_line : ℕ → ℕ → ℕ → List ℕ
answer_line n code value = text "n=" ++ (decimal n ++ (text " code=" ++ (decimal code ++ (text " value=" ++ (decimal value ++ text "\n")))))
