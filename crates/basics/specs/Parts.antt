-- A list in parts of the same width, one after the other.
use Rattle.std.specs.Prelude.{ℕ, ◌+◌, ◌*◌, ◌/◌, ◌%◌, cond, List, eqb, get_or}
use Rattle.basics.specs.Tabulate.{tabulate}

-- part i, of width n
unfoldable pub part : ℕ → ℕ → List ℕ → List ℕ
part n i l = tabulate n (λ k. get_or l (n * i + k) 0)

-- a list of m parts of width n, with p for its part i
unfoldable pub with_part : ℕ → ℕ → ℕ → List ℕ → List ℕ → List ℕ
with_part m n i p l = tabulate (m * n) (λ k. cond (eqb (k / n) i) (get_or p (k % n) 0) (get_or l k 0))
