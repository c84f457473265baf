-- The bytes of a text, and of a number in decimal.
use Rattle.std.specs.Prelude.{ℕ, zero, suc, ◌+◌, ◌/◌, ◌%◌, ◌<◌, cond, List, [], ◌∷◌, ◌++◌, ltb}
use Prim.Native.Char.{code}
use Prim.Native.String.{String}
use Prim.Native.String as S

-- the bytes of a text in ASCII
abbrev pub text : String → List ℕ
text S.[] = []
text (S.◌∷◌ c s) = code c ∷ text s

-- the last digits of n, at most k, with no 0 in front: the first digits, when n is 10 or more, and then the last
unfoldable pub spelled : ℕ → ℕ → List ℕ
spelled zero n = []
spelled (suc k) n = cond (ltb n 10) ((48 + n) ∷ []) (spelled k (n / 10) ++ ((48 + n % 10) ∷ []))

-- n in decimal, for n below 10 ^ 20 and so for each u64
abbrev pub decimal : ℕ → List ℕ
decimal n = spelled 20 n

-- a number of at most 15 digits
abbrev pub Short : ℕ → Type 0
Short n = n < 1000000000000000

-- a key, a number, and what follows
abbrev pub entry : String → ℕ → List ℕ → List ℕ
entry key n rest = text key ++ (decimal n ++ rest)
