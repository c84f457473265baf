-- Reading a line from the left.
use Rattle.std.specs.Prelude.{Option, Some, None, ℕ, ◌+◌, ◌*◌, ◌-◌, Bool, true, false, cond, ◌&&◌, List, [], ◌∷◌, drop, ltb, leb, eqb}
use Rattle.text.specs.declared.read.Field.{Field}

-- what is left of the line, and the number last read; a line of another shape has none
pub data Rest : Type 0 where
  rest : List ℕ → ℕ → Rest

abbrev pub rest_at : List ℕ → Option Field → Option Rest
rest_at line None = None
rest_at line (Some f) = Some (rest (drop f.at line) f.number)

abbrev pub number_in : Option Rest → ℕ
number_in None = 0
number_in (Some (rest l n)) = n

abbrev pub is_end : Option Rest → Bool
is_end None = false
is_end (Some (rest [] n)) = true
is_end (Some (rest (x ∷ l) n)) = false

abbrev pub is_digit : ℕ → Bool
is_digit d = leb 48 d && ltb d 58

-- whether the digit d goes on the number n: not after a single 0, and not past 15 digits
abbrev pub takes_digit : ℕ → ℕ → Bool
takes_digit n d = ltb 0 n && (ltb n 100000000000000 && is_digit d)

unfoldable pub after_key : List ℕ → List ℕ → ℕ → Option Rest
after_key [] l n = Some (rest l n)
after_key (k ∷ ks) [] n = None
after_key (k ∷ ks) (x ∷ l) n = cond (eqb x k) (after_key ks l n) None

unfoldable pub digits_of : ℕ → List ℕ → Rest
digits_of n [] = rest [] n
digits_of n (d ∷ l) = cond (takes_digit n d) (digits_of (n * 10 + (d - 48)) l) (rest (d ∷ l) n)

unfoldable pub first_of : List ℕ → Option Rest
first_of [] = None
first_of (d ∷ l) = cond (is_digit d) (Some (digits_of (d - 48) l)) None

unfoldable pub key_of : List ℕ → Option Rest → Option Rest
key_of key None = None
key_of key (Some (rest l n)) = after_key key l n

unfoldable pub number_of : Option Rest → Option Rest
number_of None = None
number_of (Some (rest l n)) = first_of l

unfoldable pub field_of : List ℕ → Option Rest → Option Rest
field_of key s = number_of (key_of key s)
