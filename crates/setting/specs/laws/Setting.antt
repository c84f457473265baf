-- The lines of a setting: one register more, how long they are, and that a value that is 0 fills what is left.
use Rattle.std.specs.Prelude.{ℕ, suc, ◌+◌, ◌*◌, ◌-◌, ◌≤◌, ◌<◌, ◌≡◌, refl, true, List, [], ◌∷◌, ◌++◌, ltb, eqb, length, take, get_or, replicate}
use Rattle.std.proofs.Common.{sym, ap, ◌∙◌, ⊎_elim, append_assoc, append-nil, add-one, add-zero, arith, eqb-true, ltb-true, length-append, length-take-le, take-suc}
use Rattle.basics.specs.First.{all}
use Rattle.basics.specs.laws.Logic.{and_left, and_right, lt_or_ge}
use Rattle.chip.specs.Kinds.{number_of}
use Rattle.chip.specs.Registers.{first_writable, writables}
use Rattle.text.specs.Text.{text, decimal}
use Rattle.text.specs.Write.{Written}
use Rattle.text.specs.laws.Decimal.{few_digits}
use Rattle.text.specs.laws.Write.{then}
use Rattle.setting.specs.Setting.{register_line, register_lines, setting_text}
use Rattle.setting.specs.declared.Setting.{Setting}

-- ---- one register more

-- what follows a line stands behind it
pub line_behind : (r value : ℕ) (l m : List ℕ) → register_line r value l ++ m ≡ register_line r value (l ++ m)
line_behind r value l m =
    rw (append_assoc (text "r") (decimal r ++ (text "=" ++ (decimal value ++ (text "\n" ++ l)))) m, append_assoc (decimal r) (text "=" ++ (decimal value ++ (text "\n" ++ l))) m, append_assoc (text "=") (decimal value ++ (text "\n" ++ l)) m, append_assoc (decimal value) (text "\n" ++ l) m) refl

pub lines_more : (r : ℕ) (values : List ℕ) (value : ℕ) (l : List ℕ) → register_lines r (values ++ value ∷ []) ++ l ≡ register_lines r values ++ register_line (r + length values) value l
unfolding register_lines
lines_more r [] value l = rw (add-zero r) (line_behind r value [] l)
lines_more r (x ∷ values) value l =
    let e : suc r + length values ≡ r + suc (length values) = omega arith in
    line_behind r x (register_lines (suc r) (values ++ value ∷ [])) l
    ∙ ap (register_line r x) (lines_more (suc r) values value l ∙ rw e refl)
    ∙ sym (line_behind r x (register_lines (suc r) values) (register_line (r + suc (length values)) value l))

pub lines_next : (r i : ℕ) (values : List ℕ) → i < length values → register_lines r (take i values) ++ register_line (r + i) (get_or values i 0) [] ≡ register_lines r (take (i + 1) values)
lines_next r i values h =
    let long : length (take i values) ≡ i = length-take-le i values (omega arith) in
    rw (add-one i, take-suc values i 0 h) (sym (rw (long, append-nil (register_lines r (take i values ++ get_or values i 0 ∷ []))) at (lines_more r (take i values) (get_or values i 0) [])))

-- ---- how long the lines are

-- where a line ends that is written
pub line_end : (k : List ℕ) (n : ℕ) {old new : List ℕ} {at r : ℕ} → Written old at (k ++ (decimal n ++ text "\n")) new r → r ≡ at + (length k + (length (decimal n) + 1))
line_end k n w = w.stop ∙ simp length-append (omega arith)

pub line_few : (r value : ℕ) (l : List ℕ) → r < 100 → value < 256 → length (register_line r value l) ≤ 8 + length l
line_few r value l h g = simp length-append (omega (arith, few_digits 1 r (omega arith) (omega arith), few_digits 2 value (omega arith) (omega arith)))

-- register 10 is the first of two digits
lines_few : (values : List ℕ) (r : ℕ) → r + length values ≤ 100 → all (λ x. ltb x 256) values ≡ true → length (register_lines r values) ≤ 8 * length values
unfolding register_lines
lines_few [] r h b = omega arith
lines_few (x ∷ values) r h b =
    omega (arith, line_few r x (register_lines (suc r) values) (omega arith) (ltb-true x 256 (and_left (ltb x 256) (all (λ x. ltb x 256) values) b)), lines_few values (suc r) (omega arith) (and_right (ltb x 256) (all (λ x. ltb x 256) values) b))

pub lines_length : (values : List ℕ) (r : ℕ) → r ≤ 10 → length values ≤ 90 → all (λ x. ltb x 256) values ≡ true → length (register_lines r values) ≤ 7 * length values + (r + length values - 10)
unfolding register_lines
lines_length [] r h k b = omega arith
lines_length (x ∷ values) r h k b =
    ⊎_elim
    (λ (l : r < 10).
    let i = lines_length values (suc r) l (omega arith) (and_right (ltb x 256) (all (λ x. ltb x 256) values) b) in
    simp length-append (omega (arith, i, few_digits 0 r (omega arith) l, few_digits 2 x (omega arith) (omega (arith, ltb-true x 256 (and_left (ltb x 256) (all (λ x. ltb x 256) values) b))))))
    (λ (g : 10 ≤ r). omega (arith, lines_few (x ∷ values) r (omega arith) b))
    (lt_or_ge r 10)

-- ---- a setting is three texts, one after the other

line_then : (k : List ℕ) (n : ℕ) (l : List ℕ) → (k ++ (decimal n ++ text "\n")) ++ l ≡ k ++ (decimal n ++ (text "\n" ++ l))
line_then k n l = append_assoc k (decimal n ++ text "\n") l ∙ ap (λ (t : List ℕ). k ++ t) (append_assoc (decimal n) (text "\n") l)

pub setting_written : (s : Setting) (n first count : ℕ) {old a b new : List ℕ} {p q r : ℕ} → n ≡ number_of s.chip → first ≡ first_writable s.chip → count ≡ writables s.chip
    → Written old 0 (text "chip=" ++ (decimal n ++ text "\n")) a p → Written a p (text "addr=" ++ (decimal s.addr ++ text "\n")) b q → Written b q (register_lines first (take count s.values)) new r
    → Written old 0 (setting_text s) new r
unfolding setting_text
setting_written s n first count e f g x y z =
    let l = register_lines (first_writable s.chip) (take (writables s.chip) s.values) in
    rw (e, f, g, line_then (text "addr=") s.addr l, line_then (text "chip=") (number_of s.chip) (text "addr=" ++ (decimal s.addr ++ (text "\n" ++ l)))) at (then x (then y z))

-- ---- zeros

pub all_zero : (l : List ℕ) → all (λ x. eqb x 0) l ≡ true → l ≡ replicate (length l) 0
all_zero [] e = refl
all_zero (x ∷ l) e =
    let h = eqb-true x 0 (and_left (eqb x 0) (all (λ x. eqb x 0) l) e) in
    rw h (ap (λ (m : List ℕ). 0 ∷ m) (all_zero l (and_right (eqb x 0) (all (λ x. eqb x 0) l) e)))
