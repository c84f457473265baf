-- A setting's text: what is read is what is written, and what is written is read back, line by line.
use Prim.Native.Nat.{ℕ, zero, suc, ◌+◌, ◌-◌, ◌≤◌, ◌<◌}
use Rattle.std.specs.Prelude.{Option, None, Some, ◌≡◌, Bool, true, false, ◌&&◌, cond, ltb, leb, eqb, length, take, drop, set, replicate}
use Rattle.std.proofs.Math.Path.{refl, ap}
use Rattle.std.proofs.Common.{sym, ◌∙◌, add-one, add-zero, add-suc, arith, eq-eqb, eqb-true, le-leb, leb-true, lt-ltb, ltb-true, length-append, drop-cons}
use mathlib.Core.List.{List, [], ◌∷◌, ◌++◌}
use Rattle.std.proofs.Math.ListN.{get_or}
use Rattle.std.proofs.Math.Seq.{take-suc}
use Rattle.basics.specs.First.{all}
use Rattle.basics.specs.laws.First.{all_behind}
use Rattle.basics.specs.laws.Lists.{filled_more}
use Rattle.basics.specs.laws.Logic.{holds, fails, tested, and_left, and_right}
use Rattle.chip.specs.Registers.{first_writable, writables}
use Rattle.chip.specs.declared.Chip.{Chip}
use Rattle.chip.specs.declared.Chip.TheVariants.{Pca9635, Pca9634, Pca9531, Pca9551}
use Rattle.text.specs.Text.{text, decimal, Short}
use Rattle.text.specs.Read.{Rest, rest, number_in, field_of}
use Rattle.text.specs.laws.Decimal.{never}
use Rattle.text.specs.laws.Read.{key_sound, key_read, field_sound, field_read}
use Rattle.setting.specs.Setting.{register_line, register_lines}
use Rattle.setting.specs.Reader.{line_of, register_of, registers_of, values_of, all_registers, all_values}
use Rattle.setting.specs.laws.Setting.{lines_more, line_behind}

-- ---- a line

pub line_sound : (k : List ℕ) (s : Option Rest) {r : List ℕ} {n : ℕ} → line_of k s ≡ Some (rest r n) → (s ≡ Some (rest (k ++ (decimal n ++ (text "\n" ++ r))) (number_in s))) × Short n
unfolding line_of
line_sound k s e = field_sound k s (key_sound (text "\n") (field_of k s) e)

pub line_read : (k : List ℕ) (n : ℕ) (r : List ℕ) (m : ℕ) → Short n → line_of k (Some (rest (k ++ (decimal n ++ (text "\n" ++ r))) m)) ≡ Some (rest r n)
unfolding line_of
line_read k n r m s = rw (field_read k n (text "\n" ++ r) m s refl) (key_read (text "\n") r n)

-- ---- the line of a register

kept : (b : Bool) (s : Option Rest) {l : List ℕ} {v : ℕ} → cond b s None ≡ Some (rest l v) → (b ≡ true) × (s ≡ Some (rest l v))
kept true s e = (refl, e)
kept false s e = never e

register_sound : (r : ℕ) (s : Option Rest) {l : List ℕ} {v : ℕ} → register_of r s ≡ Some (rest l v) → (s ≡ Some (rest (register_line r v l) (number_in s))) × (v ≤ 255)
unfolding register_of
register_sound r s {l} {v} e =
    let number = field_of (text "r") s in
    let value = line_of (text "=") number in
    let h = kept (eqb (number_in number) r && leb (number_in value) 255) value e in
    let same = eqb-true (number_in number) r (and_left (eqb (number_in number) r) (leb (number_in value) 255) h.0) in
    let byte = leb-true (number_in value) 255 (and_right (eqb (number_in number) r) (leb (number_in value) 255) h.0) in
    let is : number_in value ≡ v = ap number_in h.1 in
    let n = (line_sound (text "=") number h.1).0 in
    let i = (field_sound (text "r") s (rw same at n)).0 in
    (i, omega arith)

register_read : (r v : ℕ) (l : List ℕ) (m : ℕ) → Short r → v ≤ 255 → register_of r (Some (rest (register_line r v l) m)) ≡ Some (rest l v)
unfolding register_of
register_read r v l m h k =
    rw (field_read (text "r") r (text "=" ++ (decimal v ++ (text "\n" ++ l))) m h refl, line_read (text "=") v l r (omega arith), eq-eqb r r refl, le-leb v 255 k) refl

-- read and judged, or not
pub register_taken : (r : ℕ) (s number value : Option Rest) (n v : ℕ) → number ≡ field_of (text "r") s → value ≡ line_of (text "=") number → n ≡ number_in number → v ≡ number_in value → n ≡ r → v ≤ 255 → value ≡ register_of r s
unfolding register_of
register_taken r s number value n v p q e f h k =
    rw (← p, ← q, ← e, ← f, eq-eqb n r h, le-leb v 255 k) refl

pub register_left : (r : ℕ) (s number value : Option Rest) (n v : ℕ) → number ≡ field_of (text "r") s → value ≡ line_of (text "=") number → n ≡ number_in number → v ≡ number_in value → (n ≡ r → v ≤ 255 → ⊥) → None ≡ register_of r s
unfolding register_of
register_left r s number value n v p q e f wrong =
    rw (← p, ← q, ← e, ← f) (elim (tested (eqb n r && leb v 255)) [
      | holds t ↦ absurd (wrong (eqb-true n r (and_left (eqb n r) (leb v 255) t)) (leb-true v 255 (and_right (eqb n r) (leb v 255) t)))
      | fails t ↦ rw t refl
    ])

-- its value is a byte in any case
pub register_byte_lem : (r : ℕ) (s : Option Rest) → number_in (register_of r s) ≤ 255
unfolding register_of
register_byte_lem r s =
    let number = field_of (text "r") s in
    let value = line_of (text "=") number in
    elim (tested (eqb (number_in number) r && leb (number_in value) 255)) [
      | holds t ↦ rw t (leb-true (number_in value) 255 (and_right (eqb (number_in number) r) (leb (number_in value) 255) t))
      | fails t ↦ rw t (omega arith)
    ]

-- ---- the lines of registers

pub values_long : (r n : ℕ) (s : Option Rest) → length (values_of r n s) ≡ n
unfolding values_of
values_long r zero s = refl
values_long r (suc n) s = rw (length-append, values_long r n s) (omega arith)

-- ---- what a loop over the lines starts with, what a turn adds, what it ends with

pub registers_none : (r : ℕ) (s : Option Rest) → s ≡ registers_of r 0 s
unfolding registers_of
registers_none r s = refl

pub values_none : (r : ℕ) (s : Option Rest) (l : List ℕ) → l ≡ values_of r 0 s ++ drop 0 l
unfolding values_of
values_none r s l = refl

pub registers_more : (r i : ℕ) (s now next : Option Rest) → now ≡ registers_of r i s → next ≡ register_of (r + i) now → next ≡ registers_of r (i + 1) s
unfolding registers_of
registers_more r i s now next e f = rw (add-one i, ← e) f

pub values_more : (r i : ℕ) (s next : Option Rest) (old values : List ℕ) (v : ℕ) → next ≡ registers_of r (i + 1) s → v ≡ number_in next → i < length old → values ≡ values_of r i s ++ drop i old → set values i v ≡ values_of r (i + 1) s ++ drop (i + 1) old
unfolding values_of
values_more r i s next old values v e f h q =
    let is : number_in (registers_of r (suc i) s) ≡ v = sym (f ∙ ap number_in (rw (add-one i) at e)) in
    rw (add-one i, q, is) (filled_more (values_of r i s) old i v (values_long r i s) h)

padding : (chip : Chip) → drop {A = ℕ} (writables chip) (replicate 28 0) ≡ replicate (28 - writables chip) 0
padding Pca9635 = refl
padding Pca9634 = refl
padding Pca9531 = refl
padding Pca9551 = refl

pub registers_done : (chip : Chip) (r n i : ℕ) (s now : Option Rest) (values : List ℕ) → r ≡ first_writable chip → n ≡ writables chip → i ≤ n → n ≤ i
    → now ≡ registers_of r i s → values ≡ values_of r i s ++ drop i (replicate 28 0) → (now ≡ all_registers chip s) × (values ≡ all_values chip s)
registers_done chip r n i s now values p q h k e f =
    let j : i ≡ writables chip = omega (arith, q) in
    (rw (j, p) at e, (rw (j, p) at f) ∙ ap (λ (l : List ℕ). values_of (first_writable chip) (writables chip) s ++ l) (padding chip))

-- ---- what is read are the lines of the values, each of which is a byte
pub registers_sound : (r n : ℕ) (s : Option Rest) {l : List ℕ} {v : ℕ} → registers_of r n s ≡ Some (rest l v) → s ≡ Some (rest (register_lines r (values_of r n s) ++ l) (number_in s))
unfolding registers_of values_of register_lines
registers_sound r zero s {l} {v} e = rw e refl
registers_sound r (suc n) s {l} {v} e =
    let h = (register_sound (r + n) (registers_of r n s) e).0 in
    let i = registers_sound r n s h in
    let is : number_in (registers_of r (suc n) s) ≡ v = ap number_in e in
    let long = values_long r n s in
    let more : register_lines r (values_of r n s ++ v ∷ []) ++ l ≡ register_lines r (values_of r n s) ++ register_line (r + n) v l = rw long at (lines_more r (values_of r n s) v l) in
    rw (is, more) i

pub registers_bytes : (r n : ℕ) (s : Option Rest) {l : List ℕ} {v : ℕ} → registers_of r n s ≡ Some (rest l v) → all (λ x. ltb x 256) (values_of r n s) ≡ true
unfolding registers_of values_of
registers_bytes r zero s e = refl
registers_bytes r (suc n) s {l} {v} e =
    let h = register_sound (r + n) (registers_of r n s) e in
    let is : number_in (registers_of r (suc n) s) ≡ v = ap number_in e in
    rw (is, all_behind (λ (x : ℕ). ltb x 256) (values_of r n s) v, registers_bytes r n s h.0, lt-ltb v 256 (omega (arith, h.1))) refl

every_byte : (values : List ℕ) (k : ℕ) → all (λ x. ltb x 256) values ≡ true → ltb (get_or values k 0) 256 ≡ true
every_byte [] k e = refl
every_byte (x ∷ values) zero e = and_left (ltb x 256) (all (λ x. ltb x 256) values) e
every_byte (x ∷ values) (suc k) e = every_byte values k (and_right (ltb x 256) (all (λ x. ltb x 256) values) e)

-- and the lines of bytes are read: after k of them, those that are left
module _ (r : ℕ) (values : List ℕ) (l : List ℕ) (m : ℕ) (few : r + length values < 1000) (bytes : all (λ x. ltb x 256) values ≡ true) where
  abbrev start : Option Rest
  start = Some (rest (register_lines r values ++ l) m)

  byte : (k : ℕ) → get_or values k 0 ≤ 255
  byte k = omega (arith, ltb-true (get_or values k 0) 256 (every_byte values k bytes))

  pub record ReadSo (k : ℕ) : Type 0 where
    pub left : registers_of r k start ≡ Some (rest (register_lines (r + k) (drop k values) ++ l) (number_in (registers_of r k start)))
    pub got : values_of r k start ≡ take k values

  pub registers_read : (k : ℕ) → k ≤ length values → ReadSo k
  unfolding registers_of values_of register_lines
  registers_read zero h = record { left = rw (add-zero r) refl; got = refl }
  registers_read (suc k) h =
      let i = registers_read k (omega arith) in
      let x = get_or values k 0 in
      let behind = register_lines (suc (r + k)) (drop (suc k) values) in
      let lines : register_lines (r + k) (drop k values) ++ l ≡ register_line (r + k) x (behind ++ l) = rw (drop-cons values k 0 h) (line_behind (r + k) x behind l) in
      let line : registers_of r (suc k) start ≡ Some (rest (behind ++ l) x) =
      ap (register_of (r + k)) (i.left ∙ ap (λ (t : List ℕ). Some (rest t (number_in (registers_of r k start)))) lines) ∙ register_read (r + k) x (behind ++ l) (number_in (registers_of r k start)) (omega arith) (byte k) in
      record {
        left = line ∙ rw (add-suc r k, ap number_in line) refl;
        got = rw (i.got, ap number_in line, take-suc values k 0 h) refl;
      }
