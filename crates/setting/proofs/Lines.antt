-- A text read from the left, line by line: what is read no further, and what each line comes to.
use Rattle.std.specs.Prelude.{ℕ, zero, suc, ◌+◌, ◌-◌, ◌%◌, ◌≤◌, ◌<◌, ◌≡◌, refl, Bool, true, false, not, ◌&&◌, List, [], ◌∷◌, ◌++◌, leb, eqb, drop, replicate, Option, Some, None, Ok, Err}
use Rattle.std.proofs.Common.{sym, ◌∙◌, arith, add-zero, add-suc, drop-cons, append_assoc}
use Rattle.std.proofs.lemmas.List.{get_or-replicate}
use Rattle.basics.specs.laws.Logic.{holds, fails, tested}
use Rattle.chip.specs.Kinds.{chip_numbered, is_unknown}
use Rattle.chip.specs.Addresses.{address_allowed, is_barred}
use Rattle.chip.specs.Registers.{first_writable, writables}
use Rattle.chip.specs.laws.Addresses.{allowed_byte}
use Rattle.chip.specs.laws.Registers.{writables_few}
use Rattle.chip.specs.declared.Chip.{Chip}
use Rattle.refusals.specs.declared.Reason.TheVariants.{UnknownKind, WrongAddress, Malformed}
use Rattle.text.specs.Text.{text}
use Rattle.text.specs.Read.{Rest, rest, number_in, is_end, key_of, number_of, field_of}
use Rattle.setting.specs.Reader.{is_read, line_of, register_of, registers_of, values_of, kind_of, known_chip, all_registers, all_values, setting_of, reading_of}
use Rattle.setting.specs.laws.Reader.{registers_done}
use Rattle.setting.specs.laws.Whole.{judged, reading_is}
use Rattle.setting.specs.declared.Setting.{Setting}

-- ---- what is read no further

line_none : (k : List ℕ) → line_of k None ≡ None
unfolding line_of key_of number_of field_of
line_none k = refl

register_none : (r : ℕ) → register_of r None ≡ None
unfolding register_of line_of key_of number_of field_of
register_none r = elim (tested (eqb 0 r && leb 0 255)) [ holds e ↦ rw e refl | fails e ↦ rw e refl ]

-- where the number of a register is missing, so is its line
pub no_number : (r : ℕ) (s : Option Rest) → field_of (text "r") s ≡ None → register_of r s ≡ None
unfolding register_of line_of key_of number_of field_of
no_number r s e = rw e (register_none r)

none_read : (r n : ℕ) → registers_of r n None ≡ None
unfolding registers_of
none_read r zero = refl
none_read r (suc n) = rw (none_read r n) (register_none (r + n))

-- not past n lines, so not past more
pub registers_stop : (r n k : ℕ) (s : Option Rest) → registers_of r n s ≡ None → registers_of r (n + k) s ≡ None
unfolding registers_of
registers_stop r n zero s e = rw (add-zero n) e
registers_stop r n (suc k) s e = rw (add-suc n k, registers_stop r n k s e) (register_none (r + (n + k)))

-- nor is there a value in a line that is not read: that line's is the 0 that stood there
stop_one : (r j : ℕ) (s : Option Rest) (l : List ℕ) → registers_of r (suc j) s ≡ None → j < 28 → l ≡ values_of r j s ++ drop j (replicate 28 0) → l ≡ values_of r (suc j) s ++ drop (suc j) (replicate 28 0)
unfolding values_of
stop_one r j s l e h q =
    let zero_there : drop {A = ℕ} j (replicate 28 0) ≡ 0 ∷ drop (suc j) (replicate 28 0) = drop-cons (replicate 28 0) j 0 h ∙ rw (get_or-replicate {A = ℕ} 28 j 0 0 h) refl in
    q ∙ rw (zero_there, e) (sym (append_assoc (values_of r j s) (0 ∷ []) (drop (suc j) (replicate 28 0))))

values_stop : (r i k : ℕ) (s : Option Rest) (l : List ℕ) → registers_of r (i + 1) s ≡ None → i + k ≤ 28 → l ≡ values_of r i s ++ drop i (replicate 28 0) → l ≡ values_of r (i + k) s ++ drop (i + k) (replicate 28 0)
values_stop r i zero s l e h q = rw (add-zero i) q
values_stop r i (suc k) s l e h q =
    let past : i + 1 + k ≡ suc (i + k) = omega arith in
    rw (add-suc i k) (stop_one r (i + k) s l (rw past at (registers_stop r (i + 1) k s e)) (omega arith) (values_stop r i k s l e (omega arith) q))

-- so where the line of a register is not read, all are read as far as it
pub registers_left : (chip : Chip) (r n i : ℕ) (s : Option Rest) (values : List ℕ) → r ≡ first_writable chip → n ≡ writables chip → i < n → registers_of r (i + 1) s ≡ None
    → values ≡ values_of r i s ++ drop i (replicate 28 0) → (None ≡ all_registers chip s) × (values ≡ all_values chip s)
registers_left chip r n i s values p q h e f =
    let few : n ≤ 28 = omega (arith, q, (writables_few chip).0) in
    let behind : i + 1 + (n - (i + 1)) ≡ n = omega arith in
    let rest : i + (n - i) ≡ n = omega arith in
    registers_done chip r n n s None values p q (omega arith) (omega arith) (sym (rw behind at (registers_stop r (i + 1) (n - (i + 1)) s e))) (rw rest at (values_stop r i (n - i) s values e (omega arith) f))

-- ---- what a text comes to, as far as it is read

-- of its parts, each read from the one before
module _ (t : List ℕ) (kind address end : Option Rest) (found : Option Chip) (chip : Chip) (values : List ℕ) where
  pub parts : (n : ℕ) → kind ≡ kind_of t → address ≡ line_of (text "addr=") kind → found ≡ chip_numbered (number_in kind) → chip ≡ known_chip found → values ≡ all_values chip address
      → n ≡ number_in address → record { chip = chip; addr = n % 256; values = values } ≡ setting_of t
  unfolding setting_of
  parts n k a f c v m = rw (v, m, c, f, a, k) refl

  pub parts_judged : (s : Setting) (whole : Bool) → kind ≡ kind_of t → address ≡ line_of (text "addr=") kind → found ≡ chip_numbered (number_in kind) → chip ≡ known_chip found → end ≡ all_registers chip address
      → whole ≡ is_end end → s ≡ setting_of t → judged (is_read kind && is_unknown found) (is_read address && is_barred found (number_in address)) (not whole) s ≡ reading_of t
  parts_judged s whole k a f c e w q = rw (q, w, e, c, f, a, k) (sym (reading_is t))

module _ (t : List ℕ) where
  pub no_kind : kind_of t ≡ None → reading_of t ≡ Err Malformed
  no_kind k =
      reading_is t ∙ rw (k, line_none (text "addr="), none_read) refl

  module _ (l : List ℕ) (n : ℕ) (k : kind_of t ≡ Some (rest l n)) where
    pub no_chip : chip_numbered n ≡ None → reading_of t ≡ Err UnknownKind
    no_chip c = reading_is t ∙ rw (k, c) refl

    module _ (chip : Chip) (c : chip_numbered n ≡ Some chip) where
      pub no_address : line_of (text "addr=") (Some (rest l n)) ≡ None → reading_of t ≡ Err Malformed
      no_address a = reading_is t ∙ rw (k, c, a, none_read (first_writable chip) (writables chip)) refl

      module _ (m : List ℕ) (address : ℕ) (a : line_of (text "addr=") (Some (rest l n)) ≡ Some (rest m address)) where
        pub barred : address_allowed chip address ≡ false → reading_of t ≡ Err WrongAddress
        barred f = reading_is t ∙ rw (k, c, a, f) refl

        module _ (f : address_allowed chip address ≡ true) where
          pub no_end : is_end (all_registers chip (Some (rest m address))) ≡ false → reading_of t ≡ Err Malformed
          no_end e = reading_is t ∙ rw (k, c, a, f, e) refl

          pub address_byte : address < 256
          address_byte = allowed_byte (Some chip) address refl (rw f refl)

          pub taken : is_end (all_registers chip (Some (rest m address))) ≡ true → reading_of t ≡ Ok (record { chip = chip; addr = address; values = all_values chip (Some (rest m address)) })
          unfolding setting_of
          taken e =
              let small : address % 256 ≡ address = let b = address_byte in omega arith in
              reading_is t ∙ rw (k, c, a, f, e, small) refl
