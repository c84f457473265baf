-- A whole text: what is read is a setting's, a setting's is read back, and what each refusal says.
use Rattle.std.specs.Prelude.{Option, None, Some, Result, Ok, Err, ℕ, ◌-◌, ◌%◌, ◌≤◌, ◌<◌, ◌≡◌, Bool, false, not, ◌&&◌, cond, length, take, replicate}
use Rattle.std.proofs.Math.Path.{refl, ap}
use Rattle.std.proofs.Common.{sym, ◌∙◌, length-append, length-drop, take-append-drop, take_all, length-take-le}
use Rattle.std.proofs.Math.Bool.{true, and-false}
use Rattle.std.proofs.lemmas.Bool.{false≢true}
use mathlib.Core.List.{List, [], ◌∷◌, ◌++◌, append-nil}
use native.Mathlib.Omega.{arith}
use borrow.Author.Tests.{not-true, not-false}
use Rattle.std.proofs.Math.Dec.{ltb, eqb}
use Rattle.std.proofs.Math.ListN.{drop, length-replicate, drop_of_length-le}
use Rattle.std.proofs.Math.Seq.{take_at, drop_at}
use Rattle.basics.specs.First.{all}
use Rattle.basics.specs.laws.First.{all_both, all_replicate}
use Rattle.basics.specs.laws.Logic.{holds, fails, tested, and_left, and_right}
use Rattle.chip.specs.Kinds.{number_of, chip_numbered, is_unknown}
use Rattle.chip.specs.Registers.{first_writable, writables}
use Rattle.chip.specs.Addresses.{address_allowed, is_barred}
use Rattle.chip.specs.laws.Addresses.{allowed_byte}
use Rattle.chip.specs.laws.Kinds.{number_few}
use Rattle.chip.specs.laws.Registers.{writables_few}
use Rattle.chip.specs.Promises.{found_by_number}
use Rattle.chip.specs.declared.Chip.{Chip}
use Rattle.refusals.specs.Refusals.{refuse, least, code_of, outcome}
use Rattle.refusals.specs.laws.Outcome.{done_is}
use Rattle.refusals.specs.Reasons.{code_in}
use Rattle.refusals.specs.declared.Reason.{Reason}
use Rattle.refusals.specs.declared.Reason.TheVariants as reason
use Rattle.text.specs.Text.{text, Short}
use Rattle.text.specs.Read.{Rest, rest, number_in, is_end}
use Rattle.text.specs.laws.Decimal.{few_digits}
use Rattle.text.specs.laws.Read.{end_sound}
use Rattle.setting.specs.laws.Chips.{known_is, known_number}
use Rattle.setting.specs.laws.Reader.{line_sound, line_read, values_long, registers_sound, registers_bytes, ReadSo, registers_read}
use Rattle.setting.specs.laws.Setting.{lines_length, all_zero}
use Rattle.setting.specs.Setting.{line, register_lines, setting_text, setting_ok, IsSetting, UnknownKind, BarredAddress}
use Rattle.setting.specs.Reader.{kind_of, address_of, chip_in, known_chip, is_read, line_of, unknown_in, barred_in, registers_of, all_registers, values_of, all_values, text_refusals, setting_of, reason_of, reading_of}
use Rattle.setting.specs.declared.Setting.{Setting}

-- ---- what a text comes to

abbrev whole : List ℕ → Bool
whole t = is_end (all_registers (known_chip (chip_in t)) (address_of t))

-- by whether the kind is unknown, the address one that the kind cannot have, and the text not read to its end
abbrev pub judged : Bool → Bool → Bool → Setting → Result Setting Reason
judged a b c s = cond a (Err reason.UnknownKind) (cond b (Err reason.WrongAddress) (cond c (Err reason.Malformed) (Ok s)))

judged_is : (a b c : Bool) (s : Setting) → outcome (refuse 1 a ∷ refuse 2 b ∷ refuse 4 c ∷ []) (λ k. Err (reason_of k)) (Ok s) ≡ judged a b c s
unfolding code_of least
judged_is true true true s = refl
judged_is true true false s = refl
judged_is true false true s = refl
judged_is true false false s = refl
judged_is false true true s = refl
judged_is false true false s = refl
judged_is false false true s = refl
judged_is false false false s = refl

pub reading_is : (t : List ℕ) → reading_of t ≡ judged (unknown_in t) (barred_in t) (not (whole t)) (setting_of t)
unfolding text_refusals
reading_is t = judged_is (unknown_in t) (barred_in t) (not (whole t)) (setting_of t)

-- a reason has the least number that holds
coded : (a b c : Bool) (s : Setting) → code_in (judged a b c s) ≡ code_of (refuse 1 a ∷ refuse 2 b ∷ refuse 4 c ∷ [])
unfolding code_of least
coded true true true s = refl
coded true true false s = refl
coded true false true s = refl
coded true false false s = refl
coded false true true s = refl
coded false true false s = refl
coded false false true s = refl
coded false false false s = refl

pub reading_code : (t : List ℕ) → code_in (reading_of t) ≡ code_of (text_refusals t)
unfolding text_refusals
reading_code t = ap code_in (reading_is t) ∙ coded (unknown_in t) (barred_in t) (not (whole t)) (setting_of t)

few_coded : (a b c : Bool) → code_of (refuse 1 a ∷ refuse 2 b ∷ refuse 4 c ∷ []) ≤ 4
unfolding code_of least
few_coded true true true = omega arith
few_coded true true false = omega arith
few_coded true false true = omega arith
few_coded true false false = omega arith
few_coded false true true = omega arith
few_coded false true false = omega arith
few_coded false false true = omega arith
few_coded false false false = omega arith

pub code_few : (t : List ℕ) → code_of (text_refusals t) ≤ 4
unfolding text_refusals
code_few t = few_coded (unknown_in t) (barred_in t) (not (whole t))

-- where none holds, it is read
pub reading_done : (t : List ℕ) → code_of (text_refusals t) ≡ 0 → reading_of t ≡ Ok (setting_of t)
reading_done t z = done_is (text_refusals t) (λ k. Err (reason_of k)) (Ok (setting_of t)) z

-- ---- what is read is what is written

module _ (t : List ℕ) where
  abbrev chip : Chip
  chip = known_chip (chip_in t)

  abbrev address : ℕ
  address = number_in (address_of t)

  -- the kind's line, where it is read
  kind_line : (l : List ℕ) (n : ℕ) → kind_of t ≡ Some (rest l n) → (t ≡ line "chip=" n l) × Short n
  kind_line l n e =
      let h = line_sound (text "chip=") (Some (rest t 0)) e in
      let q : Some (rest t 0) ≡ Some (rest (line "chip=" n l) 0) = h.0 in
      (cc, h.1)

  -- and that of the address behind it
  address_line : (l : List ℕ) (n : ℕ) → address_of t ≡ Some (rest l n) → (t ≡ line "chip=" (number_in (kind_of t)) (line "addr=" n l)) × Short n
  address_line l n e =
      let h = line_sound (text "addr=") (kind_of t) e in
      ((kind_line (line "addr=" n l) (number_in (kind_of t)) h.0).0, h.1)

  -- where the lines of the registers end the text, those before them are read
  lines_read : whole t ≡ true → address_of t ≡ Some (rest (register_lines (first_writable chip) (values_of (first_writable chip) (writables chip) (address_of t))) address)
  lines_read end =
      rw (append-nil (register_lines (first_writable chip) (values_of (first_writable chip) (writables chip) (address_of t))))
      at (registers_sound (first_writable chip) (writables chip) (address_of t) (end_sound (all_registers chip (address_of t)) end))

  read_so : whole t ≡ true → (is_read (address_of t) ≡ true) × (is_read (kind_of t) ≡ true)
  read_so end = (ap is_read (lines_read end), ap is_read (line_sound (text "addr=") (kind_of t) (lines_read end)).0)

  -- a whole text
  module _ (known : is_unknown (chip_in t) ≡ false) (free : is_barred (chip_in t) address ≡ false) (end : whole t ≡ true) where
    abbrev values : List ℕ
    values = values_of (first_writable chip) (writables chip) (address_of t)

    ended : all_registers chip (address_of t) ≡ Some (rest [] (number_in (all_registers chip (address_of t))))
    ended = end_sound (all_registers chip (address_of t)) end

    small : address % 256 ≡ address
    small = let h : address < 256 = allowed_byte (chip_in t) address known free in omega arith

    first_values : take (writables chip) (setting_of t).values ≡ values
    unfolding setting_of
    first_values = take_at values (replicate (28 - writables chip) 0) (writables chip) (values_long (first_writable chip) (writables chip) (address_of t))

    last_values_lem : drop (writables chip) (setting_of t).values ≡ replicate (28 - writables chip) 0
    unfolding setting_of
    last_values_lem = drop_at values (replicate (28 - writables chip) 0) (writables chip) (values_long (first_writable chip) (writables chip) (address_of t))

    its_text : t ≡ setting_text (setting_of t)
    unfolding setting_text setting_of
    its_text =
        rw (known_number (number_in (kind_of t)) known, small, first_values) (address_line (register_lines (first_writable chip) values) address (lines_read end)).0

    is_setting : IsSetting (setting_of t)
    unfolding setting_ok setting_of
    is_setting =
        let is = known_is (chip_in t) known in
        let allowed : address_allowed chip address ≡ true = not-false (address_allowed chip address) (rw is at free) in
        record {
          ok = rw (small, allowed, last_values_lem) (all_replicate (λ (x : ℕ). eqb x 0) (28 - writables chip) 0 refl);
          long = rw (length-append values (replicate (28 - writables chip) 0), values_long (first_writable chip) (writables chip) (address_of t), length-replicate {A = ℕ} (28 - writables chip) 0) (omega (arith, (writables_few chip).0));
          bytes = rw (all_both (λ (x : ℕ). ltb x 256) values (replicate (28 - writables chip) 0), registers_bytes (first_writable chip) (writables chip) (address_of t) ended) (all_replicate (λ (x : ℕ). ltb x 256) (28 - writables chip) 0 refl);
        }

follows : (a b : Bool) {c : Bool} → a ≡ true → (a && b) ≡ c → b ≡ c
follows true b e q = q
follows false b e q = absurd (false≢true e)

all_by : (a b c : Bool) {r s : Setting} → judged a b c r ≡ Ok s → (a ≡ false) × (b ≡ false) × (c ≡ false) × (r ≡ s)
all_by true b c e = cc
all_by false true c e = cc
all_by false false true e = cc
all_by false false false e = (refl, refl, refl, cc)

pub read_whole : (t : List ℕ) (s : Setting) → reading_of t ≡ Ok s → (t ≡ setting_text s) × IsSetting s
read_whole t s e =
    let none = all_by (unknown_in t) (barred_in t) (not (whole t)) (sym (reading_is t) ∙ e) in
    let end = not-false (whole t) none.2 in
    let read = read_so t end in
    let known = follows (is_read (kind_of t)) (is_unknown (chip_in t)) read.1 none.0 in
    let free = follows (is_read (address_of t)) (is_barred (chip_in t) (number_in (address_of t))) read.0 none.1 in
    (its_text t known free end ∙ ap setting_text none.3, rw none.3 at (is_setting t known free end))

-- ---- what is written is read back

module _ (s : Setting) (is : IsSetting s) where
  abbrev first : ℕ
  first = first_writable s.chip

  abbrev many : ℕ
  many = writables s.chip

  abbrev lines : List ℕ
  lines = register_lines first (take many s.values)

  allowed : address_allowed s.chip s.addr ≡ true
  unfolding setting_ok
  allowed = and_left (address_allowed s.chip s.addr) (all (λ x. eqb x 0) (drop many s.values)) is.ok

  no_more : all (λ x. eqb x 0) (drop many s.values) ≡ true
  unfolding setting_ok
  no_more = and_right (address_allowed s.chip s.addr) (all (λ x. eqb x 0) (drop many s.values)) is.ok

  addr_few : s.addr < 256
  addr_few = allowed_byte (Some s.chip) s.addr refl (rw allowed refl)

  values_few : length (take many s.values) ≡ many
  values_few = length-take-le many s.values (omega (arith, is.long, (writables_few s.chip).0))

  values_bytes : all (λ x. ltb x 256) (take many s.values) ≡ true
  values_bytes =
      and_left (all (λ x. ltb x 256) (take many s.values)) (all (λ x. ltb x 256) (drop many s.values))
      (sym (all_both (λ (x : ℕ). ltb x 256) (take many s.values) (drop many s.values)) ∙ ap (all (λ x. ltb x 256)) (take-append-drop many s.values) ∙ is.bytes)

  kind_read : kind_of (setting_text s) ≡ Some (rest (line "addr=" s.addr lines) (number_of s.chip))
  unfolding setting_text
  kind_read = line_read (text "chip=") (number_of s.chip) (line "addr=" s.addr lines) 0 (omega (arith, number_few s.chip))

  address_read : address_of (setting_text s) ≡ Some (rest lines s.addr)
  address_read = ap (line_of (text "addr=")) kind_read ∙ line_read (text "addr=") s.addr lines (number_of s.chip) (omega (arith, addr_few))

  chip_read : chip_in (setting_text s) ≡ Some s.chip
  chip_read = ap (λ (r : Option Rest). chip_numbered (number_in r)) kind_read ∙ found_by_number s.chip

  registers_so : ReadSo first (take many s.values) [] s.addr (omega (arith, values_few, (writables_few s.chip).0, (writables_few s.chip).1)) values_bytes many
  registers_so = registers_read first (take many s.values) [] s.addr _ values_bytes many (omega (arith, values_few))

  from_lines : Some (rest lines s.addr) ≡ Some (rest (lines ++ []) s.addr)
  from_lines = rw (append-nil lines) refl

  end_read : is_end (all_registers s.chip (Some (rest lines s.addr))) ≡ true
  unfolding register_lines
  end_read =
      let none : drop many (take many s.values) ≡ [] = drop_of_length-le (take many s.values) {i = many} (omega (arith, values_few)) in
      ap (λ (r : Option Rest). is_end (registers_of first many r)) from_lines ∙ ap is_end registers_so.left ∙ rw none refl

  values_back : take many s.values ++ replicate (28 - many) 0 ≡ s.values
  values_back =
      let e : length (drop many s.values) ≡ 28 - many = rw (length-drop, is.long) refl in
      ap (λ (l : List ℕ). take many s.values ++ l) (sym (rw e at (all_zero (drop many s.values) no_more))) ∙ take-append-drop many s.values

  values_read : all_values s.chip (Some (rest lines s.addr)) ≡ s.values
  values_read =
      ap (λ (r : Option Rest). all_values s.chip r) from_lines
      ∙ rw (registers_so.got, take_all many (take many s.values) (omega (arith, values_few))) values_back

  unknown_none : unknown_in (setting_text s) ≡ false
  unknown_none =
      ap (λ (f : Option Chip). is_read (kind_of (setting_text s)) && is_unknown f) chip_read ∙ and-false (is_read (kind_of (setting_text s)))

  barred_none : barred_in (setting_text s) ≡ false
  barred_none =
      ap (λ (f : Option Chip). is_read (address_of (setting_text s)) && is_barred f (number_in (address_of (setting_text s)))) chip_read
      ∙ ap (λ (r : Option Rest). is_read r && is_barred (Some s.chip) (number_in r)) address_read
      ∙ rw allowed refl

  whole_read : whole (setting_text s) ≡ true
  whole_read =
      ap (λ (f : Option Chip). is_end (all_registers (known_chip f) (address_of (setting_text s)))) chip_read
      ∙ ap (λ (r : Option Rest). is_end (all_registers s.chip r)) address_read
      ∙ end_read

  abbrev made : Option Chip → Option Rest → Setting
  made f r = record { chip = known_chip f; addr = number_in r % 256; values = all_values (known_chip f) r }

  setting_back : setting_of (setting_text s) ≡ s
  unfolding setting_of
  setting_back =
      let small : s.addr % 256 ≡ s.addr = let h = addr_few in omega arith in
      ap (λ (f : Option Chip). made f (address_of (setting_text s))) chip_read
      ∙ ap (made (Some s.chip)) address_read
      ∙ rw (small, values_read) refl

pub read_back : (s : Setting) → IsSetting s → reading_of (setting_text s) ≡ Ok s
read_back s is = reading_is (setting_text s) ∙ rw (unknown_none s is, barred_none s is, whole_read s is, setting_back s is) refl

-- ---- what each refusal says

one_by : (a b c : Bool) (r : Setting) → judged a b c r ≡ Err reason.UnknownKind → a ≡ true
one_by true b c r e = refl
one_by false true c r e = cc
one_by false false true r e = cc
one_by false false false r e = cc

two_by : (a b c : Bool) (r : Setting) → judged a b c r ≡ Err reason.WrongAddress → b ≡ true
two_by true b c r e = cc
two_by false true c r e = refl
two_by false false true r e = cc
two_by false false false r e = cc

unknown_true : (f : Option Chip) → is_unknown f ≡ true → f ≡ None
unknown_true None e = refl
unknown_true (Some c) e = absurd (false≢true e)

barred_true : (f : Option Chip) (address : ℕ) → is_barred f address ≡ true → (is_unknown f ≡ false) × (address_allowed (known_chip f) address ≡ false)
barred_true None n e = absurd (false≢true e)
barred_true (Some c) n e = (refl, not-true (address_allowed c n) e)

module _ (t : List ℕ) where
  says_unknown : (r : Option Rest) → kind_of t ≡ r → (is_read r && is_unknown (chip_numbered (number_in r))) ≡ true → UnknownKind t
  says_unknown None q e = absurd (false≢true e)
  says_unknown (Some (rest l n)) q e =
      let h = kind_line t l n q in
      record { number = n; behind = l; short = h.1; begins = h.0; unknown = unknown_true (chip_numbered n) e }

  unknown_said : UnknownKind t → unknown_in t ≡ true
  unknown_said u =
      let read : kind_of t ≡ Some (rest u.behind u.number) = ap kind_of u.begins ∙ line_read (text "chip=") u.number u.behind 0 u.short in
      ap (λ (r : Option Rest). is_read r && is_unknown (chip_numbered (number_in r))) read ∙ ap is_unknown u.unknown

  pub one_says : reading_of t ≡ Err reason.UnknownKind → UnknownKind t
  one_says c = says_unknown (kind_of t) refl (one_by (unknown_in t) (barred_in t) (not (whole t)) (setting_of t) (sym (reading_is t) ∙ c))

  pub unknown_is_one : UnknownKind t → reading_of t ≡ Err reason.UnknownKind
  unknown_is_one u = reading_is t ∙ rw (unknown_said u) refl

  says_barred : (r : Option Rest) → address_of t ≡ r → (is_read r && is_barred (chip_in t) (number_in r)) ≡ true → BarredAddress t
  says_barred None q e = absurd (false≢true e)
  says_barred (Some (rest l n)) q e =
      let h = address_line t l n q in
      let b = barred_true (chip_in t) n e in
      record {
        chip = known_chip (chip_in t);
        address = n;
        behind = l;
        short = h.1;
        begins = h.0 ∙ ap (λ (k : ℕ). line "chip=" k (line "addr=" n l)) (sym (known_number (number_in (kind_of t)) b.0));
        barred = b.1;
      }

  module _ (b : BarredAddress t) where
    kind_there : kind_of t ≡ Some (rest (line "addr=" b.address b.behind) (number_of b.chip))
    kind_there = ap kind_of b.begins ∙ line_read (text "chip=") (number_of b.chip) (line "addr=" b.address b.behind) 0 (omega (arith, number_few b.chip))

    address_there : address_of t ≡ Some (rest b.behind b.address)
    address_there = ap (line_of (text "addr=")) kind_there ∙ line_read (text "addr=") b.address b.behind (number_of b.chip) b.short

    chip_there : chip_in t ≡ Some b.chip
    chip_there = ap (λ (r : Option Rest). chip_numbered (number_in r)) kind_there ∙ found_by_number b.chip

    known_said : unknown_in t ≡ false
    known_said = ap (λ (f : Option Chip). is_read (kind_of t) && is_unknown f) chip_there ∙ and-false (is_read (kind_of t))

    barred_said : barred_in t ≡ true
    barred_said =
        ap (λ (f : Option Chip). is_read (address_of t) && is_barred f (number_in (address_of t))) chip_there
        ∙ ap (λ (r : Option Rest). is_read r && is_barred (Some b.chip) (number_in r)) address_there
        ∙ ap not b.barred

  pub two_says : reading_of t ≡ Err reason.WrongAddress → BarredAddress t
  two_says c = says_barred (address_of t) refl (two_by (unknown_in t) (barred_in t) (not (whole t)) (setting_of t) (sym (reading_is t) ∙ c))

  pub barred_is_two : BarredAddress t → reading_of t ≡ Err reason.WrongAddress
  barred_is_two b = reading_is t ∙ rw (known_said b, barred_said b) refl

  pub no_other : reading_of t ≡ Err reason.Malformed → (UnknownKind t → ⊥) × (BarredAddress t → ⊥) × ((s : Setting) → IsSetting s → t ≡ setting_text s → ⊥)
  no_other c = (λ u. let e = unknown_is_one u in cc, λ b. let e = barred_is_two b in cc, λ s is q. let e = read_back s is in cc)

  pub any_other : (UnknownKind t → ⊥) → (BarredAddress t → ⊥) → ((s : Setting) → IsSetting s → t ≡ setting_text s → ⊥) → reading_of t ≡ Err reason.Malformed
  any_other u b n =
      elim (tested (unknown_in t)) [
        | holds e ↦ absurd (u (says_unknown (kind_of t) refl e))
        | fails e ↦
            elim (tested (barred_in t)) [
              | holds f ↦ absurd (b (says_barred (address_of t) refl f))
              | fails f ↦
                  elim (tested (whole t)) [
                    | holds g ↦ let h = read_whole t (setting_of t) (reading_is t ∙ rw (e, f, g) refl) in absurd (n (setting_of t) h.1 h.0)
                    | fails g ↦ reading_is t ∙ rw (e, f, g) refl
                  ]
            ]
      ]

-- ---- a text's length

pub text_few : (s : Setting) → IsSetting s → length (setting_text s) ≤ 233
unfolding setting_text
text_few s is =
    let few = writables_few s.chip in
    let l = lines_length (take (writables s.chip) s.values) (first_writable s.chip) (omega (arith, few.1)) (omega (arith, values_few s is, few.0)) (values_bytes s is) in
    simp length-append
    (omega (arith, l, values_few s is, few.0, few.1, few.2, few_digits 3 (number_of s.chip) (omega arith) (number_few s.chip), few_digits 2 s.addr (omega arith) (omega (arith, addr_few s is))))
