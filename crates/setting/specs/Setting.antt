-- A setting, the bytes of its text, and what a text that is none begins with (RULES, Settings).
use Rattle.std.specs.Prelude.{None, ℕ, suc, ◌≡◌, Bool, true, false, ◌&&◌, List, [], ◌∷◌, ◌++◌, ltb, eqb, length, take, drop}
use Prim.Native.String.{String}
use Rattle.basics.specs.First.{all}
use Rattle.chip.specs.Kinds.{number_of, chip_numbered}
use Rattle.chip.specs.Registers.{first_writable, writables}
use Rattle.chip.specs.Addresses.{address_allowed}
use Rattle.chip.specs.declared.Chip.{Chip}
use Rattle.text.specs.Text.{text, entry, Short}
use Rattle.setting.specs.declared.Setting.{Setting}

-- a key, a number, a line feed, and what follows
abbrev pub line : String → ℕ → List ℕ → List ℕ
line key n rest = entry key n (text "\n" ++ rest)

-- the line of register r, and what follows
abbrev pub register_line : ℕ → ℕ → List ℕ → List ℕ
register_line r value rest = entry "r" r (line "=" value rest)

-- a line for each of some values, of register r and those behind it
unfoldable pub register_lines : ℕ → List ℕ → List ℕ
register_lines r [] = []
register_lines r (value ∷ values) = register_line r value (register_lines (suc r) values)

-- the bytes of a setting
unfoldable pub setting_text : Setting → List ℕ
setting_text s =
    line "chip=" (number_of s.chip)
    (line "addr=" s.addr
    (register_lines (first_writable s.chip) (take (writables s.chip) s.values)))

-- an address that the chip can have, and nothing behind the values of its writable registers
unfoldable pub setting_ok : Setting → Bool
setting_ok s = address_allowed s.chip s.addr && all (λ x. eqb x 0) (drop (writables s.chip) s.values)

-- and 28 bytes for values
pub record IsSetting (s : Setting) : Type 0 where
  pub ok : setting_ok s ≡ true
  pub long : length s.values ≡ 28
  pub bytes : all (λ x. ltb x 256) s.values ≡ true

-- ---- what is refused with a number of its own, whatever follows

-- a text that begins with the line of an unknown kind
pub record UnknownKind (t : List ℕ) : Type 0 where
  pub number : ℕ
  pub behind : List ℕ
  pub short : Short number
  pub begins : t ≡ line "chip=" number behind
  pub unknown : chip_numbered number ≡ None

-- a text that begins with the line of a kind and that of an address which the kind cannot have
pub record BarredAddress (t : List ℕ) : Type 0 where
  pub chip : Chip
  pub address : ℕ
  pub behind : List ℕ
  pub short : Short address
  pub begins : t ≡ line "chip=" (number_of chip) (line "addr=" address behind)
  pub barred : address_allowed chip address ≡ false
