-- What a store holds: versions of tables' settings (RULES, Settings).
use Rattle.std.specs.Prelude.{ℕ, max, Bool, ◌&&◌, cond, List, [], ◌∷◌, eqb, Option, None, Some, is_some}
use Rattle.setting.specs.Setting.{setting_text}
use Rattle.setting.specs.declared.Setting.{Setting}

-- a version of a table's setting
pub record Saved : Type 0 where
  pub table : ℕ
  pub version : ℕ
  pub setting : Setting

abbrev pub saved : ℕ → ℕ → Setting → Saved
saved table version setting = record { table = table; version = version; setting = setting }

-- the greatest version of a table; 0 where it has none
unfoldable pub newest : ℕ → List Saved → ℕ
newest table [] = 0
newest table (e ∷ l) = max (cond (eqb e.table table) e.version 0) (newest table l)

-- the bytes of what is found
abbrev pub text_of : Option Setting → List ℕ
text_of None = []
text_of (Some s) = setting_text s

abbrev pub is_version : ℕ → ℕ → Saved → Bool
is_version table version e = eqb e.table table && eqb e.version version

-- the setting of a table's version: the first, where there are several
unfoldable pub found : ℕ → ℕ → List Saved → Option Setting
found table version [] = None
found table version (e ∷ l) = cond (is_version table version e) (Some e.setting) (found table version l)

abbrev pub is_held : ℕ → ℕ → List Saved → Bool
is_held table version l = is_some (found table version l)

-- the versions that pass a test of table and version, in their order
unfoldable pub only : (ℕ → ℕ → Bool) → List Saved → List Saved
only keeps [] = []
only keeps (e ∷ l) = cond (keeps e.table e.version) (e ∷ only keeps l) (only keeps l)
