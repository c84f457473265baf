-- Promises on settings: a setting's text is read back as that setting, and a text that is read is that setting's; what each refusal says; and how long a text is.
use Rattle.std.specs.Prelude.{ℕ, ◌≤◌, ◌≡◌, List, length, Ok, Err}
use Rattle.refusals.specs.Refusals.{code_of}
use Rattle.refusals.specs.Reasons.{code_in}
use Rattle.refusals.specs.declared.Reason.TheVariants as reason
use Rattle.setting.specs.Setting.{setting_text, IsSetting, UnknownKind, BarredAddress}
use Rattle.setting.specs.Reader.{text_refusals, setting_of, reading_of}
use Rattle.setting.specs.laws.Whole.{reading_code, code_few, reading_done, read_back, read_whole, one_says, unknown_is_one, two_says, barred_is_two, no_other, any_other, text_few}
use Rattle.setting.specs.declared.Setting.{Setting}

-- a setting's text is read back as that setting
pub setting_read : (s : Setting) → IsSetting s → reading_of (setting_text s) ≡ Ok s
setting_read s is = read_back s is

-- what is read as a setting is the text of that setting
pub read_setting : (t : List ℕ) (s : Setting) → reading_of t ≡ Ok s → (t ≡ setting_text s) × IsSetting s
read_setting t s e = read_whole t s e

module _ (t : List ℕ) where
  -- a refusal has the least number that holds
  pub reading_number : code_in (reading_of t) ≡ code_of (text_refusals t)
  reading_number = reading_code t

  pub number_few : code_of (text_refusals t) ≤ 4
  number_few = code_few t

  -- and where none holds, the text is that of a setting
  pub none_refused : code_of (text_refusals t) ≡ 0 → (reading_of t ≡ Ok (setting_of t)) × (t ≡ setting_text (setting_of t)) × IsSetting (setting_of t)
  none_refused z = let e = reading_done t z in let w = read_whole t (setting_of t) e in (e, w.0, w.1)

  -- 1 for a text that begins with the line of an unknown kind
  pub unknown_kind : (reading_of t ≡ Err reason.UnknownKind → UnknownKind t) × (UnknownKind t → reading_of t ≡ Err reason.UnknownKind)
  unknown_kind = (one_says t, unknown_is_one t)

  -- 2 for one that begins with the line of a kind and that of an address which the kind cannot have
  pub barred_address : (reading_of t ≡ Err reason.WrongAddress → BarredAddress t) × (BarredAddress t → reading_of t ≡ Err reason.WrongAddress)
  barred_address = (two_says t, barred_is_two t)

  -- 4 for any other that is no setting's
  pub no_setting : (reading_of t ≡ Err reason.Malformed → (UnknownKind t → ⊥) × (BarredAddress t → ⊥) × ((s : Setting) → IsSetting s → t ≡ setting_text s → ⊥))
      × ((UnknownKind t → ⊥) → (BarredAddress t → ⊥) → ((s : Setting) → IsSetting s → t ≡ setting_text s → ⊥) → reading_of t ≡ Err reason.Malformed)
  no_setting = (no_other t, any_other t)

-- no text is longer
pub setting_length : (s : Setting) → IsSetting s → length (setting_text s) ≤ 233
setting_length s is = text_few s is
