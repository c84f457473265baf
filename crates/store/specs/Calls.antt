-- The calls on a store: the refusals of each, and what it comes to (RULES, Settings).
use Rattle.std.specs.Prelude.{ℕ, ◌+◌, ◌%◌, ◌^◌, Bool, not, ◌||◌, List, [], ◌∷◌, ◌++◌, leb, ltb, eqb, length, drop, None, Option, Some, is_none, Result}
use Rattle.refusals.specs.Refusals.{Refusal, refuse, outcome}
use Rattle.refusals.specs.Reasons.{code_in, value_in}
use Rattle.refusals.specs.declared.Reason.{Reason}
use Rattle.setting.specs.Reader.{text_refusals, setting_of}
use Rattle.setting.specs.declared.Setting.{Setting}
use Rattle.store.specs.Saved.{Saved, saved, newest, text_of, found}
use Rattle.store.specs.Kept.{all_held, is_kept, freed_by}
use Rattle.store.specs.Layout.{store_size, store_ok, saved_of, with_saved, with_only, fresh_store}

-- code, value, and what is left of what was lent
pub record Reply (S : Type 0) : Type 0 where
  pub code : ℕ
  pub value : ℕ
  pub state : S

-- refused: the number, the value 0, and everything as it was
abbrev pub refused_with : {S : Type 0} → S → ℕ → Reply S
refused_with s k = record { code = k; value = 0; state = s }

abbrev pub done_with : {S : Type 0} → ℕ → S → Reply S
done_with v s = record { code = 0; value = v; state = s }

-- what a call answers, with the bytes that it leaves
abbrev pub replied : ℕ → ℕ → List ℕ → Reply (List ℕ)
replied code value lent = record { code = code; value = value; state = lent }

abbrev pub answered : Result ℕ Reason → List ℕ → Reply (List ℕ)
answered r lent = replied (code_in r) (value_in r) lent

-- over any state that holds versions: whether it is of the right shape, what it holds, it with one version more, and it with only those that a test keeps
pub record Storage (S : Type 0) : Type 0 where
  pub sound : S → Bool
  pub holds : S → List Saved
  pub with : Saved → S → S
  pub keep : (ℕ → ℕ → Bool) → S → S

module _ {S : Type 0} (st : Storage S) where
  -- the number of a table's next version
  abbrev pub next : S → ℕ → ℕ
  next s table = newest table (st.holds s) + 1

  -- 4 a wrong shape; 6 a next version above 2 ^ 48; 11 no such table or version; 12 256 versions
  abbrev pub put_refusals : S → ℕ → Bool → List Refusal
  put_refusals s table missing =
      refuse 4 (not (st.sound s))
      ∷ refuse 6 (ltb (2 ^ 48) (next s table))
      ∷ refuse 11 missing
      ∷ refuse 12 (leb 256 (length (st.holds s)))
      ∷ []

  -- a setting becomes the table's next version
  unfoldable pub save_refusals : S → ℕ → List ℕ → List Refusal
  save_refusals s table text = text_refusals text ++ put_refusals s table (leb 64 table)

  unfoldable pub save_reply : S → ℕ → List ℕ → Reply S
  save_reply s table text =
      outcome (save_refusals s table text) (refused_with s)
      (done_with (next s table) (st.with (saved table (next s table) (setting_of text)) s))

  -- and so does an earlier version
  abbrev pub again : S → ℕ → Option Setting → S
  again s table None = s
  again s table (Some setting) = st.with (saved table (next s table) setting) s

  unfoldable pub return_refusals : S → ℕ → ℕ → List Refusal
  return_refusals s table version = put_refusals s table (is_none (found table version (st.holds s)))

  unfoldable pub return_reply : S → ℕ → ℕ → Reply S
  return_reply s table version =
      outcome (return_refusals s table version) (refused_with s)
      (done_with (next s table) (again s table (found table version (st.holds s))))

  -- the text of a version at the start of a buffer; 8 where it is too short
  unfoldable pub read_refusals : S → ℕ → ℕ → List ℕ → List Refusal
  read_refusals s table version buffer =
      refuse 4 (not (st.sound s))
      ∷ refuse 8 (ltb (length buffer) (length (text_of (found table version (st.holds s)))))
      ∷ refuse 11 (is_none (found table version (st.holds s)))
      ∷ []

  unfoldable pub read_reply : S → ℕ → ℕ → List ℕ → Reply (List ℕ)
  read_reply s table version buffer =
      let text = text_of (found table version (st.holds s)) in
      outcome (read_refusals s table version buffer) (refused_with buffer)
      (done_with (length text) (text ++ drop (length text) buffer))

  -- room is made: only the newest version of each table and those listed are kept; the value is the number of the others
  unfoldable pub keep_refusals : S → List ℕ → List Refusal
  keep_refusals s list =
      refuse 4 (not (st.sound s) || eqb (length list % 2) 1)
      ∷ refuse 11 (not (all_held list (st.holds s)))
      ∷ []

  unfoldable pub keep_reply : S → List ℕ → Reply S
  keep_reply s list =
      outcome (keep_refusals s list) (refused_with s)
      (done_with (freed_by list (st.holds s)) (st.keep (is_kept list (st.holds s)) s))

-- ---- the bytes of a store

abbrev pub bytes : Storage (List ℕ)
bytes = record { sound = store_ok; holds = saved_of; with = with_saved; keep = with_only }

-- 4 a wrong shape
abbrev pub shape_refusals : List ℕ → List Refusal
shape_refusals store = refuse 4 (not (store_ok store)) ∷ []

-- a buffer of the right size becomes a store that holds nothing
abbrev pub fresh_refusals : List ℕ → List Refusal
fresh_refusals buffer = refuse 4 (not (eqb (length buffer) store_size)) ∷ []

unfoldable pub fresh_reply : List ℕ → Reply (List ℕ)
fresh_reply buffer = outcome (fresh_refusals buffer) (refused_with buffer) (done_with 0 fresh_store)
