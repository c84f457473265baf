-- How a call's reply comes about: done or refused, over any storage.
use Rattle.std.specs.Prelude.{ℕ, ◌%◌, ◌^◌, ◌≤◌, ◌<◌, ◌≡◌, true, false, not, List, [], ◌∷◌, ◌++◌, leb, length, drop, None, Some}
use Rattle.std.proofs.Math.Path.{refl, ap}
use Rattle.std.proofs.Common.{sym, ◌∙◌, arith}
use borrow.Author.Tests.{eq-eqb, ne_eqb, lt-ltb, le-ltb}
use Rattle.refusals.specs.Refusals.{refuse, least, code_of}
use Rattle.refusals.specs.laws.Refusals.{first_code}
use Rattle.refusals.specs.laws.Outcome.{done_is, refused_is}
use Rattle.setting.specs.Reader.{setting_of}
use Rattle.setting.specs.Setting.{setting_text}
use Rattle.setting.specs.declared.Setting.{Setting}
use Rattle.store.specs.Saved.{saved, found}
use Rattle.store.specs.Layout.{store_size, fresh_store}
use Rattle.store.specs.Calls.{Storage, refused_with, done_with, next, save_refusals, save_reply, again, return_refusals, return_reply, read_refusals, read_reply, keep_refusals, keep_reply, fresh_reply}
use Rattle.store.specs.Kept.{all_held, is_kept, freed_by}

-- ---- a fresh store

pub fresh_refused : (buffer : List ℕ) → (length buffer ≡ store_size → ⊥) → fresh_reply buffer ≡ refused_with buffer 4
unfolding fresh_reply code_of least
fresh_refused buffer d = rw (ne_eqb (length buffer) store_size d) refl

pub fresh_done : (buffer : List ℕ) → length buffer ≡ store_size → fresh_reply buffer ≡ done_with 0 fresh_store
unfolding fresh_reply code_of least
fresh_done buffer e = rw (eq-eqb (length buffer) store_size e) refl

-- ---- done or refused

module _ {S : Type 0} (st : Storage S) (s : S) (list : List ℕ) where
  pub keep_done : code_of (keep_refusals st s list) ≡ 0 → keep_reply st s list ≡ done_with (freed_by list (st.holds s)) (st.keep (is_kept list (st.holds s)) s)
  unfolding keep_reply
  keep_done z = done_is (keep_refusals st s list) (refused_with s) _ z

  -- its code, from what is found
  pub keep_unsound : st.sound s ≡ false → 4 ≡ code_of (keep_refusals st s list)
  unfolding keep_refusals
  keep_unsound e = rw e (sym (first_code 4 (refuse 11 (not (all_held list (st.holds s))) ∷ []) (λ z. omega arith) refl))

  pub keep_odd : st.sound s ≡ true → length list % 2 ≡ 1 → 4 ≡ code_of (keep_refusals st s list)
  unfolding keep_refusals
  keep_odd e o = rw (e, eq-eqb (length list % 2) 1 o) (sym (first_code 4 (refuse 11 (not (all_held list (st.holds s))) ∷ []) (λ z. omega arith) refl))

  pub keep_missing : st.sound s ≡ true → (length list % 2 ≡ 1 → ⊥) → all_held list (st.holds s) ≡ false → 11 ≡ code_of (keep_refusals st s list)
  unfolding keep_refusals code_of least
  keep_missing e o h = rw (e, ne_eqb (length list % 2) 1 o, h) refl

  pub keep_clear : st.sound s ≡ true → (length list % 2 ≡ 1 → ⊥) → all_held list (st.holds s) ≡ true → 0 ≡ code_of (keep_refusals st s list)
  unfolding keep_refusals code_of least
  keep_clear e o h = rw (e, ne_eqb (length list % 2) 1 o, h) refl

  pub keep_refused : (code_of (keep_refusals st s list) ≡ 0 → ⊥) → keep_reply st s list ≡ refused_with s (code_of (keep_refusals st s list))
  unfolding keep_reply
  keep_refused n = refused_is (keep_refusals st s list) (refused_with s) _ n

module _ {S : Type 0} (st : Storage S) (s : S) (table : ℕ) where
  pub save_done : (text : List ℕ) → code_of (save_refusals st s table text) ≡ 0 → save_reply st s table text ≡ done_with (next st s table) (st.with (saved table (next st s table) (setting_of text)) s)
  unfolding save_reply
  save_done text z = done_is (save_refusals st s table text) (refused_with s) _ z

  pub save_refused : (text : List ℕ) → (code_of (save_refusals st s table text) ≡ 0 → ⊥) → save_reply st s table text ≡ refused_with s (code_of (save_refusals st s table text))
  unfolding save_reply
  save_refused text n = refused_is (save_refusals st s table text) (refused_with s) _ n

  pub return_done : (version : ℕ) → code_of (return_refusals st s table version) ≡ 0 → return_reply st s table version ≡ done_with (next st s table) (again st s table (found table version (st.holds s)))
  unfolding return_reply
  return_done version z = done_is (return_refusals st s table version) (refused_with s) _ z

  pub return_refused : (version : ℕ) → (code_of (return_refusals st s table version) ≡ 0 → ⊥) → return_reply st s table version ≡ refused_with s (code_of (return_refusals st s table version))
  unfolding return_reply
  return_refused version n = refused_is (return_refusals st s table version) (refused_with s) _ n

  pub return_missing : (version : ℕ) → st.sound s ≡ true → next st s table ≤ 2 ^ 48 → found table version (st.holds s) ≡ None → return_reply st s table version ≡ refused_with s 11
  unfolding return_refusals code_of least
  return_missing version e few f =
      let code : code_of (return_refusals st s table version) ≡ 11 = rw (e, f, le-ltb (2 ^ 48) (next st s table) few) (first_code 11 (refuse 12 (leb 256 (length (st.holds s))) ∷ []) (λ z. omega arith) refl) in
      return_refused version (λ z. omega (arith, code, z)) ∙ ap (refused_with s) code

  -- a read, by what is found
  module _ (version : ℕ) (buffer : List ℕ) where
    pub read_unsound : st.sound s ≡ false → read_reply st s table version buffer ≡ refused_with buffer 4
    unfolding read_reply read_refusals
    read_unsound e =
        let first : code_of (read_refusals st s table version buffer) ≡ 4 = rw e (first_code 4 (refuse 8 _ ∷ refuse 11 _ ∷ []) (λ z. omega arith) refl) in
        refused_is (read_refusals st s table version buffer) (refused_with buffer) _ (λ z. omega (arith, first, z)) ∙ ap (refused_with buffer) first

    pub read_missing : st.sound s ≡ true → found table version (st.holds s) ≡ None → read_reply st s table version buffer ≡ refused_with buffer 11
    unfolding read_reply read_refusals code_of least
    read_missing e f = rw (e, f, le-ltb (length buffer) 0 (omega arith)) refl

    module _ (setting : Setting) (e : st.sound s ≡ true) (f : found table version (st.holds s) ≡ Some setting) where
      pub read_short : length buffer < length (setting_text setting) → read_reply st s table version buffer ≡ refused_with buffer 8
      unfolding read_reply read_refusals code_of least
      read_short h = rw (e, f, lt-ltb (length buffer) (length (setting_text setting)) h) refl

      pub read_done : length (setting_text setting) ≤ length buffer → read_reply st s table version buffer ≡ done_with (length (setting_text setting)) (setting_text setting ++ drop (length (setting_text setting)) buffer)
      unfolding read_reply read_refusals code_of least
      read_done h = rw (e, f, le-ltb (length buffer) (length (setting_text setting)) h) refl
