-- A call's reply, from what the code finds in the bytes of a store.
use Rattle.std.specs.Prelude.{ℕ, ◌^◌, ◌≤◌, ◌<◌, ◌≡◌, ◌⊎◌, Bool, true, false, not, cond, leb, ltb, length, take, drop, Option, None, Some, is_none}
use Rattle.std.proofs.Math.Path.{refl}
use Rattle.std.proofs.Common.{sym, ap, ◌∙◌, inl, inr, zero-add, arith}
use mathlib.Core.List.{List, [], ◌∷◌, ◌++◌}
use borrow.Author.Tests.{lt-ltb, le-ltb, ltb-true, ltb-false, le-leb, lt-leb}
use Rattle.basics.specs.laws.Logic.{tested, holds, fails}
use Rattle.basics.specs.Parts.{with_part}
use Rattle.refusals.specs.Refusals.{Refusal, refuse, least, code_of}
use Rattle.refusals.specs.laws.Refusals.{least_min, least_zero, code_both, first_code, above}
use Rattle.setting.specs.Reader.{text_refusals, setting_of}
use Rattle.setting.specs.Promises.{number_few}
use Rattle.setting.specs.Setting.{setting_text}
use Rattle.setting.specs.declared.Setting.{Setting}
use Rattle.text.specs.Write.{Written}
use Rattle.text.specs.laws.Write.{written_first}
use Rattle.store.specs.Saved.{saved, newest, found}
use Rattle.store.specs.Kept.{is_kept, freed_by}
use Rattle.store.specs.Layout.{place_of, store_ok, saved_of, free_place, first_free, with_only}
use Rattle.store.specs.Calls.{bytes, refused_with, done_with, next, put_refusals, shape_refusals, save_refusals, save_reply, return_refusals, return_reply, read_reply, keep_refusals, keep_reply}
use Rattle.store.specs.laws.Judged.{IsNext}
use Rattle.store.specs.declared.room.Next.{Next}
use Rattle.store.proofs.laws.Layout.{full_is}
use Rattle.store.proofs.laws.Calls.{read_done, save_done, save_refused, return_done, return_refused, keep_done, keep_refused}

-- ---- the code of one version more

-- a refusal before those with larger numbers
before : (k : ℕ) (b : Bool) (m : List Refusal) → (k ≡ 0 → ⊥) → above k m ≡ true → code_of (refuse k b ∷ m) ≡ cond b k (code_of m)
unfolding code_of least
before k true m n a = first_code k m n a
before k false m n a = refl

module _ (store : List ℕ) (table : ℕ) (missing : Bool) where
  abbrev far : Bool
  far = ltb (2 ^ 48) (next bytes store table)

  abbrev full : Bool
  full = leb 256 (length (saved_of store))

  abbrev twelve : List Refusal
  twelve = refuse 12 full ∷ []

  abbrev eleven : List Refusal
  eleven = refuse 11 missing ∷ twelve

  put_code : code_of (put_refusals bytes store table missing) ≡ cond (not (store_ok store)) 4 (cond far 6 (cond missing 11 (cond full 12 0)))
  unfolding code_of
  put_code =
      before 4 (not (store_ok store)) (refuse 6 far ∷ eleven) (λ z. omega arith) refl
      ∙ ap (cond (not (store_ok store)) 4) (before 6 far eleven (λ z. omega arith) refl ∙ ap (cond far 6) (before 11 missing twelve (λ z. omega arith) refl ∙ ap (cond missing 11) (before 12 full [] (λ z. omega arith) refl)))

  -- in a store of another shape 4 comes first, whatever else holds
  pub put_unsound : store_ok store ≡ false → code_of (put_refusals bytes store table missing) ≡ 4
  put_unsound e = put_code ∙ rw e refl

  -- none, or not before those of a text
  put_late : (code_of (put_refusals bytes store table missing) ≡ 0) ⊎ (4 ≤ code_of (put_refusals bytes store table missing))
  put_late = rw put_code (late (not (store_ok store)) far missing full)
    where
      late : (a b c d : Bool) → let k : ℕ = cond a 4 (cond b 6 (cond c 11 (cond d 12 0))) in (k ≡ 0) ⊎ (4 ≤ k)
      late true b c d = inr (omega arith)
      late false true c d = inr (omega arith)
      late false false true d = inr (omega arith)
      late false false false true = inr (omega arith)
      late false false false false = inl refl

  -- in a store of the right shape, one after the other
  module _ (ok : store_ok store ≡ true) where
    pub put_far : 2 ^ 48 ≤ newest table (saved_of store) → 6 ≡ code_of (put_refusals bytes store table missing)
    put_far h = sym (put_code ∙ rw (ok, lt-ltb (2 ^ 48) (next bytes store table) (omega arith)) refl)

    module _ (near : newest table (saved_of store) < 2 ^ 48) where
      pub put_missing : missing ≡ true → 11 ≡ code_of (put_refusals bytes store table missing)
      put_missing m = sym (put_code ∙ rw (ok, le-ltb (2 ^ 48) (next bytes store table) (omega arith), m) refl)

      module _ (there : missing ≡ false) where
        put_by_full : code_of (put_refusals bytes store table missing) ≡ cond (leb 256 (free_place store)) 12 0
        put_by_full = put_code ∙ rw (ok, le-ltb (2 ^ 48) (next bytes store table) (omega arith), there, full_is store 256) refl

        pub put_full : first_free store ≡ None → 12 ≡ code_of (put_refusals bytes store table missing)
        put_full e =
            elim (tested (ltb (free_place store) 256)) [
              | holds t ↦ let f = rw t at e in cc
              | fails t ↦ sym (put_by_full ∙ rw (le-leb 256 (free_place store) (ltb-false (free_place store) 256 t)) refl)
            ]

        pub put_clear : (i : ℕ) → first_free store ≡ Some i → (0 ≡ code_of (put_refusals bytes store table missing)) × (i ≡ free_place store) × (i < 256)
        put_clear i e =
            elim (tested (ltb (free_place store) 256)) [
              | holds t ↦
                  let h = ltb-true (free_place store) 256 t in
                  let f : i ≡ free_place store = let g = rw t at e in cc in
                  (sym (put_by_full ∙ rw (lt-leb 256 (free_place store) h) refl), f, omega (arith, f))
              | fails t ↦ let f = rw t at e in cc
            ]

-- ---- a store of another shape

pub shape_is : (store : List ℕ) (k : ℕ) → 0 < k → k ≡ code_of (shape_refusals store) → (store_ok store ≡ false) × (k ≡ 4)
unfolding code_of least
shape_is store k h e =
    elim (tested (store_ok store)) [ holds t ↦ absurd (omega (arith, rw t at e)) | fails t ↦ (t, rw t at e) ]

-- ---- a read

pub read_is : (store : List ℕ) (table version : ℕ) (buffer text copy : List ℕ) (n : ℕ) (setting : Setting) {old : List ℕ} → store_ok store ≡ true → found table version (saved_of store) ≡ Some setting
    → n ≤ length buffer → Written old 0 (setting_text setting) text n → copy ≡ take n text → done_with n (copy ++ drop n buffer) ≡ read_reply bytes store table version buffer
read_is store table version buffer text copy n setting ok f h w q =
    let long : n ≡ length (setting_text setting) = w.stop ∙ zero-add (length (setting_text setting)) in
    let is : copy ≡ setting_text setting = q ∙ written_first w in
    rw (is, long) (sym (read_done bytes store table version buffer setting ok f (omega (arith, long))))

-- ---- a save

low : (j k : ℕ) → 0 < j → j ≤ 4 → (k ≡ 0) ⊎ (4 ≤ k) → least j k ≡ j
low j k p h (inl e) = rw e (least_zero j)
low j k p h (inr g) = least_min j k (λ z. omega arith) (λ z. omega arith) ∙ omega arith

module _ (store : List ℕ) (table : ℕ) (text : List ℕ) where
  abbrev put : ℕ
  put = code_of (put_refusals bytes store table (leb 64 table))

  abbrev own : ℕ
  own = code_of (text_refusals text)

  save_both : code_of (save_refusals bytes store table text) ≡ least own put
  unfolding save_refusals
  save_both = code_both (text_refusals text) (put_refusals bytes store table (leb 64 table))

  pub save_turned : (k : ℕ) → 0 < k → k ≡ code_of (save_refusals bytes store table text) → refused_with store k ≡ save_reply bytes store table text
  save_turned k h e = sym (save_refused bytes store table text (λ z. omega (arith, e, z)) ∙ ap (refused_with store) (sym e))

  -- a text's number is given before those of the store
  pub save_text : (k : ℕ) → 0 < k → k ≡ own → refused_with store k ≡ save_reply bytes store table text
  save_text k h e = save_turned k h (e ∙ sym (save_both ∙ low own put (omega (arith, e)) (number_few text) (put_late store table (leb 64 table))))

  module _ (z : own ≡ 0) where
    save_code : code_of (save_refusals bytes store table text) ≡ put
    unfolding least
    save_code = save_both ∙ rw z refl

    pub save_put : (k : ℕ) → 0 < k → k ≡ put → refused_with store k ≡ save_reply bytes store table text
    save_put k h e = save_turned k h (e ∙ sym save_code)

    pub save_is : (after : List ℕ) (given : Option Setting) (n : Next) → 0 ≡ put → IsNext store table given n → n.setting ≡ setting_of text → after ≡ with_part 256 40 n.place (place_of (saved n.table n.version n.setting)) store
        → done_with n.version after ≡ save_reply bytes store table text
    save_is after given n c is own e =
        rw (e, is.version, is.own, is.place, own) (sym (save_done bytes store table text (save_code ∙ sym c)))

-- ---- a return, likewise

module _ (store : List ℕ) (table version : ℕ) where
  abbrev what : Option Setting
  what = found table version (saved_of store)

  abbrev back : ℕ
  back = code_of (put_refusals bytes store table (is_none what))

  pub return_turned : (k : ℕ) → 0 < k → k ≡ back → refused_with store k ≡ return_reply bytes store table version
  unfolding return_refusals
  return_turned k h e = sym (return_refused bytes store table version (λ z. omega (arith, e, z)) ∙ ap (refused_with store) (sym e))

  pub return_is : (after : List ℕ) (n : Next) → 0 ≡ back → IsNext store table what n → after ≡ with_part 256 40 n.place (place_of (saved n.table n.version n.setting)) store
      → done_with n.version after ≡ return_reply bytes store table version
  unfolding return_refusals
  return_is after n c is e =
      rw (e, is.version, is.own, is.place) (sym (return_done bytes store table version (sym c) ∙ rw is.what refl))

-- ---- making room, likewise

module _ (store list : List ℕ) where
  pub keep_turned : (k : ℕ) → 0 < k → k ≡ code_of (keep_refusals bytes store list) → refused_with store k ≡ keep_reply bytes store list
  keep_turned k h e = sym (keep_refused bytes store list (λ z. omega (arith, e, z)) ∙ ap (refused_with store) (sym e))

  pub keep_is : (after : List ℕ) (value : ℕ) → 0 ≡ code_of (keep_refusals bytes store list) → after ≡ with_only (is_kept list (saved_of store)) store → value ≡ freed_by list (saved_of store)
      → done_with value after ≡ keep_reply bytes store list
  keep_is after value z e q = rw (e, q) (sym (keep_done bytes store list (sym z)))
