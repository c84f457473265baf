-- What a version reads as, after any further calls that keep it.
use Rattle.std.specs.Prelude.{ℕ, ◌≤◌, ◌≡◌, true, false, None, Option, Some, is_none, is_some}
use Rattle.std.proofs.Math.Path.{refl, ap}
use Rattle.std.proofs.Common.{sym, ◌∙◌, true≢false, arith}
use mathlib.Core.List.{List, [], ◌∷◌, ◌++◌}
use Rattle.std.proofs.Math.ListN.{length, drop}
use Rattle.refusals.specs.Refusals.{code_of}
use Rattle.refusals.specs.laws.Refusals.{none_both, none_code, accepted}
use Rattle.refusals.specs.laws.Outcome.{outcome_code}
use Rattle.setting.specs.Reader.{text_refusals, setting_of}
use Rattle.setting.specs.Setting.{setting_text}
use Rattle.setting.specs.Promises.{none_refused}
use Rattle.setting.specs.declared.Setting.{Setting}
use Rattle.store.specs.Saved.{Saved, saved, newest, found, is_held}
use Rattle.store.specs.Kept.{is_kept}
use Rattle.store.specs.Layout.{store_ok, saved_of}
use Rattle.store.specs.Calls.{Reply, Storage, bytes, done_with, refused_with, next, put_refusals, save_refusals, save_reply, again, return_refusals, return_reply, read_refusals, read_reply, keep_reply}
use Rattle.store.specs.History.{Call, after_all, kept_by_all, listed, Holds}
use Rattle.store.proofs.laws.Calls.{save_done, return_done, read_done}
use Rattle.store.proofs.laws.History.{Agree, save_agree, return_agree, read_same, keep_agree, all_hold, all_kept}
use Rattle.store.proofs.laws.Room.{newest_stays, found_kept}
use Rattle.store.proofs.laws.Listed.{still_found, still_held, still_gone, held_low, found_next}

-- a code of 0 is one of the refusals
save_accepted : {S : Type 0} (st : Storage S) (s : S) (table : ℕ) (text : List ℕ) → (save_reply st s table text).code ≡ 0 → code_of (save_refusals st s table text) ≡ 0
unfolding save_reply
save_accepted st s table text z = sym (outcome_code (save_refusals st s table text) (refused_with s) _ (λ r. r.code) (λ k. refl) refl) ∙ z

return_accepted : {S : Type 0} (st : Storage S) (s : S) (table version : ℕ) → (return_reply st s table version).code ≡ 0 → code_of (return_refusals st s table version) ≡ 0
unfolding return_reply
return_accepted st s table version z = sym (outcome_code (return_refusals st s table version) (refused_with s) _ (λ r. r.code) (λ k. refl) refl) ∙ z

-- what is read is what is found
read_by_found : (l m : List Saved) (table v w : ℕ) (buffer : List ℕ) → found table v l ≡ found table w m → read_reply listed l table v buffer ≡ read_reply listed m table w buffer
unfolding read_reply read_refusals
read_by_found l m table v w buffer e = rw e refl

-- what is held of a store is held of its list
held_in : {store : List ℕ} {l : List Saved} → Holds store l → (table version : ℕ) → is_held table version (saved_of store) ≡ is_held table version l
held_in h table version = ap (λ (f : Option Setting). is_some f) (h.versions.same_found table version)

-- a store of the right shape holds what its places say
pub own : (store : List ℕ) → store_ok store ≡ true → Holds store (saved_of store)
own store ok = record { shape = ok; versions = record { same_found = λ t v. refl; same_newest = λ t. refl; same_many = λ p. refl } }

module _ (store : List ℕ) (l : List Saved) (h : Holds store l) (table : ℕ) where
  -- a version that was held and is kept
  pub kept_same : (version : ℕ) (cs : List Call) (buffer : List ℕ) → is_held table version l ≡ true → kept_by_all bytes store cs table version ≡ true
      → read_reply bytes (after_all bytes store cs) table version buffer ≡ read_reply bytes store table version buffer
  kept_same version cs buffer old kept =
      let still = still_found table version l cs (held_low table version l old) (sym (all_kept store l h cs table version) ∙ kept) in
      read_same (after_all bytes store cs) (after_all listed l cs) (all_hold store l h cs) table version buffer
      ∙ read_by_found (after_all listed l cs) l table version version buffer still
      ∙ sym (read_same store l h table version buffer)

  -- how long it is held
  pub held_same : (version : ℕ) (cs : List Call) → is_held table version l ≡ true → is_held table version (saved_of (after_all bytes store cs)) ≡ kept_by_all bytes store cs table version
  held_same version cs old =
      held_in (all_hold store l h cs) table version
      ∙ still_held table version l cs (held_low table version l old) old
      ∙ sym (all_kept store l h cs table version)

  -- a version that is gone
  gone_same : (version : ℕ) (cs : List Call) → version ≤ newest table l → found table version l ≡ None → found table version (saved_of (after_all bytes store cs)) ≡ None
  gone_same version cs low f =
      (all_hold store l h cs).versions.same_found table version ∙ still_gone table version l cs low f

  -- the next version of a table, after a call that put it in and calls that keep it
  module _ (made : List ℕ) (setting : Setting) (g : Holds made (l ++ saved table (next listed l table) setting ∷ [])) (cs : List Call) (buffer : List ℕ)
      (kept : kept_by_all bytes made cs table (next listed l table) ≡ true) where
    abbrev first : List Saved
    first = l ++ saved table (next listed l table) setting ∷ []

    abbrev list : List Saved
    list = after_all listed first cs

    found_made : found table (next listed l table) list ≡ Some setting
    found_made =
        let low = held_low table (next listed l table) first (rw (found_next table l setting) refl) in
        still_found table (next listed l table) first cs low (sym (all_kept made first g cs table (next listed l table)) ∙ kept)
        ∙ found_next table l setting

    made_read : read_reply bytes (after_all bytes made cs) table (next listed l table) buffer ≡ read_reply listed list table (next listed l table) buffer
    made_read = read_same (after_all bytes made cs) list (all_hold made first g cs) table (next listed l table) buffer

    made_text : length (setting_text setting) ≤ length buffer
        → read_reply bytes (after_all bytes made cs) table (next listed l table) buffer ≡ done_with (length (setting_text setting)) (setting_text setting ++ drop (length (setting_text setting)) buffer)
    made_text k = made_read ∙ read_done listed list table (next listed l table) buffer setting refl found_made k

    made_again : (version : ℕ) → found table version l ≡ Some setting → read_reply bytes (after_all bytes made cs) table (next listed l table) buffer ≡ read_reply bytes store table version buffer
    made_again version f =
        made_read
        ∙ read_by_found list l table (next listed l table) version buffer (found_made ∙ sym f)
        ∙ sym (read_same store l h table version buffer)

  -- a save
  pub saved_text : (text : List ℕ) (cs : List Call) (buffer : List ℕ) → (save_reply bytes store table text).code ≡ 0 → length text ≤ length buffer
      → kept_by_all bytes (save_reply bytes store table text).state cs table (save_reply bytes store table text).value ≡ true
      → read_reply bytes (after_all bytes (save_reply bytes store table text).state cs) table (save_reply bytes store table text).value buffer ≡ done_with (length text) (text ++ drop (length text) buffer)
  unfolding save_refusals text_refusals
  saved_text text cs buffer z k kept =
      let a = save_agree store l h table text in
      let zl = save_accepted listed l table text (sym a.same_code ∙ z) in
      let done = save_done listed l table text zl in
      let none = none_both (text_refusals text) (put_refusals listed l table _) (accepted (save_refusals listed l table text) refl zl) in
      let is : text ≡ setting_text (setting_of text) = (none_refused text (none_code (text_refusals text) none.0)).1 in
      let value = a.same_value ∙ ap (λ (r : Reply (List Saved)). r.value) done in
      ap (λ (v : ℕ). read_reply bytes (after_all bytes (save_reply bytes store table text).state cs) table v buffer) value
      ∙ made_text (save_reply bytes store table text).state (setting_of text) (rw done at a.same_state) cs buffer (rw value at kept) (omega (arith, ap length is))
      ∙ ap (λ (t : List ℕ). done_with (length t) (t ++ drop (length t) buffer)) (sym is)

  -- a return
  pub returned_same : (version : ℕ) (cs : List Call) (buffer : List ℕ) → (return_reply bytes store table version).code ≡ 0
      → kept_by_all bytes (return_reply bytes store table version).state cs table (return_reply bytes store table version).value ≡ true
      → read_reply bytes (after_all bytes (return_reply bytes store table version).state cs) table (return_reply bytes store table version).value buffer ≡ read_reply bytes store table version buffer
  unfolding return_refusals
  returned_same version cs buffer z kept = go (found table version l) refl
    where
      a : Agree (return_reply bytes store table version) (return_reply listed l table version)
      a = return_agree store l h table version

      zl : code_of (return_refusals listed l table version) ≡ 0
      zl = return_accepted listed l table version (sym a.same_code ∙ z)

      done : return_reply listed l table version ≡ done_with (next listed l table) (again listed l table (found table version l))
      done = return_done listed l table version zl

      value : (return_reply bytes store table version).value ≡ next listed l table
      value = a.same_value ∙ ap (λ (r : Reply (List Saved)). r.value) done

      there : is_none (found table version l) ≡ false
      there = (accepted (return_refusals listed l table version) refl zl).1.1.0

      go : (f : Option Setting) → found table version l ≡ f → read_reply bytes (after_all bytes (return_reply bytes store table version).state cs) table (return_reply bytes store table version).value buffer ≡ read_reply bytes store table version buffer
      go None q = absurd (true≢false (sym (ap is_none q) ∙ there))
      go (Some setting) q =
          ap (λ (v : ℕ). read_reply bytes (after_all bytes (return_reply bytes store table version).state cs) table v buffer) value
          ∙ made_again (return_reply bytes store table version).state setting (rw (done, q) at a.same_state) cs buffer (rw value at kept) version q

-- a version that making room has freed
pub freed_same : (store : List ℕ) → store_ok store ≡ true → (table version : ℕ) (list : List ℕ) (cs : List Call) → (keep_reply bytes store list).code ≡ 0 → is_held table version (saved_of store) ≡ true → is_kept list (saved_of store) table version ≡ false
    → found table version (saved_of (after_all bytes (keep_reply bytes store list).state cs)) ≡ None
freed_same store ok table version list cs z held freed =
    let left = (keep_agree store (saved_of store) (own store ok) list).same_state.shape in
    let low : version ≤ newest table (saved_of (keep_reply bytes store list).state) = rw (newest_stays store list table) (held_low table version (saved_of store) held) in
    gone_same (keep_reply bytes store list).state _ (own _ left) table version cs low (found_kept store list z table version ∙ rw freed refl)
