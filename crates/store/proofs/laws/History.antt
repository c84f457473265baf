-- A call on a store and on the list of what it holds: the same answer, and it holds the list afterwards.
use Rattle.std.specs.Prelude.{ℕ, ◌+◌, ◌^◌, ◌≤◌, ◌<◌, ◌≡◌, Bool, true, false, cond, leb, eqb, length, None, Option, Some, is_none}
use Rattle.std.proofs.Math.Path.{refl, ap}
use Rattle.std.proofs.Common.{sym, ◌∙◌, true≢false, arith, eqb-true, leb-false, ltb-false}
use mathlib.Core.List.{List, [], ◌∷◌, ◌++◌}
use Rattle.basics.specs.laws.Below.{first_holds}
use Rattle.basics.specs.laws.Logic.{tested, holds, fails}
use Rattle.refusals.specs.Refusals.{Refusal, code_of, outcome}
use Rattle.refusals.specs.laws.Refusals.{NoneHolds, none_both, none_code, accepted}
use Rattle.setting.specs.Reader.{text_refusals, setting_of}
use Rattle.setting.specs.Setting.{setting_ok}
use Rattle.setting.specs.Promises.{none_refused}
use Rattle.setting.specs.declared.Setting.{Setting}
use Rattle.store.specs.Saved.{Saved, saved, found, only}
use Rattle.store.specs.Kept.{is_kept}
use Rattle.store.specs.Layout.{saved_of, free_place, with_saved, with_only, version_in, place}
use Rattle.store.specs.Calls.{Reply, bytes, refused_with, next, put_refusals, save_refusals, save_reply, again, return_refusals, return_reply, read_refusals, read_reply, keep_refusals, keep_reply}
use Rattle.store.specs.History.{Call, Save, Return, Read, Keep, number_in, after, after_all, given_by, given, kept_by, kept_by_all, listed, Holds}
use Rattle.store.specs.laws.Layout.{IsSaved}
use Rattle.store.proofs.laws.Layout.{inserted_below, put_ok, full_is, found_held}
use Rattle.store.proofs.laws.Saved.{inserted_alike, alike_trans, alike_more, alike_long}
use Rattle.store.proofs.laws.Kept.{held_alike, freed_alike, kept_alike}
use Rattle.store.proofs.laws.Only.{left_ok, left_holds}

-- ---- one version more

module _ (store : List ℕ) (l : List Saved) (h : Holds store l) (table : ℕ) (setting : Setting) where
  abbrev e : Saved
  e = saved table (next bytes store table) setting

  module _ (is : IsSaved e) (room : leb 256 (length (saved_of store)) ≡ false) where
    there : free_place store < 256
    there = leb-false 256 (free_place store) (sym (full_is store 256) ∙ room)

    free : version_in (place (free_place store) store) ≡ 0
    free = eqb-true _ 0 (first_holds (λ i. eqb (version_in (place i store)) 0) 256 there)

    -- the store with it holds the list with it
    put_holds : Holds (with_saved e store) (l ++ saved table (next listed l table) setting ∷ [])
    put_holds =
        let same : next bytes store table ≡ next listed l table = ap (λ (n : ℕ). n + 1) (h.versions.same_newest table) in
        rw (← same) (record {
          shape = put_ok e is store (free_place store) there h.shape;
          versions =
              alike_trans
              (inserted_alike e (saved_of store) (saved_of (with_saved e store)) (inserted_below e is store (free_place store) there free 256 (omega arith) there) (omega arith))
              (alike_more e h.versions);
        })

-- ---- what is put in is a version that a store can hold

module _ (store : List ℕ) (table : ℕ) (missing : Bool) (none : NoneHolds (put_refusals bytes store table missing)) where
  next_few : next bytes store table ≤ 2 ^ 48
  next_few = ltb-false (2 ^ 48) (next bytes store table) none.1.0

  room_left : leb 256 (length (saved_of store)) ≡ false
  room_left = none.1.1.1.0

  put_saved : (setting : Setting) → table < 64 → setting_ok setting ≡ true → length setting.values ≡ 28 → IsSaved (saved table (next bytes store table) setting)
  put_saved setting t ok long = record { above = omega arith; below = next_few; table = t; setting = ok; long = long }

-- ---- each call

-- two replies with the same code and value, whose states hold the same
pub record Agree (r : Reply (List ℕ)) (q : Reply (List Saved)) : Type 0 where
  pub same_code : r.code ≡ q.code
  pub same_value : r.value ≡ q.value
  pub same_state : Holds r.state q.state

-- with the same refusals, done or refused
agree_by : (store : List ℕ) (l : List Saved) → Holds store l → (a b : List Refusal) → a ≡ b → (r : Reply (List ℕ)) (q : Reply (List Saved)) → (code_of a ≡ 0 → Agree r q)
    → Agree (outcome a (refused_with store) r) (outcome b (refused_with l) q)
agree_by store l h a b same r q done =
    rw (← same)
    (elim (tested (eqb (code_of a) 0)) [
      | holds t ↦ rw t (done (eqb-true (code_of a) 0 t))
      | fails t ↦ rw t (record { same_code = refl; same_value = refl; same_state = h })
    ])

module _ (store : List ℕ) (l : List Saved) (h : Holds store l) (table : ℕ) where
  same_next : next bytes store table ≡ next listed l table
  same_next = ap (λ (n : ℕ). n + 1) (h.versions.same_newest table)

  put_same : (missing : Bool) → put_refusals bytes store table missing ≡ put_refusals listed l table missing
  put_same missing = rw (h.shape, h.versions.same_newest table, alike_long h.versions) refl

  module _ (text : List ℕ) where
    save_same : save_refusals bytes store table text ≡ save_refusals listed l table text
    unfolding save_refusals
    save_same = ap (λ (r : List Refusal). text_refusals text ++ r) (put_same (leb 64 table))

    save_holds : code_of (save_refusals bytes store table text) ≡ 0 → Holds (with_saved (saved table (next bytes store table) (setting_of text)) store) (l ++ saved table (next listed l table) (setting_of text) ∷ [])
    unfolding save_refusals text_refusals
    save_holds z =
        let none = none_both (text_refusals text) (put_refusals bytes store table (leb 64 table)) (accepted (save_refusals bytes store table text) refl z) in
        let is = (none_refused text (none_code (text_refusals text) none.0)).2 in
        put_holds store l h table (setting_of text)
        (put_saved store table (leb 64 table) none.1 (setting_of text) (leb-false 64 table none.1.1.1.0) is.ok is.long)
        (room_left store table (leb 64 table) none.1)

    pub save_agree : Agree (save_reply bytes store table text) (save_reply listed l table text)
    unfolding save_reply
    save_agree =
        agree_by store l h (save_refusals bytes store table text) (save_refusals listed l table text) save_same _ _
        (λ z. record { same_code = refl; same_value = same_next; same_state = save_holds z })

  module _ (version : ℕ) where
    same_found : found table version (saved_of store) ≡ found table version l
    same_found = h.versions.same_found table version

    return_same : return_refusals bytes store table version ≡ return_refusals listed l table version
    unfolding return_refusals
    return_same = put_same (is_none (found table version (saved_of store))) ∙ ap (λ (f : Option Setting). put_refusals listed l table (is_none f)) same_found

    again_holds : (f : Option Setting) → found table version (saved_of store) ≡ f → NoneHolds (put_refusals bytes store table (is_none f)) → Holds (again bytes store table f) (again listed l table f)
    again_holds None q none = absurd (true≢false none.1.1.0)
    again_holds (Some setting) q none =
        let is = found_held store h.shape table version setting q in
        put_holds store l h table setting
        (put_saved store table false none setting is.table_few is.setting_ok_lem is.setting_long)
        (room_left store table false none)

    return_holds : code_of (return_refusals bytes store table version) ≡ 0 → Holds (again bytes store table (found table version (saved_of store))) (again listed l table (found table version l))
    unfolding return_refusals
    return_holds z =
        rw (← same_found)
        (again_holds (found table version (saved_of store)) refl (accepted (return_refusals bytes store table version) refl z))

    pub return_agree : Agree (return_reply bytes store table version) (return_reply listed l table version)
    unfolding return_reply
    return_agree =
        agree_by store l h (return_refusals bytes store table version) (return_refusals listed l table version) return_same _ _
        (λ z. record { same_code = refl; same_value = same_next; same_state = return_holds z })

    pub read_same : (buffer : List ℕ) → read_reply bytes store table version buffer ≡ read_reply listed l table version buffer
    unfolding read_reply read_refusals
    read_same buffer = rw (h.shape, same_found) refl

module _ (store : List ℕ) (l : List Saved) (h : Holds store l) (list : List ℕ) where
  keep_same : keep_refusals bytes store list ≡ keep_refusals listed l list
  unfolding keep_refusals
  keep_same = rw (h.shape, held_alike list h.versions) refl

  keep_holds : Holds (with_only (is_kept list (saved_of store)) store) (only (is_kept list l) l)
  keep_holds =
      record {
        shape = left_ok (is_kept list (saved_of store)) store 256 (omega arith) h.shape;
        versions = rw (left_holds (is_kept list (saved_of store)) store 256 (omega arith)) (kept_alike list h.versions);
      }

  pub keep_agree : Agree (keep_reply bytes store list) (keep_reply listed l list)
  unfolding keep_reply
  keep_agree =
      agree_by store l h (keep_refusals bytes store list) (keep_refusals listed l list) keep_same _ _
      (λ z. record { same_code = refl; same_value = freed_alike list h.versions; same_state = keep_holds })

-- ---- any calls

pub after_holds : (store : List ℕ) (l : List Saved) → Holds store l → (c : Call) → Holds (after bytes store c) (after listed l c)
after_holds store l h (Save table text) = (save_agree store l h table text).same_state
after_holds store l h (Return table version) = (return_agree store l h table version).same_state
after_holds store l h (Read table version buffer) = h
after_holds store l h (Keep list) = (keep_agree store l h list).same_state

pub all_hold : (store : List ℕ) (l : List Saved) → Holds store l → (cs : List Call) → Holds (after_all bytes store cs) (after_all listed l cs)
unfolding after_all
all_hold store l h [] = h
all_hold store l h (c ∷ cs) = all_hold (after bytes store c) (after listed l c) (after_holds store l h c) cs

-- and the numbers that they give

same_number : {r : Reply (List ℕ)} {q : Reply (List Saved)} → Agree r q → number_in r ≡ number_in q
same_number a = rw (a.same_code, a.same_value) refl

given_by_lem : (table : ℕ) (store : List ℕ) (l : List Saved) → Holds store l → (c : Call) → given_by bytes table store c ≡ given_by listed table l c
given_by_lem table store l h (Save own text) = ap (λ (k : List ℕ). cond (eqb own table) k []) (same_number (save_agree store l h own text))
given_by_lem table store l h (Return own version) = ap (λ (k : List ℕ). cond (eqb own table) k []) (same_number (return_agree store l h own version))
given_by_lem table store l h (Read own version buffer) = refl
given_by_lem table store l h (Keep list) = refl

pub all_given : (table : ℕ) (store : List ℕ) (l : List Saved) → Holds store l → (cs : List Call) → given bytes table store cs ≡ given listed table l cs
unfolding given
all_given table store l h [] = refl
all_given table store l h (c ∷ cs) =
    rw (given_by_lem table store l h c, all_given table (after bytes store c) (after listed l c) (after_holds store l h c) cs) refl

-- and the versions that they keep

kept_by_lem : (store : List ℕ) (l : List Saved) → Holds store l → (c : Call) (table version : ℕ) → kept_by bytes store c table version ≡ kept_by listed l c table version
kept_by_lem store l h (Save own text) table version = refl
kept_by_lem store l h (Return own back) table version = refl
kept_by_lem store l h (Read own back buffer) table version = refl
kept_by_lem store l h (Keep list) table version = rw ((keep_agree store l h list).same_code, h.versions.same_newest table) refl

pub all_kept : (store : List ℕ) (l : List Saved) → Holds store l → (cs : List Call) (table version : ℕ) → kept_by_all bytes store cs table version ≡ kept_by_all listed l cs table version
unfolding kept_by_all
all_kept store l h [] table version = refl
all_kept store l h (c ∷ cs) table version =
    rw (kept_by_lem store l h c table version, all_kept (after bytes store c) (after listed l c) (after_holds store l h c) cs table version) refl
