-- The list of what calls put in and leave: what it keeps of an earlier one, what is found in both, and the numbers that calls give.
use Rattle.std.specs.Prelude.{ℕ, suc, ◌+◌, ◌≤◌, ◌≡◌, Bool, true, false, not, ◌&&◌, ◌||◌, cond, eqb, ltb, None, Option, Some, is_none, is_some}
use Rattle.std.proofs.Math.Path.{refl, sym, ap}
use Rattle.std.proofs.Common.{◌∙◌, true≢false, arith, eq-eqb, ne_eqb, eqb-true, ltb-true, ltb-false}
use mathlib.Core.List.{List, [], ◌∷◌, ◌++◌, append_assoc, append-nil}
use Rattle.basics.specs.Tabulate.{tabulate}
use Rattle.basics.specs.laws.Logic.{tested, holds, fails, and_left, and_right}
use Rattle.basics.specs.laws.Tabulate.{tabulate_first, tabulate_alike}
use Rattle.refusals.specs.laws.Outcome.{outcome_is}
use Rattle.refusals.specs.laws.Refusals.{NoneHolds}
use Rattle.setting.specs.Reader.{text_refusals, setting_of}
use Rattle.setting.specs.declared.Setting.{Setting}
use Rattle.store.specs.Saved.{Saved, saved, newest, is_version, found, is_held, only}
use Rattle.store.specs.Kept.{is_kept}
use Rattle.store.specs.Calls.{Reply, refused_with, done_with, next, put_refusals, save_refusals, save_reply, again, return_refusals, return_reply, keep_refusals, keep_reply}
use Rattle.store.specs.History.{Call, Save, Return, Read, Keep, number_in, after, after_all, given_by, given, kept_by, kept_by_all, listed, many, Follows, InOrder}
use Rattle.store.proofs.laws.Saved.{or_nothing, found_both, newest_both, many_both, above_newest, none_found}
use Rattle.store.proofs.laws.Kept.{only_both, only_all, only_twice, found_only, many_less, kept_newest}

-- what a call leaves, with the numbers that it gives to tables and the versions that it keeps: the list as it was; with a table's next version behind it; or with only what is kept, the newest of each table among that
data Left (l m : List Saved) (numbers : ℕ → List ℕ) (kept : ℕ → ℕ → Bool) : Type 0 where
  stays : m ≡ l → ((table : ℕ) → numbers table ≡ []) → ((table version : ℕ) → kept table version ≡ true) → Left l m numbers kept
  gains : (own : ℕ) (setting : Setting) → m ≡ l ++ saved own (next listed l own) setting ∷ [] → ((table : ℕ) → numbers table ≡ cond (eqb own table) (next listed l own ∷ []) []) → ((table version : ℕ) → kept table version ≡ true) → Left l m numbers kept
  frees : m ≡ only kept l → ((table : ℕ) → numbers table ≡ []) → ((table : ℕ) → newest table m ≡ newest table l) → Left l m numbers kept

-- a save or a return to a table, by its reply; and a call that makes room
abbrev PutLeft : List Saved → ℕ → Reply (List Saved) → Type 0
PutLeft l own r = Left l r.state (λ table. cond (eqb own table) (number_in r) []) (λ table version. true)

abbrev KeepLeft : List Saved → List ℕ → Reply (List Saved) → Type 0
KeepLeft l list r = Left l r.state (λ table. []) (λ table version. not (eqb r.code 0) || is_kept list l table version)

turned_away : (l : List Saved) (own k : ℕ) → (k ≡ 0 → ⊥) → PutLeft l own (refused_with l k)
turned_away l own k n =
    stays refl (λ table. rw (ne_eqb k 0 n) (elim (tested (eqb own table)) [ holds t ↦ rw t refl | fails t ↦ rw t refl ])) (λ table version. refl)

again_left : (l : List Saved) (own : ℕ) (f : Option Setting) → NoneHolds (put_refusals listed l own (is_none f)) → PutLeft l own (done_with (next listed l own) (again listed l own f))
again_left l own None none = absurd (true≢false none.1.1.0)
again_left l own (Some setting) none = gains own setting refl (λ table. refl) (λ table version. refl)

after_left : (l : List Saved) (c : Call) → Left l (after listed l c) (λ table. given_by listed table l c) (kept_by listed l c)
unfolding save_reply save_refusals text_refusals return_reply return_refusals keep_reply keep_refusals
after_left l (Save own text) =
    outcome_is (save_refusals listed l own text) (refused_with l) _ (PutLeft l own) refl (turned_away l own _) (λ none. gains own (setting_of text) refl (λ table. refl) (λ table version. refl))
after_left l (Return own version) =
    outcome_is (return_refusals listed l own version) (refused_with l) _ (PutLeft l own) refl (turned_away l own _) (again_left l own (found own version l))
after_left l (Read own version buffer) = stays refl (λ table. refl) (λ table version. refl)
after_left l (Keep list) =
    outcome_is (keep_refusals listed l list) (refused_with l) _ (KeepLeft l list) refl (λ n. stays refl (λ table. refl) (λ table version. rw (ne_eqb _ 0 n) refl))
    (λ none. frees refl (λ table. refl) (λ table. kept_newest list table l))

-- ---- what is kept of an earlier list

found_above : (own : ℕ) (setting : Setting) (l : List Saved) (table version : ℕ) → version ≤ newest table l → found table version (saved own (next listed l own) setting ∷ []) ≡ None
unfolding found
found_above own setting l table version h =
    elim (tested (eqb own table && eqb (next listed l own) version)) [
      | holds t ↦
          let same = eqb-true own table (and_left (eqb own table) (eqb (next listed l own) version) t) in
          let is = eqb-true (next listed l own) version (and_right (eqb own table) (eqb (next listed l own) version) t) in
          absurd (omega (arith, rw same at is))
      | fails t ↦ rw t refl
    ]

module _ {l m : List Saved} {numbers : ℕ → List ℕ} {kept : ℕ → ℕ → Bool} where
  follows_by : Left l m numbers kept → Follows kept l m
  unfolding found
  follows_by (stays e g k) = record { more = []; follows = e ∙ sym (append-nil (only kept l) ∙ only_all kept k l); above = λ t v h. refl }
  follows_by (gains own setting e g k) =
      record {
        more = saved own (next listed l own) setting ∷ [];
        follows = e ∙ ap (λ (t : List Saved). t ++ saved own (next listed l own) setting ∷ []) (sym (only_all kept k l));
        above = found_above own setting l;
      }
  follows_by (frees e g n) = record { more = []; follows = e ∙ sym (append-nil (only kept l)); above = λ t v h. refl }

  no_less : Left l m numbers kept → (table : ℕ) → newest table l ≤ newest table m
  no_less (stays e g k) table = rw e (omega arith)
  no_less (gains own setting e g k) table = rw e (omega (arith, newest_both table l (saved own (next listed l own) setting ∷ [])))
  no_less (frees e g n) table = omega (arith, n table)

none_either : (b : Bool) → cond {A = Option Setting} b None None ≡ None
none_either true = refl
none_either false = refl

follows_on : (p q : ℕ → ℕ → Bool) {k l m : List Saved} → Follows p k l → ((table : ℕ) → newest table k ≤ newest table l) → Follows q l m → Follows (λ table version. p table version && q table version) k m
follows_on p q {k} {l} {m} a n b =
    record {
      more = only q a.more ++ b.more;
      follows = b.follows ∙ rw (a.follows, only_both q (only p k) a.more, only_twice p q k) (append_assoc (only (λ table version. p table version && q table version) k) (only q a.more) b.more);
      above = λ t v h.
          found_both t v (only q a.more) b.more
          ∙ rw (found_only q t v a.more, a.above t v h, none_either (q t v)) (b.above t v (omega (arith, n t)));
    }

pub all_follow : (l : List Saved) (cs : List Call) → Follows (kept_by_all listed l cs) l (after_all listed l cs)
unfolding after_all kept_by_all
all_follow l [] =
    let none : Left l l (λ table. []) (kept_by_all listed l []) = stays refl (λ table. refl) (λ table version. refl) in
    follows_by none
all_follow l (c ∷ cs) =
    let left = after_left l c in
    follows_on (kept_by listed l c) (kept_by_all listed (after listed l c) cs) (follows_by left) (no_less left) (all_follow (after listed l c) cs)

-- ---- what is found in both

module _ (table version : ℕ) (l : List Saved) (cs : List Call) (low : version ≤ newest table l) where
  abbrev kept : Bool
  kept = kept_by_all listed l cs table version

  abbrev later : Option Setting
  later = found table version (after_all listed l cs)

  -- a version is what it was, or is gone
  found_later : later ≡ cond kept (found table version l) None
  found_later =
      let f = all_follow l cs in
      ap (found table version) f.follows
      ∙ found_both table version (only (kept_by_all listed l cs) l) f.more
      ∙ rw (f.above table version low, or_nothing (found table version (only (kept_by_all listed l cs) l))) (found_only (kept_by_all listed l cs) table version l)

  pub still_found : kept ≡ true → later ≡ found table version l
  still_found t = found_later ∙ rw t refl

  -- held while it is kept, and once gone always so
  pub still_held : is_held table version l ≡ true → is_held table version (after_all listed l cs) ≡ kept
  still_held h =
      elim (tested kept) [
        | holds t ↦ ap (λ (f : Option Setting). is_some f) (still_found t) ∙ h ∙ sym t
        | fails t ↦
            let none : later ≡ None = found_later ∙ rw t refl in
            ap (λ (f : Option Setting). is_some f) none ∙ sym t
      ]

  pub still_gone : found table version l ≡ None → later ≡ None
  still_gone e = found_later ∙ rw (e, none_either kept) refl

-- a version that is held is not above the newest
pub held_low : (table version : ℕ) (l : List Saved) → is_held table version l ≡ true → version ≤ newest table l
held_low table version l h =
    elim (tested (ltb (newest table l) version)) [
      | holds t ↦ absurd (true≢false (sym h ∙ rw (above_newest table version l (ltb-true (newest table l) version t)) refl))
      | fails t ↦ ltb-false (newest table l) version t
    ]

-- the next version is found
pub found_next : (table : ℕ) (l : List Saved) (setting : Setting) → found table (next listed l table) (l ++ saved table (next listed l table) setting ∷ []) ≡ Some setting
unfolding found
found_next table l setting =
    found_both table (next listed l table) l (saved table (next listed l table) setting ∷ [])
    ∙ rw (above_newest table (next listed l table) l (omega arith), eq-eqb table table refl, eq-eqb (next listed l table) (next listed l table) refl) refl

-- ---- numbers

-- one number more, before those behind it
one_before : (n to : ℕ) (numbers : List ℕ) → InOrder (n + 1) to numbers → InOrder n to ((n + 1) ∷ numbers)
one_before n to numbers r =
    record {
      count = suc r.count;
      reaches = omega (arith, r.reaches);
      are = sym (tabulate_first r.count (λ i. n + (i + 1)) ∙ ap (λ (k : List ℕ). (n + 1) ∷ k) (tabulate_alike r.count _ _ (λ i. omega arith) ∙ sym r.are));
    }

numbers_by : {l m : List Saved} {numbers : ℕ → List ℕ} {kept : ℕ → ℕ → Bool} → Left l m numbers kept → (table to : ℕ) (rest : List ℕ) → InOrder (newest table m) to rest → InOrder (newest table l) to (numbers table ++ rest)
unfolding newest
numbers_by (stays e g k) table to rest r = rw (g table, ← e) r
numbers_by {l} (gains own setting e g k) table to rest r =
    elim (tested (eqb own table)) [
      | holds t ↦
          let same = eqb-true own table t in
          let one : newest table (l ++ saved own (next listed l own) setting ∷ []) ≡ newest table l + 1 = newest_both table l (saved own (next listed l own) setting ∷ []) ∙ rw (t, same) (omega arith) in
          rw (g table, t, same) (one_before (newest table l) to rest (rw (e, one) at r))
      | fails t ↦
          let none : newest table (l ++ saved own (next listed l own) setting ∷ []) ≡ newest table l = newest_both table l (saved own (next listed l own) setting ∷ []) ∙ rw t (omega arith) in
          rw (g table, t) (rw (e, none) at r)
    ]
numbers_by (frees e g n) table to rest r = rw (g table, ← n table) r

pub all_numbered : (table : ℕ) (l : List Saved) (cs : List Call) → InOrder (newest table l) (newest table (after_all listed l cs)) (given listed table l cs)
unfolding after_all given tabulate
all_numbered table l [] = record { count = 0; reaches = omega arith; are = refl }
all_numbered table l (c ∷ cs) =
    numbers_by (after_left l c) table (newest table (after_all listed (after listed l c) cs)) (given listed table (after listed l c) cs) (all_numbered table (after listed l c) cs)

-- from 0 on they are 1, 2, 3, ..
pub from_one : {to : ℕ} {numbers : List ℕ} → InOrder 0 to numbers → numbers ≡ tabulate to (λ i. i + 1)
from_one {to} r =
    let all : r.count ≡ to = omega (arith, r.reaches) in
    r.are ∙ tabulate_alike r.count _ _ (λ i. omega arith) ∙ ap (λ (n : ℕ). tabulate n (λ i. i + 1)) all

-- ---- no version twice

once_by : {l m : List Saved} {numbers : ℕ → List ℕ} {kept : ℕ → ℕ → Bool} → Left l m numbers kept → (table version : ℕ) → many (is_version table version) l ≤ 1 → many (is_version table version) m ≤ 1
unfolding many
once_by (stays e g k) table version h = rw e h
once_by {l} (gains own setting e g k) table version h =
    let more = many_both (is_version table version) l (saved own (next listed l own) setting ∷ []) in
    rw e
    (elim (tested (eqb own table && eqb (next listed l own) version)) [
      | holds t ↦
          let same = eqb-true own table (and_left (eqb own table) (eqb (next listed l own) version) t) in
          let is = eqb-true (next listed l own) version (and_right (eqb own table) (eqb (next listed l own) version) t) in
          omega (arith, rw t at more, none_found table version l (above_newest table version l (omega (arith, rw same at is))))
      | fails t ↦ omega (arith, rw t at more)
    ])
once_by {l} {kept = kept} (frees e g n) table version h = rw e (omega (arith, many_less (is_version table version) kept l))

pub all_once : (l : List Saved) (cs : List Call) (table version : ℕ) → many (is_version table version) l ≤ 1 → many (is_version table version) (after_all listed l cs) ≤ 1
unfolding after_all
all_once l [] table version h = h
all_once l (c ∷ cs) table version h = all_once (after listed l c) cs table version (once_by (after_left l c) table version h)
