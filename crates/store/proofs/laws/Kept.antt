-- Lists with only the versions that a test keeps: what is found in them, the newest of a table, how many there are.
use Rattle.std.specs.Prelude.{ℕ, max, ◌+◌, ◌≤◌, ◌≡◌, refl, Bool, true, ◌&&◌, ◌||◌, cond, List, [], ◌∷◌, ◌++◌, eqb, ltb, length, None, Option, is_some}
use Rattle.std.proofs.Common.{sym, ◌∙◌, arith, eqb-true, eq-eqb, ltb-true, ltb-false}
use Rattle.std.proofs.Math.Path.{ap}
use Rattle.std.proofs.Math.Bool.{not}
use Rattle.std.proofs.lemmas.Bool.{eqb-false}
use Rattle.basics.specs.laws.Below.{below_alike}
use Rattle.basics.specs.laws.Logic.{tested, holds, fails, and_left, and_right}
use Rattle.setting.specs.declared.Setting.{Setting}
use Rattle.store.specs.Saved.{Saved, newest, found, only}
use Rattle.store.specs.Kept.{table_at, version_at, pairs, is_listed, all_held, is_kept, freed_by}
use Rattle.store.specs.History.{many, Alike}

-- a test of a version
abbrev passes : (ℕ → ℕ → Bool) → Saved → Bool
passes keeps e = keeps e.table e.version

pub only_both : (keeps : ℕ → ℕ → Bool) (l m : List Saved) → only keeps (l ++ m) ≡ only keeps l ++ only keeps m
unfolding only
only_both keeps [] m = refl
only_both keeps (e ∷ l) m =
    elim (tested (passes keeps e)) [
      | holds t ↦ rw t (ap (λ (k : List Saved). e ∷ k) (only_both keeps l m))
      | fails t ↦ rw t (only_both keeps l m)
    ]

-- where a test keeps all, and what two tests keep, one after the other
pub only_all : (keeps : ℕ → ℕ → Bool) → ((table version : ℕ) → keeps table version ≡ true) → (l : List Saved) → only keeps l ≡ l
unfolding only
only_all keeps h [] = refl
only_all keeps h (e ∷ l) = rw (h e.table e.version) (ap (λ (k : List Saved). e ∷ k) (only_all keeps h l))

pub only_twice : (p q : ℕ → ℕ → Bool) (l : List Saved) → only q (only p l) ≡ only (λ table version. p table version && q table version) l
unfolding only
only_twice p q [] = refl
only_twice p q (e ∷ l) =
    elim (tested (passes p e)) [
      | holds t ↦ rw t (elim (tested (passes q e)) [
        | holds u ↦ rw u (ap (λ (k : List Saved). e ∷ k) (only_twice p q l))
        | fails u ↦ rw u (only_twice p q l)
      ])
      | fails t ↦ rw t (only_twice p q l)
    ]

-- ---- what is found

pub found_only : (keeps : ℕ → ℕ → Bool) (table version : ℕ) (l : List Saved) → found table version (only keeps l) ≡ cond (keeps table version) (found table version l) None
unfolding found only
found_only keeps table version [] = elim (tested (keeps table version)) [ holds t ↦ rw t refl | fails t ↦ rw t refl ]
found_only keeps table version (e ∷ l) =
    elim (tested (eqb e.table table && eqb e.version version)) [
      | holds t ↦
          let own = eqb-true e.table table (and_left (eqb e.table table) (eqb e.version version) t) in
          let same = eqb-true e.version version (and_right (eqb e.table table) (eqb e.version version) t) in
          let test : passes keeps e ≡ keeps table version = rw (own, same) refl in
          elim (tested (keeps table version)) [
            | holds u ↦ rw (test, u, t) refl
            | fails u ↦ rw (test, u) (found_only keeps table version l ∙ rw u refl)
          ]
      | fails t ↦
          elim (tested (passes keeps e)) [
            | holds u ↦ rw (u, t) (found_only keeps table version l)
            | fails u ↦ rw (u, t) (found_only keeps table version l)
          ]
    ]

-- ---- the newest of a table

newest_less : (keeps : ℕ → ℕ → Bool) (table : ℕ) (l : List Saved) → newest table (only keeps l) ≤ newest table l
unfolding newest only
newest_less keeps table [] = omega arith
newest_less keeps table (e ∷ l) =
    elim (tested (passes keeps e)) [
      | holds t ↦ rw t (omega (arith, newest_less keeps table l))
      | fails t ↦ rw t (omega (arith, newest_less keeps table l))
    ]

newest_there : (keeps : ℕ → ℕ → Bool) (table n : ℕ) → keeps table n ≡ true → (l : List Saved) → newest table l ≡ n → n ≤ newest table (only keeps l)
unfolding newest only
newest_there keeps table n k [] h = omega (arith, h)
newest_there keeps table n k (e ∷ l) h =
    elim (tested (eqb (newest table l) n)) [
      | holds t ↦
          let rest = newest_there keeps table n k l (eqb-true (newest table l) n t) in
          elim (tested (passes keeps e)) [ holds u ↦ rw u (omega (arith, rest)) | fails u ↦ rw u rest ]
      | fails t ↦
          elim (tested (eqb e.table table)) [
            | holds u ↦
                let d = eqb-false (newest table l) n t in
                let own = eqb-true e.table table u in
                let same : e.version ≡ n = highest e.version (newest table l) (rw u at h) d in
                let kept : passes keeps e ≡ true = rw (own, same) k in
                rw (kept, u) (omega (arith, same))
            | fails u ↦ absurd (eqb-false (newest table l) n t (lowest (newest table l) (rw u at h)))
          ]
    ]
  where
    highest : (a b : ℕ) → max a b ≡ n → (b ≡ n → ⊥) → a ≡ n
    highest a b e d = elim (tested (ltb a b)) [
      | holds t ↦ absurd (d (omega (arith, ltb-true a b t)))
      | fails t ↦ omega (arith, ltb-false a b t)
    ]

    lowest : (b : ℕ) → max 0 b ≡ n → b ≡ n
    lowest b e = omega arith

-- where the newest is kept, it stays the newest
newest_only : (keeps : ℕ → ℕ → Bool) (table : ℕ) (l : List Saved) → keeps table (newest table l) ≡ true → newest table (only keeps l) ≡ newest table l
newest_only keeps table l k = omega (arith, newest_less keeps table l, newest_there keeps table (newest table l) k l refl)

-- ---- how many

many_only : (p : Saved → Bool) (keeps : ℕ → ℕ → Bool) (l : List Saved) → many p (only keeps l) ≡ many (λ e. passes keeps e && p e) l
unfolding many only
many_only p keeps [] = refl
many_only p keeps (e ∷ l) =
    elim (tested (passes keeps e)) [
      | holds t ↦ rw t (omega (arith, many_only p keeps l))
      | fails t ↦ rw t (omega (arith, many_only p keeps l))
    ]

pub many_less : (p : Saved → Bool) (keeps : ℕ → ℕ → Bool) (l : List Saved) → many p (only keeps l) ≤ many p l
unfolding many only
many_less p keeps [] = omega arith
many_less p keeps (e ∷ l) =
    elim (tested (passes keeps e)) [
      | holds t ↦ rw t (omega (arith, many_less p keeps l))
      | fails t ↦ rw t (omega (arith, many_less p keeps l))
    ]

only_long : (keeps : ℕ → ℕ → Bool) (l : List Saved) → length (only keeps l) ≡ many (passes keeps) l
unfolding many only
only_long keeps [] = refl
only_long keeps (e ∷ l) =
    elim (tested (passes keeps e)) [
      | holds t ↦ rw t (omega (arith, only_long keeps l))
      | fails t ↦ rw t (omega (arith, only_long keeps l))
    ]

-- those that a test does not keep, and those that it keeps
pub both_long : (keeps : ℕ → ℕ → Bool) (l : List Saved) → length (only (λ table version. not (keeps table version)) l) + length (only keeps l) ≡ length l
unfolding only
both_long keeps [] = refl
both_long keeps (e ∷ l) =
    elim (tested (passes keeps e)) [
      | holds t ↦ rw t (omega (arith, both_long keeps l))
      | fails t ↦ rw t (omega (arith, both_long keeps l))
    ]

many_alike : (p q : Saved → Bool) → ((e : Saved) → p e ≡ q e) → (l : List Saved) → many p l ≡ many q l
unfolding many
many_alike p q h [] = refl
many_alike p q h (e ∷ l) = rw (h e, many_alike p q h l) refl

-- ---- what making room keeps

pub kept_newest : (list : List ℕ) (table : ℕ) (l : List Saved) → newest table (only (is_kept list l) l) ≡ newest table l
kept_newest list table l = newest_only (is_kept list l) table l (ap (λ (b : Bool). b || is_listed list table (newest table l)) (eq-eqb (newest table l) (newest table l) refl))

module _ (list : List ℕ) {l m : List Saved} (a : Alike l m) where
  keeps_alike : (table version : ℕ) → is_kept list l table version ≡ is_kept list m table version
  keeps_alike table version = rw (a.same_newest table) refl

  pub held_alike : all_held list l ≡ all_held list m
  unfolding all_held
  held_alike =
      below_alike _ _ (pairs list) (λ i h. ap (λ (f : Option Setting). is_some f) (a.same_found (table_at list i) (version_at list i)))

  pub freed_alike : freed_by list l ≡ freed_by list m
  freed_alike =
      only_long (λ table version. not (is_kept list l table version)) l
      ∙ a.same_many _
      ∙ many_alike _ _ (λ e. ap not (keeps_alike e.table e.version)) m
      ∙ sym (only_long (λ table version. not (is_kept list m table version)) m)

  pub kept_alike : Alike (only (is_kept list l) l) (only (is_kept list m) m)
  kept_alike =
      record {
        same_found = λ t v. found_only (is_kept list l) t v l ∙ rw (keeps_alike t v, a.same_found t v) (sym (found_only (is_kept list m) t v m));
        same_newest = λ t. kept_newest list t l ∙ a.same_newest t ∙ sym (kept_newest list t m);
        same_many = λ p. many_only p (is_kept list l) l ∙ a.same_many _ ∙ many_alike _ _ (λ e. ap (λ (b : Bool). b && p e) (keeps_alike e.table e.version)) m ∙ sym (many_only p (is_kept list m) m);
      }
