-- A store with only the versions that a test keeps: its places, its shape, what it holds, and how a loop over the places makes it.
use Prim.Native.Nat.{ℕ, zero, suc, max, ◌+◌, ◌≤◌, ◌<◌}
use Rattle.std.specs.Prelude.{◌≡◌, Bool, true, false, cond, List, [], eqb, length, get_or, set}
use Rattle.std.proofs.Math.Path.{refl, sym}
use Rattle.std.proofs.Common.{ap, ◌∙◌, add-one, arith, get_or-set_same, get_or-set_other}
use Rattle.std.proofs.Math.Bool.{not}
use Rattle.std.proofs.Math.ListN.{length-append}
use borrow.Author.Tests.{eqb-true, eqb-false}
use Rattle.basics.specs.Parts.{with_part}
use Rattle.basics.specs.laws.Logic.{tested, holds, fails}
use Rattle.store.specs.Saved.{newest, only}
use Rattle.store.specs.Kept.{is_kept}
use Rattle.store.specs.Layout.{number, version_in, table_in, place_ok, place, store_ok, saved_at, saved_below, saved_of, is_freed, free_part, only_below}
use Rattle.store.proofs.laws.Kept.{only_both}
use Rattle.store.proofs.laws.Layout.{newest_other, held_few, at_place, elsewhere, before_same, with_ok}
use Rattle.store.specs.laws.Only.{GreatestOf, kept_of}

-- ---- a free place

pub free_ok : place_ok free_part ≡ true
unfolding place_ok number
free_ok = refl

pub free_empty : saved_at free_part ≡ []
unfolding number
free_empty = refl

-- what a place holds that a test keeps, and that it does not
kept_at : (keeps : ℕ → ℕ → Bool) (p : List ℕ) → only keeps (saved_at p) ≡ cond (is_freed keeps p) [] (saved_at p)
unfolding only
kept_at keeps p =
    elim (tested (eqb (version_in p) 0)) [
      | holds t ↦ rw t refl
      | fails t ↦ rw t (elim (tested (keeps (table_in p) (version_in p))) [ holds u ↦ rw u refl | fails u ↦ rw u refl ])
    ]

gone_at : (keeps : ℕ → ℕ → Bool) (p : List ℕ) → length (only (λ table version. not (keeps table version)) (saved_at p)) ≡ cond (is_freed keeps p) 1 0
unfolding only
gone_at keeps p =
    elim (tested (eqb (version_in p) 0)) [
      | holds t ↦ rw t refl
      | fails t ↦ rw t (elim (tested (keeps (table_in p) (version_in p))) [ holds u ↦ rw u refl | fails u ↦ rw u refl ])
    ]

-- ---- the first n places

module _ (keeps : ℕ → ℕ → Bool) (store : List ℕ) where
  abbrev left : ℕ → List ℕ
  left n = only_below n keeps store

  abbrev gone : ℕ → Bool
  gone i = is_freed keeps (place i store)

  -- a place that no turn has come to
  not_yet : (n i : ℕ) → n ≤ i → i < 256 → place i (left n) ≡ place i store
  unfolding only_below
  not_yet zero i h k = refl
  not_yet (suc n) i h k =
      elim (tested (gone n)) [
        | holds t ↦ rw t (elsewhere free_part refl (left n) n (omega arith) i k (λ q. omega arith) ∙ not_yet n i (omega arith) k)
        | fails t ↦ rw t (not_yet n i (omega arith) k)
      ]

  -- and one that it has come to
  pub place_left : (n i : ℕ) → i < n → n ≤ 256 → place i (left n) ≡ cond (gone i) free_part (place i store)
  unfolding only_below
  place_left zero i h k = absurd (omega arith)
  place_left (suc n) i h k =
      elim (tested (eqb i n)) [
        | holds q ↦ rw (eqb-true i n q) (elim (tested (gone n)) [
          | holds t ↦ rw t (at_place free_part refl (left n) n (omega arith))
          | fails t ↦ rw t (not_yet n n (omega arith) (omega arith))
        ])
        | fails q ↦
            let d = eqb-false i n q in
            elim (tested (gone n)) [
              | holds t ↦ rw t (elsewhere free_part refl (left n) n (omega arith) i (omega arith) d ∙ place_left n i (omega (arith, d)) (omega arith))
              | fails t ↦ rw t (place_left n i (omega (arith, d)) (omega arith))
            ]
      ]

  pub left_ok : (n : ℕ) → n ≤ 256 → store_ok store ≡ true → store_ok (left n) ≡ true
  unfolding only_below
  left_ok zero h ok = ok
  left_ok (suc n) h ok =
      elim (tested (gone n)) [
        | holds t ↦ rw t (with_ok free_part refl (left n) n (omega arith) free_ok (left_ok n (omega arith) ok))
        | fails t ↦ rw t (left_ok n (omega arith) ok)
      ]

  -- it holds what the test keeps
  pub left_holds : (n : ℕ) → n ≤ 256 → saved_below n (left n) ≡ only keeps (saved_below n store)
  unfolding only_below saved_below only
  left_holds zero h = refl
  left_holds (suc n) h =
      rw (only_both keeps (saved_below n store) (saved_at (place n store)), kept_at keeps (place n store))
      (elim (tested (gone n)) [
        | holds t ↦
            rw (t, before_same free_part refl (left n) n (omega arith) n (omega arith), left_holds n (omega arith), at_place free_part refl (left n) n (omega arith), free_empty) refl
        | fails t ↦ rw (t, left_holds n (omega arith), not_yet n n (omega arith) (omega arith)) refl
      ])

  -- ---- turn by turn

  abbrev pub gone_below : ℕ → ℕ
  gone_below n = length (only (λ table version. not (keeps table version)) (saved_below n store))

  pub turn_none : (store ≡ left 0) × (0 ≡ gone_below 0)
  unfolding only_below saved_below only
  turn_none = (refl, refl)

  module _ (i freed : ℕ) (now : List ℕ) (b : Bool) (is : b ≡ gone i) (e : now ≡ left i) (f : freed ≡ gone_below i) where
    gone_more : gone_below (i + 1) ≡ freed + cond b 1 0
    unfolding saved_below
    gone_more =
        rw (add-one i, only_both (λ table version. not (keeps table version)) (saved_below i store) (saved_at (place i store)), length-append, gone_at keeps (place i store), is, f) refl

    pub turn_frees : b ≡ true → (with_part 256 40 i free_part now ≡ left (i + 1)) × (freed + 1 ≡ gone_below (i + 1))
    unfolding only_below
    turn_frees t = (rw (add-one i, ← is, t, e) refl, sym (gone_more ∙ rw t refl))

    pub turn_keeps : b ≡ false → (now ≡ left (i + 1)) × (freed ≡ gone_below (i + 1))
    unfolding only_below
    turn_keeps t = (rw (add-one i, ← is, t) e, sym (gone_more ∙ rw t (omega arith)))

-- ---- the greatest version of each table, in a row of 64

-- with the version in a place taken in
module _ (greatest p : List ℕ) where
  pub raised_own : (at v : ℕ) → at < length greatest → at ≡ table_in p → v ≡ max (get_or greatest at 0) (newest at (saved_at p)) → (table : ℕ) → get_or (set greatest at v) table 0 ≡ max (get_or greatest table 0) (newest table (saved_at p))
  raised_own at v h own e table =
      elim (tested (eqb table at)) [
        | holds t ↦ rw (eqb-true table at t, get_or-set_same greatest at v 0 h) e
        | fails t ↦
            let d = eqb-false table at t in
            get_or-set_other greatest at table v 0 d ∙ omega (arith, newest_other table p (λ q. d (sym (own ∙ q))))
      ]

-- in a store of the right shape that is whether it is kept
freed_same : (list greatest store : List ℕ) → store_ok store ≡ true → GreatestOf store greatest → (i : ℕ) → i < 256 → is_freed (kept_of list greatest) (place i store) ≡ is_freed (is_kept list (saved_of store)) (place i store)
freed_same list greatest store ok g i h =
    elim (tested (eqb (version_in (place i store)) 0)) [
      | holds t ↦ rw t refl
      | fails t ↦ rw (g (table_in (place i store)) (held_few store ok i h (eqb-false (version_in (place i store)) 0 t))) refl
    ]

-- and so it is of the place that a turn comes to
pub seen : (list greatest store now part : List ℕ) (i : ℕ) (b : Bool) → store_ok store ≡ true → GreatestOf store greatest → i < 256 → now ≡ only_below i (is_kept list (saved_of store)) store → part ≡ place i now
    → b ≡ is_freed (kept_of list greatest) part → b ≡ is_freed (is_kept list (saved_of store)) (place i store)
seen list greatest store now part i b ok g h e q is =
    is
    ∙ ap (is_freed (kept_of list greatest)) (q ∙ ap (place i) e ∙ not_yet (is_kept list (saved_of store)) store i i (omega arith) h)
    ∙ freed_same list greatest store ok g i h
