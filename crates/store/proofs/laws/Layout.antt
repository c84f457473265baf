-- The places of a store: what the bytes of a version say, what is found where, and that one place written is one version more.
use Prim.Native.Nat.{ℕ, zero, suc, max, ◌+◌, ◌-◌, ◌*◌, ◌^◌, ◌≤◌, ◌<◌}
use Rattle.std.specs.Prelude.{◌≡◌, Bool, true, false, not, ◌&&◌, cond, leb, ltb, get_or, None, Option, Some}
use Rattle.std.proofs.Math.Path.{refl, ap}
use Rattle.std.proofs.Common.{sym, ◌∙◌, add-one, le_of_suc-le-suc, eq-or-lt_of_le}
use Rattle.std.proofs.Math.Logic.{⊎_elim}
use mathlib.Core.List.{List, [], ◌∷◌, ◌++◌, append_assoc, append-nil}
use Rattle.std.proofs.Math.Nat.{suc_inj}
use native.Mathlib.Omega.{arith}
use Rattle.std.proofs.Math.Dec.{eqb}
use Rattle.std.proofs.Math.ListN.{length, take, drop, length-append, length-drop}
use Rattle.std.proofs.Math.Seq.{take_all, drop-drop}
use borrow.Author.Tests.{eq-eqb, ne_eqb, eqb-true, eqb-false, lt-ltb, le-ltb, ltb-true, ltb-false, le-leb, leb-true, leb-false, lt-leb, not-true}
use Rattle.basics.specs.Below.{all_below, first_below}
use Rattle.basics.specs.First.{all}
use Rattle.basics.specs.Parts.{with_part}
use Rattle.basics.specs.laws.Below.{below_at, below_all, first_holds}
use Rattle.basics.specs.laws.Logic.{tested, holds, fails, and_left, and_right}
use Rattle.basics.specs.laws.Parts.{part_long, slice_is, slice_back, part_same, part_other, with_part_long}
use Rattle.chip.specs.Kinds.{kind_of, chip_of}
use Rattle.chip.specs.declared.Chip.{Chip}
use Rattle.chip.specs.declared.Chip.TheVariants.{Pca9635, Pca9634, Pca9531, Pca9551}
use Rattle.chip.specs.Addresses.{address_allowed}
use Rattle.chip.specs.Registers.{writables}
use Rattle.setting.specs.Setting.{setting_ok}
use Rattle.setting.specs.declared.Setting.{Setting}
use Rattle.store.specs.Saved.{Saved, newest, found}
use Rattle.store.specs.Layout.{store_size, digits, version_in, table_in, setting_in, place_of, place_ok, place, store_ok, saved_at, saved_below, saved_of}
use Rattle.store.proofs.laws.Bytes.{number_digits, digits_long}
use Rattle.std.specs.Option.{option_or}
use Rattle.store.proofs.laws.Saved.{found_both, newest_both, never, just_inj, Inserted}
use Rattle.store.specs.laws.Layout.{IsSaved, held_place, is_at}

-- ---- the bytes of a version

chip_back : (chip : Chip) → chip_of (kind_of chip) ≡ chip
chip_back Pca9635 = refl
chip_back Pca9634 = refl
chip_back Pca9531 = refl
chip_back Pca9551 = refl

kind_few : (chip : Chip) → ltb (kind_of chip) 4 ≡ true
kind_few Pca9635 = refl
kind_few Pca9634 = refl
kind_few Pca9531 = refl
kind_few Pca9551 = refl

module _ (e : Saved) (s : IsSaved e) where
  version_back : version_in (place_of e) ≡ e.version
  unfolding digits
  version_back = number_digits 8 e.version (omega (arith, s.below))

  table_back : table_in (place_of e) ≡ e.table
  unfolding digits
  table_back = refl

  setting_back : setting_in (place_of e) ≡ e.setting
  unfolding digits
  setting_back = rw (chip_back e.setting.chip) refl

  place_long : length (place_of e) ≡ 40
  place_long = simp (length-append, digits_long 8 e.version, s.long) (omega arith)

  saved_back : saved_at (place_of e) ≡ e ∷ []
  saved_back = rw (version_back, ne_eqb e.version 0 (λ z. omega (arith, s.above)), table_back, setting_back) refl

  place_ok_lem : place_ok (place_of e) ≡ true
  unfolding place_ok digits
  place_ok_lem =
      rw (version_back, ne_eqb e.version 0 (λ z. omega (arith, s.above)), le-leb e.version (2 ^ 48) s.below, lt-ltb e.table 64 s.table, kind_few e.setting.chip, setting_back, s.setting) refl

-- ---- a place that is lent

module _ (store : List ℕ) (i : ℕ) (long : length store ≡ store_size) (there : i < 256) where
  pub place_lent : take (40 * i + 40 - 40 * i) (drop (40 * i) store) ≡ place i store
  place_lent = slice_is 256 40 i store long there

  pub place_back : (p : List ℕ) → length p ≡ 40 → take (40 * i) store ++ (p ++ drop (40 * i + 40 - 40 * i) (drop (40 * i) store)) ≡ with_part 256 40 i p store
  place_back = slice_back 256 40 i store long there

-- ---- how a place is judged

module _ (p : List ℕ) (chip : Chip) (address : ℕ) (c : chip ≡ chip_of (get_or p 9 0)) (a : address ≡ get_or p 10 0) where
  pub setting_is : (n : ℕ) (b : Bool) → length p ≡ 40 → n ≡ writables chip → address_allowed chip address ≡ true → b ≡ all (λ x. eqb x 0) (take (40 - (12 + n)) (drop (12 + n) p)) → b ≡ setting_ok (setting_in p)
  unfolding setting_ok
  setting_is n b h m t q =
      let all_of : take (40 - (12 + n)) (drop (12 + n) p) ≡ drop (12 + n) p = take_all (40 - (12 + n)) (drop (12 + n) p) (rw length-drop (omega arith)) in
      q ∙ rw (← c, ← a, t, ← m, all_of, drop-drop n 12 p) refl

-- ---- what is found where

abbrev pub setting_or : List ℕ → ℕ → ℕ → Option Setting
setting_or store n i = cond (ltb i n) (Some (setting_in (place i store))) None

pub found_at : (table version : ℕ) (p : List ℕ) → found table version (saved_at p) ≡ cond (is_at table version p) (Some (setting_in p)) None
unfolding found
found_at table version p = elim (tested (eqb (version_in p) 0)) [ holds t ↦ rw t refl | fails t ↦ rw t refl ]

module _ (table version : ℕ) (store : List ℕ) where
  abbrev at : ℕ → Bool
  at i = is_at table version (place i store)

  pub found_place : (n : ℕ) → found table version (saved_below n store) ≡ setting_or store n (first_below n at)
  unfolding saved_below found first_below
  found_place zero = refl
  found_place (suc n) =
      found_both table version (saved_below n store) (saved_at (place n store))
      ∙ ap (λ (f : Option Setting). option_or f (found table version (saved_at (place n store)))) (found_place n)
      ∙ elim (tested (ltb (first_below n at) n)) [
        | holds t ↦ rw (t, lt-ltb (first_below n at) (suc n) (omega (arith, ltb-true (first_below n at) n t))) refl
        | fails t ↦
            rw t (found_at table version (place n store) ∙ elim (tested (at n)) [
              | holds u ↦ rw (u, lt-ltb n (suc n) (omega arith)) refl
              | fails u ↦ rw (u, le-ltb (suc n) (suc n) (omega arith)) refl
            ])
      ]

-- a place adds the version that it holds of the table
newest_at : (table : ℕ) (p : List ℕ) → newest table (saved_at p) ≡ cond (eqb (table_in p) table) (version_in p) 0
unfolding newest
newest_at table p =
    elim (tested (eqb (version_in p) 0)) [
      | holds t ↦ rw t (elim (tested (eqb (table_in p) table)) [ holds u ↦ rw (u, eqb-true (version_in p) 0 t) refl | fails u ↦ rw u refl ])
      | fails t ↦ rw t (omega arith)
    ]

pub newest_own : (table : ℕ) (p : List ℕ) → table_in p ≡ table → newest table (saved_at p) ≡ version_in p
newest_own table p e = newest_at table p ∙ rw (eq-eqb (table_in p) table e) refl

pub newest_other : (table : ℕ) (p : List ℕ) → (table_in p ≡ table → ⊥) → newest table (saved_at p) ≡ 0
newest_other table p d = newest_at table p ∙ rw (ne_eqb (table_in p) table d) refl

pub newest_none : (table : ℕ) (store : List ℕ) → 0 ≡ newest table (saved_below 0 store)
unfolding saved_below newest
newest_none table store = refl

pub newest_more : (table i : ℕ) (store : List ℕ) (greatest next : ℕ) → greatest ≡ newest table (saved_below i store) → next ≡ max greatest (newest table (saved_at (place i store))) → next ≡ newest table (saved_below (i + 1) store)
unfolding saved_below
newest_more table i store greatest next e f =
    rw (add-one i) (omega (arith, newest_both table (saved_below i store) (saved_at (place i store)), e, f))

-- ---- how many places are held

module _ (store : List ℕ) where
  abbrev free : ℕ → Bool
  free i = eqb (version_in (place i store)) 0

  saved_most : (p : List ℕ) → length (saved_at p) ≤ 1
  saved_most p = elim (tested (eqb (version_in p) 0)) [ holds t ↦ rw t (omega arith) | fails t ↦ rw t (omega arith) ]

  below_most : (n : ℕ) → length (saved_below n store) ≤ n
  unfolding saved_below
  below_most zero = omega arith
  below_most (suc n) =
      omega (arith, length-append (saved_below n store) (saved_at (place n store)), below_most n, saved_most (place n store))

  -- as many as there are places exactly where none is free
  pub full_is : (n : ℕ) → leb n (length (saved_below n store)) ≡ leb n (first_below n free)
  unfolding saved_below first_below
  full_is zero = refl
  full_is (suc n) =
      let k = length (saved_below n store) in
      let more = length-append (saved_below n store) (saved_at (place n store)) in
      let most = below_most n in
      elim (tested (ltb (first_below n free) n)) [
        | holds t ↦
            let h = ltb-true (first_below n free) n t in
            let few : k < n = leb-false n k (full_is n ∙ lt-leb n (first_below n free) h) in
            rw (t, lt-leb (suc n) (first_below n free) (omega arith)) (lt-leb (suc n) _ (omega (arith, more, saved_most (place n store))))
        | fails t ↦
            let h = ltb-false (first_below n free) n t in
            let all : n ≤ k = leb-true n k (full_is n ∙ le-leb n (first_below n free) h) in
            rw t (elim (tested (free n)) [
              | holds u ↦ rw (u, append-nil, lt-leb (suc n) n (omega arith)) (lt-leb (suc n) k (omega arith))
              | fails u ↦ rw (u, le-leb (suc n) (suc n) (omega arith)) (le-leb (suc n) _ (rw length-append (omega arith)))
            ])
      ]

-- ---- a place written

module _ (p : List ℕ) (long : length p ≡ 40) (store : List ℕ) (i : ℕ) (there : i < 256) where
  abbrev next : List ℕ
  next = with_part 256 40 i p store

  pub at_place : place i next ≡ p
  at_place = part_same 256 40 i p store there long

  pub elsewhere : (j : ℕ) → j < 256 → (j ≡ i → ⊥) → place j next ≡ place j store
  elsewhere j h d = part_other 256 40 i j p store h d

  pub before_same : (n : ℕ) → n ≤ i → saved_below n next ≡ saved_below n store
  unfolding saved_below
  before_same zero h = refl
  before_same (suc n) h =
      rw (before_same n (omega arith), elsewhere n (omega arith) (λ q. omega arith)) refl

  -- a store of the right shape stays so
  pub with_ok : place_ok p ≡ true → store_ok store ≡ true → store_ok next ≡ true
  unfolding store_ok
  with_ok good ok =
      let all-good = and_right (eqb (length store) store_size) (all_below 256 (λ j. place_ok (place j store))) ok in
      rw (with_part_long 256 40 i p store)
      (below_all (λ j. place_ok (place j next)) 256 (λ j h. elim (tested (eqb j i)) [
        | holds t ↦ rw (eqb-true j i t, at_place) good
        | fails t ↦ rw (elsewhere j h (eqb-false j i t)) (below_at (λ j. place_ok (place j store)) j 256 h all-good)
      ]))

-- a version is put where the place was free
module _ (e : Saved) (is : IsSaved e) (store : List ℕ) (i : ℕ) (there : i < 256) where
  pub inserted_below : version_in (place i store) ≡ 0 → (n : ℕ) → n ≤ 256 → i < n → Inserted e (saved_below n store) (saved_below n (with_part 256 40 i (place_of e) store))
  unfolding saved_below
  inserted_below z zero h l = absurd (omega arith)
  inserted_below z (suc n) h l =
      ⊎_elim
      (λ (q : suc i ≡ suc n). let f : i ≡ n = suc_inj q in
      record {
        before = saved_below n store;
        behind = [];
        old = ap (λ (t : List Saved). saved_below n store ++ t) (rw (← f, eq-eqb (version_in (place i store)) 0 z) refl);
        new = rw (before_same (place_of e) (place_long e is) store i there n (omega arith), ← f, at_place (place_of e) (place_long e is) store i there, saved_back e is) refl;
      })
      (λ (k : suc i < suc n).
      let r = inserted_below z n (omega arith) (le_of_suc-le-suc k) in
      record {
        before = r.before;
        behind = r.behind ++ saved_at (place n store);
        old = rw r.old (append_assoc r.before r.behind (saved_at (place n store)));
        new = rw (r.new, elsewhere (place_of e) (place_long e is) store i there n (omega arith) (λ q. omega arith)) (append_assoc r.before (e ∷ r.behind) (saved_at (place n store)));
      })
      (eq-or-lt_of_le l)

  pub put_ok : store_ok store ≡ true → store_ok (with_part 256 40 i (place_of e) store) ≡ true
  put_ok ok = with_ok (place_of e) (place_long e is) store i there (place_ok_lem e is) ok

-- ---- how a store is judged

pub wrong_size : (store : List ℕ) → (length store ≡ store_size → ⊥) → false ≡ store_ok store
unfolding store_ok
wrong_size store d = rw (ne_eqb (length store) store_size d) refl

pub right_size : (store : List ℕ) (b : Bool) → length store ≡ store_size → b ≡ all_below 256 (λ i. place_ok (place i store)) → b ≡ store_ok store
unfolding store_ok
right_size store b e q = rw (eq-eqb (length store) store_size e) q

-- ---- what a store of the right shape holds

zero_at : (l : List ℕ) (k : ℕ) → all (λ x. eqb x 0) l ≡ true → get_or l k 0 ≡ 0
zero_at [] k e = refl
zero_at (x ∷ l) zero e = eqb-true x 0 (and_left (eqb x 0) (all (λ y. eqb y 0) l) e)
zero_at (x ∷ l) (suc k) e = zero_at l k (and_right (eqb x 0) (all (λ y. eqb y 0) l) e)

module _ (store : List ℕ) (ok : store_ok store ≡ true) where
  pub ok_long : length store ≡ store_size
  unfolding store_ok
  ok_long = eqb-true (length store) store_size (and_left (eqb (length store) store_size) (all_below 256 (λ j. place_ok (place j store))) ok)

  ok_place : (i : ℕ) → i < 256 → place_ok (place i store) ≡ true
  unfolding store_ok
  ok_place i h = below_at (λ j. place_ok (place j store)) i 256 h (and_right (eqb (length store) store_size) (all_below 256 (λ j. place_ok (place j store))) ok)

  -- what is found is a setting, of a table below 64
  pub record IsHeld (table : ℕ) (setting : Setting) : Type 0 where
    pub table_few : table < 64
    pub setting_ok_lem : setting_ok setting ≡ true
    pub setting_long : length setting.values ≡ 28

  held_at : (table version i : ℕ) → i < 256 → is_at table version (place i store) ≡ true → IsHeld table (setting_in (place i store))
  unfolding place_ok
  held_at table version i h t =
      let p = place i store in
      let held = not-true (eqb (version_in p) 0) (and_left (not (eqb (version_in p) 0)) (eqb (table_in p) table && eqb (version_in p) version) t) in
      let own = eqb-true (table_in p) table (and_left (eqb (table_in p) table) (eqb (version_in p) version) (and_right (not (eqb (version_in p) 0)) (eqb (table_in p) table && eqb (version_in p) version) t)) in
      let good = rw held at (ok_place i h) in
      let good2 = and_right (leb (version_in p) (2 ^ 48)) _ good in
      let good3 = and_right (ltb (table_in p) 64) _ good2 in
      let good4 = and_right (ltb (get_or p 9 0) 4) _ good3 in
      record {
        table_few = omega (arith, own, ltb-true (table_in p) 64 (and_left (ltb (table_in p) 64) _ good2));
        setting_ok_lem = and_right (eqb (get_or p 11 0) 0) _ good4;
        setting_long = rw (length-drop, part_long 40 i store) refl;
      }

  -- the table of a place with a version
  pub held_few : (i : ℕ) → i < 256 → (version_in (place i store) ≡ 0 → ⊥) → table_in (place i store) < 64
  held_few i h n =
      let p = place i store in
      (held_at (table_in p) (version_in p) i h (rw (ne_eqb (version_in p) 0 n, eq-eqb (table_in p) (table_in p) refl, eq-eqb (version_in p) (version_in p) refl) refl)).table_few

  -- and of any place: of a free one it is 0
  pub table_few : (i : ℕ) → i < 256 → table_in (place i store) < 64
  unfolding place_ok
  table_few i h =
      elim (tested (eqb (version_in (place i store)) 0)) [
        | holds t ↦ omega (arith, zero_at (place i store) 8 (rw t at (ok_place i h)))
        | fails t ↦ held_few i h (eqb-false (version_in (place i store)) 0 t)
      ]

  pub found_held : (table version : ℕ) (setting : Setting) → found table version (saved_of store) ≡ Some setting → IsHeld table setting
  found_held table version setting f =
      let i = held_place table version store in
      let g = sym (found_place table version store 256) ∙ f in
      elim (tested (ltb i 256)) [
        | holds t ↦
            let q : setting_in (place i store) ≡ setting = just_inj (rw t at g) in
            rw q at (held_at table version i (ltb-true i 256 t) (first_holds (λ j. is_at table version (place j store)) 256 (ltb-true i 256 t)))
        | fails t ↦ never (rw t at g)
      ]
