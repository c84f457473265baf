-- The places of a store as a list: what a search of them comes to.
use Rattle.std.specs.Prelude.{ℕ, zero, suc, max, ◌+◌, ◌-◌, ◌*◌, ◌≤◌, ◌<◌, ◌≡◌, refl, Bool, not, false, ◌||◌, cond, List, [], ◌∷◌, ◌++◌, eqb, map, length, take, drop, get_or, set, true, Option, None, Some}
use Rattle.std.specs.List.{list_all, list_any, find, fold, reduce, position, position_or_len}
use Rattle.std.specs.Option.{option_map, option_or, is_some, unwrap_or}
use Rattle.setting.specs.declared.Setting.{Setting}
use Rattle.std.specs.Simd.{first_chunks}
use Rattle.std.proofs.Common.{sym, ap, ◌∙◌, arith, add-one, drop-cons, mul-zero, length-append, drop-drop, ext_get_or, take_all}
use Rattle.std.proofs.lemmas.Grind.{common_steps, fold-append}
use Rattle.std.proofs.Math.Bool.{and-true}
use Rattle.std.proofs.Math.Nat.{zero-max}
use Rattle.std.proofs.lemmas.List.Folds.{fold-map, list_all-append, list_any-append, find-append, position_or_len_push}
use Rattle.basics.specs.Below.{all_below, any_below, first_below}
use Rattle.basics.specs.laws.Below.{below_alike}
use Rattle.basics.specs.laws.First.{all_places}
use Rattle.store.specs.Saved.{newest, found, is_held}
use Rattle.store.specs.Kept.{pairs, table_at, version_at}
use Rattle.store.specs.Layout.{store_size, store_ok, version_in, table_in, first_free, setting_in, place, places_of, saved_at, saved_below, saved_of}
use Rattle.store.specs.laws.Layout.{is_at}
use Rattle.store.proofs.laws.Saved.{found_both, newest_both}
use Rattle.store.proofs.laws.Layout.{place_lent, found_at, ok_long, table_few, newest_own, newest_more}
use Rattle.store.proofs.laws.Only.{raised_own}

-- ---- in parts of n, one after the other

chunks_long : {A : Type 0} (n k : ℕ) (l : List A) → length (first_chunks n k l) ≡ k
chunks_long n zero l = refl
chunks_long n (suc k) l = ap suc (chunks_long n k (drop n l))

pub chunk_at : {A : Type 0} (n k i : ℕ) (l : List A) → i < k → get_or (first_chunks n k l) i [] ≡ take n (drop (n * i) l)
chunk_at n zero i l h = absurd (omega arith)
chunk_at n (suc k) zero l h = rw (mul-zero n) refl
chunk_at n (suc k) (suc i) l h =
    chunk_at n k i (drop n l) (omega arith) ∙ ap (take n) (drop-drop (n * i) n l ∙ ap (λ (m : ℕ). drop m l) (omega arith))

-- a test of each part, and of one of them
pub chunks_all : (p : List ℕ → Bool) (n k : ℕ) (l : List ℕ) → list_all p (first_chunks n k l) ≡ all_below k (λ i. p (take n (drop (n * i) l)))
chunks_all p n k l =
    let long = chunks_long n k l in
    ap (list_all p) (sym (take_all k (first_chunks n k l) (omega (arith, long))))
    ∙ sym (all_places p [] k (first_chunks n k l) (omega (arith, long)))
    ∙ below_alike _ _ k (λ i h. ap p (chunk_at n k i l h))

any_all : {A : Type 0} (p : A → Bool) (l : List A) → list_any p l ≡ not (list_all (λ x. not (p x)) l)
any_all p [] = refl
any_all p (x ∷ l) = rw (any_all p l) (grind (arith, common_steps))

pub chunks_any : (p : List ℕ → Bool) (n k : ℕ) (l : List ℕ) → list_any p (first_chunks n k l) ≡ any_below k (λ i. p (take n (drop (n * i) l)))
chunks_any p n k l = any_all p (first_chunks n k l) ∙ ap not (chunks_all (λ x. not (p x)) n k l)

-- in pairs
pub pair_at : (l : List ℕ) (i : ℕ) → i < pairs l → take 2 (drop (2 * i) l) ≡ table_at l i ∷ version_at l i ∷ []
pair_at l i h =
    let first : 2 * i < length l = omega arith in
    let second : suc (2 * i) < length l = omega arith in
    rw (drop-cons l (2 * i) 0 first, drop-cons l (suc (2 * i)) 0 second, add-one (2 * i)) refl

module _ (store : List ℕ) where
  -- the first n
  abbrev first : ℕ → List (List ℕ)
  first zero = []
  first (suc n) = first n ++ place n store ∷ []

  first_long : (n : ℕ) → length (first n) ≡ n
  first_long zero = refl
  first_long (suc n) = rw (length-append, first_long n) (omega arith)

  first_at : (n i : ℕ) → i < n → get_or (first n) i [] ≡ place i store
  first_at zero i h = absurd (omega arith)
  first_at (suc n) i h = grind (arith, common_steps, first_long n, first_at n i)

  all_first : (p : List ℕ → Bool) (n : ℕ) → list_all p (first n) ≡ all_below n (λ i. p (place i store))
  unfolding all_below
  all_first p zero = refl
  all_first p (suc n) = rw (list_all-append, all_first p n, and-true) refl

  first_most : (p : ℕ → Bool) (n : ℕ) → first_below n p ≤ n
  unfolding first_below
  first_most p zero = omega arith
  first_most p (suc n) = grind (arith, common_steps, first_most p n)

  position_first : (p : List ℕ → Bool) (n : ℕ) → position_or_len p (first n) ≡ first_below n (λ i. p (place i store))
  unfolding first_below
  position_first p zero = refl
  position_first p (suc n) = rw (position_or_len_push, position_first p n, first_long n) (grind (arith, common_steps, first_most (λ i. p (place i store)) n))

  -- held or found in the first n, or in the next
  module _ (table version : ℕ) where
    or_held : (f : Option Setting) (p : List ℕ) → (is_some f || (is_at table version p || false)) ≡ is_some (option_or f (cond (is_at table version p) (Some (setting_in p)) None))
    or_held None p = grind (arith, common_steps)
    or_held (Some s) p = refl

    or_found : (f : Option (List ℕ)) (p : List ℕ) → option_map setting_in (option_or f (cond (is_at table version p) (Some p) None)) ≡ option_or (option_map setting_in f) (cond (is_at table version p) (Some (setting_in p)) None)
    or_found None p = grind (arith, common_steps)
    or_found (Some q) p = refl

  held_first : (table version n : ℕ) → list_any (is_at table version) (first n) ≡ is_held table version (saved_below n store)
  unfolding saved_below found
  held_first table version zero = refl
  held_first table version (suc n) = rw (list_any-append, held_first table version n, found_both, found_at) (or_held table version (found table version (saved_below n store)) (place n store))

  found_first : (table version n : ℕ) → option_map setting_in (find (is_at table version) (first n)) ≡ found table version (saved_below n store)
  unfolding saved_below found
  found_first table version zero = refl
  found_first table version (suc n) = rw (find-append, found_both, ← found_first table version n, found_at) (or_found table version (find (is_at table version) (first n)) (place n store))

  newest_first : (table n : ℕ) → fold (λ a p. max a (newest table (saved_at p))) 0 (first n) ≡ newest table (saved_below n store)
  unfolding saved_below newest
  newest_first table zero = refl
  newest_first table (suc n) = rw (fold-append, newest_both, newest_first table n) refl

  module _ (long : length store ≡ store_size) where
    places_are : places_of store ≡ first 256
    unfolding places_of
    places_are =
        ext_get_or [] (first_chunks 40 256 store) (first 256) (chunks_long 40 256 store ∙ sym (first_long 256))
        (λ i lt. let h : i < 256 = rw (chunks_long 40 256 store) at lt in
        chunk_at 40 256 i store h ∙ (let e : 40 * i + 40 - 40 * i ≡ 40 = omega arith in rw e at (place_lent store i long h)) ∙ sym (first_at 256 i h))

    pub places_at : (i : ℕ) → i < 256 → get_or (places_of store) i [] ≡ place i store
    places_at i h = ap (λ (l : List (List ℕ)). get_or l i []) places_are ∙ first_at 256 i h

    places_long : length (places_of store) ≡ 256
    places_long = ap length places_are ∙ first_long 256

    -- as a loop over them has them
    pub turn : (items : List (List ℕ)) (i : ℕ) → items ≡ places_of store → i < length items → (i < 256) × (get_or items i [] ≡ place i store)
    turn items i e h =
        let few : i < 256 = rw (e, places_long) at h in
        (few, ap (λ (l : List (List ℕ)). get_or l i []) e ∙ places_at i few)

    pub turns_over : (items : List (List ℕ)) (i : ℕ) → items ≡ places_of store → i ≤ length items → length items ≤ i → i ≡ 256
    turns_over items i e h k = omega (arith, ap length e, places_long)

    pub places_all : (p : List ℕ → Bool) → list_all p (places_of store) ≡ all_below 256 (λ i. p (place i store))
    places_all p = rw places_are (all_first p 256)

    pub places_first : (p : List ℕ → Bool) → position_or_len p (places_of store) ≡ first_below 256 (λ i. p (place i store))
    places_first p = rw places_are (position_first p 256)

    pub places_held : (table version : ℕ) → list_any (is_at table version) (places_of store) ≡ is_held table version (saved_of store)
    places_held table version = rw places_are (held_first table version 256)

    pub places_found : (table version : ℕ) → option_map setting_in (find (is_at table version) (places_of store)) ≡ found table version (saved_of store)
    places_found table version = rw places_are (found_first table version 256)

    pub places_newest : (table : ℕ) → fold (λ a p. max a (newest table (saved_at p))) 0 (places_of store) ≡ newest table (saved_of store)
    places_newest table = rw places_are (newest_first table 256)

    pub places_free : position (λ p. eqb (version_in p) 0) (places_of store) ≡ first_free store
    places_free =
        let e = places_first (λ p. eqb (version_in p) 0) in
        rw (e, places_long) refl

-- the greatest of the numbers of places
pub greatest : {A : Type 0} (f : A → ℕ) (l : List A) → unwrap_or (reduce max (map f l)) 0 ≡ fold (λ a p. max a (f p)) 0 l
greatest f [] = refl
greatest f (p ∷ l) = fold-map max f (f p) l ∙ ap (λ (n : ℕ). fold (λ a q. max a (f q)) n l) (sym (zero-max (f p)))

-- in a store of the right shape, the place that a turn comes to
module _ (store : List ℕ) (ok : store_ok store ≡ true) (items : List (List ℕ)) (i : ℕ) (e : items ≡ places_of store) (h : i < length items) where
  pub turn_few : table_in (get_or items i []) < 64
  turn_few = let t = turn store (ok_long store ok) items i e h in rw t.1 (table_few store ok i t.0)

  pub turn_raises : (row : List ℕ) (at version v : ℕ) → length row ≡ 64 → ((t : ℕ) → t < 64 → get_or row t 0 ≡ newest t (saved_below i store))
      → at ≡ table_in (get_or items i []) → version ≡ version_in (get_or items i []) → v ≡ max version (get_or row at 0)
      → (t : ℕ) → t < 64 → get_or (set row at v) t 0 ≡ newest t (saved_below (i + 1) store)
  turn_raises row at version v long g a w m t few =
      let p = turn store (ok_long store ok) items i e h in
      let own = rw p.1 at a in
      let there : at < length row = omega (arith, long, a, turn_few) in
      newest_more t i store _ _ (g t few) (raised_own row (place i store) at v there own (omega (arith, m, rw p.1 at w, newest_own at (place i store) (sym own))) t)
