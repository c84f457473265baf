-- The bytes of a store: 256 places of 40 bytes, each free or with one version (docs/STORE.md).
use Rattle.std.specs.Prelude.{ℕ, zero, suc, ◌+◌, ◌*◌, ◌/◌, ◌%◌, ◌^◌, Bool, not, ◌&&◌, cond, List, [], ◌∷◌, ◌++◌, leb, ltb, eqb, length, get_or, take, drop, replicate}
use Rattle.std.specs.Prelude.{Option, None, Some}
use Rattle.std.specs.Simd.{first_chunks}
use Rattle.basics.specs.Below.{all_below, first_below}
use Rattle.basics.specs.First.{all}
use Rattle.basics.specs.Parts.{part, with_part}
use Rattle.chip.specs.Kinds.{kind_of, chip_of}
use Rattle.setting.specs.Setting.{setting_ok}
use Rattle.setting.specs.declared.Setting.{Setting}
use Rattle.store.specs.Saved.{Saved, saved}

abbrev pub store_size : ℕ
store_size = 10240

-- ---- numbers in bytes

-- the number that bytes say, the lowest first, and the n lowest bytes of a number
unfoldable pub number : List ℕ → ℕ
number [] = 0
number (b ∷ l) = b + 256 * number l

unfoldable pub digits : ℕ → ℕ → List ℕ
digits zero x = []
digits (suc n) x = x % 256 ∷ digits n (x / 256)

-- ---- a place

-- bytes 0 to 7 the version, 0 where the place is free; 8 the table; 9 the kind; 10 the address; 11 is 0; 12 to 39 the values of the registers
abbrev pub version_in : List ℕ → ℕ
version_in p = number (take 8 p)

abbrev pub table_in : List ℕ → ℕ
table_in p = get_or p 8 0

abbrev pub setting_in : List ℕ → Setting
setting_in p = record { chip = chip_of (get_or p 9 0); addr = get_or p 10 0; values = drop 12 p }

abbrev pub saved_in : List ℕ → Saved
saved_in p = saved (table_in p) (version_in p) (setting_in p)

-- the bytes of a version
abbrev pub place_of : Saved → List ℕ
place_of e = digits 8 e.version ++ ((e.table ∷ kind_of e.setting.chip ∷ e.setting.addr ∷ 0 ∷ []) ++ e.setting.values)

-- a place that holds a version: each part within its range
abbrev pub held_ok : List ℕ → Bool
held_ok p = leb (version_in p) (2 ^ 48) && (ltb (table_in p) 64 && (ltb (get_or p 9 0) 4 && (eqb (get_or p 11 0) 0 && setting_ok (setting_in p))))

-- every byte of a free place is 0
unfoldable pub place_ok : List ℕ → Bool
place_ok p = cond (eqb (version_in p) 0) (all (λ x. eqb x 0) p) (held_ok p)

-- ---- a store

abbrev pub place : ℕ → List ℕ → List ℕ
place i store = part 40 i store

-- the 256 places of a store
unfoldable pub places_of : List ℕ → List (List ℕ)
places_of store = first_chunks 40 256 store

-- a store of the right shape
unfoldable pub store_ok : List ℕ → Bool
store_ok store = eqb (length store) store_size && all_below 256 (λ i. place_ok (place i store))

-- the versions in the first n places, and all
abbrev pub saved_at : List ℕ → List Saved
saved_at p = cond (eqb (version_in p) 0) [] (saved_in p ∷ [])

unfoldable pub saved_below : ℕ → List ℕ → List Saved
saved_below zero store = []
saved_below (suc n) store = saved_below n store ++ saved_at (place n store)

abbrev pub saved_of : List ℕ → List Saved
saved_of store = saved_below 256 store

-- the first free place, 256 where there is none
abbrev pub free_place : List ℕ → ℕ
free_place store = first_below 256 (λ i. eqb (version_in (place i store)) 0)

abbrev pub first_free : List ℕ → Option ℕ
first_free store = cond (ltb (free_place store) 256) (Some (free_place store)) None

-- a store with one version more, in the first free place; every other byte stays
abbrev pub with_saved : Saved → List ℕ → List ℕ
with_saved e store = with_part 256 40 (free_place store) (place_of e) store

-- a place whose version a test does not keep; one without a version is none
abbrev pub is_freed : (ℕ → ℕ → Bool) → List ℕ → Bool
is_freed keeps p = not (eqb (version_in p) 0) && not (keeps (table_in p) (version_in p))

abbrev pub free_part : List ℕ
free_part = replicate 40 0

-- a store with such places free, of the first n and of all; every other byte stays
unfoldable pub only_below : ℕ → (ℕ → ℕ → Bool) → List ℕ → List ℕ
only_below zero keeps store = store
only_below (suc n) keeps store = cond (is_freed keeps (place n store)) (with_part 256 40 n free_part (only_below n keeps store)) (only_below n keeps store)

abbrev pub with_only : (ℕ → ℕ → Bool) → List ℕ → List ℕ
with_only keeps store = only_below 256 keeps store

abbrev pub fresh_store : List ℕ
fresh_store = replicate store_size 0
