-- The places of a store: which versions one can hold, and where one is found.
use Prim.Native.Nat.{ℕ, ◌^◌, ◌≤◌, ◌<◌}
use Rattle.std.specs.Prelude.{◌≡◌, Bool, true, not, ◌&&◌}
use mathlib.Core.List.{List}
use Rattle.std.proofs.Math.Dec.{eqb}
use Rattle.std.proofs.Math.ListN.{length}
use Rattle.basics.specs.Below.{first_below}
use Rattle.setting.specs.Setting.{setting_ok}
use Rattle.store.specs.Saved.{Saved}
use Rattle.store.specs.Layout.{version_in, table_in, place}

-- a version that a store can hold
pub record IsSaved (e : Saved) : Type 0 where
  pub above : 0 < e.version
  pub below : e.version ≤ 2 ^ 48
  pub table : e.table < 64
  pub setting : setting_ok e.setting ≡ true
  pub long : length e.setting.values ≡ 28

-- whether a place holds this version of the table
abbrev pub is_at : ℕ → ℕ → List ℕ → Bool
is_at table version p = not (eqb (version_in p) 0) && (eqb (table_in p) table && eqb (version_in p) version)

-- the first that does, 256 where there is none
abbrev pub held_place : ℕ → ℕ → List ℕ → ℕ
held_place table version store = first_below 256 (λ i. is_at table version (place i store))
