-- The next version of a table, as the code finds it in the bytes of a store.
use Rattle.std.specs.Prelude.{ℕ, ◌+◌, ◌^◌, ◌≤◌, ◌<◌, ◌≡◌, List, Option, Some}
use Rattle.setting.specs.declared.Setting.{Setting}
use Rattle.store.specs.Saved.{newest}
use Rattle.store.specs.Layout.{saved_of, free_place}
use Rattle.store.specs.declared.room.Next.{Next}

pub record IsNext (store : List ℕ) (table : ℕ) (setting : Option Setting) (n : Next) : Type 0 where
  pub place : n.place ≡ free_place store
  pub there : n.place < 256
  pub own : n.table ≡ table
  pub version : n.version ≡ newest table (saved_of store) + 1
  pub few : n.version ≤ 2 ^ 48
  pub what : setting ≡ Some n.setting
