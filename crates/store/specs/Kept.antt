-- What making room keeps: the newest version of each table, and what a list names (RULES, Settings).
use Rattle.std.specs.Prelude.{ℕ, ◌+◌, ◌*◌, ◌/◌, Bool, not, ◌&&◌, ◌||◌, List, eqb, length, get_or}
use Rattle.basics.specs.Below.{all_below, any_below}
use Rattle.store.specs.Saved.{Saved, newest, is_held, only}

-- a list has two numbers for each version that it names, table then version
abbrev pub pairs : List ℕ → ℕ
pairs list = length list / 2

abbrev pub table_at : List ℕ → ℕ → ℕ
table_at list i = get_or list (2 * i) 0

abbrev pub version_at : List ℕ → ℕ → ℕ
version_at list i = get_or list (2 * i + 1) 0

-- whether a version is named, by pair i and at all; and whether all that are named are held
abbrev pub is_pair : List ℕ → ℕ → ℕ → ℕ → Bool
is_pair list table version i = eqb (table_at list i) table && eqb (version_at list i) version

unfoldable pub is_listed : List ℕ → ℕ → ℕ → Bool
is_listed list table version = any_below (pairs list) (is_pair list table version)

unfoldable pub all_held : List ℕ → List Saved → Bool
all_held list l = all_below (pairs list) (λ i. is_held (table_at list i) (version_at list i) l)

-- whether a version is kept
abbrev pub is_kept : List ℕ → List Saved → ℕ → ℕ → Bool
is_kept list l table version = eqb version (newest table l) || is_listed list table version

-- the number of versions that are not
abbrev pub freed_by : List ℕ → List Saved → ℕ
freed_by list l = length (only (λ table version. not (is_kept list l table version)) l)
