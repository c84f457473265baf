-- What calls put into a store and take out of it, by the calls alone: a list of versions, and no bytes.
use Rattle.std.specs.Prelude.{ℕ, ◌+◌, ◌≤◌, ◌≡◌, Bool, true, not, ◌&&◌, ◌||◌, cond, eqb, List, [], ◌∷◌, ◌++◌, None}
use Rattle.basics.specs.Tabulate.{tabulate}
use Rattle.store.specs.Saved.{Saved, newest, found, only}
use Rattle.store.specs.Kept.{is_kept}
use Rattle.store.specs.Layout.{store_ok, saved_of}
use Rattle.store.specs.Calls.{Reply, Storage, save_reply, return_reply, keep_reply}

-- a call on a store that is there
pub data Call : Type 0 where
  Save : (table : ℕ) (text : List ℕ) → Call
  Return : (table version : ℕ) → Call
  Read : (table version : ℕ) (buffer : List ℕ) → Call
  Keep : (list : List ℕ) → Call

-- the number that a save or a return gives, where it is done
abbrev pub number_in : {S : Type 0} → Reply S → List ℕ
number_in r = cond (eqb r.code 0) (r.value ∷ []) []

module _ {S : Type 0} (st : Storage S) where
  abbrev pub after : S → Call → S
  after s (Save table text) = (save_reply st s table text).state
  after s (Return table version) = (return_reply st s table version).state
  after s (Read table version buffer) = s
  after s (Keep list) = (keep_reply st s list).state

  unfoldable pub after_all : S → List Call → S
  after_all s [] = s
  after_all s (c ∷ cs) = after_all (after s c) cs

  -- the numbers that a call gives to a table, and those that calls give it, one after the other
  abbrev pub given_by : ℕ → S → Call → List ℕ
  given_by table s (Save own text) = cond (eqb own table) (number_in (save_reply st s own text)) []
  given_by table s (Return own version) = cond (eqb own table) (number_in (return_reply st s own version)) []
  given_by table s (Read own version buffer) = []
  given_by table s (Keep list) = []

  unfoldable pub given : ℕ → S → List Call → List ℕ
  given table s [] = []
  given table s (c ∷ cs) = given_by table s c ++ given table (after s c) cs

  -- whether a call keeps a version, and whether all do: making room keeps the newest of its table and what is listed, where it is done
  abbrev pub kept_by : S → Call → ℕ → ℕ → Bool
  kept_by s (Save own text) table version = true
  kept_by s (Return own back) table version = true
  kept_by s (Read own back buffer) table version = true
  kept_by s (Keep list) table version = not (eqb (keep_reply st s list).code 0) || is_kept list (st.holds s) table version

  unfoldable pub kept_by_all : S → List Call → ℕ → ℕ → Bool
  kept_by_all s [] table version = true
  kept_by_all s (c ∷ cs) table version = kept_by s c table version && kept_by_all (after s c) cs table version

-- the same calls on a list of versions, the latest last
abbrev pub listed : Storage (List Saved)
listed = record { sound = λ l. true; holds = λ l. l; with = λ e l. l ++ e ∷ []; keep = only }

-- how many versions pass a test
unfoldable pub many : (Saved → Bool) → List Saved → ℕ
many p [] = 0
many p (e ∷ l) = cond (p e) 1 0 + many p l

-- two lists hold the same versions, each as often, in whatever order
pub record Alike (l m : List Saved) : Type 0 where
  pub same_found : (table version : ℕ) → found table version l ≡ found table version m
  pub same_newest : (table : ℕ) → newest table l ≡ newest table m
  pub same_many : (p : Saved → Bool) → many p l ≡ many p m

-- a store holds exactly the versions of a list
pub record Holds (store : List ℕ) (l : List Saved) : Type 0 where
  pub shape : store_ok store ≡ true
  pub versions : Alike (saved_of store) l

-- m is what a test keeps of l, unaltered and in order, and behind it versions with numbers above all that l has of their table
pub record Follows (keeps : ℕ → ℕ → Bool) (l m : List Saved) : Type 0 where
  pub more : List Saved
  pub follows : m ≡ only keeps l ++ more
  pub above : (table version : ℕ) → version ≤ newest table l → found table version more ≡ None

-- the numbers behind one, up to another, each once and in order
pub record InOrder (from to : ℕ) (numbers : List ℕ) : Type 0 where
  pub count : ℕ
  pub reaches : to ≡ from + count
  pub are : numbers ≡ tabulate count (λ i. from + (i + 1))
