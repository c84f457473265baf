-- Promises on the store: the number of a refusal and what it leaves, the shape of a store, what making room keeps, and what any sequence of calls puts in, keeps and reads.
-- Where a statement is over a storage `st`, it holds of the bytes of a store and of a list of versions alike.
use Rattle.std.specs.Prelude.{ℕ, ◌+◌, ◌^◌, ◌≤◌, ◌<◌, ◌≡◌, true, false, cond, List, [], ◌∷◌, ◌++◌, leb, length, drop, None}
use Rattle.std.proofs.Math.Path.{refl}
use Rattle.std.proofs.Common.{sym, ap, ◌∙◌, arith}
use Rattle.basics.specs.Tabulate.{tabulate}
use Rattle.basics.specs.laws.Parts.{part_other}
use Rattle.refusals.specs.Refusals.{least, code_of}
use Rattle.refusals.specs.laws.Refusals.{code_both, Exact}
use Rattle.refusals.specs.laws.Outcome.{outcome_code, outcome_exact, outcome_refused}
use Rattle.refusals.specs.Reasons.{code_in}
use Rattle.setting.specs.Reader.{text_refusals, reading_of}
use Rattle.setting.specs.Promises.{reading_number}
use Rattle.store.specs.Saved.{Saved, newest, is_version, found, is_held}
use Rattle.store.specs.Kept.{is_kept}
use Rattle.store.specs.Layout.{place, store_ok, saved_of, free_place, with_saved, is_freed, free_part, fresh_store}
use Rattle.store.specs.Calls.{Storage, bytes, refused_with, done_with, next, put_refusals, save_refusals, save_reply, return_refusals, return_reply, read_refusals, read_reply, keep_refusals, keep_reply, fresh_refusals, fresh_reply}
use Rattle.store.specs.History.{Call, Save, Return, Keep, after, after_all, given, kept_by_all, listed, many, Holds, Follows, InOrder}
use Rattle.store.proofs.laws.Fresh.{fresh_ok, fresh_holds_nothing}
use Rattle.store.proofs.laws.Calls.{read_missing, return_missing}
use Rattle.store.proofs.laws.History.{save_agree, return_agree, read_same, keep_agree, after_holds, all_hold, all_given}
use Rattle.store.proofs.laws.Listed.{all_follow, all_numbered, from_one, all_once}
use Rattle.store.proofs.laws.Readings.{own, saved_text, returned_same, kept_same, held_same, freed_same}
use Rattle.store.proofs.laws.Room.{newest_stays, place_kept, found_kept, value_gone}

-- ---- the number of a refusal, and what it leaves

module _ {S : Type 0} (st : Storage S) (s : S) (table : ℕ) where
  pub save_exact : (text : List ℕ) → Exact (save_refusals st s table text) (save_reply st s table text).code
  unfolding save_reply
  save_exact text = outcome_exact (save_refusals st s table text) (refused_with s) _ (λ r. r.code) (λ k. refl) refl

  -- the least of the text's own number and those of one version more
  pub save_number : (text : List ℕ) → (save_reply st s table text).code ≡ least (code_in (reading_of text)) (code_of (put_refusals st s table (leb 64 table)))
  unfolding save_reply save_refusals
  save_number text =
      outcome_code (save_refusals st s table text) (refused_with s) _ (λ r. r.code) (λ k. refl) refl
      ∙ code_both (text_refusals text) (put_refusals st s table (leb 64 table))
      ∙ ap (λ (k : ℕ). least k (code_of (put_refusals st s table (leb 64 table)))) (sym (reading_number text))

  pub return_exact : (version : ℕ) → Exact (return_refusals st s table version) (return_reply st s table version).code
  unfolding return_reply
  return_exact version = outcome_exact (return_refusals st s table version) (refused_with s) _ (λ r. r.code) (λ k. refl) refl

  pub read_exact : (version : ℕ) (buffer : List ℕ) → Exact (read_refusals st s table version buffer) (read_reply st s table version buffer).code
  unfolding read_reply
  read_exact version buffer = outcome_exact (read_refusals st s table version buffer) (refused_with buffer) _ (λ r. r.code) (λ k. refl) refl

  -- refused: the value is 0, and what was lent is as it was
  pub save_refusal : (text : List ℕ) → ((save_reply st s table text).code ≡ 0 → ⊥) → save_reply st s table text ≡ refused_with s (save_reply st s table text).code
  unfolding save_reply
  save_refusal text = outcome_refused (save_refusals st s table text) (refused_with s) _ (λ r. r.code) (λ k. refl) refl

  pub return_refusal : (version : ℕ) → ((return_reply st s table version).code ≡ 0 → ⊥) → return_reply st s table version ≡ refused_with s (return_reply st s table version).code
  unfolding return_reply
  return_refusal version = outcome_refused (return_refusals st s table version) (refused_with s) _ (λ r. r.code) (λ k. refl) refl

  pub read_refusal : (version : ℕ) (buffer : List ℕ) → ((read_reply st s table version buffer).code ≡ 0 → ⊥) → read_reply st s table version buffer ≡ refused_with buffer (read_reply st s table version buffer).code
  unfolding read_reply
  read_refusal version buffer = outcome_refused (read_refusals st s table version buffer) (refused_with buffer) _ (λ r. r.code) (λ k. refl) refl

module _ {S : Type 0} (st : Storage S) (s : S) (list : List ℕ) where
  pub keep_exact : Exact (keep_refusals st s list) (keep_reply st s list).code
  unfolding keep_reply
  keep_exact = outcome_exact (keep_refusals st s list) (refused_with s) _ (λ r. r.code) (λ k. refl) refl

  pub keep_refusal : ((keep_reply st s list).code ≡ 0 → ⊥) → keep_reply st s list ≡ refused_with s (keep_reply st s list).code
  unfolding keep_reply
  keep_refusal = outcome_refused (keep_refusals st s list) (refused_with s) _ (λ r. r.code) (λ k. refl) refl

pub fresh_exact : (buffer : List ℕ) → Exact (fresh_refusals buffer) (fresh_reply buffer).code
unfolding fresh_reply
fresh_exact buffer = outcome_exact (fresh_refusals buffer) (refused_with buffer) _ (λ r. r.code) (λ k. refl) refl

pub fresh_refusal : (buffer : List ℕ) → ((fresh_reply buffer).code ≡ 0 → ⊥) → fresh_reply buffer ≡ refused_with buffer (fresh_reply buffer).code
unfolding fresh_reply
fresh_refusal buffer = outcome_refused (fresh_refusals buffer) (refused_with buffer) _ (λ r. r.code) (λ k. refl) refl

-- ---- the shape of a store

-- a fresh store is of the right shape, and holds nothing
pub fresh_holds : Holds fresh_store []
fresh_holds = rw (fresh_holds_nothing 256) at (own fresh_store fresh_ok)

-- a store of the right shape stays so
pub shape_stays : (store : List ℕ) (c : Call) → store_ok store ≡ true → store_ok (after bytes store c) ≡ true
shape_stays store c ok = (after_holds store (saved_of store) (own store ok) c).shape

-- a version more writes one place: every other stays
pub others_stay : (store : List ℕ) (e : Saved) (i : ℕ) → i < 256 → (i ≡ free_place store → ⊥) → place i (with_saved e store) ≡ place i store
others_stay store e i h d = part_other 256 40 (free_place store) i _ store h d

-- ---- making room

module _ (store list : List ℕ) where
  -- the next number of a table stays, whether it is done or refused
  pub keep_next : (table : ℕ) → next bytes (keep_reply bytes store list).state table ≡ next bytes store table
  keep_next table = ap (λ (n : ℕ). n + 1) (newest_stays store list table)

  module _ (done : (keep_reply bytes store list).code ≡ 0) where
    -- what is found then is what is kept: the newest of each table and what is listed
    pub keep_found : (table version : ℕ) → found table version (saved_of (keep_reply bytes store list).state) ≡ cond (is_kept list (saved_of store) table version) (found table version (saved_of store)) None
    keep_found = found_kept store list done

    -- the value is the number of versions gone
    pub keep_value : (keep_reply bytes store list).value + length (saved_of (keep_reply bytes store list).state) ≡ length (saved_of store)
    keep_value = value_gone store list done

    -- a place that is freed is as in a fresh store, and every other stays
    pub keep_place : (i : ℕ) → i < 256 → place i (keep_reply bytes store list).state ≡ cond (is_freed (is_kept list (saved_of store)) (place i store)) free_part (place i store)
    keep_place = place_kept store list done

-- ---- any sequence of calls

-- from a fresh store on, the store holds exactly what the calls put in and kept
pub history : (cs : List Call) → Holds (after_all bytes fresh_store cs) (after_all listed [] cs)
history cs = all_hold fresh_store [] fresh_holds cs

-- and each further call has the answer that the list gives
module _ (cs : List Call) where
  abbrev store : List ℕ
  store = after_all bytes fresh_store cs

  abbrev list : List Saved
  list = after_all listed [] cs

  pub save_answer : (table : ℕ) (text : List ℕ) → ((save_reply bytes store table text).code ≡ (save_reply listed list table text).code) × ((save_reply bytes store table text).value ≡ (save_reply listed list table text).value)
  save_answer table text = let a = save_agree store list (history cs) table text in (a.same_code, a.same_value)

  pub return_answer : (table version : ℕ) → ((return_reply bytes store table version).code ≡ (return_reply listed list table version).code) × ((return_reply bytes store table version).value ≡ (return_reply listed list table version).value)
  return_answer table version = let a = return_agree store list (history cs) table version in (a.same_code, a.same_value)

  pub read_answer : (table version : ℕ) (buffer : List ℕ) → read_reply bytes store table version buffer ≡ read_reply listed list table version buffer
  read_answer table version buffer = read_same store list (history cs) table version buffer

  pub keep_answer : (named : List ℕ) → ((keep_reply bytes store named).code ≡ (keep_reply listed list named).code) × ((keep_reply bytes store named).value ≡ (keep_reply listed list named).value)
  keep_answer named = let a = keep_agree store list (history cs) named in (a.same_code, a.same_value)

-- what the list held is there as it was where all calls keep it, and what it gains has higher numbers
pub list_follows : (l : List Saved) (cs : List Call) → Follows (kept_by_all listed l cs) l (after_all listed l cs)
list_follows = all_follow

-- no version is held twice
pub held_once : (cs : List Call) (table version : ℕ) → many (is_version table version) (saved_of (after_all bytes fresh_store cs)) ≤ 1
unfolding many
held_once cs table version = rw ((history cs).versions.same_many (is_version table version)) (all_once [] cs table version (omega arith))

-- ---- in any store of the right shape

module _ (store : List ℕ) (ok : store_ok store ≡ true) (table : ℕ) where
  -- the numbers that saves and returns give to a table are those behind its newest, each once and in order
  pub numbers_in_order : (cs : List Call) → InOrder (newest table (saved_of store)) (newest table (saved_of (after_all bytes store cs))) (given bytes table store cs)
  numbers_in_order cs = rw (all_given table store (saved_of store) (own store ok) cs, (all_hold store (saved_of store) (own store ok) cs).versions.same_newest table) (all_numbered table (saved_of store) cs)

  -- a version that is held stays so exactly while each call keeps it
  pub held_while : (version : ℕ) (cs : List Call) → is_held table version (saved_of store) ≡ true → is_held table version (saved_of (after_all bytes store cs)) ≡ kept_by_all bytes store cs table version
  held_while version cs old = held_same store (saved_of store) (own store ok) table version cs old

  -- what a save took in is read back, byte by byte, whatever calls come between, if they keep it
  pub saved_read : (text : List ℕ) (cs : List Call) (buffer : List ℕ) → (save_reply bytes store table text).code ≡ 0 → length text ≤ length buffer
      → kept_by_all bytes (save_reply bytes store table text).state cs table (save_reply bytes store table text).value ≡ true
      → read_reply bytes (after_all bytes store (Save table text ∷ cs)) table (save_reply bytes store table text).value buffer ≡ done_with (length text) (text ++ drop (length text) buffer)
  unfolding after_all
  saved_read text cs buffer z k kept = saved_text store (saved_of store) (own store ok) table text cs buffer z k kept

  -- the version that a return made reads as the one that it went back to
  pub returned_read : (version : ℕ) (cs : List Call) (buffer : List ℕ) → (return_reply bytes store table version).code ≡ 0
      → kept_by_all bytes (return_reply bytes store table version).state cs table (return_reply bytes store table version).value ≡ true
      → read_reply bytes (after_all bytes store (Return table version ∷ cs)) table (return_reply bytes store table version).value buffer ≡ read_reply bytes store table version buffer
  unfolding after_all
  returned_read version cs buffer z kept = returned_same store (saved_of store) (own store ok) table version cs buffer z kept

  -- a version that was held and is kept reads the same
  pub kept_read : (version : ℕ) (cs : List Call) (buffer : List ℕ) → is_held table version (saved_of store) ≡ true → kept_by_all bytes store cs table version ≡ true
      → read_reply bytes (after_all bytes store cs) table version buffer ≡ read_reply bytes store table version buffer
  kept_read version cs buffer old kept = kept_same store (saved_of store) (own store ok) table version cs buffer old kept

  -- a version that is freed is never read or gone back to again
  pub freed_read : (version : ℕ) (list : List ℕ) (cs : List Call) (buffer : List ℕ) → (keep_reply bytes store list).code ≡ 0 → is_held table version (saved_of store) ≡ true → is_kept list (saved_of store) table version ≡ false
      → read_reply bytes (after_all bytes store (Keep list ∷ cs)) table version buffer ≡ refused_with buffer 11
  unfolding after_all
  freed_read version list cs buffer z held freed =
      read_missing bytes _ table version buffer (all_hold store (saved_of store) (own store ok) (Keep list ∷ cs)).shape (freed_same store ok table version list cs z held freed)

  pub freed_return : (version : ℕ) (list : List ℕ) (cs : List Call) → (keep_reply bytes store list).code ≡ 0 → is_held table version (saved_of store) ≡ true → is_kept list (saved_of store) table version ≡ false
      → next bytes (after_all bytes store (Keep list ∷ cs)) table ≤ 2 ^ 48 → return_reply bytes (after_all bytes store (Keep list ∷ cs)) table version ≡ refused_with (after_all bytes store (Keep list ∷ cs)) 11
  unfolding after_all
  freed_return version list cs z held freed few =
      return_missing bytes _ table version (all_hold store (saved_of store) (own store ok) (Keep list ∷ cs)).shape few (freed_same store ok table version list cs z held freed)

-- from a fresh store on the numbers are 1, 2, 3, ..
pub versions_in_order : (cs : List Call) (table : ℕ) → given bytes table fresh_store cs ≡ tabulate (newest table (saved_of (after_all bytes fresh_store cs))) (λ i. i + 1)
unfolding newest
versions_in_order cs table =
    rw (all_given table fresh_store [] fresh_holds cs, (history cs).versions.same_newest table) (from_one (all_numbered table [] cs))
