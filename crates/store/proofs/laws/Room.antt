-- Making room: what it leaves in each place, what is found then, and the number of versions gone.
use Rattle.std.specs.Prelude.{ℕ, ◌+◌, ◌<◌, ◌≡◌, refl, Bool, cond, List, eqb, length, None}
use Rattle.std.proofs.Common.{sym, ◌∙◌, arith, eqb-true}
use Rattle.std.proofs.lemmas.Bool.{eqb-false}
use Rattle.basics.specs.laws.Logic.{tested, holds, fails}
use Rattle.refusals.specs.Refusals.{code_of}
use Rattle.refusals.specs.laws.Outcome.{outcome_code}
use Rattle.store.specs.Saved.{newest, found, only}
use Rattle.store.specs.Kept.{is_kept, freed_by}
use Rattle.store.specs.Layout.{place, saved_of, is_freed, free_part, with_only}
use Rattle.store.specs.Calls.{bytes, refused_with, done_with, keep_refusals, keep_reply}
use Rattle.store.proofs.laws.Calls.{keep_done, keep_refused}
use Rattle.store.proofs.laws.Kept.{found_only, both_long, kept_newest}
use Rattle.store.proofs.laws.Only.{place_left, left_holds}

module _ (store list : List ℕ) where
  abbrev keeps : ℕ → ℕ → Bool
  keeps = is_kept list (saved_of store)

  only_held : saved_of (with_only keeps store) ≡ only keeps (saved_of store)
  only_held = left_holds keeps store 256 (omega arith)

  -- the newest of each table stays, whether it is done or refused
  pub newest_stays : (table : ℕ) → newest table (saved_of (keep_reply bytes store list).state) ≡ newest table (saved_of store)
  newest_stays table =
      elim (tested (eqb (code_of (keep_refusals bytes store list)) 0)) [
        | holds t ↦ rw (keep_done bytes store list (eqb-true _ 0 t), only_held) (kept_newest list table (saved_of store))
        | fails t ↦ rw (keep_refused bytes store list (eqb-false _ 0 t)) refl
      ]

  module _ (z : (keep_reply bytes store list).code ≡ 0) where
    done : keep_reply bytes store list ≡ done_with (freed_by list (saved_of store)) (with_only keeps store)
    unfolding keep_reply
    done = keep_done bytes store list (sym (outcome_code (keep_refusals bytes store list) (refused_with store) _ (λ r. r.code) (λ k. refl) refl) ∙ z)

    pub place_kept : (i : ℕ) → i < 256 → place i (keep_reply bytes store list).state ≡ cond (is_freed keeps (place i store)) free_part (place i store)
    place_kept i h = rw done (place_left keeps store 256 i h (omega arith))

    pub found_kept : (table version : ℕ) → found table version (saved_of (keep_reply bytes store list).state) ≡ cond (keeps table version) (found table version (saved_of store)) None
    found_kept table version = rw (done, only_held) (found_only keeps table version (saved_of store))

    pub value_gone : (keep_reply bytes store list).value + length (saved_of (keep_reply bytes store list).state) ≡ length (saved_of store)
    value_gone = rw (done, only_held) (both_long keeps (saved_of store))
