-- Lists of versions, one behind the other, and one version more at any place.
use Rattle.std.specs.Prelude.{ℕ, max, ◌+◌, ◌<◌, ◌≡◌, Bool, true, ◌&&◌, List, [], ◌∷◌, ◌++◌, length, None, Option, Some}
use Rattle.std.specs.Option.{option_or}
use Rattle.std.proofs.Math.Path.{refl, ap}
use Rattle.std.proofs.Common.{sym, ◌∙◌, arith}
use Rattle.std.proofs.Math.Dec.{eqb}
use borrow.Author.Tests.{eqb-true}
use Rattle.basics.specs.laws.Logic.{tested, holds, fails, and_left, and_right}
use Rattle.setting.specs.declared.Setting.{Setting}
use Rattle.store.specs.Saved.{Saved, newest, is_version, found}
use Rattle.store.specs.History.{many, Alike}

pub found_both : (table version : ℕ) (l m : List Saved) → found table version (l ++ m) ≡ option_or (found table version l) (found table version m)
unfolding found
found_both table version [] m = refl
found_both table version (e ∷ l) m =
    elim (tested (eqb e.table table && eqb e.version version)) [
      | holds t ↦ rw t refl
      | fails t ↦ rw t (found_both table version l m)
    ]

pub newest_both : (table : ℕ) (l m : List Saved) → newest table (l ++ m) ≡ max (newest table l) (newest table m)
unfolding newest
newest_both table [] m = omega arith
newest_both table (e ∷ l) m = omega (arith, newest_both table l m)

pub many_both : (p : Saved → Bool) (l m : List Saved) → many p (l ++ m) ≡ many p l + many p m
unfolding many
many_both p [] m = omega arith
many_both p (e ∷ l) m = omega (arith, many_both p l m)

many_all : (l : List Saved) → many (λ e. true) l ≡ length l
unfolding many
many_all [] = refl
many_all (e ∷ l) = omega (arith, many_all l)

-- no version above the newest is there
pub above_newest : (table version : ℕ) (l : List Saved) → newest table l < version → found table version l ≡ None
unfolding found newest
above_newest table version [] h = refl
above_newest table version (e ∷ l) h =
    elim (tested (eqb e.table table && eqb e.version version)) [
      | holds t ↦
          let own = and_left (eqb e.table table) (eqb e.version version) t in
          let same = eqb-true e.version version (and_right (eqb e.table table) (eqb e.version version) t) in
          absurd (omega (arith, same, rw own at h))
      | fails t ↦ rw t (above_newest table version l (omega (arith, h)))
    ]

-- ---- one version more

-- m is l with one version more, at some place
pub record Inserted (e : Saved) (l m : List Saved) : Type 0 where
  pub before : List Saved
  pub behind : List Saved
  pub old : l ≡ before ++ behind
  pub new : m ≡ before ++ e ∷ behind

pub or_nothing : (f : Option Setting) → option_or f None ≡ f
or_nothing None = refl
or_nothing (Some s) = refl

pub never : {s : Setting} {A : Type 0} → None ≡ Some s → A
never e = absurd (let z : ◌≡◌ {A = ℕ} 0 1 = cc in omega arith)

pub just_inj : {s t : Setting} → Some s ≡ Some t → s ≡ t
just_inj e = cc

-- what is not found is not there at all
pub none_found : (table version : ℕ) (l : List Saved) → found table version l ≡ None → many (is_version table version) l ≡ 0
unfolding many found
none_found table version [] f = refl
none_found table version (e ∷ l) f =
    elim (tested (is_version table version e)) [
      | holds t ↦ never (sym (rw t at f))
      | fails t ↦ rw t (omega (arith, none_found table version l (rw t at f)))
    ]

-- a version above the newest of its table may stand anywhere
module _ (e : Saved) (l m : List Saved) (i : Inserted e l m) (higher : newest e.table l < e.version) where
  module _ (table version : ℕ) where
    abbrev here : List Saved → Option Setting
    here k = found table version k

    -- where it stands behind, e is another version
    behind_other : (s : Setting) → here i.before ≡ None → here i.behind ≡ Some s → here (e ∷ []) ≡ None
    unfolding found
    behind_other s p q =
        elim (tested (eqb e.table table && eqb e.version version)) [
          | holds t ↦
              let own = eqb-true e.table table (and_left (eqb e.table table) (eqb e.version version) t) in
              let same = eqb-true e.version version (and_right (eqb e.table table) (eqb e.version version) t) in
              let none : here l ≡ None = above_newest table version l (rw (own, same) at higher) in
              let there : here l ≡ Some s = ap here i.old ∙ found_both table version i.before i.behind ∙ rw (p, q) refl in
              never (sym none ∙ there)
          | fails t ↦ rw t refl
        ]

    in_order : (f g : Option Setting) → here i.before ≡ f → here i.behind ≡ g → option_or f (option_or (here (e ∷ [])) g) ≡ option_or (option_or f g) (here (e ∷ []))
    in_order (Some s) g p q = refl
    in_order None None p q = or_nothing (here (e ∷ []))
    in_order None (Some s) p q = rw (behind_other s p q) refl

    found_inserted : here m ≡ here (l ++ e ∷ [])
    found_inserted =
        ap here i.new
        ∙ found_both table version i.before (e ∷ i.behind)
        ∙ ap (option_or (here i.before)) (found_both table version (e ∷ []) i.behind)
        ∙ in_order (here i.before) (here i.behind) refl refl
        ∙ ap (λ (f : Option Setting). option_or f (here (e ∷ []))) (sym (ap here i.old ∙ found_both table version i.before i.behind))
        ∙ sym (found_both table version l (e ∷ []))

  newest_inserted : (table : ℕ) → newest table m ≡ newest table (l ++ e ∷ [])
  newest_inserted table =
      let b = newest_both table i.before (e ∷ i.behind) in
      let o = newest_both table (e ∷ []) i.behind in
      let c = newest_both table i.before i.behind in
      let d = newest_both table l (e ∷ []) in
      rw i.new (omega (arith, b, o, d, rw (← i.old) at c))

  many_inserted : (p : Saved → Bool) → many p m ≡ many p (l ++ e ∷ [])
  many_inserted p =
      let b = many_both p i.before (e ∷ i.behind) in
      let o = many_both p (e ∷ []) i.behind in
      let c = many_both p i.before i.behind in
      let d = many_both p l (e ∷ []) in
      rw i.new (omega (arith, b, o, d, rw (← i.old) at c))

  pub inserted_alike : Alike m (l ++ e ∷ [])
  inserted_alike =
      record {
        same_found = found_inserted;
        same_newest = newest_inserted;
        same_many = many_inserted;
      }

-- ---- lists that hold the same

pub alike_trans : {k l m : List Saved} → Alike k l → Alike l m → Alike k m
alike_trans a b =
    record {
      same_found = λ t v. a.same_found t v ∙ b.same_found t v;
      same_newest = λ t. a.same_newest t ∙ b.same_newest t;
      same_many = λ p. a.same_many p ∙ b.same_many p;
    }

pub alike_more : (e : Saved) {l m : List Saved} → Alike l m → Alike (l ++ e ∷ []) (m ++ e ∷ [])
alike_more e {l} {m} a =
    record {
      same_found = λ t v. found_both t v l (e ∷ []) ∙ ap (λ (f : Option Setting). option_or f (found t v (e ∷ []))) (a.same_found t v) ∙ sym (found_both t v m (e ∷ []));
      same_newest = λ t. omega (arith, newest_both t l (e ∷ []), newest_both t m (e ∷ []), a.same_newest t);
      same_many = λ p. omega (arith, many_both p l (e ∷ []), many_both p m (e ∷ []), a.same_many p);
    }

pub alike_long : {l m : List Saved} → Alike l m → length l ≡ length m
alike_long {l} {m} a = sym (many_all l) ∙ a.same_many (λ e. true) ∙ many_all m
