-- A key and a number: what is written is read back, and what is read is what is written. A line of any fields cites these once for each.
use Rattle.std.specs.Prelude.{ℕ, ◌≡◌, refl, Option, None, Some, true, List, [], ◌∷◌, ◌++◌, eqb}
use Rattle.std.proofs.Common.{ap, arith, eq-eqb, eqb-true}
use Rattle.std.proofs.lemmas.Option.{same_Some}
use Rattle.basics.specs.laws.Logic.{holds, fails, tested}
use Rattle.text.specs.Text.{decimal, Short}
use Rattle.text.specs.Read.{Rest, rest, number_in, is_end, after_key, key_of, number_of, field_of}
use Rattle.text.specs.laws.Decimal.{never, number_sound, Stops, number_read}

after_key_read : (k r : List ℕ) (n : ℕ) → after_key k (k ++ r) n ≡ Some (rest r n)
unfolding after_key
after_key_read [] r n = refl
after_key_read (x ∷ k) r n = rw (eq-eqb x x refl) (after_key_read k r n)

after_key_sound : (k l : List ℕ) (n : ℕ) {r : List ℕ} {m : ℕ} → after_key k l n ≡ Some (rest r m) → rest l n ≡ rest (k ++ r) m
unfolding after_key
after_key_sound [] l n e = same_Some _ _ e
after_key_sound (q ∷ k) [] n e = never e
after_key_sound (q ∷ k) (p ∷ l) n {r} {m} e =
    elim (tested (eqb p q)) [
      | holds t ↦
          let i : rest l n ≡ rest (k ++ r) m = after_key_sound k l n (rw t at e) in
          let u = eqb-true p q t in
          cc
      | fails t ↦ never (rw t at e)
    ]

-- a line that is read to its end
pub end_sound : (s : Option Rest) → is_end s ≡ true → s ≡ Some (rest [] (number_in s))
end_sound (Some (rest [] n)) e = refl
end_sound (Some (rest (x ∷ l) n)) e = absurd (let z : ◌≡◌ {A = ℕ} 0 1 = cc in omega arith)
end_sound None e = absurd (let z : ◌≡◌ {A = ℕ} 0 1 = cc in omega arith)

-- a key alone
pub key_sound : (k : List ℕ) (s : Option Rest) {r : List ℕ} {n : ℕ} → key_of k s ≡ Some (rest r n) → s ≡ Some (rest (k ++ r) n)
unfolding key_of
key_sound k None e = never e
key_sound k (Some (rest l n)) e = ap Some (after_key_sound k l n e)

pub key_read : (k r : List ℕ) (n : ℕ) → key_of k (Some (rest (k ++ r) n)) ≡ Some (rest r n)
unfolding key_of
key_read k r n = after_key_read k r n

-- a key and a number
pub field_sound : (k : List ℕ) (s : Option Rest) {r : List ℕ} {n : ℕ} → field_of k s ≡ Some (rest r n) → (s ≡ Some (rest (k ++ (decimal n ++ r)) (number_in s))) × Short n
unfolding field_of number_of
field_sound k s {r} {n} e = go (key_of k s) refl e
  where
    go : (t : Option Rest) → key_of k s ≡ t → number_of t ≡ Some (rest r n) → (s ≡ Some (rest (k ++ (decimal n ++ r)) (number_in s))) × Short n
    go None q f = never f
    go (Some (rest l m)) q f =
        let i = number_sound l f in
        let h : s ≡ Some (rest (k ++ (decimal n ++ r)) m) = rw i.line at (key_sound k s q) in
        (rw h, i.short)

pub field_read : (k : List ℕ) (n : ℕ) (r : List ℕ) (m : ℕ) → Short n → Stops r → field_of k (Some (rest (k ++ (decimal n ++ r)) m)) ≡ Some (rest r n)
unfolding field_of number_of
field_read k n r m s h = rw (key_read k (decimal n ++ r) m) (number_read n r s h)
