-- A line of fields: what is read is what is written, and what is written is read back. And a loop that reads them one by one.
use Rattle.std.specs.Prelude.{ℕ, suc, Bool, true, false, ◌+◌, ◌<◌, ◌≤◌, ◌≡◌, refl, Option, None, Some, cond, List, [], ◌∷◌, ◌++◌, length, take, drop, get_or, set}
use Rattle.std.specs.Option.{option_map}
use Rattle.std.specs.Bool.{then_some}
use Rattle.std.proofs.Common.{ap, sym, add-one, append_assoc, append-nil, drop-cons, drop_of_length-le, take_all}
use Rattle.std.proofs.Math.Seq.{take-suc-set}
use Rattle.std.proofs.lemmas.Option.{cond_some, none-some, same_Some}
use Rattle.text.specs.Text.{decimal, Short}
use Rattle.text.specs.Read.{Rest, rest, number_in, is_end, field_of}
use Rattle.text.specs.laws.Decimal.{Stops}
use Rattle.text.specs.laws.Read.{end_sound, field_sound, field_read}
use Rattle.script.specs.Parser.{fields_of}

-- the line of the numbers ns, from the i-th on, each behind its key
abbrev pub line_from : ℕ → List (List ℕ) → List ℕ → List ℕ
line_from i [] ns = []
line_from i (k ∷ ks) ns = k ++ (decimal (get_or ns i 0) ++ line_from (suc i) ks ns)

-- each of them is one that a line can hold
abbrev pub AllShort : ℕ → List (List ℕ) → List ℕ → Type 0
AllShort i [] ns = Unit {0}
AllShort i (k ∷ []) ns = Short (get_or ns i 0)
AllShort i (k ∷ q ∷ ks) ns = Short (get_or ns i 0) × AllShort (suc i) (q ∷ ks) ns

-- no key goes on the number before it
abbrev pub Apart : ℕ → List (List ℕ) → List ℕ → Type 0
Apart i [] ns = Unit {0}
Apart i (k ∷ ks) ns = Stops (line_from (suc i) ks ns) × Apart (suc i) ks ns

line_behind : (i n : ℕ) (ks : List (List ℕ)) (ns : List ℕ) → line_from (suc i) ks (n ∷ ns) ≡ line_from i ks ns
line_behind i n [] ns = refl
line_behind i n (k ∷ ks) ns = ap (λ (l : List ℕ). k ++ (decimal (get_or ns i 0) ++ l)) (line_behind (suc i) n ks ns)

short_behind : (i n : ℕ) (ks : List (List ℕ)) (ns : List ℕ) → AllShort i ks ns → AllShort (suc i) ks (n ∷ ns)
short_behind i n [] ns h = tt
short_behind i n (k ∷ []) ns h = h
short_behind i n (k ∷ q ∷ ks) ns h = (h.0, short_behind (suc i) n (q ∷ ks) ns h.1)

short_more : (k : List ℕ) (ks : List (List ℕ)) (n : ℕ) (ns : List ℕ) → Short n → AllShort 0 ks ns → AllShort 0 (k ∷ ks) (n ∷ ns)
short_more k [] n ns s h = s
short_more k (q ∷ ks) n ns s h = (s, short_behind 0 n (q ∷ ks) ns h)

sound_more : (k : List ℕ) (ks : List (List ℕ)) (s : Option Rest) (o : Option (List ℕ)) → ((ms : List ℕ) → o ≡ Some ms → (field_of k s ≡ Some (rest (line_from 0 ks ms) (number_in (field_of k s)))) × AllShort 0 ks ms) → (ns : List ℕ) → option_map (λ ms. number_in (field_of k s) ∷ ms) o ≡ Some ns
    → (s ≡ Some (rest (line_from 0 (k ∷ ks) ns) (number_in s))) × AllShort 0 (k ∷ ks) ns
sound_more k ks s None h ns e = absurd (none-some ns e)
sound_more k ks s (Some ms) h ns e =
    let behind = h ms refl in
    let here = field_sound k s behind.0 in
    let n = number_in (field_of k s) in
    let is : n ∷ ms ≡ ns = same_Some _ _ e in
    rw (← is, line_behind 0 n ks ms) (here.0, short_more k ks n ms here.1 behind.1)

fields_sound : (ks : List (List ℕ)) (s : Option Rest) (ns : List ℕ) → fields_of ks s ≡ Some ns → (s ≡ Some (rest (line_from 0 ks ns) (number_in s))) × AllShort 0 ks ns
unfolding fields_of
fields_sound [] s ns e = (end_sound s (cond_some (is_end s) [] ns e).0, tt)
fields_sound (k ∷ ks) s ns e = sound_more k ks s (fields_of ks (field_of k s)) (λ ms q. fields_sound ks (field_of k s) ms q) ns e

-- a whole line
pub ended : (ks : List (List ℕ)) (l ns : List ℕ) → fields_of ks (Some (rest l 0)) ≡ Some ns → (l ≡ line_from 0 ks ns) × AllShort 0 ks ns
ended ks l ns e = let h = fields_sound ks (Some (rest l 0)) ns e in let q = h.0 in (cc, h.1)

-- the i-th number and those behind it, one for each key
abbrev pub numbers_from : ℕ → List (List ℕ) → List ℕ → List ℕ
numbers_from i [] ns = []
numbers_from i (k ∷ ks) ns = get_or ns i 0 ∷ numbers_from (suc i) ks ns

short_here : (i : ℕ) (k : List ℕ) (ks : List (List ℕ)) (ns : List ℕ) → AllShort i (k ∷ ks) ns → Short (get_or ns i 0) × AllShort (suc i) ks ns
short_here i k [] ns h = (h, tt)
short_here i k (q ∷ ks) ns h = h

pub fields_read : (i : ℕ) (ks : List (List ℕ)) (ns : List ℕ) (m : ℕ) → AllShort i ks ns → Apart i ks ns → fields_of ks (Some (rest (line_from i ks ns) m)) ≡ Some (numbers_from i ks ns)
unfolding fields_of
fields_read i [] ns m h a = refl
fields_read i (k ∷ ks) ns m h a =
    let short = short_here i k ks ns h in
    rw (field_read k (get_or ns i 0) (line_from (suc i) ks ns) m short.0 a.0, fields_read (suc i) ks ns (get_or ns i 0) short.1 a.1)

-- ---- the loop

mapped : {A B C : Type 0} (f : B → C) (g : A → B) (h : A → C) → ((x : A) → f (g x) ≡ h x) → (o : Option A) → option_map f (option_map g o) ≡ option_map h o
mapped f g h e None = refl
mapped f g h e (Some x) = ap Some (e x)

-- what the numbers so far, and those of the fields behind them, come to
abbrev pub ahead : List (List ℕ) → List ℕ → ℕ → Option Rest → Option (List ℕ)
ahead ks ns i s = option_map (λ ms. take i ns ++ ms) (fields_of (drop i ks) s)

pub fields_more : (ks : List (List ℕ)) (ns : List ℕ) (i n : ℕ) (k : List ℕ) (s f : Option Rest) → i < length ks → i < length ns → get_or ks i [] ≡ k → f ≡ field_of k s → n ≡ number_in f → ahead ks (set ns i n) (i + 1) f ≡ ahead ks ns i s
unfolding fields_of
fields_more ks ns i n k s f h g q p e =
    let join : (ms : List ℕ) → take i ns ++ (number_in f ∷ ms) ≡ take (suc i) (set ns i n) ++ ms = λ ms. rw (take-suc-set ns i n g, append_assoc, e) in
    rw (drop-cons ks i [] h, add-one i, q, ← p) (sym (mapped _ _ _ join (fields_of (drop (suc i) ks) f)))

pub fields_done : (ks : List (List ℕ)) (ns : List ℕ) (i : ℕ) (s : Option Rest) → length ks ≤ i → length ns ≤ i → then_some (is_end s) ns ≡ ahead ks ns i s
unfolding fields_of
fields_done ks ns i s h g = rw (drop_of_length-le ks h, take_all i ns g) (whole (is_end s))
  where
    whole : (b : Bool) → then_some b ns ≡ option_map (λ ms. ns ++ ms) (cond b (Some []) None)
    whole true = ap Some (sym (append-nil ns))
    whole false = refl
