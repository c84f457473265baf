-- A stamped line: what is read as an entry is its line, how long that is, and how it is read.
use Rattle.std.specs.Prelude.{Option, Some, None, ℕ, ◌^◌, ◌<◌, ◌≤◌, ◌≡◌, refl, List, [], ltb, length, drop}
use Rattle.std.proofs.Common.{ap, arith, length-append, drop_of_length-le, ltb-true}
use Rattle.std.proofs.lemmas.Option.{same_Some}
use Rattle.basics.specs.laws.Logic.{holds, fails, tested}
use Rattle.text.specs.Text.{text}
use Rattle.text.specs.Read.{Rest, rest, number_in, after_key, key_of, number_of, field_of}
use Rattle.text.specs.laws.Decimal.{short}
use Rattle.text.specs.laws.Read.{key_sound, field_sound}
use Rattle.bus.specs.declared.Event.{Event}
use Rattle.replay.specs.declared.Entry.{Entry}
use Rattle.replay.specs.Replay.{stamped}
use Rattle.script.specs.EventLine.{line_of, InRange, stamped_line, StampedInRange}
use Rattle.script.specs.Parser.{fields_of, parsed, stamp_of, request_in, entry_by}
use Rattle.script.specs.laws.Parser.{line_length}

module _ (l : List ℕ) (at : ℕ) (e : Event) where
  clash : {A : Type 0} → None ≡ stamped at e → A
  clash q = absurd (let z : ◌≡◌ {A = ℕ} 0 1 = cc in omega arith)

  by_request : (n : ℕ) (p : Option Event) → entry_by n p ≡ stamped at e → (p ≡ Some e) × (n ≡ at) × (at < 2 ^ 32)
  by_request n None f = clash f
  by_request n (Some x) f =
      elim (tested (ltb n (2 ^ 32))) [
        | holds t ↦
            let s : record { at = n; event = x } ≡ record { at = at; event = e } = same_Some _ _ (rw t at f) in
            let m : n ≡ at = ap (λ (r : Entry). r.at) s in
            (ap Some (ap (λ (r : Entry). r.event) s), m, rw m at (ltb-true n (2 ^ 32) t))
        | fails t ↦ clash (rw t at f)
      ]

  -- given what is parsed as an event
  pub entry_sound : (s : Option Rest) → stamp_of l ≡ s → entry_by (number_in s) (request_in s) ≡ stamped at e → ((r : List ℕ) (x : Event) → parsed r ≡ Some x → (r ≡ line_of x) × InRange x) → (l ≡ stamped_line at e) × StampedInRange at e
  entry_sound None q f line = clash f
  entry_sound (Some (rest r n)) q f line =
      let b = by_request n (parsed r) f in
      let p = line r e b.0 in
      let k = (field_sound (text "at=") _ (key_sound (text " ") _ q)).0 in
      let u = p.0 in
      let m = b.1 in
      (cc, (b.2, p.1))

pub stamped_length : (at : ℕ) (e : Event) → StampedInRange at e → length (stamped_line at e) ≤ 87
stamped_length at e h = simp length-append (omega (arith, short at (omega arith), line_length e h.1))

-- ---- the rest of a line

no_line : parsed [] ≡ None
unfolding parsed fields_of field_of key_of number_of after_key
no_line = refl

pub nothing_left : (l : List ℕ) (at : ℕ) → length l ≤ at → parsed (drop at l) ≡ None
nothing_left l at h = rw (drop_of_length-le l h, no_line)
