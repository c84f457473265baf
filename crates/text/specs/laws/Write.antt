-- Laws of writing into a lent buffer: its length stays, and one text after the other is both.
use Rattle.std.specs.Prelude.{ℕ, ◌+◌, ◌≤◌, ◌≡◌, List, [], ◌++◌, length, take, drop}
use Rattle.std.proofs.Common.{sym, ap, ◌∙◌, append_assoc, append-nil, add-zero, arith, length-append, length-take, length-drop, take-append-drop, drop_of_length-le, take_at, drop_at, drop-drop, length-take-le}
use Rattle.std.proofs.Math.Seq.{take-append_seam}
use Rattle.text.specs.Write.{Written}

pub write_length : (old s new : List ℕ) (at r : ℕ) → Written old at s new r → length new ≡ length old
write_length old s new at r p =
    ap length p.text ∙ simp (length-append, length-take, length-drop) (omega (arith, p.room))

-- nothing is written yet
pub write_none : (old : List ℕ) (at : ℕ) → at ≤ length old → Written old at [] old at
write_none old at h =
    record { room = omega arith; text = rw (add-zero at) (sym (take-append-drop at old)); stop = sym (add-zero at) }

-- what is written at the start
pub written_first : {old s new : List ℕ} {r : ℕ} → Written old 0 s new r → take r new ≡ s
written_first {old} {s} {new} {r} w = let e : r ≡ length s = omega (arith, w.stop) in rw (w.text, e) (take-append_seam s _)

pub first_long : {old s new : List ℕ} {r : ℕ} → Written old 0 s new r → r ≡ length (take r new)
first_long {old} {s} {new} {r} w = let e : r ≡ length s = omega (arith, w.stop) in e ∙ ap length (sym (written_first w))

-- what fills the buffer
pub written_all : {old s new : List ℕ} {r : ℕ} → Written old 0 s new r → length s ≡ length old → new ≡ s
written_all {old} {s} {new} {r} w e = w.text ∙ rw (drop_of_length-le old {i = 0 + length s} (omega arith), append-nil)

-- one after the other
pub then : {old s mid t new : List ℕ} {at r q : ℕ} → Written old at s mid r → Written mid r t new q → Written old at (s ++ t) new q
then {old} {s} {mid} {t} {new} {at} {r} {q} a b =
    let h = a.room in
    let p = take at old ++ s in
    let lp : length p ≡ r = length-append (take at old) s ∙ rw (length-take-le at old (omega arith), a.stop) in
    let m : mid ≡ p ++ drop (at + length s) old = a.text ∙ sym (append_assoc (take at old) s _) in
    let u : take r mid ≡ p = rw m (take_at p _ r lp) in
    let v : drop (r + length t) mid ≡ drop (at + length s + length t) old =
    sym (drop-drop (length t) r mid) ∙ ap (drop (length t)) (rw m (drop_at p _ r lp)) ∙ drop-drop (length t) (at + length s) old in
    let w : at + length (s ++ t) ≡ at + length s + length t = rw (length-append) (omega arith) in
    record {
      room = rw w (omega (arith, b.room, a.stop, write_length old s mid at r a));
      text = b.text ∙ rw (u, v, w, append_assoc, append_assoc);
      stop = b.stop ∙ rw (a.stop, w);
    }
