-- Laws of a stream: what its state and the bytes kept stand for, turn by turn.
use Prim.Native.Nat.{ℕ, suc, ◌+◌, ◌-◌, ◌*◌, ◌^◌, ◌≤◌, ◌<◌}
use mathlib.Core.Path.{◌≡◌, refl, sym, ap, ◌∙◌}
use mathlib.Core.Bool.{Bool, true, false, cond}
use mathlib.Core.List.{List, [], ◌∷◌, ◌++◌, append_assoc, append-nil}
use mathlib.Core.Logic.{inl, inr}
use native.Mathlib.Omega.{arith}
use lib.ListN.{length, take, drop, set, length-append, length-take, length-drop}
use lib.Seq.{take-add, length-take-le, take-suc-set}
use borrow.Author.Tests.{ltb-true, ltb-false}
use Rattle.std.proofs.lemmas.Bool.{false≢true}
use Rattle.basics.specs.laws.Logic.{holds, fails, tested, and_left, and_right}
use Rattle.text.specs.Lines.{lines_of, end_of}
use Rattle.text.specs.Run.{after, answers}
use Rattle.text.specs.Stream.{StandsFor}
use Rattle.text.specs.laws.Lines.{begun_take}
use Rattle.text.specs.laws.Run.{answered_room}
use Rattle.text.specs.laws.Stream.{stands_none, stands_more, stands_ended, stands_kept, last_answered}
use Rattle.script.specs.Promises.{answer_room, long_alike}
use Rattle.script.specs.Twin.{twin}
use Rattle.script.specs.declared.twin.State.{State}
use Rattle.stream.specs.Input.{Receives}
use Rattle.stream.specs.Stream.{status_of, Holds, Unfinished, Goes, Turns, begun}
use Rattle.stream.specs.Steps.{Drains, Kept, Feeds, Finishes, Waits, Ends, goes_on, is_open}
use Rattle.stream.specs.declared.input.Input.{Input}
use Rattle.stream.specs.declared.output.Output.{Output}
use Rattle.stream.specs.declared.buffers.Drained.{Drained}
use Rattle.stream.specs.declared.buffers.Stream.{Stream}
use Rattle.stream.specs.declared.input.Status.{Status}
use Rattle.stream.specs.declared.input.Status.TheVariants.{Open, Ended, Failed}
use Rattle.stream.proofs.Lines.{take_min, drop-take}

-- ---- the status after some lines

-- a write that failed is told by the status
holds_by : (b : Bool) (status now : Status) (first : State) (text written : List ℕ) (r : Stream) (kept : List ℕ) → now ≡ cond b Failed status → r.output.failed ≡ b
    → (b ≡ false → Holds status first text written r kept) → Holds now first text written r kept
holds_by true status now first text written r kept q e f = rw q (inr e)
holds_by false status now first text written r kept q e f = rw q (f refl)

holds_if : (status : Status) (first : State) (text written : List ℕ) (r : Stream) (kept : List ℕ) → r.input.status ≡ status
    → (r.output.failed ≡ false → Holds status first text written r kept) → Holds (status_of r) first text written r kept
holds_if status first text written r kept q = holds_by r.output.failed status (status_of r) first text written r kept (ap (cond r.output.failed Failed) q) refl

was_open : (b : Bool) (status : Status) → cond b Failed status ≡ Open → (b ≡ false) × (status ≡ Open)
was_open true status e = absurd (let z : ◌≡◌ {A = ℕ} 0 1 = cc in omega arith)
was_open false status e = (refl, e)

not_ended : (b : Bool) → cond b Failed Open ≡ Ended → ⊥
not_ended true e = let z : ◌≡◌ {A = ℕ} 0 1 = cc in omega arith
not_ended false e = let z : ◌≡◌ {A = ℕ} 0 1 = cc in omega arith

never_open : (b : Bool) → cond b Failed Failed ≡ Open → ⊥
never_open true e = let z : ◌≡◌ {A = ℕ} 0 1 = cc in omega arith
never_open false e = let z : ◌≡◌ {A = ℕ} 0 1 = cc in omega arith

not_open : (b : Bool) → cond b Failed Ended ≡ Open → ⊥
not_open true e = let z : ◌≡◌ {A = ℕ} 0 1 = cc in omega arith
not_open false e = let z : ◌≡◌ {A = ℕ} 0 1 = cc in omega arith

-- ---- bytes more

module _ (o : Output) (old new : List ℕ) (end : ℕ) (d : Drained) (r : ℕ) (h : end ≤ length old) (a : Drains o (take end old) d) (k : Kept old d.read end new r) (f : d.output.failed ≡ false) where
  rest : List ℕ
  rest = drop d.read (take end old)

  rest_is : rest ≡ take (end - d.read) (drop d.read old)
  unfolding rest
  rest_is = drop-take d.read end old

  kept_is : take r new ≡ take 95 rest
  kept_is =
      k.text ∙ ap (λ (n : ℕ). take n (drop d.read old)) k.count ∙ take_min 95 (end - d.read) (drop d.read old) ∙ ap (take 95) (sym rest_is)

  begun_rest : length rest ≤ end_of rest
  unfolding rest
  begun_rest = rw length-drop (omega (arith, a.stop f))

  kept_begun : r ≤ end_of (take r new)
  kept_begun =
      let e : end_of (take r new) ≡ length (take 95 rest) = rw kept_is (begun_take 95 rest begun_rest) in
      let n : length rest ≡ end - d.read = rw (rest_is, length-take, length-drop) (omega arith) in
      rw (e, length-take) (omega (arith, k.count))

  kept_stands : StandsFor twin o.state (take end old) a.done.written d.output.state (take r new)
  unfolding rest
  kept_stands = rw kept_is (stands_kept twin 94 long_alike a.done.reached (a.stop f))

pub fed : (s : Stream) (input : Input) (old new part : List ℕ) (d : Drained) (have more : ℕ) → more ≡ input.read - s.input.read → s.input.read ≤ input.read → input.status ≡ Open → s.have + more ≤ length old
    → part ≡ take (s.have + more) old → Drains s.output part d → Kept old d.read (s.have + more) new have
    → Feeds s (input.read - s.input.read) old (record { have = have; input = input; output = d.output }) new
fed s input old new part d have more m g o h e a k =
    let end = s.have + more in
    let b : Drains s.output (take end old) d = rw e at a in
    let r : Stream = record { have = have; input = input; output = d.output } in
    rw (← m) (record {
      goes = record {
        written = b.done.written;
        read_is = omega arith;
        sent_is = b.done.sent_is;
        holds = holds_if Open s.output.state _ _ r _ o (kept_stands s.output old new end d have h b k);
        kept = λ p. record { few = omega (arith, k.count); begun = kept_begun s.output old new end d have h b k (was_open d.output.failed input.status p).0 };
      };
      on = λ p. not_ended d.output.failed (rw o at p);
    })

-- ---- the end of the input

pub finished_none : (s : Stream) (input : Input) (buf : List ℕ) → Ends s input → s.have ≡ 0 → Finishes s buf (record { have = s.have; input = input; output = s.output }) buf
unfolding lines_of after answers
finished_none s input buf g e =
    record {
      goes = record { written = []; read_is = omega (arith, g.none); sent_is = omega arith; holds = holds_if Ended s.output.state _ _ _ _ g.ended (λ f. rw e (record { state_is = refl; written_is = refl }, g.ended)); kept = λ p. absurd (not_open s.output.failed (rw g.ended at p)) };
      over = λ p. not_open s.output.failed (rw g.ended at p);
    }

pub finished : (s : Stream) (input : Input) (buf new part : List ℕ) (d : Drained) → Ends s input → Unfinished s buf → 0 < s.have → s.have < length buf
    → part ≡ take (s.have + 1) (set buf s.have 10) → Drains s.output part d
    → Finishes s buf (record { have = 0; input = input; output = d.output }) new
finished s input buf new part d g u n h e a =
    let have = s.have in
    let last = take have buf in
    let z : have + 1 ≡ suc have = omega arith in
    let i : part ≡ last ++ (10 ∷ []) = e ∙ rw z (take-suc-set buf have 10 h) in
    let l : length last ≡ have = length-take-le have buf (omega arith) in
    let b : Drains s.output (last ++ (10 ∷ [])) d = rw i at a in
    let r : Stream = record { have = 0; input = input; output = d.output } in
    record {
      goes = record {
        written = b.done.written;
        read_is = omega (arith, g.none);
        sent_is = b.done.sent_is;
        holds = holds_if Ended s.output.state _ _ r _ g.ended (λ f. (last_answered twin (omega arith) (omega (arith, u.begun)) b.done.reached (b.stop f), g.ended));
        kept = λ p. absurd (not_open d.output.failed (rw g.ended at p));
      };
      over = λ p. not_open d.output.failed (rw g.ended at p);
    }

-- ---- turn by turn

-- a read goes behind the bytes kept, and leaves them
module _ (s : Stream) (input : Input) (buf mid : List ℕ) (g : Receives s.input s.have buf input mid) (l : length mid ≡ length buf) where
  pub waits_read : Waits s buf → Waits s mid
  waits_read w = record { kept = record { few = w.kept.few; begun = rw g.kept w.kept.begun }; short = w.short; place = w.place }

  turned : (r : Stream) (new : List ℕ) → Goes s (take (s.have + (input.read - s.input.read)) mid) (input.read - s.input.read) r new → Turns s buf r new
  turned r new f =
      let n = input.read - s.input.read in
      let got = take n (drop s.have mid) in
      let z : length got ≡ n = length-take-le n (drop s.have mid) (rw length-drop (omega (arith, g.more, g.room))) in
      let e : take (s.have + n) mid ≡ take s.have buf ++ got = take-add s.have n mid ∙ ap (λ (x : List ℕ). x ++ got) g.kept in
      record { got = got; goes = rw z (rw e at f) }

  pub turn_fed : (r : Stream) (new : List ℕ) → Feeds s (input.read - s.input.read) mid r new → Turns s buf r new
  turn_fed r new f = turned r new f.goes

  pub turn_finished : (r : Stream) (new : List ℕ) → Ends s input → Finishes s mid r new → Turns s buf r new
  turn_finished r new e f =
      let n : input.read - s.input.read ≡ 0 = omega (arith, e.none) in
      let z : s.have + 0 ≡ s.have = omega arith in
      turned r new (rw (n, z) f.goes)

  pub turn_failed : (have : ℕ) (new : List ℕ) → input.status ≡ Failed → Turns s buf (record { have = have; input = input; output = s.output }) new
  turn_failed have new e = turned _ new (record { written = []; read_is = omega (arith, g.more); sent_is = omega arith; holds = holds_if Failed s.output.state _ _ _ _ e (λ f. inl e); kept = λ p. absurd (never_open s.output.failed (rw e at p)) })

pub turned_none : (first : State) (buf : List ℕ) → Turns (begun first) [] (begun first) buf
turned_none first buf =
    record {
      got = [];
      goes = record {
        written = [];
        read_is = refl;
        sent_is = refl;
        holds = stands_none twin first;
        kept = λ q. record { few = omega arith; begun = omega arith };
      };
    }

-- what stands for some bytes, and then more bytes
join : (status : Status) (first mid : State) (r : Stream) (text kept got w v left : List ℕ) → StandsFor twin first text w mid kept → Holds status mid (kept ++ got) v r left → Holds status first (text ++ got) (w ++ v) r left
join Open first mid r text kept got w v left a b = stands_more twin a got b
join Ended first mid r text kept got w v left a b = (stands_ended twin a got b.0, b.1)
join Failed first mid r text kept got w v left a b = b

pub turned_more : {a s r : Stream} {old buf new : List ℕ} → Turns a old s buf → status_of s ≡ Open → Turns s buf r new → Turns a old r new
turned_more {a} {s} {r} {old} {buf} {new} x o y =
    let k = take a.have old in
    let f : StandsFor twin a.output.state (k ++ x.got) x.goes.written s.output.state (take s.have buf) = rw o at x.goes.holds in
    record {
      got = x.got ++ y.got;
      goes = record {
        written = x.goes.written ++ y.goes.written;
        read_is = rw length-append (omega (arith, x.goes.read_is, y.goes.read_is));
        sent_is = rw length-append (omega (arith, x.goes.sent_is, y.goes.sent_is));
        holds = rw (← append_assoc k x.got y.got) (join (status_of r) a.output.state s.output.state r (k ++ x.got) (take s.have buf) y.got x.goes.written y.goes.written (take r.have new) f y.goes.holds);
        kept = y.goes.kept;
      };
    }

-- the answers so far take at most 76 bytes for each byte read
pub turned_place : (first : State) (s : Stream) (buf : List ℕ) → Turns (begun first) [] s buf → status_of s ≡ Open → s.output.sent ≤ 76 * s.input.read
turned_place first s buf x o =
    let f : StandsFor twin first x.got x.goes.written s.output.state (take s.have buf) = rw o at x.goes.holds in
    omega (arith, rw (length-append, append-nil x.got) at (answered_room twin answer_room (f.on [])), x.goes.read_is, x.goes.sent_is)

-- ---- how long it goes on

pub goes_on_lem : (s : Stream) → goes_on s ≡ true → (status_of s ≡ Open) × (s.input.read < 2 ^ 56)
goes_on_lem s e = (open_is (status_of s) (and_left (is_open (status_of s)) _ e), ltb-true _ _ (and_right (is_open (status_of s)) _ e))
  where
    open_is : (t : Status) → is_open t ≡ true → t ≡ Open
    open_is Open q = refl
    open_is Ended q = absurd (false≢true q)
    open_is Failed q = absurd (false≢true q)

pub goes_off : (s : Stream) → goes_on s ≡ false → status_of s ≡ Open → 2 ^ 56 ≤ s.input.read
goes_off s e o = ltb-false _ _ (rw o at e)

-- how many bytes it may still read
abbrev pub left : Stream → ℕ
left s = cond (goes_on s) (2 ^ 56 - s.input.read) 0

pub left_less : (s r : Stream) → goes_on s ≡ true → (status_of r ≡ Open → s.input.read < r.input.read) → left r < left s
left_less s r e f =
    let a = goes_on_lem s e in
    elim (tested (goes_on r)) [
      | holds q ↦ let b = goes_on_lem r q in rw (e, q) (omega (arith, f b.0))
      | fails q ↦ rw (e, q) (omega arith)
    ]
