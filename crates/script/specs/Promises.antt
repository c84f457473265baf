-- Promises on the text: an event line, plain or stamped, is read back as its event, every other line names none; a run keeps the bus well formed and counts its lines;
-- a recording is answered as its entries are replayed.
use Rattle.std.specs.Prelude.{Option, Some, None, ℕ, ◌+◌, ◌*◌, ◌^◌, ◌<◌, ◌≤◌, ◌≡◌, List, [], ◌∷◌, ◌++◌, map, length}
use Rattle.std.proofs.Math.Path.{refl, sym, ap}
use Rattle.std.proofs.Common.{◌∙◌, arith, lt-ltb, length-append}
use Rattle.bus.specs.Devices.{bus_ok}
use Rattle.bus.specs.Events.{request_reply}
use Rattle.bus.proofs.Promises.{step_shape}
use Rattle.bus.specs.declared.Bus.{Bus}
use Rattle.bus.specs.declared.Event.{Event}
use Rattle.bus.specs.declared.Reply.{Reply}
use Rattle.replay.specs.Replay.{replayed, replay_replies, replay_bus}
use Rattle.replay.proofs.Promises.{replay_shape}
use Rattle.replay.specs.Time.{Clock}
use Rattle.replay.specs.declared.Entry.{Entry}
use Rattle.replay.specs.Replay.{stamped}
use Rattle.text.specs.Text.{text}
use Rattle.text.specs.Run.{after, answers}
use Rattle.text.specs.laws.Read.{key_read, field_read}
use Rattle.text.specs.laws.Decimal.{decimal_length}
use Rattle.text.specs.laws.Run as Run
use Rattle.script.specs.Answer.{answer_line}
use Rattle.script.specs.EventLine.{line_of, InRange, stamped_line, StampedInRange}
use Rattle.script.specs.Parser.{shape_of, scanned, parsed, parsed_entry}
use Rattle.script.specs.Twin.{reply_to, form_after, next_number, after_line, answer_to, twin}
use Rattle.script.specs.laws.Parser.{finished, scanned_line, line_scanned, line_length}
use Rattle.script.specs.laws.Stamped.{entry_sound, stamped_length}
use Rattle.script.specs.declared.twin.Form.{Form}
use Rattle.script.specs.declared.twin.Form.TheVariants.{Plain, Stamped}
use Rattle.script.specs.declared.twin.State.{State}

-- ---- event lines

-- what is parsed as an event is that event's line
pub parsed_line : (l : List ℕ) (e : Event) → parsed l ≡ Some e → (l ≡ line_of e) × InRange e
unfolding parsed
parsed_line l e f = let h = finished (shape_of l) (scanned (shape_of l) l) f in rw h.2 at (scanned_line (shape_of l) l h.0 h.1)

-- an event's line is parsed as that event
pub line_parsed : (e : Event) → InRange e → parsed (line_of e) ≡ Some e
unfolding parsed
line_parsed e h = line_scanned e h

-- no event's line names none, and any other line does
pub bad_line : (l : List ℕ) → parsed l ≡ None → (e : Event) → InRange e → l ≡ line_of e → ⊥
bad_line l b e h q = let f = ap parsed q ∙ line_parsed e h in let z : ◌≡◌ {A = ℕ} 0 1 = cc in omega arith

pub line_bad : (l : List ℕ) → ((e : Event) → InRange e → l ≡ line_of e → ⊥) → parsed l ≡ None
line_bad l n = go (parsed l) refl
  where
    go : (r : Option Event) → parsed l ≡ r → r ≡ None
    go None q = refl
    go (Some e) q = absurd (n e (parsed_line l e q).1 (parsed_line l e q).0)

-- a line of more than 80 bytes names none, whatever it holds
pub long_bad : (l : List ℕ) → 80 < length l → parsed l ≡ None
long_bad l h = line_bad l (λ e r q. omega (arith, ap length q, line_length e r))

-- ---- stamped lines

-- what is parsed as a stamped event is that event's line
pub parsed_stamped : (l : List ℕ) (at : ℕ) (e : Event) → parsed_entry l ≡ stamped at e → (l ≡ stamped_line at e) × StampedInRange at e
unfolding parsed_entry
parsed_stamped l at e f = entry_sound l at e _ refl f (λ r. parsed_line r)

-- a stamped event's line is parsed as that event with that stamp
pub stamped_parsed : (at : ℕ) (e : Event) → StampedInRange at e → parsed_entry (stamped_line at e) ≡ stamped at e
unfolding parsed_entry
stamped_parsed at e h =
    rw (field_read (text "at=") at (text " " ++ line_of e) 0 (omega arith) refl, key_read (text " ") (line_of e) at, line_parsed e h.1, lt-ltb at (2 ^ 32) h.0) refl

-- no stamped event's line names none, and any other line does
pub bad_stamped : (l : List ℕ) → parsed_entry l ≡ None → (at : ℕ) (e : Event) → StampedInRange at e → l ≡ stamped_line at e → ⊥
bad_stamped l b at e h q = let f = ap parsed_entry q ∙ stamped_parsed at e h in let z : ◌≡◌ {A = ℕ} 0 1 = cc in omega arith

pub stamped_bad : (l : List ℕ) → ((at : ℕ) (e : Event) → StampedInRange at e → l ≡ stamped_line at e → ⊥) → parsed_entry l ≡ None
stamped_bad l n = go (parsed_entry l) refl
  where
    go : (x : Option Entry) → parsed_entry l ≡ x → x ≡ None
    go None q = refl
    go (Some x) q = absurd (n x.at x.event (parsed_stamped l x.at x.event q).1 (parsed_stamped l x.at x.event q).0)

-- a line of more than 94 bytes, 80 and the longest stamp with its space, names none
pub long_stamped_bad : (l : List ℕ) → 94 < length l → parsed_entry l ≡ None
long_stamped_bad l h = stamped_bad l (λ at e r q. omega (arith, ap length q, stamped_length at e r))

-- ---- a run of lines

-- a line leaves a bus as well formed as it was, and so do any lines
pub reply_shape : (b : Bus) (form : Form) (l : List ℕ) → bus_ok (reply_to b form l).bus ≡ bus_ok b
unfolding reply_to
reply_shape b Plain l = go (parsed l)
  where
    go : (p : Option Event) → bus_ok (request_reply b p).bus ≡ bus_ok b
    go (Some e) = step_shape b e
    go None = refl
reply_shape b (Stamped clock) l = replay_shape b clock (parsed_entry l)

pub after_shape : (s : State) (ls : List (List ℕ)) → bus_ok (after twin s ls).bus ≡ bus_ok s.bus
unfolding after_line
after_shape = Run.after_same twin (λ (s : State). bus_ok s.bus) (λ s l. reply_shape s.bus s.form l)

-- as many lines are counted as there are
pub lines_counted : (s : State) (ls : List (List ℕ)) → s.lines + length ls < 2 ^ 64 → (after twin s ls).lines ≡ s.lines + length ls
unfolding after_line
lines_counted s ls h = Run.after_count twin (λ (t : State). t.lines) 18446744073709551615 (λ t l g. rw (lt-ltb t.lines 18446744073709551615 g)) s ls (omega arith)

-- no answer takes more than 76 bytes, so a buffer with room for each keeps its length
pub answer_room : (s : State) (l : List ℕ) → length (answer_to s l) ≤ 76
unfolding answer_to answer_line
answer_room s l =
    let r = reply_to s.bus s.form l in
    simp length-append (omega (arith, decimal_length (next_number s.lines), decimal_length r.code, decimal_length r.value))

pub answers_room : (s : State) (ls : List (List ℕ)) → length (answers twin s ls) ≤ 76 * length ls
answers_room = Run.answers_room twin answer_room

-- a line of more than 94 bytes is answered like any other
module _ (b : Bus) (k l : List ℕ) (h : 94 < length k) (g : 94 < length l) where
  long_replies : (form : Form) → reply_to b form k ≡ reply_to b form l
  unfolding reply_to
  long_replies Plain = rw (long_bad k (omega arith), long_bad l (omega arith))
  long_replies (Stamped clock) = ap (λ (x : Option Entry). (replayed b clock x).reply) (long_stamped_bad k h ∙ sym (long_stamped_bad l g))

  long_forms : (form : Form) → form_after b form k ≡ form_after b form l
  unfolding form_after
  long_forms Plain = refl
  long_forms (Stamped clock) = ap (λ (x : Option Entry). Stamped (replayed b clock x).clock) (long_stamped_bad k h ∙ sym (long_stamped_bad l g))

pub long_alike : (s : State) (k l : List ℕ) → 94 < length k → 94 < length l → (after_line s k ≡ after_line s l) × (answer_to s k ≡ answer_to s l)
unfolding after_line answer_to
long_alike s k l h g = rw (long_replies s.bus k l h g s.form, long_forms s.bus k l h g s.form) (refl, refl)

-- ---- a recording

-- some replies, as the answers to the lines behind the n-th
abbrev pub answers_of : ℕ → List Reply → List ℕ
answers_of n [] = []
answers_of n (r ∷ l) = answer_line (next_number n) r.code r.value ++ answers_of (next_number n) l

-- stamped lines are answered with the replies of a replay of their entries, and lead to its bus
pub recording_answered : (n : ℕ) (b : Bus) (clock : Clock) (ls : List (List ℕ))
    → (answers twin (record { lines = n; bus = b; form = Stamped clock }) ls ≡ answers_of n (replay_replies b clock (map parsed_entry ls)))
    × ((after twin (record { lines = n; bus = b; form = Stamped clock }) ls).bus ≡ replay_bus b clock (map parsed_entry ls))
unfolding answers after answer_to after_line reply_to form_after
recording_answered n b clock [] = (refl, refl)
recording_answered n b clock (l ∷ ls) =
    let r = replayed b clock (parsed_entry l) in
    let on = recording_answered (next_number n) r.reply.bus r.clock ls in
    (ap (λ (t : List ℕ). answer_line (next_number n) r.reply.code r.reply.value ++ t) on.0, on.1)

-- a log of events is never read as a recording
pub plain_stays : (s : State) (ls : List (List ℕ)) → s.form ≡ Plain → (after twin s ls).form ≡ Plain
unfolding after after_line form_after
plain_stays s [] e = e
plain_stays s (l ∷ ls) e = plain_stays (after_line s l) ls (rw e)
