-- The eleven shapes: what is scanned whole is the line of its event, and the line of an event is scanned whole.
use Rattle.std.specs.Prelude.{ℕ, ◌≤◌, ◌≡◌, refl, Bool, true, false, Option, None, Some, List, [], ◌∷◌, length}
use Rattle.std.specs.Option.{option_map}
use Rattle.std.specs.Bool.{then_some}
use Rattle.std.specs.Str.{bytes_eq}
use Rattle.std.proofs.Common.{ap, arith, length-append}
use Rattle.std.proofs.lemmas.Option.{none-some}
use Rattle.std.proofs.lemmas.Slice.Eq.{bytes_eq-Decides}
use Rattle.text.specs.Text.{text}
use Rattle.text.specs.laws.Decimal.{short}
use Rattle.script.specs.EventLine.{line_of, InRange}
use Rattle.script.specs.Parser.{shape_of, scanned, event_of}
use Rattle.script.specs.laws.Fields.{ended, fields_read}
use Rattle.bus.specs.declared.Event.{Event}
use Rattle.bus.specs.declared.Change.TheVariants as C
use Rattle.bus.specs.declared.Event.TheVariants as E
use Rattle.bus.specs.declared.Question.TheVariants as Q
use Rattle.bus.specs.declared.SignalEvent.TheVariants as B
use Rattle.script.specs.declared.parser.Shape.{Shape}
use Rattle.script.specs.declared.parser.Shape.TheVariants as S

-- ---- whether the line was read to its end

pub finished : (k : Shape) (o : Option (List ℕ)) {e : Event} → option_map (event_of k) o ≡ Some e → (ns : List ℕ) × (o ≡ Some ns) × (event_of k ns ≡ e)
finished k None f = absurd (none-some _ f)
finished k (Some ns) f = (ns, refl, cc)

there : (b : Bool) (x y : List ℕ) → then_some b x ≡ Some y → b ≡ true
there true x y e = refl
there false x y e = absurd (none-some y e)

alone : (l k : List ℕ) (ns : List ℕ) → then_some (bytes_eq l k) [] ≡ Some ns → l ≡ k
alone l k ns e = (bytes_eq-Decides l k).0 (there (bytes_eq l k) [] ns e)

-- ---- a clause for each shape or event

pub scanned_line : (k : Shape) (l ns : List ℕ) → scanned k l ≡ Some ns → (l ≡ line_of (event_of k ns)) × InRange (event_of k ns)
scanned_line S.Add l ns e = ended (text "ev=add chip=" ∷ text " addr=" ∷ []) l ns e
scanned_line S.Start l ns e = (alone l (text "ev=start") ns e, tt)
scanned_line S.Put l ns e = ended (text "ev=put byte=" ∷ []) l ns e
scanned_line S.Get l ns e = ended (text "ev=get ack=" ∷ []) l ns e
scanned_line S.Stop l ns e = (alone l (text "ev=stop") ns e, tt)
scanned_line S.Wait l ns e = ended (text "ev=wait dev=" ∷ text " ticks=" ∷ []) l ns e
scanned_line S.Oe l ns e = ended (text "ev=oe dev=" ∷ text " level=" ∷ []) l ns e
scanned_line S.Ext l ns e = ended (text "ev=ext dev=" ∷ text " level=" ∷ []) l ns e
scanned_line S.Reset l ns e = ended (text "ev=reset dev=" ∷ []) l ns e
scanned_line S.Lit l ns e = let h = ended (text "ev=lit dev=" ∷ text " out=" ∷ text " ticks=" ∷ []) l ns e in (h.0, (h.1.0, h.1.1.0, h.1.1.1))
scanned_line S.Pin l ns e = ended (text "ev=pin dev=" ∷ text " out=" ∷ []) l ns e

abbrev made : Shape → Option (List ℕ) → Option Event
made k o = option_map (event_of k) o

pub line_scanned : (e : Event) → InRange e → option_map (event_of (shape_of (line_of e))) (scanned (shape_of (line_of e)) (line_of e)) ≡ Some e
line_scanned (E.Add chip addr) h = ap (made S.Add) (fields_read 0 (text "ev=add chip=" ∷ text " addr=" ∷ []) (chip ∷ addr ∷ []) 0 h (refl, (tt, tt)))
line_scanned (E.Signal B.Start) h = refl
line_scanned (E.Signal (B.Put byte)) h = ap (made S.Put) (fields_read 0 (text "ev=put byte=" ∷ []) (byte ∷ []) 0 h (tt, tt))
line_scanned (E.Signal (B.Get ack)) h = ap (made S.Get) (fields_read 0 (text "ev=get ack=" ∷ []) (ack ∷ []) 0 h (tt, tt))
line_scanned (E.Signal B.Stop) h = refl
line_scanned (E.Change dev (C.Wait ticks)) h = ap (made S.Wait) (fields_read 0 (text "ev=wait dev=" ∷ text " ticks=" ∷ []) (dev ∷ ticks ∷ []) 0 h (refl, (tt, tt)))
line_scanned (E.Change dev (C.Oe level)) h = ap (made S.Oe) (fields_read 0 (text "ev=oe dev=" ∷ text " level=" ∷ []) (dev ∷ level ∷ []) 0 h (refl, (tt, tt)))
line_scanned (E.Change dev (C.Ext level)) h = ap (made S.Ext) (fields_read 0 (text "ev=ext dev=" ∷ text " level=" ∷ []) (dev ∷ level ∷ []) 0 h (refl, (tt, tt)))
line_scanned (E.Change dev C.Reset) h = ap (made S.Reset) (fields_read 0 (text "ev=reset dev=" ∷ []) (dev ∷ []) 0 h (tt, tt))
line_scanned (E.Ask dev (Q.Lit out ticks)) h = ap (made S.Lit) (fields_read 0 (text "ev=lit dev=" ∷ text " out=" ∷ text " ticks=" ∷ []) (dev ∷ out ∷ ticks ∷ []) 0 (h.0, (h.1, h.2)) (refl, (refl, (tt, tt))))
line_scanned (E.Ask dev (Q.Pin out)) h = ap (made S.Pin) (fields_read 0 (text "ev=pin dev=" ∷ text " out=" ∷ []) (dev ∷ out ∷ []) 0 h (refl, (tt, tt)))

pub line_length : (e : Event) → InRange e → length (line_of e) ≤ 68
line_length (E.Add chip addr) h = simp length-append (omega (arith, short chip h.0, short addr h.1))
line_length (E.Signal B.Start) h = omega arith
line_length (E.Signal (B.Put byte)) h = simp length-append (omega (arith, short byte h))
line_length (E.Signal (B.Get ack)) h = simp length-append (omega (arith, short ack h))
line_length (E.Signal B.Stop) h = omega arith
line_length (E.Change dev (C.Wait ticks)) h = simp length-append (omega (arith, short dev h.0, short ticks h.1))
line_length (E.Change dev (C.Oe level)) h = simp length-append (omega (arith, short dev h.0, short level h.1))
line_length (E.Change dev (C.Ext level)) h = simp length-append (omega (arith, short dev h.0, short level h.1))
line_length (E.Change dev C.Reset) h = simp length-append (omega (arith, short dev h))
line_length (E.Ask dev (Q.Lit out ticks)) h = simp length-append (omega (arith, short dev h.0, short out h.1, short ticks h.2))
line_length (E.Ask dev (Q.Pin out)) h = simp length-append (omega (arith, short dev h.0, short out h.1))
