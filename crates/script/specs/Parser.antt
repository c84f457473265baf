-- The parser as a function of the line's bytes.
use Rattle.std.specs.Prelude.{[], ◌∷◌, Option, None, Some, ℕ, ◌^◌, cond, List, get_or, ltb, eqb}
use Rattle.std.specs.Option.{option_map}
use Rattle.std.specs.Bool.{then_some}
use Rattle.std.specs.Str.{bytes_eq}
use Rattle.text.specs.Text.{text}
use Rattle.text.specs.Read.{Rest, rest, number_in, is_end, key_of, field_of}
use Rattle.bus.specs.declared.Event.{Event}
use Rattle.bus.specs.declared.Change.TheVariants as C
use Rattle.bus.specs.declared.Event.TheVariants as E
use Rattle.bus.specs.declared.Question.TheVariants as Q
use Rattle.bus.specs.declared.SignalEvent.TheVariants as B
use Rattle.replay.specs.declared.Entry.{Entry}
use Rattle.replay.specs.Replay.{stamped}
use Rattle.script.specs.declared.parser.Shape.{Shape}
use Rattle.script.specs.declared.parser.Shape.TheVariants as S

abbrev pub shape_by : ℕ → ℕ → ℕ → Shape
shape_by x y z =
    cond (eqb x 97) S.Add
    (cond (eqb x 115) (cond (eqb z 97) S.Start S.Stop)
    (cond (eqb x 112) (cond (eqb y 117) S.Put S.Pin)
    (cond (eqb x 103) S.Get
    (cond (eqb x 119) S.Wait
    (cond (eqb x 111) S.Oe
    (cond (eqb x 101) S.Ext
    (cond (eqb x 114) S.Reset S.Lit)))))))

-- the one shape that a line can have, by its letters
abbrev pub shape_of : List ℕ → Shape
shape_of l = shape_by (get_or l 3 0) (get_or l 4 0) (get_or l 5 0)

-- the numbers of some fields, one after the other, each a key and a number, with nothing behind the last
unfoldable pub fields_of : List (List ℕ) → Option Rest → Option (List ℕ)
fields_of [] s = cond (is_end s) (Some []) None
fields_of (k ∷ ks) s = option_map (λ ns. number_in (field_of k s) ∷ ns) (fields_of ks (field_of k s))

-- the numbers of the line read as that shape
abbrev pub scanned : Shape → List ℕ → Option (List ℕ)
scanned S.Add l = fields_of (text "ev=add chip=" ∷ text " addr=" ∷ []) (Some (rest l 0))
scanned S.Start l = then_some (bytes_eq l (text "ev=start")) []
scanned S.Put l = fields_of (text "ev=put byte=" ∷ []) (Some (rest l 0))
scanned S.Get l = fields_of (text "ev=get ack=" ∷ []) (Some (rest l 0))
scanned S.Stop l = then_some (bytes_eq l (text "ev=stop")) []
scanned S.Wait l = fields_of (text "ev=wait dev=" ∷ text " ticks=" ∷ []) (Some (rest l 0))
scanned S.Oe l = fields_of (text "ev=oe dev=" ∷ text " level=" ∷ []) (Some (rest l 0))
scanned S.Ext l = fields_of (text "ev=ext dev=" ∷ text " level=" ∷ []) (Some (rest l 0))
scanned S.Reset l = fields_of (text "ev=reset dev=" ∷ []) (Some (rest l 0))
scanned S.Lit l = fields_of (text "ev=lit dev=" ∷ text " out=" ∷ text " ticks=" ∷ []) (Some (rest l 0))
scanned S.Pin l = fields_of (text "ev=pin dev=" ∷ text " out=" ∷ []) (Some (rest l 0))

-- the event with these numbers
abbrev pub event_of : Shape → List ℕ → Event
event_of S.Add n = E.Add (get_or n 0 0) (get_or n 1 0)
event_of S.Start n = E.Signal B.Start
event_of S.Put n = E.Signal (B.Put (get_or n 0 0))
event_of S.Get n = E.Signal (B.Get (get_or n 0 0))
event_of S.Stop n = E.Signal B.Stop
event_of S.Wait n = E.Change (get_or n 0 0) (C.Wait (get_or n 1 0))
event_of S.Oe n = E.Change (get_or n 0 0) (C.Oe (get_or n 1 0))
event_of S.Ext n = E.Change (get_or n 0 0) (C.Ext (get_or n 1 0))
event_of S.Reset n = E.Change (get_or n 0 0) C.Reset
event_of S.Lit n = E.Ask (get_or n 0 0) (Q.Lit (get_or n 1 0) (get_or n 2 0))
event_of S.Pin n = E.Ask (get_or n 0 0) (Q.Pin (get_or n 1 0))

unfoldable pub parsed : List ℕ → Option Event
parsed l = option_map (event_of (shape_of l)) (scanned (shape_of l) l)

-- ---- stamped lines

-- past the stamp and its space
abbrev pub stamp_of : List ℕ → Option Rest
stamp_of l = key_of (text " ") (field_of (text "at=") (Some (rest l 0)))

-- the event whose line is left
abbrev pub request_in : Option Rest → Option Event
request_in None = None
request_in (Some (rest l n)) = parsed l

abbrev pub entry_by : ℕ → Option Event → Option Entry
entry_by stamp (Some e) = cond (ltb stamp (2 ^ 32)) (stamped stamp e) None
entry_by stamp None = None

unfoldable pub parsed_entry : List ℕ → Option Entry
parsed_entry l = entry_by (number_in (stamp_of l)) (request_in (stamp_of l))
