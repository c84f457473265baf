-- What a line that comes to a question, to another request or to an entry is.
use Rattle.std.specs.Prelude.{Option, Some, None, ℕ, ◌<◌, refl, Bool, true, List}
use Rattle.std.proofs.Math.Path.{◌≡◌, ap}
use Rattle.std.proofs.Common.{arith}
use Rattle.bus.specs.Asked.{asked_of}
use Rattle.bus.proofs.laws.Asked.{asked_device}
use Rattle.bus.specs.declared.Asked.{Asked}
use Rattle.bus.specs.declared.Event.{Event}
use Rattle.bus.specs.declared.Event.TheVariants.{Ask}
use Rattle.replay.specs.Time.{Clock}
use Rattle.replay.specs.declared.Entry.{Entry}
use Rattle.script.specs.Parser.{parsed, parsed_entry}
use Rattle.script.specs.Heard.{heard_as, heard_by}
use Rattle.script.specs.declared.twin.Form.{Form}
use Rattle.script.specs.declared.twin.Form.TheVariants.{Plain, Stamped}
use Rattle.script.specs.declared.twin.Heard.{Heard}
use Rattle.script.specs.declared.twin.Heard.TheVariants as H

-- which of the three it is
abbrev kind : Heard → ℕ
kind (H.Question a) = 0
kind (H.Request r) = 1
kind (H.Entry clock x) = 2

module _ (ok : Bool) (count : ℕ) (l : List ℕ) where
  -- a question: the lines are plain, and the device stands on the bus
  pub heard_question : (form : Form) (a : Asked) → H.Question a ≡ heard_by ok count form l → (form ≡ Plain) × (parsed l ≡ Some (Ask a.dev a.question)) × (ok ≡ true) × (a.dev < count) × (a.dev < 8)
  unfolding heard_by
  heard_question (Stamped clock) a e = absurd (let z : ◌≡◌ {A = ℕ} 0 2 = ap kind e in omega arith)
  heard_question Plain a e = let d = asked_device ok count a (parsed l) (go (asked_of ok count (parsed l)) e) in (refl, d.0, d.1, d.2, d.3)
    where
      go : (o : Option Asked) → H.Question a ≡ heard_as o (parsed l) → Some a ≡ o
      go (Some b) h = cc
      go None h = absurd (let z : ◌≡◌ {A = ℕ} 0 1 = ap kind h in omega arith)

  -- any other request: the lines are plain
  pub heard_request : (form : Form) (r : Option Event) → H.Request r ≡ heard_by ok count form l → (form ≡ Plain) × (r ≡ parsed l)
  unfolding heard_by
  heard_request (Stamped clock) r e = absurd (let z : ◌≡◌ {A = ℕ} 1 2 = ap kind e in omega arith)
  heard_request Plain r e = (refl, go (asked_of ok count (parsed l)) e)
    where
      go : (o : Option Asked) → H.Request r ≡ heard_as o (parsed l) → r ≡ parsed l
      go (Some b) h = absurd (let z : ◌≡◌ {A = ℕ} 1 0 = ap kind h in omega arith)
      go None h = cc

  -- an entry: the lines are stamped
  pub heard_entry : (form : Form) (clock : Clock) (x : Option Entry) → H.Entry clock x ≡ heard_by ok count form l → (form ≡ Stamped clock) × (x ≡ parsed_entry l)
  unfolding heard_by
  heard_entry (Stamped c) clock x e =
      let u : clock ≡ c = cc in
      (rw u, cc)
  heard_entry Plain clock x e = go (asked_of ok count (parsed l)) e
    where
      go : (o : Option Asked) → H.Entry clock x ≡ heard_as o (parsed l) → (Plain ≡ Stamped clock) × (x ≡ parsed_entry l)
      go (Some b) h = absurd (let z : ◌≡◌ {A = ℕ} 2 0 = ap kind h in omega arith)
      go None h = absurd (let z : ◌≡◌ {A = ℕ} 2 1 = ap kind h in omega arith)
