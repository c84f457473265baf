-- `fields`: the numbers so far, and those of the fields behind them, are the line's.
use Rattle.std.proofs.Common.{◌≡◌, map, Some, length}
use Rattle.text.specs.Read.{rest, rest_at}
use Rattle.script.specs.Parser.{fields_of}
use Rattle.script.specs.laws.Fields.{ahead}
use Rattle.script.proofs.parser.fields.Given as goal

abbrev pub invariant-loop-i : goal.invariant-loop-i
invariant-loop-i g l = (length l.numbers ≡ length l.keys) × (ahead (map (λ k. k.now) l.keys) l.numbers l.i (rest_at l.line l.field) ≡ fields_of (map (λ k. k.now) l.keys) (Some (rest l.line 0)))
