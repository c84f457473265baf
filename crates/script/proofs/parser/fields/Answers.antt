-- `fields`: the numbers so far, and those of the fields behind them, are the line's.
use Rattle.std.proofs.Common.{rules, ◌∙◌, arith}
use Rattle.std.proofs.lemmas.List.{length-map}
use Rattle.std.proofs.Math.ListN.{get_or-map}
use Rattle.script.specs.laws.Fields.{fields_more, fields_done}
use Rattle.script.proofs.parser.fields.Goals as goal

pub loop-i-preserved : goal.loop-i-preserved
loop-i-preserved g c =
    let l = c.loop-i in
    (search rules, fields_more _ l.numbers l.i _ _ _ _ (simp length-map c.loop-i-test.true) (omega (arith, l.invariant.0)) (get_or-map _ c.args.keys.now l.i _) c.read_field-field.ensures (c.number_of.ensures c.args.line.now) ∙ l.invariant.1)

pub returns : goal.returns
returns g c =
    let l = c.loop-i in
    c.then_some.ensures ∙ rw c.at_end.ensures (fields_done _ l.numbers l.i _ (simp length-map c.loop-i-test.false) (omega (arith, l.invariant.0)) ∙ l.invariant.1)
