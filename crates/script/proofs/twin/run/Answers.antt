-- `run`: from line to line, the lines so far are answered at the start of the buffer, and the bus is as well formed as it was.
use Rattle.std.proofs.Common.{arith, sym, ◌∙◌, rules}
use Rattle.std.specs.Prelude.{◌<◌}
use Rattle.basics.specs.laws.Lists.{as_long, get_or_there}
use Rattle.bus.proofs.laws.Place.{position_free, device_answers}
use Rattle.chip.specs.declared.Chip.TheVariants.{Pca9635}
use Rattle.device.specs.Reset.{fresh}
use Rattle.script.specs.Twin.{twin}
use Rattle.script.specs.laws.Heard.{heard_question, heard_request, heard_entry}
use Rattle.script.specs.laws.Turn.{turn_plain, turn_stamped}
use Rattle.text.specs.laws.Run.{did_none}
use Rattle.script.proofs.twin.run.Goals as goal
use Rattle.script.proofs.twin.run.Goals.{in-Question, in-Request, in-Entry}

pub loop-out-init : goal.loop-out-init
loop-out-init c =
    (rw c.new-judged.ensures (did_none twin c.args.first c.args.input.now c.args.out.now), c.new-judged.result.judged, search rules, search (rules, as_long))

pub offset_bounds-judged-dev : goal.offset_bounds-judged-dev
offset_bounds-judged-dev c =
    let who : c.in-Question.field-0.dev < 8 = (heard_question _ _ _ _ _ (sym c.in-Question.is ∙ c.hear.ensures)).4 in
    omega (arith, who)

pub bounds-judged-dev : goal.bounds-judged-dev
bounds-judged-dev c = (heard_question _ _ _ _ _ (sym c.in-Question.is ∙ c.hear.ensures)).4

pub loop-out-preserved : goal.loop-out-preserved
loop-out-preserved c =
    let l = c.loop-out in
    let bus = l.judged.1.0 in
    let i = l.invariant in
    let plain = turn_plain c.line_end-end.result c.next_number-lines.result i.0 c.line_end-end.ensures c.if-input-end.false c.next_number-lines.ensures in
    let stamped = turn_stamped c.line_end-end.result c.next_number-lines.result i.0 c.line_end-end.ensures c.if-input-end.false c.next_number-lines.ensures in
    elim c.match-hear.branch [
      | in-Question w ↦
          let q = w.in-Question.field-0 in
          let h = heard_question _ _ _ _ _ (sym w.in-Question.is ∙ c.hear.ensures) in
          let there = get_or_there _ (fresh Pca9635 0) bus.devices q.dev (omega (arith, h.4, i.3)) in
          let told = device_answers bus q.dev q.question _ _ _ (position_free bus q.dev (sym i.1 ∙ h.2) h.3 h.4) there w.answer_of-answer.ensures.code w.answer_of-answer.ensures.value in
          let m = plain _ _ _ _ h.0 (sym h.1) told (rw w.code_and_value-code.ensures at w.write_answer-wrote.ensures) in
          rw (w.out-is, w.judged-is, w.form-is, w.wrote-is) (m.0, i.1 ∙ m.1, search rules, i.3)
      | in-Request w ↦
          let h = heard_request _ _ _ _ _ (sym w.in-Request.is ∙ c.hear.ensures) in
          let m = plain _ _ _ _ h.0 h.1 w.request-r.ensures w.write_answer-wrote-in-Request.ensures in
          rw (w.out-is, w.judged-is, w.form-is, w.wrote-is) (m.0, i.1 ∙ m.1, search rules, m.2 ∙ i.3)
      | in-Entry w ↦
          let h = heard_entry _ _ _ _ _ _ (sym w.in-Entry.is ∙ c.hear.ensures) in
          let m = stamped _ _ _ _ _ h.0 h.1 w.step_judged-r.ensures w.write_answer-wrote-in-Entry.ensures in
          rw (w.out-is, w.judged-is, w.form-is, w.wrote-is) (m.0, i.1 ∙ m.1, search rules, m.2 ∙ i.3)
    ]
