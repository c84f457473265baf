-- `write_answer`: seven texts, one after the other.
use Rattle.script.specs.Answer.{answer_line}
use Rattle.text.specs.laws.Write.{then}
use Rattle.script.proofs.answer.write_answer.Goals as goal

pub returns : goal.returns
unfolding answer_line
returns c =
    then c.write_text-at.ensures (then c.write_decimal-at.ensures.written (then c.write_text-at-2.ensures (then c.write_decimal-at-2.ensures.written (then c.write_text-at-3.ensures (then c.write_decimal-at-3.ensures.written c.write_text.ensures)))))
