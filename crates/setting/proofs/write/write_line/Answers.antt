-- `write_line`: three texts, one after the other.
use Rattle.text.specs.laws.Write.{then}
use Rattle.setting.proofs.write.write_line.Goals as goal

pub returns : goal.returns
returns c =
    then c.write_text-a.ensures (then c.write_decimal-b.ensures.written c.write_text.ensures)
