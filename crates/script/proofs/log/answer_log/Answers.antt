-- `answer_log`: the run, and a last line that lacks its line feed.
use Rattle.std.proofs.Common.{arith}
use Rattle.std.proofs.Math.Path.{refl}
use Rattle.script.specs.Promises.{answer_room}
use Rattle.script.specs.Twin.{twin}
use Rattle.text.specs.laws.Log.{room_there, last_answered}
use Rattle.script.proofs.log.answer_log.Goals as goal

pub answer_last-requires : goal.answer_last-requires
answer_last-requires c =
    room_there twin (omega (arith, c.lines_in.ensures, c.if-out-lines_in.false)) c.run-read.ensures answer_room c.if-log-read.false

pub returns : goal.returns
returns c =
    last_answered twin (omega (arith, c.lines_in.ensures, c.if-out-lines_in.false)) c.run-read.ensures answer_room c.if-log-read.false refl c.answer_last.ensures
