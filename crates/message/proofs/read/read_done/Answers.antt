-- The head and the gets make the message that the STOP ends; the bytes got go back into the buffer at the place.
use Rattle.basics.specs.laws.Lists.{tail_back}
use Rattle.message.specs.Read.{bytes_got}
use Rattle.message.proofs.laws.Sent.{under_way_bus}
use Rattle.message.proofs.read.read_done.Goals as goal

pub returns-clause-buffer_after : goal.returns-clause-buffer_after
returns-clause-buffer_after c =
    let a = c.args in
    tail_back a.buffer.now (bytes_got a.bus a.address a.control a.n) c.get_all.new.part a.place a.n (rw (under_way_bus _ _ _ c.head.ensures) at c.get_all.ensures.part_after)
