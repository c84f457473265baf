-- Events on one row after the other, each with the records and the phase that the one before left.
use Rattle.std.specs.Prelude.{ℕ}
use Rattle.bus.specs.declared.SignalEvent.{SignalEvent}
use Rattle.row.specs.Row.{row_of}
use Rattle.row.specs.declared.Rowed.{Rowed}

-- on the first n records
abbrev pub next_of : Rowed → ℕ → SignalEvent → Rowed
next_of r n e = row_of r.records n r.reply.phase e
