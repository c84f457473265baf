-- The loop: the first i drivers have taken the time, and room says whether all had room.
use Rattle.std.specs.Prelude.{◌≡◌, length}
use Rattle.basics.specs.Below.{all_below}
use Rattle.bus.specs.Devices.{record_at}
use Rattle.replay.specs.Time.{fits, time_below}
use Rattle.replay.proofs.time.wait_all.Given as goal

abbrev pub invariant-loop-i : goal.invariant-loop-i
invariant-loop-i l = record {
  time : l.bus ≡ time_below l.ticks l.fn.bus l.i;
  room : l.room ≡ all_below l.i (λ i. fits l.ticks (record_at l.fn.bus i));
  places : length l.bus.devices ≡ 8;
}
