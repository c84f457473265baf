-- The signal has been at the first i devices, and what they answer is gathered.
use Rattle.std.proofs.Common.{ap, ◌∙◌, rules}
use Rattle.std.specs.Prelude.{◌<◌, ◌≡◌, length}
use Rattle.basics.specs.laws.Bits.{mask_none, mask_or}
use Rattle.basics.specs.laws.First.{map_none, and_none, and_more}
use Rattle.engine.specs.Lens.{devices_of}
use Rattle.engine.specs.Signals.{acks_at, talks_at}
use Rattle.engine.specs.laws.Lens.{devices_long, turn_at, turn_set, none}
use Rattle.protocol.specs.Signals.{after_signal}
use Rattle.engine.proofs.Lent.signal.Goals as goal

pub loop-i-init : goal.loop-i-init
loop-i-init c =
    record { acks = mask_none _ _; byte = and_none _ _; devices = map_none _ _ }

pub loop-i-preserved : goal.loop-i-preserved
loop-i-preserved c =
    let l = c.args.self.now in
    let f = after_signal l.phase c.args.signal in
    let acks = acks_at l.phase c.args.signal in
    let talks = talks_at c.args.signal in
    let i = c.loop-i.i in
    let ds = devices_of l.bytes.now l.counts.now in
    let small : i < 8 = search rules in
    let there : i < length ds = rw (devices_long l.bytes.now l.counts.now) small in
    let bytes_long : length c.loop-i.bytes ≡ 512 = search rules in
    let counts_long : length c.loop-i.counts ≡ 8 = search rules in
    let long : length c.signal_one-response.new.bytes ≡ 64 = search rules in
    let at = turn_at f ds c.loop-i.bytes c.loop-i.counts i bytes_long counts_long small c.loop-i.invariant.devices in
    record {
      acks = rw c.from.ensures (mask_or acks none ds i c.loop-i.acks c.signal_one-response.result.acks there small c.loop-i.invariant.acks (rw c.part.ensures at c.signal_one-response.ensures.acks ∙ ap acks at));
      byte = and_more talks none ds i _ _ there c.loop-i.invariant.byte (rw c.part.ensures at c.signal_one-response.ensures.talk ∙ ap talks at);
      devices = rw c.part.ensures (turn_set f ds c.loop-i.bytes c.loop-i.counts i bytes_long counts_long small c.loop-i.invariant.devices _ _ long (rw c.part.ensures at c.signal_one-response.ensures.device));
    }
