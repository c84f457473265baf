-- `answer_from`: turns one after the other are one long turn.
use Rattle.std.proofs.Common.{sym, refl, ◌∙◌}
use Rattle.stream.proofs.Turns.{turned_none, turned_more, turned_place, goes_on_lem}
use Rattle.stream.proofs.buffers.Buffers.answer_from.Goals as goal

pub loop-self-init : goal.loop-self-init
loop-self-init g c =
    (rw c.begin-s.ensures (turned_none c.args.first c.args.self.now.buf.now), rw c.begin-s.ensures (record { read_is = c.requires.0; sent_is = c.requires.1 }), record { buf = refl; out = refl })

pub take_turn-s-requires : goal.take_turn-s-requires
take_turn-s-requires g c =
    let l = c.loop-self in
    let o = goes_on_lem l.s (sym c.goes_on.ensures ∙ c.loop-self-test.true) in
    (record { kept = l.invariant.0.goes.kept o.0; short = o.1; place = turned_place c.args.first l.s l.self.buf.now (rw c.begin-s.ensures at l.invariant.0) o.0 }, l.invariant.1)

pub loop-self-preserved : goal.loop-self-preserved
loop-self-preserved g c =
    let l = c.loop-self in
    (turned_more l.invariant.0 (goes_on_lem l.s (sym c.goes_on.ensures ∙ c.loop-self-test.true)).0 c.take_turn-s.ensures.turns, c.take_turn-s.ensures.stands, record { buf = c.take_turn-s.ensures.loan.buf ∙ l.invariant.2.buf; out = c.take_turn-s.ensures.loan.out ∙ l.invariant.2.out })

pub returns-clause-loan : goal.returns-clause-loan
returns-clause-loan g c = c.loop-self.invariant.2
