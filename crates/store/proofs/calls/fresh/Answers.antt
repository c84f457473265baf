-- `fresh`: refused by the size; else every byte is 0.
use Rattle.std.proofs.Common.{rules, sym}
use Rattle.store.proofs.laws.Calls.{fresh_refused, fresh_done}
use Rattle.store.proofs.calls.fresh.Goals as goal

pub returns-then-store-ne-SIZE : goal.returns-then-store-ne-SIZE
returns-then-store-ne-SIZE c = sym (fresh_refused c.args.store.now c.if-store-ne-SIZE.true)

pub returns : goal.returns
returns c =
    let size = c.if-store-ne-SIZE.false in
    let zeros = rw size at (c.fill.ensures.after (λ y h. search rules)) in
    rw zeros (sym (fresh_done c.args.store.now size))
