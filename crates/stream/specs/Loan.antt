-- A run answers through the two buffers lent to it, and gives them back.
use Rattle.std.specs.Prelude.{◌≡◌}
use Rattle.stream.specs.declared.buffers.Buffers.{Buffers}

-- the same two slices, whatever they now hold
pub record IsSameLoan (old new : Buffers) : Type 0 where
  pub buf : new.buf.ghost_name ≡ old.buf.ghost_name
  pub out : new.out.ghost_name ≡ old.out.ghost_name
