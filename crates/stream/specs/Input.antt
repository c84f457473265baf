-- Standard input: what a read does.
use Rattle.std.specs.Prelude.{ℕ, ◌+◌, ◌≤◌, ◌<◌, ◌≡◌, List, length, take}
use Rattle.stream.specs.declared.input.Input.{Input}
use Rattle.stream.specs.declared.input.Status.TheVariants.{Open, Ended}

abbrev pub nothing_read : Input
nothing_read = record { read = 0; status = Open }

-- the bytes read are behind the first `have`, which stay; none at the end
pub record Receives (i : Input) (have : ℕ) (old : List ℕ) (r : Input) (new : List ℕ) : Type 0 where
  pub more : i.read ≤ r.read
  pub none : r.status ≡ Ended → r.read ≡ i.read
  pub some : r.status ≡ Open → i.read < r.read
  pub room : have + r.read ≤ i.read + length old
  pub kept : take have new ≡ take have old
