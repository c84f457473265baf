-- A further device: its refusals, and the bus with it (RULES, Events; the table of refusals is in docs/DECISIONS.md).
use Rattle.std.specs.Prelude.{Option, Some, None, ℕ, not, List, [], ◌∷◌, leb}
use Rattle.chip.specs.declared.Chip.{Chip}
use Rattle.chip.specs.Kinds.{chip_numbered, is_unknown}
use Rattle.chip.specs.Addresses.{is_barred}
use Rattle.device.specs.Reset.{fresh}
use Rattle.protocol.specs.Signals.{is_open}
use Rattle.refusals.specs.Refusals.{Refusal, refuse}
use Rattle.bus.specs.Devices.{bus_ok, with_added}
use Rattle.bus.specs.declared.Bus.{Bus}

-- 1 an unknown kind; 2 an address that the kind cannot have; 3 eight devices present; 5 an open message
abbrev pub add_refusals : Bus → ℕ → ℕ → List Refusal
add_refusals b chip address =
    refuse 1 (is_unknown (chip_numbered chip))
    ∷ refuse 2 (is_barred (chip_numbered chip) address)
    ∷ refuse 3 (leb 8 b.count)
    ∷ refuse 4 (not (bus_ok b))
    ∷ refuse 5 (is_open b.phase)
    ∷ []

abbrev pub added_to : Bus → Option Chip → ℕ → Bus
added_to b None address = b
added_to b (Some chip) address = with_added b (fresh chip address)
