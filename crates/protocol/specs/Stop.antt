-- What a STOP does (RULES, Selection and In effect).
use Rattle.std.specs.Prelude.{ℕ, Bool, true, false, ◌&&◌, cond, List, get_or}
use Rattle.basics.specs.Tabulate.{tabulate}
use Rattle.chip.specs.Kinds.{is_driver, outputs_of}
use Rattle.chip.specs.Registers.{in_buffer}
use Rattle.device.specs.Fields.{with_stage, with_effective}
use Rattle.device.specs.Registers.{is_awake}
use Rattle.device.specs.Reset.{after_reset}
use Rattle.device.specs.declared.Device.{Device}
use Rattle.device.specs.declared.Stage.{Stage}
use Rattle.device.specs.declared.Stage.TheVariants.{Unselected, Control, Data, Talking, ResetCall, ResetFirst, ResetBoth}

-- the copy in effect after a commit: the buffered registers as written, every other entry as it was
abbrev pub committed_at : ℕ → List ℕ → List ℕ → ℕ → ℕ
committed_at n written effective r = cond (in_buffer n r) (get_or written r 0) (get_or effective r 0)

unfoldable pub committed : ℕ → List ℕ → List ℕ → List ℕ
committed n written effective = tabulate 28 (committed_at n written effective)

-- an awake driver puts PWM0 through LEDOUT into effect, addressed or not
unfoldable pub after_commit : Device → Device
after_commit d =
    cond (is_driver d.chip && is_awake d)
    (with_effective d (committed (outputs_of d.chip) d.written d.effective))
    d

abbrev pub took_reset : Stage → Bool
took_reset Unselected = false
took_reset Control = false
took_reset Data = false
took_reset Talking = false
took_reset ResetCall = false
took_reset ResetFirst = false
took_reset ResetBoth = true

-- a driver that took both bytes of the software reset call is reset
unfoldable pub after_stop : Device → Device
after_stop d =
    cond (is_driver d.chip && took_reset d.stage) (after_reset d) (with_stage (after_commit d) Unselected)
