-- `read_setting`: of its parts.
use Rattle.std.proofs.Common.{◌≡◌, ◌∙◌, refl, ap}
use Rattle.chip.specs.Kinds.{chip_numbered}
use Rattle.text.specs.Read.{rest_at}
use Rattle.setting.specs.Reader.{kind_of}
use Rattle.setting.proofs.Lines.{parts, parts_judged}
use Rattle.setting.proofs.read.read_setting.Goals as goal

pub returns-clause-setting : goal.returns-clause-setting
returns-clause-setting c =
    let t = c.args.text.now in
    let kind : rest_at t c.read_line-kind.result ≡ kind_of t = c.read_line-kind.ensures ∙ rw c.start.ensures refl in
    let found = c.ok-found.ensures.value ∙ c.try_from.ensures ∙ ap chip_numbered (c.number_of.ensures t) in
    parts t (rest_at t c.read_line-kind.result) (rest_at t c.read_line-address.result) (rest_at t c.read_registers-end.result.0) c.ok-found.result c.known_chip-chip.result c.read_registers-end.result.1 c.number_of-2.result kind c.read_line-address.ensures found c.known_chip-chip.ensures c.read_registers-end.ensures.values (c.number_of-2.ensures t)

pub returns-clause-read : goal.returns-clause-read
returns-clause-read c =
    let t = c.args.text.now in
    let kind : rest_at t c.read_line-kind.result ≡ kind_of t = c.read_line-kind.ensures ∙ rw c.start.ensures refl in
    let found = c.ok-found.ensures.value ∙ c.try_from.ensures ∙ ap chip_numbered (c.number_of.ensures t) in
    c.judge.ensures t
    ∙ parts_judged t (rest_at t c.read_line-kind.result) (rest_at t c.read_line-address.result) (rest_at t c.read_registers-end.result.0) c.ok-found.result c.known_chip-chip.result c.read_registers-end.result.1 _ c.at_end.result kind c.read_line-address.ensures found c.known_chip-chip.ensures c.read_registers-end.ensures.field c.at_end.ensures (returns-clause-setting c)
