-- `read_as`: each shape is read field by field.
use Rattle.script.proofs.parser.read_as.Goals as goal

pub returns-in_err-chip-in-Add : goal.returns-in_err-chip-in-Add
returns-in_err-chip-in-Add c = rw (c.in-Add.is, ← c.fields.ensures, c.in_err-chip-in-Add.was) c.from_residual.ensures

pub returns-in_ok-chip-in-Add : goal.returns-in_ok-chip-in-Add
returns-in_ok-chip-in-Add c = rw (c.in-Add.is, ← c.fields.ensures, c.in_ok-chip-in-Add.was)

pub returns-in_err-ack-in-Get : goal.returns-in_err-ack-in-Get
returns-in_err-ack-in-Get c = rw (c.in-Get.is, ← c.fields-in-Get.ensures, c.in_err-ack-in-Get.was) c.from_residual-in_err-ack-in-Get.ensures

pub returns-in_ok-ack-in-Get : goal.returns-in_ok-ack-in-Get
returns-in_ok-ack-in-Get c = rw (c.in-Get.is, ← c.fields-in-Get.ensures, c.in_ok-ack-in-Get.was)

pub returns-in_err-dev-in-Reset : goal.returns-in_err-dev-in-Reset
returns-in_err-dev-in-Reset c = rw (c.in-Reset.is, ← c.fields-in-Reset.ensures, c.in_err-dev-in-Reset.was) c.from_residual-in_err-dev-in-Reset.ensures

pub returns-in_ok-dev-in-Reset : goal.returns-in_ok-dev-in-Reset
returns-in_ok-dev-in-Reset c = rw (c.in-Reset.is, ← c.fields-in-Reset.ensures, c.in_ok-dev-in-Reset.was)
