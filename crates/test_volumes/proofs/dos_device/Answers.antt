use Rattle.std.proofs.Common.{length, sym, ◌∙◌}
use Rattle.a2_image.proofs.Opened.{IsOfDisk-Dos}
use Rattle.test_volumes.proofs.Opening.{never_refused}
use Rattle.test_volumes.proofs.dos_device.Goals as goal

pub dos-requires : goal.dos-requires
dos-requires c = IsOfDisk-Dos c.in-Ok.image c.in-Ok.ensures.order

pub unreachable-requires : goal.unreachable-requires
unreachable-requires c = never_refused (length c.args.image.items) c.in-Err.field-0.0 (sym c.args.image.ok.0 ∙ c.requires) c.in-Err.ensures.refused
