use Rattle.std.proofs.Common.{ap, subst, ◌∙◌, arith}
use Rattle.a2_device.specs.Device.{DeviceState, FailsRead}
use Rattle.a2_media.specs.FileDevice.{file_units}
use Rattle.a2_media.specs.declared.units.UnitKind.TheVariants.{Block}
use Rattle.new_volumes.proofs.Checked.{empty_blocks as checked_blocks, refused_blocks, prodos_length}
use Rattle.new_volumes.proofs.Units.{blocks_stand, reads_all, count_of}
use Rattle.new_volumes.proofs.finishing.empty_blocks.Goals as goal

pub opened-requires : goal.opened-requires
opened-requires c = prodos_length _ c.args.blocks c.requires.long c.requires.blocks (omega (arith, c.ranges.blocks))

pub require_empty-requires-clause-fits : goal.require_empty-requires-clause-fits
require_empty-requires-clause-fits c =
    let places = ap (λ (d : DeviceState). d.places) c.prodos.ensures ∙ count_of c.args.bytes.items c.args.blocks c.in_ok-image.image c.in_ok-image.ensures.image c.requires.long in
    record {
      unit = ap (λ (d : DeviceState). d.unit_size) c.prodos.ensures;
      places = (omega (arith, places, c.requires.blocks), omega (arith, places, c.ranges.blocks));
    }

pub require_empty-requires-clause-readable : goal.require_empty-requires-clause-readable
require_empty-requires-clause-readable c = λ place state fails.
    reads_all Block c.in_ok-image.image (file_units 512 c.args.blocks c.args.bytes.items) (blocks_stand c.args.bytes.items c.args.blocks c.in_ok-image.image c.in_ok-image.ensures.image c.requires.long)
    place state (subst (λ (d : DeviceState). FailsRead place d state) c.prodos.ensures fails)

pub returns-clause-refused : goal.returns-clause-refused
returns-clause-refused c = refused_blocks c.args.blocks c.new-format.result c.none.result _ c.args.bytes.items c.in_ok-image.image c.new-format.ensures c.none.ensures c.prodos.ensures c.in_ok-image.ensures.image c.requires.long c.in-Err.error c.in-Err.ensures.refused

pub returns-in-Ok-clause-empty : goal.returns-in-Ok-clause-empty
returns-in-Ok-clause-empty c = checked_blocks c.args.blocks c.new-format.result c.none.result _ c.args.bytes.items c.in_ok-image.image c.new-format.ensures c.none.ensures c.prodos.ensures c.in_ok-image.ensures.image c.requires.long c.in-Ok.ensures.empty
