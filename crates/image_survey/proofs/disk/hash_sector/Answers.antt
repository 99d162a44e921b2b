use Rattle.std.proofs.Common.{◌/◌, arith, refl}
use Rattle.a2_media.proofs.Images.{lacks_sector, sector_there}
use Rattle.image_survey.proofs.disk.hash_sector.Goals as goal

pub returns-in-Err : goal.returns-in-Err
returns-in-Err c =
    let at = c.dos_to_phys-sector.ensures in
    lacks_sector c.args.image.now c.args.place (c.args.place / 16) c.dos_to_phys-sector.result c.requires.place c.requires.disk
    (omega (arith, c.requires.place)) at.fits refl at.value (λ has. let never = c.in-Err.ensures.ok.1 has in absurd (cc))

pub returns-in-Ok : goal.returns-in-Ok
returns-in-Ok c = (
  c.sector.new.content,
  sector_there c.args.image.now.sectors c.args.place (c.args.place / 16) c.dos_to_phys-sector.result _ c.requires.place refl
      c.dos_to_phys-sector.ensures.value c.in-Ok.ensures.value,
  c.update.ensures,
)
