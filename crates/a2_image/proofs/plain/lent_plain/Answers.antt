use Rattle.std.proofs.Common.{◌∙◌, ap, sym, Some}
use Rattle.a2_image.specs.Image.{bytes_of_sector}
use Rattle.a2_image.proofs.Sectors.{sector_in-sectors_by}
use Rattle.a2_image.proofs.plain.lent_plain.Goals as goal

pub returns-clause-value : goal.returns-clause-value
returns-clause-value c =
    sector_in-sectors_by c.args.order c.args.bytes.now c.args.track c.args.sector c.requires.exists.0 c.requires.exists.1
    ∙ ap Some (ap (bytes_of_sector c.args.bytes.now) (sym c.stored_number-start.ensures.value))
