use Rattle.std.proofs.Common.{◌≡◌, ◌∙◌, ap, subst, sym, Some}
use Rattle.std.proofs.lemmas.Result.{err_from_is_err_and}
use Rattle.a2_image.specs.Image.{sector_in}
use Rattle.a2_media.proofs.Images.{lacks_sector, sector_there}
use Rattle.a2_media.proofs.units.read_sector.Goals as goal

pub returns-in-Some-clause-value : goal.returns-in-Some-clause-value
returns-in-Some-clause-value g c =
    let at = c.dos_sector-track.ensures in
    sector_there c.args.image.now.sectors c.args.place c.dos_sector-track.result.0 c.dos_sector-track.result.1 _ c.requires.place at.track at.sector
    (subst (λ content. sector_in c.args.image.now.sectors c.dos_sector-track.result.0 c.dos_sector-track.result.1 ≡ Some content) (sym c.copy_from_slice.ensures.after) c.in-Some.ensures.value)

pub returns-in_err-sector-clause-none : goal.returns-in_err-sector-clause-none
returns-in_err-sector-clause-none g c =
    let at = c.dos_sector-track.ensures in
    let given = err_from_is_err_and c.from_residual.result c.from_residual.ensures.1 in
    rw given.1 (lacks_sector c.args.image.now c.args.place c.dos_sector-track.result.0 c.dos_sector-track.result.1 c.requires.place c.requires.disk
    at.exists.0 at.exists.1 at.track at.sector (λ has. let never = c.in_err-sector.ensures.ok.1 has in absurd (cc)))

pub returns-clause-value : goal.returns-clause-value
returns-clause-value g c =
    let at = c.dos_sector-track.ensures in
    sector_there c.args.image.now.sectors c.args.place c.dos_sector-track.result.0 c.dos_sector-track.result.1 _ c.requires.place at.track at.sector
    (c.in_ok-sector.ensures.value ∙ ap Some (sym c.copy_from_slice-2.ensures.after))
