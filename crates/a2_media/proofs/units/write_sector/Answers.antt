use Rattle.std.proofs.Common.{◌≡◌, ◌∙◌, ◌*◌, ◌+◌, ◌/◌, ap, set, subst, sym, Some}
use Rattle.std.proofs.lemmas.Result.{on_ok_weaker}
use Rattle.a2_image.specs.Image.{DiskImage, HasSector}
use Rattle.a2_media.specs.DosPlaces.{sectors_by_place}
use Rattle.a2_media.proofs.Images.{lacks_sector, has_sector, number_at, sectors_by_place-set}
use Rattle.a2_device.proofs.Results.{on_ok, on_err}
use Rattle.a2_media.proofs.units.write_sector.Goals as goal

pub returns-clause-written : goal.returns-clause-written
returns-clause-written g c =
    let at = c.dos_sector-track in
    let same = c.write_lent.ensures.unchanged c.if-write_lent.false in
    let all = c.args.image.now.sectors in
    let number : 16 * at.result.0 + at.result.1 ≡ number_at c.args.place =
    ap (λ t. 16 * t + at.result.1) at.ensures.track ∙ ap (λ s. 16 * (c.args.place / 16) + s) at.ensures.sector in
    on_ok_weaker c.set_sector.result
    (λ written. ap sectors_by_place (written ∙ ap (λ (image : DiskImage). set image.sectors (16 * at.result.0 + at.result.1) (Some c.copy_from_slice.new.self)) same ∙ ap (λ n. set all n (Some c.copy_from_slice.new.self)) number ∙ ap (λ u. set all (number_at c.args.place) (Some u)) c.copy_from_slice.ensures.after)
    ∙ sectors_by_place-set all c.args.place c.args.unit.now (c.blocks-blocks.ensures.disk c.requires.disk).count c.requires.place)
    c.set_sector.ensures.written

pub returns-clause-there : goal.returns-clause-there
returns-clause-there g c =
    let at = c.dos_sector-track in
    let same = c.write_lent.ensures.unchanged c.if-write_lent.false in
    on_ok c.set_sector.result (λ is. has_sector c.args.image.now c.args.place at.result.0 at.result.1 c.requires.place at.ensures.track at.ensures.sector
    (subst (λ image. HasSector image at.result.0 at.result.1) same (c.set_sector.ensures.ok.0 is)))

pub returns-clause-none : goal.returns-clause-none
returns-clause-none g c =
    let at = c.dos_sector-track in
    let same = c.write_lent.ensures.unchanged c.if-write_lent.false in
    on_err c.set_sector.result (λ fails. lacks_sector c.args.image.now c.args.place at.result.0 at.result.1 c.requires.place c.requires.disk
    at.ensures.exists.0 at.ensures.exists.1 at.ensures.track at.ensures.sector (λ has. fails (c.set_sector.ensures.ok.1 (subst (λ image. HasSector image at.result.0 at.result.1) (sym same) has))))

pub returns-then-write_lent-clause-written : goal.returns-then-write_lent-clause-written
returns-then-write_lent-clause-written g c =
    let at = c.dos_sector-track in
    let all = c.args.image.now.sectors in
    let number : 16 * at.result.0 + at.result.1 ≡ number_at c.args.place =
    ap (λ t. 16 * t + at.result.1) at.ensures.track ∙ ap (λ s. 16 * (c.args.place / 16) + s) at.ensures.sector in
    ap sectors_by_place (c.write_lent.ensures.written c.if-write_lent.true ∙ ap (λ n. set all n (Some c.args.unit.now)) number)
    ∙ sectors_by_place-set all c.args.place c.args.unit.now (c.blocks-blocks.ensures.disk c.requires.disk).count c.requires.place

pub returns-then-write_lent-clause-there : goal.returns-then-write_lent-clause-there
returns-then-write_lent-clause-there g c =
    let at = c.dos_sector-track in
    has_sector c.args.image.now c.args.place at.result.0 at.result.1 c.requires.place at.ensures.track at.ensures.sector (c.write_lent.ensures.there c.if-write_lent.true)
