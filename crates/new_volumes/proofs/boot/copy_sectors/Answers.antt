use Rattle.std.proofs.Common.{◌≡◌, ◌+◌, ◌*◌, ◌/◌, ◌≤◌, ℕ, List, Some, length, arith, rules, refl, sym, subst}
use Rattle.std.proofs.lemmas.Bool.{false≢true}
use Rattle.a2_media.specs.DosPlaces.{sectors_by_place}
use Rattle.a2_media.specs.Units.{unit_in}
use Rattle.a2_media.proofs.Images.{lacks_sector, sector_there}
use Rattle.new_volumes.specs.Filling.{Filled}
use Rattle.new_volumes.proofs.Fills.{Filled-more, apart_256}
use Rattle.new_volumes.proofs.boot.copy_sectors.Goals as goal

pub returns-in-Err-clause-none : goal.returns-in-Err-clause-none
returns-in-Err-clause-none c =
    let image = c.args.image.now in
    let place = c.loop-place.place in
    let below = c.loop-place-test.true in
    let sector = c.dos_to_phys-sector.ensures in (
      place,
      below,
      lacks_sector image place (place / 16) c.dos_to_phys-sector.result (omega (arith, below)) c.requires.from (omega (arith, below)) sector.fits refl sector.value
          (λ has. false≢true (c.in-Err.ensures.ok.1 has)),
    )

pub loop-place-preserved : goal.loop-place-preserved
loop-place-preserved c =
    let image = c.args.image.now in
    let place = c.loop-place.place in
    let below = c.loop-place-test.true in
    let Is : ℕ → List ℕ → Type 0 = λ place unit. unit_in (sectors_by_place image.sectors) place ≡ Some unit in
    let long : length c.sector.new.content ≡ 256 = search rules in
    let room : 256 * place + 256 ≤ length c.args.disk.now = omega (arith, below, c.requires.into) in
    subst (Filled 256 Is 0 (place + 1) c.args.disk.now) (sym c.put_unit.ensures)
    (Filled-more 256 Is 0 place c.args.disk.now c.loop-place.disk c.sector.new.content c.loop-place.invariant (omega arith) apart_256 long room
    (sector_there image.sectors place (place / 16) c.dos_to_phys-sector.result _ (omega (arith, below)) refl c.dos_to_phys-sector.ensures.value c.in-Ok.ensures.value))
