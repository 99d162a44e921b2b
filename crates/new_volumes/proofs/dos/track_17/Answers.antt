use Rattle.std.proofs.Common.{◌≡◌, ◌∙◌, Bool, true, false, ap, sym, arith}
use Rattle.std.specs.Prelude.{◌==◌, if◌then◌else◌}
use Rattle.std.proofs.lemmas.Bool.Decides.{nat_tests}
use Rattle.new_volumes.specs.DosUnits.{catalog_fields, track_17, vtoc_fields}
use Rattle.new_volumes.specs.Fields.{unit_with}
use Rattle.new_volumes.proofs.dos.track_17.Goals as goal

pub returns-then-sector-eq0 : goal.returns-then-sector-eq0
unfolding track_17
returns-then-sector-eq0 c =
    let test : (c.args.sector == 0) ≡ true = grind (arith, nat_tests) in
    c.vtoc.ensures
    ∙ sym (ap (λ (b : Bool). unit_with 256 (if b then vtoc_fields c.args.number c.args.data_disk else catalog_fields c.args.sector)) test)

pub returns-else-sector-eq0 : goal.returns-else-sector-eq0
unfolding track_17
returns-else-sector-eq0 c =
    let test : (c.args.sector == 0) ≡ false = grind (arith, nat_tests) in
    c.catalog_sector.ensures
    ∙ sym (ap (λ (b : Bool). unit_with 256 (if b then vtoc_fields c.args.number c.args.data_disk else catalog_fields c.args.sector)) test)
