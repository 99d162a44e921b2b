use Rattle.std.proofs.Common.{◌≡◌, ◌≢◌, Some, None, set, subst, sym}
use Rattle.std.specs.Prelude.{OnOk, OnErr}
use Rattle.std.proofs.lemmas.Result.{on_ok_weaker, on_err_weaker}
use Rattle.a2_media.specs.ImageDevice.{units_of}
use Rattle.a2_media.specs.Units.{unit_in}
use Rattle.a2_media.proofs.Images.{is_written, is_readable, is_unreadable}
use Rattle.a2_device.proofs.Results.{on_ok_both}
use Rattle.a2_media.proofs.kinds.write_unit.Goals as goal

pub returns-in-Sector-clause-written : goal.returns-in-Sector-clause-written
returns-in-Sector-clause-written g c =
    let old = c.args.image.now in
    let new = c.write_sector.new.image in
    on_ok_both c.write_sector.result
    (subst (λ k. OnOk c.write_sector.result (units_of k new ≡ set (units_of k old) c.args.place (Some c.args.unit.now))) (sym c.in-Sector.is) c.write_sector.ensures.written)
    (subst (λ k. OnOk c.write_sector.result (unit_in (units_of k old) c.args.place ≢ None)) (sym c.in-Sector.is) c.write_sector.ensures.there)
    (is_written c.args.kind old new c.args.place c.args.unit.now c.requires.units c.requires.place c.requires.has c.requires.unit c.write_sector.ensures.order c.write_sector.ensures.long c.write_sector.ensures.kept)

pub returns-in-Sector-clause-readable : goal.returns-in-Sector-clause-readable
returns-in-Sector-clause-readable g c =
    on_ok_weaker c.write_sector.result (is_readable c.args.kind c.args.image.now c.args.place c.requires.units c.requires.place)
    (subst (λ k. OnOk c.write_sector.result (unit_in (units_of k c.args.image.now) c.args.place ≢ None)) (sym c.in-Sector.is) c.write_sector.ensures.there)

pub returns-in-Sector-clause-unreadable : goal.returns-in-Sector-clause-unreadable
returns-in-Sector-clause-unreadable g c =
    on_err_weaker c.write_sector.result (is_unreadable c.args.kind c.args.image.now c.args.place c.requires.units c.requires.place)
    (subst (λ k. OnErr c.write_sector.result (unit_in (units_of k c.args.image.now) c.args.place ≡ None)) (sym c.in-Sector.is) c.write_sector.ensures.none)

pub returns-in-Block-clause-written : goal.returns-in-Block-clause-written
returns-in-Block-clause-written g c =
    let old = c.args.image.now in
    let new = c.write_block.new.image in
    on_ok_both c.write_block.result
    (subst (λ k. OnOk c.write_block.result (units_of k new ≡ set (units_of k old) c.args.place (Some c.args.unit.now))) (sym c.in-Block.is) c.write_block.ensures.written)
    (subst (λ k. OnOk c.write_block.result (unit_in (units_of k old) c.args.place ≢ None)) (sym c.in-Block.is) c.write_block.ensures.there)
    (is_written c.args.kind old new c.args.place c.args.unit.now c.requires.units c.requires.place c.requires.has c.requires.unit c.write_block.ensures.order c.write_block.ensures.long c.write_block.ensures.kept)

pub returns-in-Block-clause-readable : goal.returns-in-Block-clause-readable
returns-in-Block-clause-readable g c =
    on_ok_weaker c.write_block.result (is_readable c.args.kind c.args.image.now c.args.place c.requires.units c.requires.place)
    (subst (λ k. OnOk c.write_block.result (unit_in (units_of k c.args.image.now) c.args.place ≢ None)) (sym c.in-Block.is) c.write_block.ensures.there)

pub returns-in-Block-clause-unreadable : goal.returns-in-Block-clause-unreadable
returns-in-Block-clause-unreadable g c =
    on_err_weaker c.write_block.result (is_unreadable c.args.kind c.args.image.now c.args.place c.requires.units c.requires.place)
    (subst (λ k. OnErr c.write_block.result (unit_in (units_of k c.args.image.now) c.args.place ≡ None)) (sym c.in-Block.is) c.write_block.ensures.none)
