use Rattle.std.proofs.Common.{◌≡◌, ◌∙◌, Some, None, subst, sym}
use Rattle.std.specs.Prelude.{OnOk, OnErr}
use Rattle.std.proofs.lemmas.Result.{on_ok_weaker, on_err_weaker}
use Rattle.a2_media.specs.ImageDevice.{units_of}
use Rattle.a2_media.specs.Units.{unit_in}
use Rattle.a2_media.proofs.Images.{value_read, is_readable, is_unreadable}
use Rattle.a2_media.proofs.kinds.read_unit.Goals as goal

pub returns-in-Sector-clause-value : goal.returns-in-Sector-clause-value
returns-in-Sector-clause-value g c =
    on_ok_weaker c.read_sector.result (value_read c.args.kind c.args.image.now c.args.place c.requires.units c.requires.place c.read_sector.new.unit)
    (subst (λ k. OnOk c.read_sector.result (unit_in (units_of k c.args.image.now) c.args.place ≡ Some c.read_sector.new.unit)) (sym c.in-Sector.is) c.read_sector.ensures.value)

pub returns-in-Sector-clause-readable : goal.returns-in-Sector-clause-readable
returns-in-Sector-clause-readable g c =
    on_ok_weaker c.read_sector.result
    (λ some. is_readable c.args.kind c.args.image.now c.args.place c.requires.units c.requires.place (λ none. let never = sym some ∙ none in absurd (cc)))
    (subst (λ k. OnOk c.read_sector.result (unit_in (units_of k c.args.image.now) c.args.place ≡ Some c.read_sector.new.unit)) (sym c.in-Sector.is) c.read_sector.ensures.value)

pub returns-in-Sector-clause-unreadable : goal.returns-in-Sector-clause-unreadable
returns-in-Sector-clause-unreadable g c =
    on_err_weaker c.read_sector.result (is_unreadable c.args.kind c.args.image.now c.args.place c.requires.units c.requires.place)
    (subst (λ k. OnErr c.read_sector.result (unit_in (units_of k c.args.image.now) c.args.place ≡ None)) (sym c.in-Sector.is) c.read_sector.ensures.none)

pub returns-in-Block-clause-value : goal.returns-in-Block-clause-value
returns-in-Block-clause-value g c =
    on_ok_weaker c.read_block.result (value_read c.args.kind c.args.image.now c.args.place c.requires.units c.requires.place c.read_block.new.unit)
    (subst (λ k. OnOk c.read_block.result (unit_in (units_of k c.args.image.now) c.args.place ≡ Some c.read_block.new.unit)) (sym c.in-Block.is) c.read_block.ensures.value)

pub returns-in-Block-clause-readable : goal.returns-in-Block-clause-readable
returns-in-Block-clause-readable g c =
    on_ok_weaker c.read_block.result
    (λ some. is_readable c.args.kind c.args.image.now c.args.place c.requires.units c.requires.place (λ none. let never = sym some ∙ none in absurd (cc)))
    (subst (λ k. OnOk c.read_block.result (unit_in (units_of k c.args.image.now) c.args.place ≡ Some c.read_block.new.unit)) (sym c.in-Block.is) c.read_block.ensures.value)

pub returns-in-Block-clause-unreadable : goal.returns-in-Block-clause-unreadable
returns-in-Block-clause-unreadable g c =
    on_err_weaker c.read_block.result (is_unreadable c.args.kind c.args.image.now c.args.place c.requires.units c.requires.place)
    (subst (λ k. OnErr c.read_block.result (unit_in (units_of k c.args.image.now) c.args.place ≡ None)) (sym c.in-Block.is) c.read_block.ensures.none)
