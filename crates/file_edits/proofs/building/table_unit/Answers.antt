use Rattle.std.proofs.Common.{rules, ◌≡◌, ◌∙◌, ap, length, subst, sym}
use Rattle.std.proofs.lemmas.List.{with_items_is}
use Rattle.file_edits.proofs.building.table_unit.Goals as goal

pub returns-clause-value : goal.returns-clause-value
returns-clause-value g c =
    let placed = c.args.placed.now in
    let unit = c.in_ok-unit.unit in
    let size : length c.build.new.unit ≡ unit.len = search rules in
    subst ((g.F.SavableFormat.saves c.args.format.now).IsTable placed.parts.now placed.places.now c.args.at) (sym (with_items_is unit c.build.new.unit size)) c.build.ensures

pub returns-clause-size : goal.returns-clause-size
returns-clause-size g c =
    let unit = c.in_ok-unit.unit in
    let size : length c.build.new.unit ≡ unit.len = search rules in
    let long : length c.build.new.unit ≡ c.args.size = search rules in
    ap length (with_items_is unit c.build.new.unit size) ∙ long
