use Rattle.std.proofs.Common.{◌*◌, ◌/◌, ◌%◌, ◌∙◌, List, ℕ, ap, subst, sym}
use Rattle.std.specs.Prelude.{slice_set}
use Rattle.dos_catalog.specs.Writes.{with_place}
use Rattle.edit_formats.specs.Order.{part_at}
use Rattle.edit_formats.specs.ListUnit.{IsListUnit}
use Rattle.edit_formats.proofs.ListWrites.{list_unit}
use Rattle.edit_formats.proofs.list_unit.build_list.Goals as goal

pub returns : goal.returns
returns c =
    let parts = c.args.parts.now in
    let places = c.args.places.now in
    let number = (part_at parts c.args.at).number in
    let unit = c.put_pairs-end.new.unit in
    let linked = c.set_next.ensures ∙ ap (λ (place : ℕ). with_place 1 place unit) c.place_at.ensures.value in
    let whole = c.put_first.ensures ∙ ap (λ (u : List ℕ). slice_set (slice_set u 5 (122 * number % 256)) 6 (122 * number / 256)) linked in
    subst (IsListUnit parts places number) (sym whole)
    (list_unit parts places c.args.at c.put_pairs-end.result unit c.requires.file c.requires.at c.requires.list c.requires.count c.put_pairs-end.ensures.end c.put_pairs-end.ensures.unit)
