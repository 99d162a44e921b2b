use Rattle.std.proofs.Common.{◌+◌, ◌/◌, ◌%◌, length, ◌∙◌, ap}
use Rattle.std.specs.Prelude.{replicate}
use Rattle.edit_formats.specs.ProNames.{pro_name}
use Rattle.edit_formats.specs.ProSaves.{last_name}
use Rattle.file_edits.specs.NewDirectory.{behind_date, behind_name, up_to_name}
use Rattle.file_edits.proofs.BlockBytes.{six_parts}
use Rattle.file_edits.proofs.NewBytes.{block_size}
use Rattle.file_edits.proofs.new_block.directory_block.Goals as goal

pub returns-clause-value : goal.returns-clause-value
returns-clause-value g c =
    let path = c.args.path.now in
    let slot = c.args.slot.now in
    let date = c.args.date.now in
    let name = c.last_name-name.ensures in
    six_parts c.new-unit.result.items c.add.new.unit.items c.add-2.new.unit.items c.add-3.new.unit.items c.add_date.new.unit.items c.add-4.new.unit.items c.add-5.new.unit.items
    c.up_to_name.result c.pro_name.result behind_name date.0 c.behind_date.result (replicate 469 0) c.new-unit.ensures.items
    c.in_ok-add.ensures c.in_ok-add-2.ensures c.in_ok-add-3.ensures c.in_ok-add_date.ensures.added c.in_ok-add-4.ensures c.in_ok-add-5.ensures
    (up_to_name (0xe0 + length (last_name path))) (pro_name (last_name path)) (behind_date (slot.place % 256) (slot.place / 256) (slot.number + 1))
    (c.up_to_name.ensures ∙ ap (λ l. up_to_name (0xe0 + length l)) name) (c.pro_name.ensures ∙ ap pro_name name) c.behind_date.ensures

pub returns-clause-size : goal.returns-clause-size
returns-clause-size g c =
    let path = c.args.path.now in
    let slot = c.args.slot.now in
    let date = c.args.date.now in
    let name = c.last_name-name.ensures in
    ap length
    (six_parts c.new-unit.result.items c.add.new.unit.items c.add-2.new.unit.items c.add-3.new.unit.items c.add_date.new.unit.items c.add-4.new.unit.items c.add-5.new.unit.items
    c.up_to_name.result c.pro_name.result behind_name date.0 c.behind_date.result (replicate 469 0) c.new-unit.ensures.items
    c.in_ok-add.ensures c.in_ok-add-2.ensures c.in_ok-add-3.ensures c.in_ok-add_date.ensures.added c.in_ok-add-4.ensures c.in_ok-add-5.ensures
    (up_to_name (0xe0 + length (last_name path))) (pro_name (last_name path)) (behind_date (slot.place % 256) (slot.place / 256) (slot.number + 1))
    (c.up_to_name.ensures ∙ ap (λ l. up_to_name (0xe0 + length l)) name) (c.pro_name.ensures ∙ ap pro_name name) c.behind_date.ensures)
    ∙ block_size path slot date c.requires.name c.add_date.ensures.date
