use Rattle.std.proofs.Common.{◌≡◌, ◌++◌, take, string_bytes}
use Rattle.std.specs.Prelude.{flat_map}
use Rattle.folder_adding.specs.AddedText.{added_line}
use Rattle.folder_adding.specs.Items.{item_view}
use Rattle.folder_adding.proofs.telling.push_added.Given as goal

-- behind the text the lines so far
abbrev pub invariant-loop-item : goal.invariant-loop-item
invariant-loop-item l =
    string_bytes l.text
    ≡ string_bytes l.fn.text ++ flat_map (λ item. added_line l.file_system (item_view item)) (take l.item-index l.item-items)
