-- The lines of items, one after the other.
use Rattle.std.proofs.Common.{◌≡◌, ◌≤◌, ◌∙◌, ◌++◌, ℕ, List, [], ap, ap₂, codes, decimal, length, sym, take, take_all}
use Rattle.std.specs.Prelude.{flat_map, map}
use Rattle.std.proofs.lemmas.List.{length-map}
use Rattle.std.proofs.lemmas.List.Folds.{flat_map-map}
use Rattle.file_listings.specs.DosText.{Text, line}
use Rattle.folder_adding.specs.AddedText.{added_line, added_text, passed_lines}
use Rattle.folder_adding.specs.HostEntries.{EntryView}
use Rattle.folder_adding.specs.Items.{batch_view, item_view}
use Rattle.folder_adding.specs.declared.item.Batch.{Batch}
use Rattle.folder_adding.specs.declared.item.Item.{Item}

-- behind a text the lines of all items
pub told : (batch : Batch) (front text : Text) (at : ℕ)
    → text ≡ front ++ flat_map (λ item. added_line batch.file_system (item_view item)) (take at batch.items.now)
    → length batch.items.now ≤ at → text ≡ front ++ flat_map (added_line batch.file_system) (batch_view batch).items
told batch front text at is all =
    let items = batch.items.now in
    is
    ∙ ap (λ (xs : List Item). front ++ flat_map (λ item. added_line batch.file_system (item_view item)) xs) (take_all at items all)
    ∙ ap (λ (lines : Text). front ++ lines) (sym (flat_map-map (added_line batch.file_system) item_view items))

-- the lines of all items, those of the entries that are passed over, and how many items there are
pub all_told : (batch : Batch) (views : List EntryView) (passed : List ℕ) (empty front lines text : Text) → empty ≡ []
    → front ≡ empty ++ flat_map (added_line batch.file_system) (batch_view batch).items → lines ≡ front ++ passed_lines views passed
    → text ≡ lines ++ line (codes "ADDED files " ++ decimal (length batch.items.now)) → text ≡ added_text (batch_view batch) views passed
all_told batch views passed empty front lines text is_empty is_front is_lines is =
    let added = flat_map (added_line batch.file_system) (batch_view batch).items in
    is
    ∙ ap₂ (λ (all : Text) (n : ℕ). all ++ line (codes "ADDED files " ++ decimal n))
    (is_lines ∙ ap (λ (all : Text). all ++ passed_lines views passed) (is_front ∙ ap (λ (none : Text). none ++ added) is_empty))
    (sym (length-map batch.items.now item_view))
