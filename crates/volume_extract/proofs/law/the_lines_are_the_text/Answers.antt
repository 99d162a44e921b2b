use Rattle.std.proofs.Common.{◌++◌, ◌∙◌, ap, refl, List, length}
use Rattle.std.specs.Prelude.{ℕ, flat_map}
use Rattle.std.specs.List.{range_with_len}
use Rattle.std.proofs.lemmas.List.Folds.{flat_map-map}
use Rattle.std.proofs.lemmas.List.FromFn.{fill_by_all}
use Rattle.file_listings.specs.DosText.{line}
use Rattle.volume_extract.specs.ExtractText.{item_text, totals_of, totals_text}
use Rattle.volume_extract.specs.Items.{Item, item_at, no_item}
use Rattle.volume_extract.proofs.law.the_lines_are_the_text.Goals as goal

abbrev told : Item → List ℕ
told item = line (item_text item)

pub returns : goal.returns
returns c = λ items.
    let all = fill_by_all (item_at items) items (length items) no_item refl (λ k low. refl) in
    ap (λ (text : List ℕ). text ++ line (totals_text (totals_of items)))
    (ap (λ (items : List Item). flat_map told items) all ∙ flat_map-map told (item_at items) (range_with_len 0 (length items)))
