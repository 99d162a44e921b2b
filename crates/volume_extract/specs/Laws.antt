-- What always holds of the items of a volume.
use Rattle.std.specs.Prelude.{◌≡◌, ◌≢◌, ◌<◌, ℕ, true, List, ◌++◌, flat_map, length}
use Rattle.std.specs.List.{range_with_len}
use Rattle.file_listings.specs.DosText.{line}
use Rattle.host_folders.specs.HostNames.{folded, has_tail, text_beside}
use Rattle.host_folders.specs.declared.entry.Naming.{Naming}
use Rattle.host_folders.specs.Path.{IsSafePath}
use Rattle.volume_extract.specs.ExtractText.{extract_text, item_text, totals_of, totals_text}
use Rattle.volume_extract.specs.Items.{Item, item_at}

-- the text is the lines of the items, one behind the other, and the last line
abbrev pub IsTextOfLines : List Item → Type 0
IsTextOfLines items = extract_text items
    ≡ flat_map (λ number. line (item_text (item_at items number))) (range_with_len 0 (length items))
    ++ line (totals_text (totals_of items))

-- of two items the paths differ, letters of either case taken as one
abbrev pub HaveOwnPaths : List Item → Type 0
HaveOwnPaths items = (one other : ℕ) → one < length items → other < length items → one ≢ other
    → folded (item_at items one).host ≢ folded (item_at items other).host

-- each path leads to a place within the folder, that of a readable form beside its file too
abbrev pub HaveSafePaths : List Item → Type 0
HaveSafePaths items = (number : ℕ) → number < length items
    → IsSafePath (item_at items number).host × IsSafePath (text_beside (item_at items number).host)

-- Where files have a type in their names, the path of no readable form beside a file is that of a file, letters of
-- either case taken as one, and those of two differ.
pub record HaveOwnTexts (naming : Naming) (items : List Item) (one other : ℕ) : Type 0 where
  pub file : has_tail naming (item_at items one).entry.directory ≡ true
      → has_tail naming (item_at items other).entry.directory ≡ true
      → folded (text_beside (item_at items one).host) ≢ folded (item_at items other).host
  pub text : one ≢ other → folded (text_beside (item_at items one).host)
      ≢ folded (text_beside (item_at items other).host)

abbrev pub TextsHaveOwnPaths : Naming → List Item → Type 0
TextsHaveOwnPaths naming items =
    (one other : ℕ) → one < length items → other < length items → HaveOwnTexts naming items one other
