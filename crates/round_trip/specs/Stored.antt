-- The path of a file that was extracted and is saved again.
use Rattle.std.specs.Prelude.{◌≡◌, ℕ, List, Option}
use Rattle.file_formats.specs.DosFiles.{filled_name}
use Rattle.folder_adding.specs.HostPaths.{Text}
use Rattle.folder_adding.specs.Verdicts.{AddedFolder}
use Rattle.pro_dir.specs.Paths.{folded}
use Rattle.round_trip.specs.Extracted.{Extracted, entry_in}
use Rattle.round_trip.specs.Planned.{path_again, path_in}
use Rattle.edit_formats.specs.declared.target.Attributes.{Attributes}
use Rattle.edit_formats.specs.declared.target.Extent.{Extent}
use Rattle.edit_formats.specs.declared.target.Slot.{Slot}
use Rattle.shop_changes.specs.EditRules.{edits_of}
use Rattle.shop_jobs.specs.declared.input.FileSystem.{FileSystem}
use Rattle.shop_jobs.specs.declared.input.FileSystem.TheVariants.{Dos, Prodos}
use Rattle.vol_format.specs.Directory.{Listed}

-- the path that is stored of it: of DOS 3.3 the name that its entry had, with spaces up to 30 bytes, and of ProDOS the
-- path that it had, with its letters as capitals
abbrev pub stored_again : FileSystem → Option Text → Listed → Text
stored_again Dos into entry = filled_name entry.path
stored_again Prodos into entry = folded (path_again Prodos into entry)

-- the entry with which a file is saved under the path that it had has that path
abbrev pub IsStoredAgain : AddedFolder → Extracted → ℕ → Type 0
IsStoredAgain folder e number =
    (store : List (List ℕ)) (slot : Slot) (attributes : Attributes) (extent : Extent) (at : ℕ) (entry : Listed)
    → (edits_of folder.file_system).save.IsEntry store (path_in folder e number) slot attributes extent at entry
    → entry.path ≡ stored_again folder.file_system folder.into (entry_in e number)
