-- What is told of an item that was saved is what a listing shows of its file.
use Rattle.std.specs.Prelude.{◌≡◌, ℕ, List}
use Rattle.std.specs.declared.alloc.Global.{Global}
use Rattle.folder_adding.specs.AddedText.{listed_path}
use Rattle.file_listings.specs.Steps.{shown_path}
use Rattle.edit_formats.specs.declared.target.Attributes.{Attributes}
use Rattle.edit_formats.specs.declared.target.Extent.{Extent}
use Rattle.edit_formats.specs.declared.target.Slot.{Slot}
use Rattle.shop_changes.specs.EditRules.{edits_of}
use Rattle.shop_jobs.specs.declared.input.FileSystem.{FileSystem}
use Rattle.shop_volumes.specs.VolumeFiles.{files_of}
use Rattle.shop_replies.specs.Volume.{form_of}
use Rattle.vol_format.specs.Directory.{Listed}

-- the path that is told of a file is the one that a listing shows of the entry with which it is saved under that path
abbrev pub IsToldAsListed : Type 0
IsToldAsListed =
    (file_system : FileSystem) (store : List (List ℕ)) (path : List ℕ) (slot : Slot) (attributes : Attributes)
    (extent : Extent) (at : ℕ) (entry : Listed)
    → (edits_of file_system).save.IsEntry store path slot attributes extent at entry
    → listed_path file_system path
    ≡ shown_path (form_of file_system) ((files_of file_system).shown {A = Global} entry).path
