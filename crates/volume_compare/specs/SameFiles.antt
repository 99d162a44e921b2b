-- Volumes whose files are the same.
use Rattle.std.specs.Prelude.{◌≡◌, ℕ, List, Some}
use Rattle.vol_layout.specs.declared.form.PlaceForm.{PlaceForm}
use Rattle.vol_format.specs.Directory.{Directory}
use Rattle.vol_format.specs.Meaning.{Meaning}
use Rattle.file_formats.specs.Files.{FileMeaning}
use Rattle.volume_compare.specs.Contents.{FileContent, IsContent, SeenVolume, volume_in}
use Rattle.volume_compare.specs.Findings.{paths_in}
use Rattle.volume_compare.specs.Pairs.{IsPartner, path_at}

-- a file and its partner, which has the same content
pub record HasAlike (first second : SeenVolume) (file other : ℕ) : Type 0 where
  pub partners : IsPartner (paths_in first) (paths_in second) file other
  pub content : FileContent
  pub is_content : IsContent first file content
  pub is_other : IsContent second other content

-- Each file of either volume has a partner in the other, and both have one content: for each path the contents of the
-- files that have it, in directory order, are the same in both.
pub record HaveSameFiles (first second : SeenVolume) : Type 0 where
  pub of_first : (file : ℕ) (path : List ℕ) → path_at (paths_in first) file ≡ Some path
      → (other : ℕ) × HasAlike first second file other
  pub of_second : (other : ℕ) (path : List ℕ) → path_at (paths_in second) other ≡ Some path
      → (file : ℕ) × HasAlike first second file other

-- so of what the headers, the directories and the maps of two stores say
pub record AreSameVolumes (form : PlaceForm) (files : FileMeaning) (format : Meaning)
    (store other_store : List (List ℕ)) : Type 0 where
  pub first : Directory
  pub second : Directory
  pub described : format.Describes store first
  pub other_described : format.Describes other_store second
  pub same : HaveSameFiles (volume_in form files format first store) (volume_in form files format second other_store)
