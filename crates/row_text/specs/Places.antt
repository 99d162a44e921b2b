-- The parts of files, as a row tells them.
use Rattle.std.specs.Prelude.{List, ◌∷◌, ◌++◌, map, codes, decimal}
use Rattle.a2_device.specs.declared.part.Part.{Part}
use Rattle.a2_device.specs.declared.part.PartKind.{PartKind}
use Rattle.a2_device.specs.declared.part.PartKind.TheVariants as kinds
use Rattle.vol_layout.specs.Reserved.{told_place}
use Rattle.vol_layout.specs.declared.form.PlaceForm.{PlaceForm}
use Rattle.row_text.specs.Shown.{Text}
use Rattle.row_text.specs.declared.places.Placed.{Placed}
use Rattle.row_text.specs.declared.places.Placed.TheVariants as places

-- what a part is: a track/sector list, a master index, an index or a unit of the file's body
abbrev pub kind_word : PartKind → Text
kind_word kinds.List = codes "list"
kind_word kinds.Master = codes "master"
kind_word kinds.Index = codes "index"
kind_word kinds.Body = codes "body"

-- a part: what it is, its number among those of the kind, and its place
abbrev pub part_text : PlaceForm → Part → Text
part_text form part = kind_word part.kind ++ (32 ∷ (decimal part.number ++ (32 ∷ told_place form part.place)))

-- whether places are told, and the texts of the parts of an entry's file
pub data PlacesView : Type 0 where
  Untold : PlacesView
  Missing : PlacesView
  Of : List Text → PlacesView

abbrev pub places_view : Placed → PlacesView
places_view places.Untold = Untold
places_view places.Missing = Missing
places_view (places.Of form parts) = Of (map (part_text form) parts.now)
