-- Where an entry stands.
use Rattle.std.specs.Prelude.{◌≡◌, ◌<◌, ◌≤◌, ℕ, List, Option, length}
use Rattle.vol_format.specs.Directory.{Directory, Listed}
use Rattle.volume_extract.specs.Items.{IsAbove, Item, depth_below}
use Rattle.volume_extract.specs.declared.placing.Place.{Place}

-- the entry behind these items stands there
pub record IsPlace (own : Listed → List ℕ) (directory : Directory) (items : List Item) (place : Place) : Type 0 where
  pub is_above : IsAbove own directory (length items) place.above
  pub depth : place.depth ≡ depth_below items place.above
  pub shallow : place.depth ≤ 64

-- or in too many directories
pub record IsTooDeepAt (own : Listed → List ℕ) (directory : Directory) (items : List Item) : Type 0 where
  pub above : Option ℕ
  pub is_above : IsAbove own directory (length items) above
  pub deep : 64 < depth_below items above
