-- The fields of a layout: the list of places, and the table of parts by place.
use Rattle.std.specs.Prelude.{◌≤◌, length}
use Rattle.vol_layout.specs.declared.layout.Layout.TheInside.{Inside}
use Rattle.vol_layout.specs.Layouts.{Placement, IsLayout}
use Rattle.vol_layout.specs.Table.{IsTableOf}

-- what callers see of the fields
abbrev pub placement : {A : Type 0} → Inside A → Placement
placement l = record { at = l.at.items; places = l.places }

-- the table is that of the list of places
pub record IsKept {A : Type 0} (l : Inside A) : Type 0 where
  pub layout : IsLayout l.at.items l.places
  pub few : l.places ≤ 1000000
  pub parts : length l.at.items ≤ l.places
  pub table : IsTableOf l.at.items l.places l.part_at.items
