use Rattle.std.proofs.Common.{◌≡◌, length, take}
use Rattle.vol_layout.specs.Reserved.{HasPlaces}
use Rattle.vol_layout.proofs.reserved.table_of.Given as goal

abbrev pub invariant-loop-place : goal.invariant-loop-place
invariant-loop-place g l = (length l.table.items ≡ l.count) × HasPlaces l.table.items (take l.place-index l.places)
