-- Which files begin with their address.
use Rattle.std.specs.Prelude.{◌==◌, Bool, false}
use Rattle.vol_layout.specs.declared.form.PlaceForm.{PlaceForm}
use Rattle.vol_layout.specs.declared.form.PlaceForm.TheVariants.{Sector, Block}
use Rattle.file_formats.specs.declared.listing.ListEntry.{ListEntry}

-- a binary file of DOS 3.3 has an address
abbrev pub is_binary : {A : Type 0} → PlaceForm → ListEntry A → Bool
is_binary Sector entry = entry.kind == 4
is_binary Block entry = false
