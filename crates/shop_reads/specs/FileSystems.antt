-- The file system of a volume, by how its places are named.
use Rattle.vol_layout.specs.declared.form.PlaceForm.{PlaceForm}
use Rattle.vol_layout.specs.declared.form.PlaceForm.TheVariants.{Sector, Block}
use Rattle.shop_jobs.specs.declared.input.FileSystem.{FileSystem}
use Rattle.shop_jobs.specs.declared.input.FileSystem.TheVariants.{Dos, Prodos}

-- DOS 3.3 has sectors, and ProDOS has blocks
abbrev pub file_system_of : PlaceForm → FileSystem
file_system_of Sector = Dos
file_system_of Block = Prodos
