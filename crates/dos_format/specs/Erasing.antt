-- What stands once the entry of a file is deleted (Beneath Apple DOS, chapter 4).
use Rattle.std.specs.Prelude.{◌≡◌, ◌≤◌, ℕ, Bool, List}
use Rattle.vol_format.specs.Directory.{Directory, entries, entry_of}
use Rattle.dos_format.specs.Dos.{DescribesDos}
use Rattle.vol_laws.specs.Entered.{HasSameRest}
use Rattle.vol_laws.specs.Inserted.{inserted}

-- A directory with one entry less describes the store; with the deleted entry among its entries, under its number, they
-- are those that there were.
pub record HasErased (data_disk : Bool) (reserved : List Bool) (directory : Directory) (file : ℕ)
    (old new : List (List ℕ)) : Type 0 where
  pub few : Directory
  pub places : few.places ≡ 560
  pub described : DescribesDos data_disk reserved new few
  pub within : file ≤ entries few
  pub is : directory ≡ inserted few file (entry_of directory file)
  pub rest : HasSameRest few old new
