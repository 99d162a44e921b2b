-- Which places are reserved changes nothing of what a header, a directory and a map are.
use Rattle.std.specs.Prelude.{ℕ, Bool, List, []}
use Rattle.std.proofs.Common.{ap, refl}
use Rattle.vol_format.specs.Directory.{Directory}
use Rattle.dos_format.specs.Dos.{dos_available, dos_meaning, dos_system}
use Rattle.pro_format.specs.Pro.{available_in, pro_meaning, pro_system}
use Rattle.shop_reads.specs.Unreserved.{IsUnreserved}

-- a directory of which other places are the system's
abbrev given : Directory → List Bool → List ℕ → Directory
given directory system available = record directory { system = system; available = available }

pub dos_unreserved : (data_disk : Bool) (reserved : List Bool) → IsUnreserved (dos_meaning data_disk reserved) (dos_meaning data_disk [])
dos_unreserved data_disk reserved = record {
  unit_size = refl;
  takes = λ places takes. takes;
  described = λ store directory is.
      let system = dos_system data_disk [] in
      let available = dos_available data_disk [] in (
        given directory system available,
        record {
          size = is.size;
          geometry = is.geometry;
          sectors = is.sectors;
          catalog = is.catalog;
          says = ap (λ (d : Directory). given d system available) is.says;
        },
      );
}

pub pro_unreserved : (reserved : List Bool) → IsUnreserved (pro_meaning reserved) (pro_meaning [])
pro_unreserved reserved = record {
  unit_size = refl;
  takes = λ places takes. takes;
  described = λ store directory is.
      let system = pro_system [] is.tree in (
        given directory system (available_in system),
        record {
          size = is.size;
          tree = is.tree;
          described = is.described;
          says = ap (λ (d : Directory). given d system (available_in system)) is.says;
        },
      );
}
