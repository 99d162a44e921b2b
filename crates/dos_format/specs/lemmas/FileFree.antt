-- In DOS 3.3 what a unit means does not depend on the number of its file.
use Rattle.std.specs.Prelude.{◌≡◌, ◌+◌, ◌*◌, ◌==◌, ℕ, nat_lt, ◌||◌, if◌then◌else◌, Bool, true, false, List, Option, Some, None}
use Rattle.std.proofs.Common.{refl}
use Rattle.a2_device.specs.declared.part.PartKind.{PartKind}
use Rattle.a2_device.specs.declared.part.PartKind.TheVariants.{List as AList, Master, Index, Body}
use Rattle.dos_tslist.specs.Pointers.{pair_of}
use Rattle.dos_vtoc.specs.Vtoc.{link_of}
use Rattle.vol_format.specs.declared.link.Link.{Link}
use Rattle.vol_format.specs.declared.link.Link.TheVariants.{Null, Wild, To}
use Rattle.dos_format.specs.Dos.{link_to, list_link, dos_child, dos_meaning}
use Rattle.vol_laws.specs.EditLaws.{IsFileFree}
use Rattle.vol_laws.specs.Inserted.{refiled}

link_refiled : (file other : ℕ) (kind : PartKind) (number : ℕ) (pointer : Option (ℕ × ℕ)) → link_to file kind number pointer ≡ refiled file (link_to other kind number pointer)
link_refiled file other kind number None = refl
link_refiled file other kind number (Some pointer) = by_test (nat_lt 34 pointer.0 || nat_lt 15 pointer.1)
  where
    named : ℕ → Link
    named f = To (record { file = f; kind = kind; number = number; place = 16 * pointer.0 + pointer.1 })

    by_test : (wild : Bool) → (if wild then Wild else named file) ≡ refiled file (if wild then Wild else named other)
    by_test true = refl
    by_test false = refl

list_refiled : (file other number : ℕ) (unit : List ℕ) (i : ℕ) → list_link file number unit i ≡ refiled file (list_link other number unit i)
list_refiled file other number unit i = by_tests (nat_lt i 122) (i == 122)
  where
    chosen : Bool → Bool → ℕ → Link
    chosen below last f = if below then link_to f Body (122 * number + i) (pair_of unit i) else (if last then link_to f AList (number + 1) (link_of unit) else Null)

    by_tests : (below last : Bool) → chosen below last file ≡ refiled file (chosen below last other)
    by_tests true last = link_refiled file other Body (122 * number + i) (pair_of unit i)
    by_tests false true = link_refiled file other AList (number + 1) (link_of unit)
    by_tests false false = refl

child_refiled : (kind : PartKind) (file other number : ℕ) (unit : List ℕ) (i : ℕ) → dos_child kind file number unit i ≡ refiled file (dos_child kind other number unit i)
child_refiled AList file other number unit i = list_refiled file other number unit i
child_refiled Master file other number unit i = refl
child_refiled Index file other number unit i = refl
child_refiled Body file other number unit i = refl

pub dos_is_file_free : (data_disk : Bool) (reserved : List Bool) → IsFileFree (dos_meaning data_disk reserved)
dos_is_file_free data_disk reserved = record {
  child_refiled = λ places part unit i file. child_refiled part.kind file part.file part.number unit i;
  content_refiled = λ places part file unit. refl;
}
