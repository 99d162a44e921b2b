-- In ProDOS what a unit means does not depend on the number of its file, and an entry has the link of its file's number.
use Rattle.std.specs.Prelude.{◌≡◌, ◌+◌, ◌*◌, ◌==◌, ℕ, nat_lt, if◌then◌else◌, Bool, true, false, List}
use Rattle.std.proofs.Common.{refl}
use Rattle.a2_device.specs.declared.part.PartKind.{PartKind}
use Rattle.a2_device.specs.declared.part.PartKind.TheVariants.{List as AList, Master, Index, Body}
use Rattle.pro_format.specs.Pro.{pro_meaning}
use Rattle.pro_tree.specs.Pointers.{pointer_of}
use Rattle.pro_tree.specs.Reach.{pro_link, pro_root, link_below, pro_child}
use Rattle.vol_format.specs.declared.link.Link.{Link}
use Rattle.vol_format.specs.declared.link.Link.TheVariants.{Null, Wild, Directory as ToDirectory, OtherType, To}
use Rattle.vol_laws.specs.EditLaws.{IsFileFree}
use Rattle.vol_laws.specs.Inserted.{refiled, shifted, shifted_link}

link_refiled : (places file other : ℕ) (kind : PartKind) (number block : ℕ) → pro_link places file kind number block ≡ refiled file (pro_link places other kind number block)
link_refiled places file other kind number block = by_tests (block == 0) (nat_lt block places)
  where
    named : ℕ → Link
    named f = To (record { file = f; kind = kind; number = number; place = block })

    by_tests : (none inside : Bool) → (if none then Null else (if inside then named file else Wild)) ≡ refiled file (if none then Null else (if inside then named other else Wild))
    by_tests true inside = refl
    by_tests false true = refl
    by_tests false false = refl

below_refiled : (width : ℕ) (kind : PartKind) (places file other number : ℕ) (unit : List ℕ) (i : ℕ)
    → link_below width kind places file number unit i ≡ refiled file (link_below width kind places other number unit i)
below_refiled width kind places file other number unit i = by_test (nat_lt i width)
  where
    link : ℕ → Link
    link f = pro_link places f kind (width * number + i) (pointer_of unit i)

    by_test : (below : Bool) → (if below then link file else Null) ≡ refiled file (if below then link other else Null)
    by_test true = link_refiled places file other kind (width * number + i) (pointer_of unit i)
    by_test false = refl

child_refiled : (kind : PartKind) (places file other number : ℕ) (unit : List ℕ) (i : ℕ)
    → pro_child places kind file number unit i ≡ refiled file (pro_child places kind other number unit i)
child_refiled AList places file other number unit i = refl
child_refiled Master places file other number unit i = below_refiled 128 Index places file other number unit i
child_refiled Index places file other number unit i = below_refiled 256 Body places file other number unit i
child_refiled Body places file other number unit i = refl

pub pro_is_file_free : (reserved : List Bool) → IsFileFree (pro_meaning reserved)
pro_is_file_free reserved = record {
  child_refiled = λ places part unit i file. child_refiled part.kind places file part.file part.number unit i;
  content_refiled = λ places part file unit. refl;
}

link_shifted : (at places file : ℕ) (kind : PartKind) (block : ℕ) → shifted_link at (pro_link places file kind 0 block) ≡ pro_link places (shifted at file) kind 0 block
link_shifted at places file kind block = by_tests (block == 0) (nat_lt block places)
  where
    named : ℕ → Link
    named f = To (record { file = f; kind = kind; number = 0; place = block })

    by_tests : (none inside : Bool) → shifted_link at (if none then Null else (if inside then named file else Wild)) ≡ (if none then Null else (if inside then named (shifted at file) else Wild))
    by_tests true inside = refl
    by_tests false true = refl
    by_tests false false = refl

pub root_shifted : (at places file storage key : ℕ) → shifted_link at (pro_root places file storage key) ≡ pro_root places (shifted at file) storage key
root_shifted at places file storage key = by_tests (storage == 1) (storage == 2) (storage == 3) (storage == 13)
  where
    chosen : Bool → Bool → Bool → Bool → ℕ → Link
    chosen one two three directory f =
        if one then pro_link places f Body 0 key
        else (if two then pro_link places f Index 0 key
        else (if three then pro_link places f Master 0 key
        else (if directory then ToDirectory else OtherType)))

    by_tests : (one two three directory : Bool) → shifted_link at (chosen one two three directory file) ≡ chosen one two three directory (shifted at file)
    by_tests true two three directory = link_shifted at places file Body key
    by_tests false true three directory = link_shifted at places file Index key
    by_tests false false true directory = link_shifted at places file Master key
    by_tests false false false true = refl
    by_tests false false false false = refl
