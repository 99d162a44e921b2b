-- The types of DOS 3.3 and those of ProDOS that stand for them.
use Rattle.std.proofs.Common.{◌≡◌, ℕ, List, Some, arith}
use Rattle.host_folders.specs.HostNames.{dos_type}
use Rattle.shop_changes.specs.GivenWords.{dos_kind_for, letter_kind}

pub kind_back : (letter : List ℕ) (kind : ℕ) → letter_kind letter ≡ Some kind → dos_kind_for (dos_type kind) ≡ Some kind
kind_back letter kind = grind arith

pub type_back : (file_type kind : ℕ) → dos_kind_for file_type ≡ Some kind → dos_type kind ≡ file_type
type_back file_type kind = grind arith
