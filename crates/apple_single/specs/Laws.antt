-- What the laws on AppleSingle files speak of.
use Rattle.std.specs.Prelude.{◌≡◌, ℕ, List, Option, Some, length}
use Rattle.apple_single.specs.declared.single.FileInfo.{FileInfo}
use Rattle.apple_single.specs.Format.{IsFileInfo}
use Rattle.apple_single.specs.Printed.{IsTooLong, single_bytes}
use Rattle.apple_single.specs.Single.{IsSingle}

-- what is printed, where its numbers fit, is read as what it was printed from
abbrev pub IsReadBack : List ℕ → FileInfo → List ℕ → Type 0
IsReadBack name info fork =
    IsFileInfo info → ¬ IsTooLong (length name) (length fork) → IsSingle (single_bytes name info fork) (Some info) fork

-- a file is read in one way at most
abbrev pub AreOne : List ℕ → Option FileInfo → Option FileInfo → List ℕ → List ℕ → Type 0
AreOne file info other fork fork' = IsSingle file info fork → IsSingle file other fork'
    → (info ≡ other) × (fork ≡ fork')
