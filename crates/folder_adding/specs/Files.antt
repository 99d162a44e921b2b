-- What is read of the files that are saved.
use Rattle.std.specs.Prelude.{◌≡◌, ℕ, ◌+◌, List, Option, IfSome, take}
use Rattle.shop_changes.specs.GivenFile.{most_input}

-- of a file with these bytes as many are read as a file that is saved may have, and one more that tells a longer one
abbrev pub read_bytes : List ℕ → List ℕ
read_bytes bytes = take (most_input + 1) bytes

-- these bytes were read of the file with this number: where it is known what each file holds, the front of that
abbrev pub IsReadOf : Option (ℕ → List ℕ) → ℕ → List ℕ → Type 0
IsReadOf holds number bytes = IfSome holds (λ contents. bytes ≡ read_bytes (contents number))
