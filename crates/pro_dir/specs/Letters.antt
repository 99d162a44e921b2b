-- How the letters of a path that is given are taken.
use Rattle.std.specs.Prelude.{ℕ, List, map}
use Rattle.std.specs.Char.{to_ascii_uppercase}
use Rattle.pro_dir.specs.declared.letters.Letters.{Letters}
use Rattle.pro_dir.specs.declared.letters.Letters.TheVariants.{AsCapitals, AsTheyAre}

abbrev pub letter : Letters → ℕ → ℕ
letter AsCapitals = to_ascii_uppercase
letter AsTheyAre = λ byte. byte

abbrev pub taken : Letters → List ℕ → List ℕ
taken letters path = map (letter letters) path
