-- The words that a list stands for.
use Rattle.std.proofs.Common.{◌≡◌, arith, refl, ◌==◌, true, false, List, [], ◌∷◌, length, map}
use Rattle.std.proofs.lemmas.Bool.{eqb-true}
use Rattle.shop_words.specs.Table.{Text}
use Rattle.shop_words.specs.Job.{meant_words, standard_words}

pub meant_words-none : {X : Type 0} (text : X → Text) (words : List X) → (length words == 0) ≡ true → meant_words (map text words) ≡ standard_words
meant_words-none text [] none = refl
meant_words-none text (w ∷ ws) none = let same = eqb-true (length (w ∷ ws)) 0 none in absurd (omega (arith, same))

pub meant_words-some : {X : Type 0} (text : X → Text) (words : List X) → (length words == 0) ≡ false → meant_words (map text words) ≡ map text words
meant_words-some text [] some = cc
meant_words-some text (w ∷ ws) some = refl
