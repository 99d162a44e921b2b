use Rattle.std.proofs.Common.{map, take}
use Rattle.vol_layout.specs.Words.{ArePlaces}
use Rattle.vol_layout.proofs.words.places_of_words.Given as goal

abbrev pub invariant-loop-word : goal.invariant-loop-word
invariant-loop-word g l = ArePlaces l.form (take l.word-index (map (λ w. w.now) l.words)) l.places.items
