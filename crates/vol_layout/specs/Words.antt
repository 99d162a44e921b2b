-- What the readers of words answer.
use Rattle.std.specs.Prelude.{◌≡◌, ◌<◌, ℕ, List, length, map, All, slice_index}
use Rattle.std.specs.Int.{IsInRange}
use Rattle.vol_layout.specs.declared.form.PlaceForm.{PlaceForm}
use Rattle.vol_layout.specs.Reserved.{place_word, places_named}

-- a word begins with a digit, and with 0 only where that is all of it
pub record IsPlain (word : List ℕ) : Type 0 where
  pub some : 0 < length word
  pub digit : IsInRange 48 57 (slice_index word 0)
  pub alone : slice_index word 0 ≡ 48 → length word ≡ 1

-- these places are named by some words, in order
pub record ArePlaces (form : PlaceForm) (words : List (List ℕ)) (places : List ℕ) : Type 0 where
  pub named : All (λ place. place < places_named form) places
  pub spelled : words ≡ map (place_word form) places
