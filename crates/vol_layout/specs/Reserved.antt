-- Reserved places, and the words that name them.
use Rattle.std.specs.Prelude.{◌≡◌, ◌↔◌, ◌<◌, ◌==◌, ℕ, ◌/◌, ◌%◌, Bool, true, false, List, ◌∷◌, ◌++◌, map, codes, All, Contains, slice_index_or}
use Rattle.std.specs.List.{slice_split}
use Rattle.std.specs.Fmt.{decimal}
use Rattle.vol_layout.specs.declared.form.PlaceForm.{PlaceForm}
use Rattle.vol_layout.specs.declared.form.PlaceForm.TheVariants.{Sector, Block}

-- whether a table has a place as reserved
abbrev pub is_reserved : List Bool → ℕ → Bool
is_reserved reserved place = slice_index_or reserved place false

-- how many places can be named: 35 tracks of 16 sectors, or the blocks that a number of 16 bits counts
abbrev pub places_named : PlaceForm → ℕ
places_named Sector = 560
places_named Block = 65536

-- the word for a place: track, `/` and sector, or the block; numbers are decimal, without a zero in front
abbrev pub place_word : PlaceForm → ℕ → List ℕ
place_word Sector place = decimal (place / 16) ++ 47 ∷ decimal (place % 16)
place_word Block place = decimal place

-- a place as it is told: its track, `/` and its sector, or `block` and its block
abbrev pub told_place : PlaceForm → ℕ → List ℕ
told_place Sector place = place_word Sector place
told_place Block place = codes "block " ++ place_word Block place

-- the words of a text, between its commas
abbrev pub words_of : List ℕ → List (List ℕ)
words_of text = slice_split (λ byte. byte == 44) text

-- the words of the text are those for these places, in order
pub record IsPlaceList (form : PlaceForm) (text : List ℕ) (places : List ℕ) : Type 0 where
  pub named : All (λ place. place < places_named form) places
  pub words : words_of text ≡ map (place_word form) places

-- the table has these places and no other
abbrev pub HasPlaces : List Bool → List ℕ → Type 0
HasPlaces reserved places = (place : ℕ) → (is_reserved reserved place ≡ true) ↔ Contains places place

-- the table has the places that the text names
abbrev pub Reserves : PlaceForm → List ℕ → List Bool → Type 0
Reserves form text reserved = (places : List ℕ) × IsPlaceList form text places × HasPlaces reserved places
