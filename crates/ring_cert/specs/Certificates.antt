-- What a certificate tells, and its one text.
use Rattle.std.specs.Prelude.{◌≡◌, ◌≢◌, ◌⊎◌, ◌==◌, ℕ, ◌+◌, ◌^◌, ◌<◌, List, [], ◌∷◌, ◌++◌, length, All, codes, count_by}
use Rattle.std.specs.List.{flat_map}
use Rattle.std.specs.Fmt.{decimal}
use Rattle.vol_layout.specs.declared.moves.Move.{Move}
use Rattle.vol_layout.specs.Layouts.{Placement}

-- a layout, parts that are misplaced in it, rings of it, how many moves it takes at least to bring each part home, and
-- moves that do
pub record Certificate : Type 0 where
  pub at : List ℕ
  pub places : ℕ
  pub off : List ℕ
  pub rings : List (List ℕ)
  pub bound : ℕ
  pub moves : List Move

-- the certificate of a plan: its bound is the number of the misplaced parts and of the rings
abbrev pub certificate_of : Placement → List ℕ → List (List ℕ) → List Move → Certificate
certificate_of layout misplaced rings moves =
    record {
      at = layout.at;
      places = layout.places;
      off = misplaced;
      rings = rings;
      bound = length misplaced + length rings;
      moves = moves;
    }

-- numbers that the text can tell
abbrev pub IsSmall : ℕ → Type 0
IsSmall n = n < 2 ^ 32

-- at least one part, each with a number that the text can tell
pub record IsRingTold (ring : List ℕ) : Type 0 where
  pub some : ring ≢ []
  pub parts : All IsSmall ring

-- a move that the text can tell
pub record IsMoveTold (move : Move) : Type 0 where
  pub part : IsSmall move.part
  pub to : IsSmall move.to

-- what has a text: each number is below 2 ^ 32, and each ring has a part
pub record HasText (c : Certificate) : Type 0 where
  pub parts : IsSmall (length c.at)
  pub at : All IsSmall c.at
  pub places : IsSmall c.places
  pub off : All IsSmall c.off
  pub rings : All IsRingTold c.rings
  pub bound : IsSmall c.bound
  pub moves : All IsMoveTold c.moves

-- a number as a word: a space, and its decimal digits without a zero in front
unfoldable pub word : ℕ → List ℕ
word n = 32 ∷ decimal n

-- a line: a name, numbers, and a line feed
unfoldable pub line : List ℕ → List ℕ → List ℕ
line name numbers = name ++ (flat_map word numbers ++ 10 ∷ [])

-- the line of the size of a layout
unfoldable pub size_line : ℕ → ℕ → List ℕ
size_line parts places = codes "PARTS" ++ (word parts ++ line (codes " PLACES") (places ∷ []))

-- the line of a part's place, of a misplaced part, of a ring, of the bound, of a move
abbrev pub at_line : ℕ → List ℕ
at_line place = line (codes "AT") (place ∷ [])

abbrev pub off_line : ℕ → List ℕ
off_line part = line (codes "OFF") (part ∷ [])

abbrev pub ring_line : List ℕ → List ℕ
ring_line parts = line (codes "RING") parts

abbrev pub bound_line : ℕ → List ℕ
bound_line bound = line (codes "BOUND") (bound ∷ [])

abbrev pub move_line : Move → List ℕ
move_line move = line (codes "MOVE") (move.part ∷ move.to ∷ [])

-- the first line and the last
abbrev pub first_line : List ℕ
first_line = line (codes "A2CERT") (1 ∷ [])

abbrev pub last_line : List ℕ
last_line = line (codes "END") []

-- the lines of a layout
abbrev pub layout_text : List ℕ → ℕ → List ℕ
layout_text at places = first_line ++ (size_line (length at) places ++ flat_map at_line at)

-- the lines that claim a bound
abbrev pub claim_text : List ℕ → List (List ℕ) → ℕ → List ℕ
claim_text off rings bound = flat_map off_line off ++ (flat_map ring_line rings ++ bound_line bound)

-- the lines of a plan
abbrev pub plan_text : List Move → List ℕ
plan_text moves = flat_map move_line moves ++ last_line

-- the text of a certificate
abbrev pub certificate_text : Certificate → List ℕ
certificate_text c = layout_text c.at c.places ++ (claim_text c.off c.rings c.bound ++ plan_text c.moves)

-- whole lines: nothing, or bytes of which the last is a line feed
abbrev pub AreWholeLines : List ℕ → Type 0
AreWholeLines bytes = (bytes ≡ []) ⊎ ((front : List ℕ) × (bytes ≡ front ++ 10 ∷ []))

-- the text of some certificate begins with these bytes
abbrev pub CanBegin : List ℕ → Type 0
CanBegin front = (c : Certificate) × (more : List ℕ) × HasText c × (certificate_text c ≡ front ++ more)

-- the line of this number, from 1, is the first that cannot stand: some certificate's text begins with the lines before
-- it, and none with them and a line more of these bytes; the line may be missing, or lack its line feed
pub record IsFirstBadLine (bytes : List ℕ) (number : ℕ) : Type 0 where
  pub front : List ℕ
  pub rest : List ℕ
  pub split : bytes ≡ front ++ rest
  pub lines : AreWholeLines front
  pub is : number ≡ count_by (λ byte. byte == 10) front + 1
  pub before : CanBegin front
  pub here : (body more : List ℕ) → rest ≡ body ++ 10 ∷ more → CanBegin (front ++ body ++ 10 ∷ []) → ⊥
