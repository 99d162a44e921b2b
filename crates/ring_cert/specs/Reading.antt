-- What the readers of words and lines answer.
use Rattle.std.specs.Prelude.{◌≡◌, ◌≢◌, ℕ, ◌<◌, List, [], ◌∷◌, ◌++◌, length, slice_index, All}
use Rattle.std.specs.Int.{IsInRange}
use Rattle.std.specs.List.{flat_map}
use Rattle.vol_layout.specs.declared.moves.Move.{Move}
use Rattle.ring_cert.specs.declared.sections.Stop.{Stop}
use Rattle.ring_cert.specs.declared.sections.Stop.TheVariants.{Fault, OutOfMemory}
use Rattle.ring_cert.specs.Certificates.{AreWholeLines, HasText, CanBegin, Certificate, certificate_text, IsSmall, IsRingTold, IsMoveTold, layout_text, claim_text, line, word}

-- each byte is the code of a decimal digit
abbrev pub AreDigits : List ℕ → Type 0
AreDigits bytes = (i : ℕ) → i < length bytes → IsInRange 48 57 (slice_index bytes i)

-- a number ends before these bytes
abbrev pub BeginsWithNoDigit : List ℕ → Type 0
BeginsWithNoDigit [] = Unit {0}
BeginsWithNoDigit (byte ∷ bytes) = IsInRange 48 57 byte → ⊥

-- the bytes begin with the text of nothing that fits
abbrev pub Lacks : {X : Type 0} → (X → Type 0) → (X → List ℕ) → List ℕ → Type 0
Lacks {X} Fits text bytes = (x : X) (more : List ℕ) → Fits x → bytes ≡ text x ++ more → ⊥

-- they do not begin with a word, where a word ends before what is no digit
abbrev pub LacksWord : List ℕ → Type 0
LacksWord bytes = (n : ℕ) (more : List ℕ) → IsSmall n → BeginsWithNoDigit more → bytes ≡ word n ++ more → ⊥

-- they are words of numbers, and what follows the last of them, which begins with no digit
pub record HasWords (bytes numbers rest : List ℕ) : Type 0 where
  pub is : bytes ≡ flat_map word numbers ++ rest
  pub small : All IsSmall numbers
  pub end : numbers ≢ [] → BeginsWithNoDigit rest

-- they do not begin with a line of two numbers, with these names
abbrev pub LacksTwo : List ℕ → List ℕ → List ℕ → Type 0
LacksTwo name second_name bytes =
    (m n : ℕ) (more : List ℕ) → IsSmall m → IsSmall n → bytes ≡ name ++ (word m ++ (line second_name (n ∷ []) ++ more))
    → ⊥

-- no byte is a line feed
abbrev pub HasNoFeed : List ℕ → Type 0
HasNoFeed [] = Unit {0}
HasNoFeed (byte ∷ bytes) = (byte ≢ 10) × HasNoFeed bytes

-- these bytes begin with a line with which the others do not begin
pub record BeginsOtherwise (bytes others : List ℕ) : Type 0 where
  pub body : List ℕ
  pub next : List ℕ
  pub whole : HasNoFeed body
  pub is : bytes ≡ body ++ 10 ∷ next
  pub lacks : (more : List ℕ) → others ≡ body ++ 10 ∷ more → ⊥

-- of these bytes the rest is left: the lines before it begin a text of something that fits, and what such a text has
-- behind them begins otherwise
pub record IsLeft {X : Type 0} (Fits : X → Type 0) (text : X → List ℕ) (bytes rest : List ℕ) : Type 0 where
  pub front : List ℕ
  pub split : bytes ≡ front ++ rest
  pub lines : AreWholeLines front
  pub found : X
  pub more : List ℕ
  pub fits : Fits found
  pub begins : text found ≡ front ++ more
  pub otherwise : (x : X) (after tail : List ℕ) → Fits x → text x ++ after ≡ front ++ tail → BeginsOtherwise tail rest

-- what a layout's lines tell, those of a claim, and those of a plan
abbrev pub LayoutFits : (List ℕ × ℕ) → Type 0
LayoutFits x = IsSmall (length x.0) × All IsSmall x.0 × IsSmall x.1

abbrev pub layout_lines : (List ℕ × ℕ) → List ℕ
layout_lines x = layout_text x.0 x.1

abbrev pub ClaimFits : (List ℕ × List (List ℕ) × ℕ) → Type 0
ClaimFits x = All IsSmall x.0 × All IsRingTold x.1 × IsSmall x.2

abbrev pub claim_lines : (List ℕ × List (List ℕ) × ℕ) → List ℕ
claim_lines x = claim_text x.0 x.1 x.2

abbrev pub PlanFits : List Move → Type 0
PlanFits moves = All IsMoveTold moves

-- why a reader stopped, over the bytes that it read: a line cannot stand, or want of memory
abbrev pub StopsAt : {X : Type 0} → (X → Type 0) → (X → List ℕ) → List ℕ → Stop → Type 0
StopsAt Fits text bytes (Fault rest) = IsLeft Fits text bytes rest.now
StopsAt Fits text bytes OutOfMemory = Unit {0}

-- of these bytes, which are no certificate's text, the rest is left: some certificate's text begins with the lines
-- before it, and none with a line more
pub record IsLeftOver (bytes rest : List ℕ) : Type 0 where
  pub front : List ℕ
  pub split : bytes ≡ front ++ rest
  pub lines : AreWholeLines front
  pub before : CanBegin front
  pub here : (body more : List ℕ) → rest ≡ body ++ 10 ∷ more → CanBegin (front ++ body ++ 10 ∷ []) → ⊥
  pub none : (c : Certificate) → HasText c → bytes ≡ certificate_text c → ⊥

abbrev pub StopsReading : List ℕ → Stop → Type 0
StopsReading bytes (Fault rest) = IsLeftOver bytes rest.now
StopsReading bytes OutOfMemory = Unit {0}
