-- When a certificate is good for a layout, and what is wrong with one that is not.
use Rattle.std.specs.Prelude.{◌≡◌, ℕ, ◌+◌, ◌<◌, List, length, take, slice_index, slice_index_or, All, Contains, ◌⊎◌}
use Rattle.std.specs.List.{concat}
use Rattle.vol_layout.specs.declared.moves.Move.{Move}
use Rattle.vol_layout.specs.Layouts.{Placement, AreDistinct, IsMisplaced, IsTarget}
use Rattle.vol_layout.specs.Plans.{IsLegal, IsPlan, after}
use Rattle.vol_layout.specs.Rings.{IsRing, AreApart}
use Rattle.ring_cert.specs.Certificates.{Certificate}
use Rattle.ring_cert.specs.declared.certificate.CertFault.{CertFault}
use Rattle.ring_cert.specs.declared.certificate.CertFault.TheVariants.{OtherLayout, NotMisplaced, Repeated, NotARing, IllegalMove, NotAtTarget, Sum, Memory}

-- the certificate is one for this layout
abbrev pub IsOfLayout : Placement → Certificate → Type 0
IsOfLayout layout c = (c.at ≡ layout.at) × (c.places ≡ layout.places)

-- the parts that it tells as misplaced are
abbrev pub TellsMisplaced : Placement → Certificate → Type 0
TellsMisplaced layout c = All (IsMisplaced layout.at) c.off

-- it tells no misplaced part twice, and no part twice in its rings
abbrev pub TellsEachOnce : Certificate → Type 0
TellsEachOnce c = AreDistinct c.off × AreDistinct (concat c.rings)

-- its rings are rings of the layout
abbrev pub TellsRings : Placement → Certificate → Type 0
TellsRings layout c = All (IsRing layout.at) c.rings

-- its moves can be made, one after the other
abbrev pub TellsPlan : Placement → Certificate → Type 0
TellsPlan layout c = IsPlan layout.at layout.places c.moves

-- they bring each part home
abbrev pub EndsAtTarget : Placement → Certificate → Type 0
EndsAtTarget layout c = IsTarget (after layout.at c.moves)

-- its bound is the number of the misplaced parts and of the rings that it tells, and the number of its moves
abbrev pub AddsUp : Certificate → Type 0
AddsUp c = (c.bound ≡ length c.off + length c.rings) × (c.bound ≡ length c.moves)

-- a certificate that is good for a layout: distinct misplaced parts, rings without a common part, and as many moves,
-- which lead to the target
pub record IsGood (layout : Placement) (c : Certificate) : Type 0 where
  pub same : IsOfLayout layout c
  pub misplaced : TellsMisplaced layout c
  pub distinct : AreDistinct c.off
  pub rings : TellsRings layout c
  pub apart : AreApart c.rings
  pub plan : TellsPlan layout c
  pub target : EndsAtTarget layout c
  pub sum : AddsUp c

-- the first element of a list of which something is not true is at this index
pub record IsFirstNot {X : Type 0} (P : X → Type 0) (xs : List X) (index : ℕ) : Type 0 where
  pub within : index < length xs
  pub before : All P (take index xs)
  pub here : (d : X) → P (slice_index_or xs index d) → ⊥

-- this is the first number of a list that already stands before in it
pub record IsFirstRepeat (numbers : List ℕ) (number : ℕ) : Type 0 where
  pub index : ℕ
  pub within : index < length numbers
  pub is : slice_index numbers index ≡ number
  pub before : AreDistinct (take index numbers)
  pub again : Contains (take index numbers) number

-- the first move that cannot be made is the one at this index
pub record IsFirstIllegal (layout : Placement) (moves : List Move) (index : ℕ) : Type 0 where
  pub within : index < length moves
  pub before : IsPlan layout.at layout.places (take index moves)
  pub here : (d : Move) → IsLegal (after layout.at (take index moves)) layout.places (slice_index_or moves index d) → ⊥

-- what is wrong with the parts and the rings that a certificate tells
pub record IsFaultOfMisplaced (layout : Placement) (c : Certificate) (part : ℕ) : Type 0 where
  pub same : IsOfLayout layout c
  pub index : ℕ
  pub first : IsFirstNot (IsMisplaced layout.at) c.off index
  pub is : slice_index c.off index ≡ part

-- the first number that stands before it among the misplaced parts, or else in the rings
abbrev pub RepeatsFirst : Certificate → ℕ → Type 0
RepeatsFirst c part = IsFirstRepeat c.off part ⊎ (AreDistinct c.off × IsFirstRepeat (concat c.rings) part)

pub record IsFaultOfRepeat (layout : Placement) (c : Certificate) (part : ℕ) : Type 0 where
  pub same : IsOfLayout layout c
  pub misplaced : TellsMisplaced layout c
  pub first : RepeatsFirst c part

pub record IsFaultOfRing (layout : Placement) (c : Certificate) (ring : ℕ) : Type 0 where
  pub same : IsOfLayout layout c
  pub misplaced : TellsMisplaced layout c
  pub once : TellsEachOnce c
  pub first : IsFirstNot (IsRing layout.at) c.rings ring

-- all of that is right
pub record IsRightSoFar (layout : Placement) (c : Certificate) : Type 0 where
  pub same : IsOfLayout layout c
  pub misplaced : TellsMisplaced layout c
  pub once : TellsEachOnce c
  pub rings : TellsRings layout c

-- what is wrong with a certificate for a layout: each is looked for over the whole certificate before the next
abbrev pub IsFirstFault : Placement → Certificate → CertFault → Type 0
IsFirstFault layout c OtherLayout = IsOfLayout layout c → ⊥
IsFirstFault layout c (NotMisplaced part) = IsFaultOfMisplaced layout c part
IsFirstFault layout c (Repeated part) = IsFaultOfRepeat layout c part
IsFirstFault layout c (NotARing ring) = IsFaultOfRing layout c ring
IsFirstFault layout c (IllegalMove move) = IsRightSoFar layout c × IsFirstIllegal layout c.moves move
IsFirstFault layout c NotAtTarget = IsRightSoFar layout c × TellsPlan layout c × (EndsAtTarget layout c → ⊥)
IsFirstFault layout c Sum = IsRightSoFar layout c × TellsPlan layout c × EndsAtTarget layout c × (AddsUp c → ⊥)
IsFirstFault layout c Memory = Unit {0}
