-- Why lists are not rings without a common part.
use Rattle.std.specs.Prelude.{ℕ, List, ◌⊎◌}
use Rattle.std.specs.List.{concat}
use Rattle.vol_layout.specs.Layouts.{AreDistinct}
use Rattle.vol_layout.specs.Rings.{IsRing}
use Rattle.ring_cert.specs.Good.{IsFirstNot, IsFirstRepeat}
use Rattle.ring_cert.specs.declared.certificate.CertFault.{CertFault}
use Rattle.ring_cert.specs.declared.certificate.CertFault.TheVariants.{OtherLayout, NotMisplaced, Repeated, NotARing, IllegalMove, NotAtTarget, Sum, Memory}

-- the first number that stands before, or else the first list that is no ring, or want of memory
abbrev pub IsFaultOfRings : List ℕ → List (List ℕ) → CertFault → Type 0
IsFaultOfRings at rings (Repeated part) = IsFirstRepeat (concat rings) part
IsFaultOfRings at rings (NotARing ring) = AreDistinct (concat rings) × IsFirstNot (IsRing at) rings ring
IsFaultOfRings at rings Memory = Unit {0}
IsFaultOfRings at rings OtherLayout = ⊥
IsFaultOfRings at rings (NotMisplaced part) = ⊥
IsFaultOfRings at rings (IllegalMove move) = ⊥
IsFaultOfRings at rings NotAtTarget = ⊥
IsFaultOfRings at rings Sum = ⊥

-- why numbers, and lists of numbers, are not distinct ones and rings without a common part: the first number that
-- stands before in its own of the two, or else the first list that is no ring
abbrev pub IsFaultOfParts : List ℕ → List ℕ → List (List ℕ) → CertFault → Type 0
IsFaultOfParts at off rings (Repeated part) =
    IsFirstRepeat off part ⊎ (AreDistinct off × IsFirstRepeat (concat rings) part)
IsFaultOfParts at off rings (NotARing ring) =
    AreDistinct off × AreDistinct (concat rings) × IsFirstNot (IsRing at) rings ring
IsFaultOfParts at off rings Memory = Unit {0}
IsFaultOfParts at off rings OtherLayout = ⊥
IsFaultOfParts at off rings (NotMisplaced part) = ⊥
IsFaultOfParts at off rings (IllegalMove move) = ⊥
IsFaultOfParts at off rings NotAtTarget = ⊥
IsFaultOfParts at off rings Sum = ⊥
