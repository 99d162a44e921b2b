-- Why moves that are made one after the other stop.
use Rattle.std.specs.Prelude.{List}
use Rattle.vol_layout.specs.declared.moves.Move.{Move}
use Rattle.vol_layout.specs.Layouts.{Placement}
use Rattle.ring_cert.specs.Good.{IsFirstIllegal}
use Rattle.ring_cert.specs.declared.certificate.CertFault.{CertFault}
use Rattle.ring_cert.specs.declared.certificate.CertFault.TheVariants.{OtherLayout, NotMisplaced, Repeated, NotARing, IllegalMove, NotAtTarget, Sum, Memory}

-- the moves cannot be made, for their first that cannot, or want of memory
abbrev pub IsFaultOfMove : Placement → List Move → CertFault → Type 0
IsFaultOfMove layout moves (IllegalMove move) = IsFirstIllegal layout moves move
IsFaultOfMove layout moves Memory = Unit {0}
IsFaultOfMove layout moves OtherLayout = ⊥
IsFaultOfMove layout moves (NotMisplaced part) = ⊥
IsFaultOfMove layout moves (Repeated part) = ⊥
IsFaultOfMove layout moves (NotARing ring) = ⊥
IsFaultOfMove layout moves NotAtTarget = ⊥
IsFaultOfMove layout moves Sum = ⊥
