-- What is wrong with the parts and the rings of a certificate is wrong with the certificate.
use Rattle.std.proofs.Common.{ℕ, List, inr, Result, Ok, Err, OnOk, IfErr}
use Rattle.std.specs.List.{All, concat}
use Rattle.vol_layout.specs.Layouts.{Placement, AreDistinct}
use Rattle.vol_layout.specs.Rings.{IsRing}
use Rattle.ring_cert.specs.Certificates.{Certificate}
use Rattle.ring_cert.specs.Good.{IsFirstFault, IsOfLayout, IsRightSoFar, TellsMisplaced}
use Rattle.ring_cert.specs.RingFaults.{IsFaultOfParts, IsFaultOfRings}
use Rattle.ring_cert.specs.declared.certificate.CertFault.{CertFault}
use Rattle.ring_cert.specs.declared.certificate.CertFault.TheVariants.{OtherLayout, NotMisplaced, Repeated, NotARing, IllegalMove, NotAtTarget, Sum, Memory}

fault_of_rings :
    (at off : List ℕ) (rings : List (List ℕ)) (fault : CertFault) → AreDistinct off → IsFaultOfRings at rings fault → IsFaultOfParts at off rings fault
fault_of_rings at off rings OtherLayout distinct fault = absurd fault
fault_of_rings at off rings (NotMisplaced part) distinct fault = absurd fault
fault_of_rings at off rings (Repeated part) distinct fault = inr (distinct, fault)
fault_of_rings at off rings (NotARing ring) distinct fault = (distinct, fault.0, fault.1)
fault_of_rings at off rings (IllegalMove move) distinct fault = absurd fault
fault_of_rings at off rings NotAtTarget distinct fault = absurd fault
fault_of_rings at off rings Sum distinct fault = absurd fault
fault_of_rings at off rings Memory distinct fault = tt

-- what is wrong with the rings, where the misplaced parts are distinct
pub rings_fault :
    (at off : List ℕ) (rings : List (List ℕ)) (weighed : Result (Unit {0}) CertFault) → AreDistinct off → IfErr weighed (IsFaultOfRings at rings)
    → IfErr weighed (IsFaultOfParts at off rings)
rings_fault at off rings (Ok x) distinct fault = tt
rings_fault at off rings (Err e) distinct fault = fault_of_rings at off rings e distinct fault

fault_of_parts :
    (layout : Placement) (c : Certificate) (fault : CertFault) → IsOfLayout layout c → TellsMisplaced layout c
    → IsFaultOfParts layout.at c.off c.rings fault → IsFirstFault layout c fault
fault_of_parts layout c OtherLayout same misplaced fault = absurd fault
fault_of_parts layout c (NotMisplaced part) same misplaced fault = absurd fault
fault_of_parts layout c (Repeated part) same misplaced fault = record { same = same; misplaced = misplaced; first = fault }
fault_of_parts layout c (NotARing ring) same misplaced fault =
    record { same = same; misplaced = misplaced; once = (fault.0, fault.1); first = fault.2 }
fault_of_parts layout c (IllegalMove move) same misplaced fault = absurd fault
fault_of_parts layout c NotAtTarget same misplaced fault = absurd fault
fault_of_parts layout c Sum same misplaced fault = absurd fault
fault_of_parts layout c Memory same misplaced fault = tt

-- what is wrong with the parts and the rings, where the layout is the certificate's and the parts are misplaced
pub claim_fault :
    (layout : Placement) (c : Certificate) (weighed : Result (Unit {0}) CertFault) → IsOfLayout layout c → TellsMisplaced layout c
    → IfErr weighed (IsFaultOfParts layout.at c.off c.rings) → IfErr weighed (IsFirstFault layout c)
claim_fault layout c (Ok x) same misplaced fault = tt
claim_fault layout c (Err e) same misplaced fault = fault_of_parts layout c e same misplaced fault

-- all is right so far, where nothing is wrong with them
pub claim_right :
    (layout : Placement) (c : Certificate) (weighed : Result (Unit {0}) CertFault) → IsOfLayout layout c → TellsMisplaced layout c
    → OnOk weighed (AreDistinct c.off) → OnOk weighed (AreDistinct (concat c.rings)) → OnOk weighed (All (IsRing layout.at) c.rings)
    → OnOk weighed (IsRightSoFar layout c)
claim_right layout c (Ok x) same misplaced off once rings = record { same = same; misplaced = misplaced; once = (off, once); rings = rings }
claim_right layout c (Err e) same misplaced off once rings = tt
