-- What a command tells of a call that ended early.
use Rattle.std.proofs.Common.{◌≡◌, List, ℕ, refl}
use Rattle.a2_device.specs.declared.fault.Fault.{Fault}
use Rattle.a2_device.specs.declared.fault.WalkError.{WalkError}
use Rattle.a2_device.specs.declared.fault.WalkError.TheVariants as walk
use Rattle.vol_format.specs.Meaning.{Meaning}
use Rattle.file_cmds.specs.declared.error.CmdError.TheVariants.{Check}
use Rattle.file_cmds.specs.Refusal.{refusal_of}
use Rattle.file_formats.specs.Listing.{HasHeaderFault}

-- a volume that was not read for a fault of its header
pub header_fault : (format : Meaning) (store : List (List ℕ)) (error : WalkError) → refusal_of error ≡ Check
    → ((fault : Fault) → error ≡ walk.Fault fault → format.HeaderFaultAt store fault) → HasHeaderFault format store
header_fault format store (walk.Fault fault) check refused = (fault, refused fault refl)
header_fault format store walk.Device check refused = absurd (cc)
header_fault format store walk.Memory check refused = absurd (cc)
