-- What reading its header, its directory and its map tells of an accepted volume.
use Rattle.std.specs.Prelude.{◌≡◌, ◌≢◌, List, ℕ}
use Rattle.std.proofs.Common.{refl, subst}
use Rattle.a2_device.specs.declared.fault.Fault.{Fault}
use Rattle.a2_device.specs.declared.fault.WalkError.{WalkError}
use Rattle.a2_device.specs.declared.fault.WalkError.TheVariants as walk
use Rattle.vol_format.specs.Accepted.{IsAccepted, IsVolume}
use Rattle.vol_format.specs.Directory.{Directory}
use Rattle.vol_format.specs.Laws.{IsReadable}
use Rattle.vol_format.specs.Meaning.{Meaning}
use Rattle.edit_formats.specs.declared.error.EditError.TheVariants.{Check}
use Rattle.edit_formats.specs.Renamed.{refusal_of_walk}

module _ (format : Meaning) (laws : IsReadable format) (store : List (List ℕ)) (volume : IsVolume format store) where
  -- the directory that is read is the accepted one
  pub accepted_as_read : (directory : Directory) → format.Describes store directory → IsAccepted format directory store
  accepted_as_read directory read =
      subst (λ (d : Directory). IsAccepted format d store) (laws.one_directory store volume.0 directory volume.1.described read) volume.1

  -- no fault is met
  pub no_fault_read : (error : WalkError) → ((fault : Fault) → error ≡ walk.Fault fault → format.HeaderFaultAt store fault) → refusal_of_walk error ≢ Check
  no_fault_read (walk.Fault fault) refused same = laws.header_fault store volume.0 fault (refused fault refl) volume.1.described
  no_fault_read walk.Device refused same = absurd (cc)
  no_fault_read walk.Memory refused same = absurd (cc)
