-- The parts of one file, and those of the volume that has this file alone.
use Rattle.std.specs.Prelude.{◌≡◌, ◌<◌, ℕ, true, false, List, [], ◌∷◌, length}
use Rattle.std.proofs.Common.{refl, sym, ◌∙◌, ap, subst, arith, get_or, ⊎_elim}
use Rattle.a2_device.specs.Device.{DeviceState, unit_at}
use Rattle.a2_device.specs.declared.part.Part.{Part}
use Rattle.a2_device.specs.declared.fault.Fault.{Fault}
use Rattle.a2_device.specs.declared.fault.Fault.TheVariants.{Geometry, CatalogLink, DirLink, MapPointer, StorageType, OutOfRange, InSystem, Shared, MarkedFree}
use Rattle.vol_format.specs.declared.link.Link.TheVariants.{Null, Wild, OtherType, To}
use Rattle.vol_format.specs.Directory.{Directory, entries, root_of, is_system}
use Rattle.vol_format.specs.Meaning.{Meaning}
use Rattle.vol_format.specs.Reach.{Reach, at_root, at_child, IsPartsOf}
use Rattle.vol_format.specs.Accepted.{IsAccepted, PartFaultAt, FaultAt}
use Rattle.vol_format.specs.Laws.{IsReadable, IsDirectory}
use Rattle.vol_format.specs.Layout.{IsPartsOfFile}
use Rattle.vol_check.specs.Answer.{AreFaults}
use Rattle.vol_check.specs.Failures.{FailsInFile}
use Rattle.file_cmds.specs.FileParts.{IsPartsAlone}
use Rattle.file_cmds.specs.Text.{OwnFault, other_type, wild_root, wild_pointer, shared}
use Rattle.file_cmds.specs.KnownVolume.{of_known}
use Rattle.file_cmds.specs.OneFile.{file_alone}
use Rattle.file_cmds.specs.lemmas.FileAlone.{entries-alone, root-alone, root_of-same, root_of-link, outside_system}
use Rattle.vol_format.proofs.Lists.{element}

module _ (format : Meaning) (laws : IsReadable format) (directory : Directory) (of : IsDirectory format directory) (file : ℕ) (store : List (List ℕ)) where
  abbrev pub alone : Directory
  alone = file_alone directory file

  abbrev pub one : Meaning
  one = of_known format alone

  null_not_to : (part : Part) → Null ≡ To part → ⊥
  null_not_to part e = cc

  pub into_one : (part : Part) → Reach format directory store part → part.file ≡ file → Reach one alone store part
  into_one part (at_root entry within is) in_file =
      let same : entry ≡ file = sym (of.root_file entry part is) ∙ in_file in
      at_root entry (omega (arith, within, entries-alone directory file)) (sym (root-alone directory file entry same within) ∙ is)
  into_one part (at_child {parent} pointer reached link) in_file =
      at_child pointer (into_one parent reached (sym (laws.child_file (length store) parent part (unit_at store parent.place) pointer link) ∙ in_file)) link

  pub out_of_one : (part : Part) → Reach one alone store part → Reach format directory store part × (part.file ≡ file)
  out_of_one part (at_root entry within is) =
      let to = root_of-link directory file entry (To part) (null_not_to part) is in
      (at_root entry (omega (arith, within, entries-alone directory file)) (ap (root_of directory) to.0 ∙ to.1), of.root_file file part to.1)
  out_of_one part (at_child {parent} pointer reached link) =
      let up = out_of_one parent reached in
      (at_child pointer up.0 link, laws.child_file (length store) parent part (unit_at store parent.place) pointer link ∙ up.1)

  -- its parts stand in the volume
  place_below : format.Takes (length store) → length store ≡ directory.places → (part : Part) → Reach one alone store part → part.place < directory.places
  place_below takes size part (at_root entry within is) =
      let to = root_of-link directory file entry (To part) (null_not_to part) is in
      of.root_place file part to.1
  place_below takes size part (at_child {parent} pointer reached link) =
      omega (arith, size, laws.child_place (length store) parent part (unit_at store parent.place) pointer takes link)

  -- what the checker finds wrong with the file alone is a fault of its own
  module _ (takes : format.Takes (length store)) (size : length store ≡ directory.places) where
    null_not_other : Null ≡ OtherType → ⊥
    null_not_other e = cc

    null_not_wild : Null ≡ Wild → ⊥
    null_not_wild e = cc

    part_fault : (fault : Fault) → PartFaultAt one alone store fault → OwnFault format directory store file
    part_fault (Geometry place) at = absurd at
    part_fault (CatalogLink place) at = absurd at
    part_fault (DirLink place) at = absurd at
    part_fault (MapPointer place) at = absurd at
    part_fault (StorageType place) at = other_type (root_of-link directory file at.0 OtherType null_not_other at.3).1
    part_fault (OutOfRange place) at =
        ⊎_elim
        (λ root. wild_root (root_of-link directory file root.0 Wild null_not_wild root.3).1)
        (λ part. let found = out_of_one part.0 part.1 in wild_pointer part.0 part.3.0 found.0 found.1 part.3.1) at
    part_fault (InSystem place) at =
        absurd (true_not_false (sym at.3 ∙ ap (is_system alone) (sym at.2) ∙ outside_system directory file at.0.place (place_below takes size at.0 at.1)))
      where
        true_not_false : true ≡ false → ⊥
        true_not_false e = cc
    part_fault (Shared place) at =
        let first = out_of_one at.0 at.2 in
        let second = out_of_one at.1 at.3 in
        shared at.0 at.1 first.0 second.0 first.1 second.1 (at.4 ∙ sym at.5) at.6
    part_fault (MarkedFree place) at = absurd (true_not_false (sym at.3))
      where
        true_not_false : true ≡ false → ⊥
        true_not_false e = cc

    fault_found : (fault : Fault) → FaultAt one store fault → OwnFault format directory store file
    fault_found fault at =
        ⊎_elim (λ header. absurd header)
        (λ part. part_fault fault (subst (λ (d : Directory). PartFaultAt one d store fault) part.1.0 part.2)) at

    pub refused_for : (faults : List Fault) → AreFaults one store faults → OwnFault format directory store file
    refused_for [] are = absurd (omega (arith, are.some))
    refused_for (fault ∷ faults) are = fault_found fault (are.there fault (0, omega arith, refl))

  -- a file that the checker accepts has none
  faultless : file < entries directory → IsAccepted one alone store → OwnFault format directory store file → ⊥
  faultless within accepted (other_type is) = accepted.no_other_type file (omega (arith, within, entries-alone directory file)) (root_of-same directory file within ∙ is)
  faultless within accepted (wild_root is) = accepted.no_wild file (omega (arith, within, entries-alone directory file)) (root_of-same directory file within ∙ is)
  faultless within accepted (wild_pointer part pointer reached in_file link) = (accepted.sound part (into_one part reached in_file)).no_wild pointer link
  faultless within accepted (shared part other reached other_reached in_file other_in_file same differ) =
      differ (accepted.once part other (into_one part reached in_file) (into_one other other_reached other_in_file) same)

  -- its parts
  own_parts : (parts : List Part) → IsPartsOf one alone store parts → IsPartsOfFile format directory store file parts
  own_parts parts are = record {
    members = λ part. (λ has. out_of_one part ((are.members part).0 has), λ is. (are.members part).1 (into_one part is.0 is.1));
    ordered = λ i j d less within.
        let part = get_or parts i d in
        let later = get_or parts j d in
        let at = out_of_one part ((are.members part).0 (element parts i d (omega (arith, less, within)))) in
        let later_at = out_of_one later ((are.members later).0 (element parts j d within)) in
        ⊎_elim (λ files. absurd (omega (arith, files, at.1, later_at.1))) (λ ranks. ranks.1) (are.ordered i j d less within);
  }

  -- the parts of an accepted file are its own
  pub parts_alone : (parts : List Part) → file < entries directory → IsAccepted one alone store → IsPartsOf one alone store parts
      → IsPartsAlone format directory store file parts
  parts_alone parts within accepted are = record { faultless = faultless within accepted; are_parts = own_parts parts are }

-- a failed read of a unit of the file alone is one of a unit of the file
pub fails_alone : (format : Meaning) → IsReadable format → (directory : Directory) → IsDirectory format directory → (file : ℕ) (old new : DeviceState)
    → FailsInFile (of_known format (file_alone directory file)) (file_alone directory file) old new file → FailsInFile format directory old new file
fails_alone format laws directory of file old new fails =
    let found = out_of_one format laws directory of file old.store fails.part fails.reached in
    record { part = fails.part; reached = found.0; in_file = found.1; failed = fails.failed }
