-- The parts of all files of a volume that was read.
use Rattle.std.specs.Prelude.{◌≡◌, ◌<◌, ◌==◌, ℕ, List, Contains, filter}
use Rattle.std.specs.List.Sorted.{IsNonDecreasingBy}
use Rattle.std.proofs.Common.{refl, sym, ◌∙◌, ap, subst, arith, get_or, ⊎_elim}
use Rattle.std.proofs.lemmas.Bool.{cases_eq}
use Rattle.a2_device.specs.declared.part.Part.{Part}
use Rattle.vol_format.specs.Accepted.{IsAccepted}
use Rattle.vol_format.specs.Directory.{Directory, entries}
use Rattle.vol_format.specs.Laws.{IsReadable}
use Rattle.vol_format.specs.Meaning.{Meaning}
use Rattle.vol_format.specs.Reach.{Reach, at_root, at_child, IsPartsOf}
use Rattle.vol_format.proofs.Lists.{element}
use Rattle.vol_format.proofs.OneFile.{one_files_parts}
use Rattle.vol_check.specs.Answer.{IsRefusal}
use Rattle.vol_check.specs.Told.{Told, IsToldOf}
use Rattle.vol_check.specs.declared.error.CheckError.{CheckError}
use Rattle.vol_check.specs.declared.error.Faults.{Faults}
use Rattle.vol_check.specs.declared.error.CheckError.TheVariants as check
use Rattle.file_cmds.specs.EachFile.{AreFaultlessParts, StandWithin}
use Rattle.file_cmds.specs.FileParts.{IsPartsAlone}
use Rattle.file_cmds.specs.KnownVolume.{of_known}
use Rattle.file_cmds.specs.Text.{OwnFault, other_type, wild_root, wild_pointer, shared}

module _ (format : Meaning) (directory : Directory) (store : List (List ℕ)) where
  abbrev known : Meaning
  known = of_known format directory

  out_of_known : (part : Part) → Reach known directory store part → Reach format directory store part
  out_of_known part (at_root file within is) = at_root file within is
  out_of_known part (at_child {parent} pointer reached link) = at_child pointer (out_of_known parent reached) link

  into_known : (part : Part) → Reach format directory store part → Reach known directory store part
  into_known part (at_root file within is) = at_root file within is
  into_known part (at_child {parent} pointer reached link) = at_child pointer (into_known parent reached) link

  no_own_fault : IsAccepted known directory store → (file : ℕ) → file < entries directory → OwnFault format directory store file → ⊥
  no_own_fault accepted file within (other_type is) = accepted.no_other_type file within is
  no_own_fault accepted file within (wild_root is) = accepted.no_wild file within is
  no_own_fault accepted file within (wild_pointer part pointer reached in_file link) = (accepted.sound part (into_known part reached)).no_wild pointer link
  no_own_fault accepted file within (shared part other reached other_reached in_file other_in_file same differ) =
      differ (accepted.once part other (into_known part reached) (into_known other other_reached) same)

  -- those of a volume that is accepted
  pub faultless_parts : (parts : List Part) → IsAccepted known directory store → IsPartsOf known directory store parts → AreFaultlessParts format directory store parts
  faultless_parts parts accepted are = record {
    are_parts = record {
      members = λ part. (λ has. out_of_known part ((are.members part).0 has), λ reached. (are.members part).1 (into_known part reached));
      ordered = are.ordered;
    };
    faultless = no_own_fault accepted;
  }

  -- a volume that is accepted is so whatever its store says of its directory
  pub accepted_as_known : IsReadable format → IsAccepted format directory store → IsAccepted known directory store
  accepted_as_known laws accepted = record {
    described = (refl, sym (laws.all_places store directory accepted.described));
    no_wild = accepted.no_wild;
    no_other_type = accepted.no_other_type;
    sound = λ part reached. let sound = accepted.sound part (out_of_known part reached) in record {
      no_wild = sound.no_wild;
      outside_system = sound.outside_system;
      marked = sound.marked;
    };
    once = λ part other reached other_reached. accepted.once part other (out_of_known part reached) (out_of_known other other_reached);
  }

  -- a volume that is refused is none to accept
  pub refused_by : {A : Type 0} → IsReadable format → (error : CheckError A) (faults : Faults A) → error ≡ check.Faults faults → IsRefusal known store error
      → IsAccepted format directory store → ⊥
  refused_by laws error faults is refused accepted = (subst (IsRefusal known store) is refused).refused directory (accepted_as_known laws accepted)

  -- the files have their parts one after the other
  rising : (parts : List Part) → IsPartsOf format directory store parts → IsNonDecreasingBy (λ (part : Part). part.file) parts
  rising parts are i j d less within =
      ⊎_elim
      (λ same. omega (arith, ap (λ k. (get_or parts k d).file) same))
      (λ apart. ⊎_elim (λ files. omega (arith, files)) (λ ranks. omega (arith, ranks.0)) (are.ordered i j d (omega arith) within)) (cases_eq i j)

  -- the run of a file's parts is the parts of the file
  pub parts_of_run : (file : ℕ) → file < entries directory → (parts : List Part) → AreFaultlessParts format directory store parts → (run : List Part)
      → (IsNonDecreasingBy (λ (part : Part). part.file) parts → run ≡ filter (λ (part : Part). part.file == file) parts)
      → (given : List Part) → given ≡ run → IsPartsAlone format directory store file given
  parts_of_run file within parts are run run_is given given_is = record {
    faultless = are.faultless file within;
    are_parts = (one_files_parts format directory store parts are.are_parts file given).1 (given_is ∙ run_is (rising parts are.are_parts));
  }

-- the parts that the checker tells stand at places of the device
pub parts_within : (directory : Directory) (told : Told) (parts : List Part) (places : ℕ) → IsToldOf directory told → parts ≡ told.parts
    → directory.places ≡ places → StandWithin places parts
parts_within directory told parts places of parts_is places_is k d within =
    omega (arith, places_is, of.places (get_or parts k d) (subst (λ (all : List Part). Contains all (get_or parts k d)) parts_is (element parts k d within)))
