-- What is said of a volume that was read.
use Rattle.std.specs.Prelude.{ℕ, List}
use Rattle.std.specs.List.{AllZip}
use Rattle.vol_format.specs.Directory.{Directory}
use Rattle.vol_format.specs.Meaning.{Meaning}
use Rattle.vol_check.specs.Answer.{AreFaults}
use Rattle.vol_check.specs.FaultFiles.{FaultList, FileFaultAt}
use Rattle.vol_check.specs.Told.{volume_of}
use Rattle.vol_check.specs.declared.checked.Checked.{Checked}
use Rattle.vol_check.specs.declared.judgement.Judgement.{Judgement}
use Rattle.vol_check.specs.declared.judgement.Judgement.TheVariants.{Accepted, Refused}

-- the volume of which it is said
abbrev pub judged : {V A : Type 0} → Judgement V A → V
judged (Accepted checked) = volume_of checked
judged (Refused volume faults) = volume

-- what holds of an accepted volume, and of the faults of another
abbrev pub IfAccepted : {V A : Type 0} → (Checked V A → Type 0) → Judgement V A → Type 0
IfAccepted P (Accepted checked) = P checked
IfAccepted P (Refused volume faults) = Unit {0}

abbrev pub IfRefused : {V A : Type 0} → (FaultList → Type 0) → Judgement V A → Type 0
IfRefused P (Accepted checked) = Unit {0}
IfRefused P (Refused volume faults) = P faults

-- faults that are there, each with the file that it is of
pub record AreFileFaults (format : Meaning) (directory : Directory) (store : List (List ℕ))
    (list : FaultList) : Type 0 where
  pub described : format.Describes store directory
  pub are : AreFaults format store list.faults
  pub of_files : AllZip (FileFaultAt format directory store) list.files list.faults
