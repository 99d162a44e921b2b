-- A folder of whose calls one fails.
use Rattle.std.specs.Prelude.{◌≡◌, ◌⊎◌, ◌+◌, min, Result, Err, Some}
use Rattle.host_folders.specs.declared.folder.FolderFailure.{FolderFailure}
use Rattle.host_folders.specs.declared.folder.FolderFailure.TheVariants.{Failed}
use Rattle.host_folders.specs.declared.failing.FailingFolder.{FailingFolder}

-- the call that is to fail is the next one
abbrev pub IsNext : {F : Type 0} → FailingFolder F → Type 0
IsNext f = f.failing ≡ Some f.calls

-- one call was counted, up to the last value of the counter, and which one is to fail is as it was
pub record IsCounted {F : Type 0} (old new : FailingFolder F) : Type 0 where
  pub calls : new.calls ≡ min (old.calls + 1) 18446744073709551615
  pub failing : new.failing ≡ old.failing

-- the call failed, and the folder within was not asked
pub record IsRefused {F T : Type 0} (old new : FailingFolder F) (result : Result T FolderFailure) : Type 0 where
  pub failed : result ≡ Err Failed
  pub folder : new.folder ≡ old.folder

-- the failures that a call may answer: that of the call that is to fail, and those of the folder within
abbrev pub MayFail : {F : Type 0} → (F → FolderFailure → Type 0) → FailingFolder F → FolderFailure → Type 0
MayFail within f failure = (IsNext f × (failure ≡ Failed)) ⊎ within f.folder failure
