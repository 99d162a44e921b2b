-- What a folder says of its calls, each as one fact.
use Rattle.std.specs.Prelude.{◌≡◌, ℕ, List, Result, IsTrue, OnErr, OnOk}
use Rattle.host_folders.specs.declared.folder.FolderFailure.{FolderFailure}
use Rattle.host_folders.specs.Folder.{FolderState, IsCutShort, after_file, after_folder}

-- the clauses of a call that makes a folder
pub record MakesFolder {T : Type 0} (path : List ℕ) (result : Result T FolderFailure)
    (old new : FolderState) : Type 0 where
  pub same : new.honest ≡ old.honest
  pub made : IsTrue old.honest → OnOk result (new ≡ after_folder path old)
  pub failed : IsTrue old.honest → OnErr result (new ≡ old)

-- the clauses of a call that puts a file into it
pub record PutsFile {T : Type 0} (path bytes : List ℕ) (result : Result T FolderFailure) (old new : FolderState) :
    Type 0 where
  pub same : new.honest ≡ old.honest
  pub made : IsTrue old.honest → OnOk result (new ≡ after_file path bytes old)
  pub failed : IsTrue old.honest → OnErr result (IsCutShort path bytes old new)
