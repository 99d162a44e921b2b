-- A folder of the host after items were made in it.
use Rattle.std.specs.Prelude.{◌≡◌, IsTrue, List, ◌∷◌, ◌++◌}
use Rattle.host_folders.specs.Folder.{FolderState, IsCutShort, Made, file, folder}
use Rattle.host_folders.specs.HostNames.{Text}
use Rattle.host_folders.specs.declared.folder.FolderFailure.{FolderFailure}
use Rattle.volume_extract.specs.Items.{Found, Item, made_by, made_in}

-- the folder after these were made
abbrev pub after_made : List Made → FolderState → FolderState
after_made made state = record state { made = state.made ++ made }

-- the folder after one more item
abbrev pub after_item : Text → Found → FolderState → FolderState
after_item host found state = after_made (made_by host found) state

-- the folder after all items
abbrev pub after_items : List Item → FolderState → FolderState
after_items items state = after_made (made_in items) state

-- a folder after a folder or a file could not be made: as it was, or with a file of a front of the bytes
abbrev pub IsHalfMade : Made → FolderState → FolderState → Type 0
IsHalfMade (folder path) old new = new ≡ old
IsHalfMade (file path bytes) old new = IsCutShort path bytes old new

-- Of what was to be made the first ones were, and then the folder refused a call, as it may.
pub record HasFailedCall {O : Type 0} (state : O → FolderState) (may_fail : O → FolderFailure → Type 0)
    (made : List Made) (old new : FolderState) (failure : FolderFailure) : Type 0 where
  pub first : List Made
  pub next : Made
  pub rest : List Made
  pub is : made ≡ first ++ next ∷ rest
  pub at : O
  pub before : IsTrue old.honest → state at ≡ after_made first old
  pub failed : may_fail at failure
  pub half_made : IsTrue old.honest → IsHalfMade next (after_made first old) new
