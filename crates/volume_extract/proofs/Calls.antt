-- A call of the folder that failed.
use Rattle.std.proofs.Common.{◌≡◌, List, [], ◌∷◌, refl, sym, ap, subst, append-nil}
use Rattle.std.specs.Prelude.{IsTrue}
use Rattle.host_folders.specs.Folder.{FolderState, Made}
use Rattle.host_folders.specs.declared.folder.FolderFailure.{FolderFailure}
use Rattle.volume_extract.specs.Made.{HasFailedCall, IsHalfMade, after_made}

abbrev with_made : FolderState → List Made → FolderState
with_made folder made = record folder { made = made }

-- nothing is made of nothing
pub none_made : (folder : FolderState) → folder ≡ after_made [] folder
none_made folder = ap (with_made folder) (sym (append-nil folder.made))

module _ {O : Type 0} (state : O → FolderState) (may_fail : O → FolderFailure → Type 0) (new : FolderState) (failure : FolderFailure) where
  -- the first call
  pub failed_first : (next : Made) (rest : List Made) (at : O) → may_fail at failure → (IsTrue (state at).honest → IsHalfMade next (state at) new)
      → HasFailedCall state may_fail (next ∷ rest) (state at) new failure
  failed_first next rest at failed half = record {
    first = [];
    next = next;
    rest = rest;
    is = refl;
    at = at;
    before = λ honest. none_made (state at);
    failed = failed;
    half_made = λ honest. subst (λ (folder : FolderState). IsHalfMade next folder new) (none_made (state at)) (half honest);
  }
