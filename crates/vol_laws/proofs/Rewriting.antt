-- A directory with one entry rewritten.
use Rattle.std.specs.Prelude.{◌≡◌, ◌<◌, ℕ, not, false, List, slice_set}
use Rattle.std.proofs.Common.{refl, sym, ◌∙◌, ap, inl, inr}
use Rattle.std.proofs.lemmas.Bool.{cases_eq}
use Rattle.std.proofs.lemmas.List.{get_or-set_same, get_or-set_other, length-set}
use Rattle.vol_format.specs.Accepted.{IsAccepted}
use Rattle.vol_format.specs.Directory.{Directory, Listed, no_entry, entries, entry_of, root_of, is_directory, files}
use Rattle.vol_format.specs.Meaning.{Meaning}
use Rattle.vol_laws.specs.Entered.{HasSameRest}
use Rattle.vol_laws.specs.Inserted.{rewritten, files_before}
use Rattle.vol_laws.specs.Rewritten.{HasRewritten}
use Rattle.vol_laws.proofs.SameRoots.{HasSameRoots, same_roots_kept}
use Rattle.vol_laws.proofs.Filtered.{filter_set}

-- the entry as it is rewritten
abbrev pub new_entry : Directory → ℕ → List ℕ → List ℕ → Listed
new_entry directory file path bytes = record (entry_of directory file) { path = path; bytes = bytes }

module _ (directory : Directory) (file : ℕ) (path bytes : List ℕ) (inside : file < entries directory) where
  roots_kept : (n : ℕ) → root_of (rewritten directory file path bytes) n ≡ root_of directory n
  roots_kept n = elim (cases_eq n file) [
    | inl same ↦
        ap (root_of (rewritten directory file path bytes)) same
        ∙ ap (λ (e : Listed). e.root) (get_or-set_same directory.listed file (new_entry directory file path bytes) no_entry inside)
        ∙ ap (root_of directory) (sym same)
    | inr differ ↦ ap (λ (e : Listed). e.root) (get_or-set_other directory.listed file n (new_entry directory file path bytes) no_entry differ)
  ]

  pub rewritten_roots : HasSameRoots directory (rewritten directory file path bytes)
  rewritten_roots = record {
    count = length-set directory.listed file (new_entry directory file path bytes);
    roots = roots_kept;
    places = refl;
    system = refl;
    free = refl;
    available = refl;
  }

  pub files_rewritten : is_directory (entry_of directory file) ≡ false
      → files (rewritten directory file path bytes) ≡ slice_set (files directory) (files_before directory file) (new_entry directory file path bytes)
  files_rewritten is_file = filter_set (λ (entry : Listed). not (is_directory entry)) file no_entry (new_entry directory file path bytes) directory.listed
      inside (ap not is_file) (ap not is_file)

pub entry_rewritten : (format : Meaning) (directory : Directory) (old new : List (List ℕ)) (file : ℕ) (path bytes : List ℕ) → file < entries directory
    → IsAccepted format directory old → HasSameRest directory old new → format.Describes new (rewritten directory file path bytes)
    → HasRewritten format directory (rewritten directory file path bytes) old new
entry_rewritten format directory old new file path bytes inside accepted rest described =
    same_roots_kept format directory (rewritten directory file path bytes) old new (rewritten_roots directory file path bytes inside) accepted rest described
