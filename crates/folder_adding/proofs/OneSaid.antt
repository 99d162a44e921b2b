-- An entry is weighed in one way.
use Rattle.std.proofs.Common.{◌≡◌, ◌⊎◌, ◌∙◌, inl, inr, ℕ, List, [], ◌∷◌, ap, ap₂, sym, refl, false}
use Rattle.std.specs.Prelude.{◌==◌, Option, Some, None, Ok, Err, cond}
use Rattle.std.proofs.lemmas.Bool.{cond-false, cond-true, ne_eqb}
use Rattle.folder_adding.specs.HostEntries.{EntryView}
use Rattle.folder_adding.specs.HostPaths.{SaidDirectory, SaidPath, SayPartsIn, SaysDirectory, SaysPath, Text, are_pro_names, may_have, parts}
use Rattle.folder_adding.specs.OneVerdict.{HasOneVerdict}
use Rattle.folder_adding.specs.Verdicts.{AddedFolder, IsFileVerdict, IsFolderVerdict, Verdict, adds, passes, is_directory, SaysPlainFile, directory_type, is_item, is_second, item_said, making_said, no_directory, no_directory_name, no_name, no_path, no_plain_file, no_type, second_form}
use Rattle.folder_adding.specs.Verdicts.{IsVerdictOf}
use Rattle.folder_adding.specs.declared.host_entry.HostKind.{HostKind}
use Rattle.folder_adding.specs.declared.host_entry.HostKind.TheVariants.{File, Folder, Other}
use Rattle.host_folders.proofs.One.{one_file, one_folder}
use Rattle.host_folders.specs.HostEntries.{FileView, SaysFile, SaysFolder}
use Rattle.vol_layout.specs.declared.form.PlaceForm.TheVariants.{Block, Sector}
use Rattle.shop_changes.specs.GivenWords.{kind_for}
use Rattle.shop_jobs.specs.declared.input.FileSystem.{FileSystem}
use Rattle.shop_jobs.specs.declared.input.FileSystem.TheVariants.{Dos, Prodos}
use Rattle.shop_replies.specs.declared.refusal.Refusal.TheVariants as refusals

-- ---- what paths say

module _ {S : Type 0} (Says : Text → S → Type 0) (one_said : (text : Text) (one other : S) → Says text one → Says text other → one ≡ other) where
  one_way : (ps names others : List Text) (one other : S) → SayPartsIn Says ps names one → SayPartsIn Says ps others other → (names ≡ others) × (one ≡ other)
  one_way [] names others one other is also = absurd is
  one_way (last ∷ []) [] [] one other is also = (refl, one_said last one other is also)
  one_way (last ∷ []) [] (name ∷ others) one other is also = absurd also
  one_way (last ∷ []) (name ∷ names) others one other is also = absurd is
  one_way (folder ∷ next ∷ behind) [] others one other is also = absurd is
  one_way (folder ∷ next ∷ behind) (name ∷ names) [] one other is also = absurd also
  one_way (folder ∷ next ∷ behind) (name ∷ names) (second ∷ others) one other is also =
      let rest = one_way (next ∷ behind) names others one other is.1 also.1 in
      (ap₂ (λ (x : Text) (xs : List Text). x ∷ xs) (one_folder Block folder name second is.0 also.0) rest.0, rest.1)

abbrev said : List Text → FileView → SaidPath
said names file = record { directories = names; file = file }

same_said : (names others : List Text) (file other : FileView) → names ≡ others → file ≡ other → said names file ≡ said others other
same_said names others file other named filed = ap₂ said named filed

pub one_path : (file_system : FileSystem) (path : Text) (one other : SaidPath) → SaysPath file_system path one → SaysPath file_system path other → one ≡ other
one_path Dos path one other is also =
    same_said one.directories other.directories one.file other.file (is.1 ∙ sym also.1) (one_file Sector path one.file other.file is.2 also.2)
one_path Prodos path one other is also =
    let same = one_way (SaysFile Block) (one_file Block) (parts path) one.directories other.directories one.file other.file is also in
    same_said one.directories other.directories one.file other.file same.0 same.1

abbrev said_directory : List Text → Text → SaidDirectory
said_directory names name = record { directories = names; name = name }

one_directory : (file_system : FileSystem) (path : Text) (one other : SaidDirectory) → SaysDirectory file_system path one → SaysDirectory file_system path other → one ≡ other
one_directory Dos path one other is also = absurd is
one_directory Prodos path one other is also =
    let same = one_way (SaysFolder Block) (one_folder Block) (parts path) one.directories other.directories one.name other.name is also in
    ap₂ said_directory same.0 same.1

-- ---- folders

module _ (folder : AddedFolder) (path : Text) where
  -- what becomes of the folder whose path says this
  of_directory : SaidDirectory → Verdict
  of_directory directory = cond (are_pro_names directory.directories directory.name) (Ok (making_said folder directory)) (Err refusals.Name)

  -- the path says no directory, or it says one, and that tells what becomes of it
  folder_case : (verdict : Verdict) → IsFolderVerdict folder path verdict
      → (((directory : SaidDirectory) → ¬ SaysDirectory folder.file_system path directory) × (verdict ≡ Err refusals.Host))
      ⊎ ((directory : SaidDirectory) × SaysDirectory folder.file_system path directory × (verdict ≡ of_directory directory))
  unfolding of_directory
  folder_case _ (no_directory none) = inl (none, refl)
  folder_case _ (no_directory_name directory says is) =
      inr (directory, says, sym (cond-false (are_pro_names directory.directories directory.name) (Ok (making_said folder directory)) (Err refusals.Name) is))
  folder_case _ (is_directory directory says is) =
      inr (directory, says, sym (cond-true (are_pro_names directory.directories directory.name) (Ok (making_said folder directory)) (Err refusals.Name) is))

  one_folder_verdict : (one other : Verdict) → IsFolderVerdict folder path one → IsFolderVerdict folder path other → one ≡ other
  one_folder_verdict one other is also = elim (folder_case one is) [
    | inl none ↦ elim (folder_case other also) [
      | inl nothing ↦ none.1 ∙ sym nothing.1
      | inr named ↦ absurd (none.0 named.0 named.1)
    ]
    | inr named ↦ elim (folder_case other also) [
      | inl nothing ↦ absurd (nothing.0 named.0 named.1)
      | inr renamed ↦ named.2 ∙ ap of_directory (one_directory folder.file_system path named.0 renamed.0 named.1 renamed.1) ∙ sym renamed.2
    ]
  ]

-- ---- files

module _ (folder : AddedFolder) (path : Text) where
  -- what becomes of a file that gets this type, or none
  of_type : SaidPath → Option ℕ → Verdict
  of_type file None = Err refusals.Type
  of_type file (Some kind) = cond (may_have folder.file_system file) (Ok (adds (item_said folder path file kind))) (Err refusals.Name)

  -- what becomes of one whose path says this, and not the type of directories
  of_plain : SaidPath → Verdict
  of_plain file = cond (is_second folder path file) (Ok passes) (of_type file (kind_for folder.file_system file.file.file_type))

  -- what becomes of a file whose path says this
  of_path : SaidPath → Verdict
  of_path file = cond (file.file.file_type == directory_type) (Err refusals.Host) (of_plain file)

  plain : (file : SaidPath) → SaysPlainFile folder.file_system path file → of_path file ≡ of_plain file
  unfolding of_path
  plain file says =
      cond-false (file.file.file_type == directory_type) (Err refusals.Host) (of_plain file) (ne_eqb file.file.file_type directory_type says.1)

  first_form : (file : SaidPath) (type : Option ℕ) → is_second folder path file ≡ false → kind_for folder.file_system file.file.file_type ≡ type
      → of_plain file ≡ of_type file type
  unfolding of_plain
  first_form file type first typed =
      cond-false (is_second folder path file) (Ok passes) (of_type file (kind_for folder.file_system file.file.file_type)) first
      ∙ ap (of_type file) typed

  file_case : (verdict : Verdict) → IsFileVerdict folder path verdict
      → (((file : SaidPath) → ¬ SaysPath folder.file_system path file) × (verdict ≡ Err refusals.Host))
      ⊎ ((file : SaidPath) × SaysPath folder.file_system path file × (verdict ≡ of_path file))
  unfolding of_path of_plain of_type
  file_case _ (no_path none) = inl (none, refl)
  file_case _ (no_plain_file file says is) =
      inr (file, says, sym (ap (λ (type : ℕ). cond (type == directory_type) (Err refusals.Host) (of_plain file)) is))
  file_case _ (second_form file says second) =
      inr (
        file,
        says.0,
        sym (plain file says
            ∙ cond-true (is_second folder path file) (Ok passes) (of_type file (kind_for folder.file_system file.file.file_type)) second),
      )
  file_case _ (no_type file says first typed) = inr (file, says.0, sym (plain file says ∙ first_form file None first typed))
  file_case _ (no_name file kind says first typed named) =
      inr (
        file,
        says.0,
        sym (plain file says ∙ first_form file (Some kind) first typed
            ∙ cond-false (may_have folder.file_system file) (Ok (adds (item_said folder path file kind))) (Err refusals.Name) named),
      )
  file_case _ (is_item file kind says first typed named) =
      inr (
        file,
        says.0,
        sym (plain file says ∙ first_form file (Some kind) first typed
            ∙ cond-true (may_have folder.file_system file) (Ok (adds (item_said folder path file kind))) (Err refusals.Name) named),
      )

  one_file_verdict : (one other : Verdict) → IsFileVerdict folder path one → IsFileVerdict folder path other → one ≡ other
  one_file_verdict one other is also = elim (file_case one is) [
    | inl none ↦ elim (file_case other also) [
      | inl nothing ↦ none.1 ∙ sym nothing.1
      | inr named ↦ absurd (none.0 named.0 named.1)
    ]
    | inr named ↦ elim (file_case other also) [
      | inl nothing ↦ absurd (nothing.0 named.0 named.1)
      | inr renamed ↦ named.2 ∙ ap of_path (one_path folder.file_system path named.0 renamed.0 named.1 renamed.1) ∙ sym renamed.2
    ]
  ]

-- ---- all entries

one_of : (folder : AddedFolder) (path : Text) (kind : HostKind) (one other : Verdict) → IsVerdictOf folder path kind one → IsVerdictOf folder path kind other → one ≡ other
one_of folder path File one other is also = one_file_verdict folder path one other is also
one_of folder path Folder one other is also = one_folder_verdict folder path one other is also
one_of folder path Other one other is also = is ∙ sym also

pub one_verdict : (folder : AddedFolder) (entry : EntryView) → HasOneVerdict folder entry
one_verdict folder entry = λ one other is also. one_of folder entry.path entry.kind one other is also
