-- A store has one list of files at most, one list of parts and one layout.
use Rattle.std.specs.Prelude.{◌≡◌, ◌↔◌, ◌<◌, ℕ, List}
use Rattle.std.proofs.Common.{sym, ◌∙◌, ap, subst, arith, ⊎_elim}
use Rattle.a2_device.specs.declared.part.Part.{Part}
use Rattle.vol_format.specs.Directory.{Directory}
use Rattle.vol_format.specs.Laws.{IsReadable}
use Rattle.vol_format.specs.Meaning.{Meaning}
use Rattle.vol_format.specs.Reach.{Before, IsPartsOf}
use Rattle.vol_format.specs.Standing.{layout_of}
use Rattle.vol_format.specs.Files.{Stored, File, IsFile, IsFiles, file_numbers, HasFiles}
use Rattle.vol_format.specs.Layout.{HasLayout}
use Rattle.vol_format.proofs.Lists.{same_elements, one_zipped}

abbrev file_with : List ℕ → List ℕ → List Stored → File
file_with path bytes body = record { path = path; bytes = bytes; body = body }

-- the same members, by what they are
both_ways : {A B C : Type 0} → A ↔ C → B ↔ C → A ↔ B
both_ways one other = (λ a. other.1 (one.0 a), λ b. one.1 (other.0 b))

module _ (format : Meaning) where
  module _ (directory : Directory) (store : List (List ℕ)) where
    one_body : (entry : ℕ) (file other : File) → IsFile format directory store entry file → IsFile format directory store entry other → file.body ≡ other.body
    one_body entry file other is is' =
        same_elements (λ (stored later : Stored). stored.number < later.number) (λ stored later less more. omega (arith, less, more)) file.body other.body is.rising is'.rising
        (λ stored. both_ways (is.members stored) (is'.members stored))

    one_file : (entry : ℕ) (file other : File) → IsFile format directory store entry file → IsFile format directory store entry other → file ≡ other
    one_file entry file other is is' =
        ap (λ path. file_with path file.bytes file.body) (is.path ∙ sym is'.path)
        ∙ ap (λ bytes. file_with other.path bytes file.body) (is.bytes ∙ sym is'.bytes)
        ∙ ap (λ body. file_with other.path other.bytes body) (one_body entry file other is is')

    one_files : (files others : List File) → IsFiles format directory store files → IsFiles format directory store others → files ≡ others
    one_files files others are are' = one_zipped (IsFile format directory store) one_file (file_numbers directory) files others are are'

    before_strict : (part later : Part) → Before format part later → Before format later part → ⊥
    before_strict part later before after = ⊎_elim
        (λ lower. ⊎_elim (λ higher. omega (arith, lower, higher)) (λ same. omega (arith, lower, same.0)) after)
        (λ same. ⊎_elim (λ higher. omega (arith, same.0, higher)) (λ same'. omega (arith, same.1, same'.1)) after)
        before

    pub one_parts : (parts others : List Part) → IsPartsOf format directory store parts → IsPartsOf format directory store others → parts ≡ others
    one_parts parts others are are' = same_elements (Before format) before_strict parts others are.ordered are'.ordered (λ part. both_ways (are.members part) (are'.members part))

  pub one_list : IsReadable format → (store : List (List ℕ)) (files others : List File) → HasFiles format store files → HasFiles format store others → files ≡ others
  one_list laws store files others has has' =
      let same = laws.one_directory store has'.directory has.directory has'.accepted.described has.accepted.described in
      one_files has.directory store files others has.are (subst (λ (d : Directory). IsFiles format d store others) same has'.are)

  pub one_layout : IsReadable format → (store : List (List ℕ)) (at other : List ℕ) → HasLayout format store at → HasLayout format store other → at ≡ other
  one_layout laws store at other has has' =
      let same = laws.one_directory store has'.directory has.directory has'.accepted.described has.accepted.described in
      let parts = one_parts has.directory store has.parts has'.parts has.are_parts (subst (λ (d : Directory). IsPartsOf format d store has'.parts) same has'.are_parts) in
      has.is
      ∙ ap (layout_of has.directory) parts
      ∙ ap (λ (d : Directory). layout_of d has'.parts) (sym same)
      ∙ sym has'.is
