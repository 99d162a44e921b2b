-- A volume has one answer to a rename.
use Rattle.std.specs.Prelude.{◌≡◌, ℕ, zero, suc, true, List, Result, Ok, Err}
use Rattle.std.proofs.Common.{refl, sym, ◌∙◌, ap}
use Rattle.vol_format.specs.Accepted.{IsVolume}
use Rattle.vol_format.specs.Directory.{Directory}
use Rattle.vol_format.specs.Laws.{IsReadable}
use Rattle.vol_format.specs.Meaning.{Meaning}
use Rattle.file_formats.specs.FileNames.{FileNameView}
use Rattle.file_formats.specs.Files.{FileMeaning}
use Rattle.edit_formats.specs.declared.error.EditError.{EditError}
use Rattle.edit_formats.specs.declared.error.EditError.TheVariants.{Check, NotFound, Name, Exists, Locked}
use Rattle.edit_formats.specs.declared.error.EditError.TheVariants.{TooLong, DirFull, VolumeFull, Device, Memory}
use Rattle.edit_formats.specs.Names.{NameMeaning}
use Rattle.edit_formats.specs.Renamed.{HasFirst, IsNameInUse, IsNameKept, IsNoName, IsRenamable}
use Rattle.file_edits.specs.Answers.{IsRenameAnswer}
use Rattle.file_edits.proofs.OneAnswer.{OfEntry, Any, also, not_both, not_none, one_end}

-- the answers in the order in which they are weighed
abbrev rank_of : {T : Type 0} → Result T EditError → ℕ
rank_of (Err Check) = 0
rank_of (Err NotFound) = 1
rank_of (Err Name) = 2
rank_of (Err Exists) = 3
rank_of (Err Locked) = 4
rank_of answer = 5

abbrev answer_of : ℕ → Result (Unit {0}) EditError
answer_of zero = Err Check
answer_of (suc zero) = Err NotFound
answer_of (suc (suc zero)) = Err Name
answer_of (suc (suc (suc zero))) = Err Exists
answer_of (suc (suc (suc (suc zero)))) = Err Locked
answer_of (suc (suc (suc (suc (suc n))))) = Ok tt

module _ (format : Meaning) (laws : IsReadable format) (files : FileMeaning) (names : NameMeaning)
    (store : List (List ℕ)) (name : FileNameView) (new : List ℕ) where
  abbrev First : OfEntry → Type 0
  First Is = HasFirst format files store name Is

  abbrev MayHave : OfEntry
  MayHave directory file = names.may_have new ≡ true

  abbrev IsAlone : OfEntry
  IsAlone directory file = (names.may_have new ≡ true) × (¬ names.HasBeside store directory file new)

  abbrev NoName : OfEntry
  NoName directory file = IsNoName names new

  abbrev InUse : OfEntry
  InUse directory file = IsNameInUse names store directory file new

  abbrev Kept : OfEntry
  Kept directory file = IsNameKept names store directory file new

  abbrev Renamable : OfEntry
  Renamable directory file = IsRenamable names store directory file new

  -- how far it is weighed before an answer
  abbrev Passed : ℕ → Type 0
  Passed zero = Unit {0}
  Passed (suc zero) = IsVolume format store
  Passed (suc (suc zero)) = First Any
  Passed (suc (suc (suc zero))) = First MayHave
  Passed (suc (suc (suc (suc zero)))) = First IsAlone
  Passed (suc (suc (suc (suc (suc zero))))) = First Renamable
  Passed (suc (suc (suc (suc (suc (suc n)))))) = ⊥

  weaker : (P Q : OfEntry) → ((directory : Directory) (file : ℕ) → P directory file → Q directory file)
      → First P → First Q
  weaker = also format laws files store name

  against : (P Q : OfEntry) → ((directory : Directory) (file : ℕ) → P directory file → Q directory file → ⊥)
      → First P → First Q → ⊥
  against = not_both format laws files store name

  fewer : (n : ℕ) → Passed (suc n) → Passed n
  fewer zero passed = tt
  fewer (suc zero) passed = (passed.directory, passed.accepted)
  fewer (suc (suc zero)) passed = weaker MayHave Any (λ directory file is. tt) passed
  fewer (suc (suc (suc zero))) passed = weaker IsAlone MayHave (λ directory file is. is.0) passed
  fewer (suc (suc (suc (suc zero)))) passed = weaker Renamable IsAlone (λ directory file is. (is.name, is.alone)) passed
  fewer (suc (suc (suc (suc (suc n))))) passed = absurd passed

  abbrev IsAnswer : Result (Unit {0}) EditError → Type 0
  IsAnswer answer = IsRenameAnswer format files names store name new answer

  ends : (answer : Result (Unit {0}) EditError) → IsAnswer answer
      → Passed (rank_of answer) × (Passed (suc (rank_of answer)) → ⊥)
  ends (Ok x) is = (is, λ none. none)
  ends (Err Check) is = (tt, is)
  ends (Err NotFound) is = ((is.directory, is.accepted), not_none format laws files store name is)
  ends (Err Name) is = (
    weaker NoName Any (λ directory file none. tt) is,
    against NoName MayHave (λ directory file none may. cc) is,
  )
  ends (Err Exists) is = (
    weaker InUse MayHave (λ directory file has. has.0) is,
    against InUse IsAlone (λ directory file has alone. alone.1 has.1) is,
  )
  ends (Err Locked) is = (
    weaker Kept IsAlone (λ directory file kept. (kept.name, kept.alone)) is,
    against Kept Renamable
        (λ directory file kept free. let keeps = kept.keeps in let unlocked = free.unlocked in cc) is,
  )
  ends (Err TooLong) is = absurd is
  ends (Err DirFull) is = absurd is
  ends (Err VolumeFull) is = absurd is
  ends (Err Device) is = absurd is
  ends (Err Memory) is = absurd is

  back : (answer : Result (Unit {0}) EditError) → IsAnswer answer → answer_of (rank_of answer) ≡ answer
  back (Ok x) is = refl
  back (Err Check) is = refl
  back (Err NotFound) is = refl
  back (Err Name) is = refl
  back (Err Exists) is = refl
  back (Err Locked) is = refl
  back (Err TooLong) is = absurd is
  back (Err DirFull) is = absurd is
  back (Err VolumeFull) is = absurd is
  back (Err Device) is = absurd is
  back (Err Memory) is = absurd is

  pub one_rename : (one other : Result (Unit {0}) EditError) → IsAnswer one → IsAnswer other → one ≡ other
  one_rename one other is also_is =
      sym (back one is)
      ∙ ap answer_of (one_end Passed fewer (rank_of one) (rank_of other) (ends one is) (ends other also_is))
      ∙ back other also_is
