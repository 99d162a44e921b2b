-- A volume has one answer to a deletion.
use Rattle.std.specs.Prelude.{◌≡◌, ℕ, zero, suc, true, false, List, Result, Ok, Err}
use Rattle.std.proofs.Common.{refl, sym, ◌∙◌, ap}
use Rattle.vol_format.specs.Accepted.{IsVolume}
use Rattle.vol_format.specs.Directory.{entry_of}
use Rattle.vol_format.specs.Laws.{IsReadable}
use Rattle.vol_format.specs.Meaning.{Meaning}
use Rattle.file_formats.specs.FileNames.{FileNameView}
use Rattle.file_formats.specs.Files.{FileMeaning}
use Rattle.edit_formats.specs.declared.error.EditError.{EditError}
use Rattle.edit_formats.specs.declared.error.EditError.TheVariants.{Check, NotFound, Name, Exists, Locked}
use Rattle.edit_formats.specs.declared.error.EditError.TheVariants.{TooLong, DirFull, VolumeFull, Device, Memory}
use Rattle.edit_formats.specs.Erasing.{EraseMeaning}
use Rattle.edit_formats.specs.Renamed.{HasFirst}
use Rattle.file_edits.specs.Answers.{IsDeleteAnswer}
use Rattle.file_edits.proofs.OneAnswer.{OfEntry, Any, also, not_both, not_none, one_end}

-- the answers in the order in which they are weighed
abbrev rank_of : {T : Type 0} → Result T EditError → ℕ
rank_of (Err Check) = 0
rank_of (Err NotFound) = 1
rank_of (Err Locked) = 2
rank_of answer = 3

abbrev answer_of : ℕ → Result (Unit {0}) EditError
answer_of zero = Err Check
answer_of (suc zero) = Err NotFound
answer_of (suc (suc zero)) = Err Locked
answer_of (suc (suc (suc n))) = Ok tt

module _ (format : Meaning) (laws : IsReadable format) (files : FileMeaning) (erasures : EraseMeaning)
    (store : List (List ℕ)) (name : FileNameView) where
  abbrev First : OfEntry → Type 0
  First Is = HasFirst format files store name Is

  abbrev Protected : OfEntry
  Protected directory file = erasures.protects (entry_of directory file).bytes ≡ true

  abbrev Unprotected : OfEntry
  Unprotected directory file = erasures.protects (entry_of directory file).bytes ≡ false

  -- how far it is weighed before an answer
  abbrev Passed : ℕ → Type 0
  Passed zero = Unit {0}
  Passed (suc zero) = IsVolume format store
  Passed (suc (suc zero)) = First Any
  Passed (suc (suc (suc zero))) = First Unprotected
  Passed (suc (suc (suc (suc n)))) = ⊥

  fewer : (n : ℕ) → Passed (suc n) → Passed n
  fewer zero passed = tt
  fewer (suc zero) passed = (passed.directory, passed.accepted)
  fewer (suc (suc zero)) passed = also format laws files store name Unprotected Any (λ directory file is. tt) passed
  fewer (suc (suc (suc n))) passed = absurd passed

  abbrev IsAnswer : Result (Unit {0}) EditError → Type 0
  IsAnswer answer = IsDeleteAnswer format files erasures store name answer

  ends : (answer : Result (Unit {0}) EditError) → IsAnswer answer
      → Passed (rank_of answer) × (Passed (suc (rank_of answer)) → ⊥)
  ends (Ok x) is = (is, λ none. none)
  ends (Err Check) is = (tt, is)
  ends (Err NotFound) is = ((is.directory, is.accepted), not_none format laws files store name is)
  ends (Err Locked) is = (
    also format laws files store name Protected Any (λ directory file has. tt) is,
    not_both format laws files store name Protected Unprotected (λ directory file has none. cc) is,
  )
  ends (Err Name) is = absurd is
  ends (Err Exists) is = absurd is
  ends (Err TooLong) is = absurd is
  ends (Err DirFull) is = absurd is
  ends (Err VolumeFull) is = absurd is
  ends (Err Device) is = absurd is
  ends (Err Memory) is = absurd is

  back : (answer : Result (Unit {0}) EditError) → IsAnswer answer → answer_of (rank_of answer) ≡ answer
  back (Ok x) is = refl
  back (Err Check) is = refl
  back (Err NotFound) is = refl
  back (Err Locked) is = refl
  back (Err Name) is = absurd is
  back (Err Exists) is = absurd is
  back (Err TooLong) is = absurd is
  back (Err DirFull) is = absurd is
  back (Err VolumeFull) is = absurd is
  back (Err Device) is = absurd is
  back (Err Memory) is = absurd is

  pub one_deletion : (one other : Result (Unit {0}) EditError) → IsAnswer one → IsAnswer other → one ≡ other
  one_deletion one other is also_is =
      sym (back one is)
      ∙ ap answer_of (one_end Passed fewer (rank_of one) (rank_of other) (ends one is) (ends other also_is))
      ∙ back other also_is
