-- The text of a file, from its own parts, and a failed read of one of these.
use Rattle.std.specs.Prelude.{◌≡◌, ℕ, List, Result, Ok, Err, IfOk, Contains}
use Rattle.std.proofs.Common.{◌∙◌, ap, subst}
use Rattle.a2_device.specs.Device.{DeviceState, FailsRead}
use Rattle.a2_device.specs.declared.part.Part.{Part}
use Rattle.vol_format.specs.Directory.{Directory}
use Rattle.vol_format.specs.Laws.{IsReadable}
use Rattle.vol_format.specs.Meaning.{Meaning}
use Rattle.vol_check.specs.Failures.{FailsInFile}
use Rattle.file_cmds.specs.EachFile.{IsTextBy}
use Rattle.file_cmds.specs.FileParts.{IsPartsAlone}
use Rattle.file_cmds.specs.FileText.{IsFileText}
use Rattle.file_cmds.specs.ReadingOn.{FailsAmong}
use Rattle.file_cmds.specs.Text.{whole_text}
use Rattle.file_cmds.specs.Walked.{stored_of}
use Rattle.file_cmds.specs.declared.file_texts.FileText.{FileText}
use Rattle.file_cmds.specs.declared.file_texts.FileText.TheVariants as read
use Rattle.file_cmds.proofs.FileUnits.{text_by_parts}

module _ (format : Meaning) (directory : Directory) (file : ℕ) (old mid : DeviceState) (kept : mid ≡ old) (parts : List Part)
    (are : IsPartsAlone format directory old.store file parts) (shown : List Part) (shown_is : shown ≡ parts) where
  -- what is read by a file's own parts is what is read of the file
  pub text_of_own : {A E : Type 0} → IsReadable format → old.unit_size ≡ format.unit_size → (result : Result (FileText A) E)
      → IfOk result (IsTextBy mid.unit_size mid.store shown) → IfOk result (IsFileText format directory old.store file)
  text_of_own laws size (Ok (read.Whole text)) is =
      text_by_parts format laws directory file old.store parts are.are_parts old.unit_size text.items are.faultless size
      (is
      ∙ ap (λ (d : DeviceState). whole_text d.unit_size (stored_of d.store shown)) kept
      ∙ ap (λ (ps : List Part). whole_text old.unit_size (stored_of old.store ps)) shown_is)
  text_of_own laws size (Ok read.Faulty) is = absurd is
  text_of_own laws size (Ok read.Failed) is = tt
  text_of_own laws size (Err error) is = tt

  -- a failed read of one of them is one of the file's units
  pub own_part_fails : (new : DeviceState) → FailsAmong shown mid new → FailsInFile format directory old new file
  own_part_fails new fails =
      let found = (are.are_parts.members fails.part).0 (subst (λ (ps : List Part). Contains ps fails.part) shown_is fails.given) in
      record {
        part = fails.part;
        reached = found.0;
        in_file = found.1;
        failed = subst (λ (d : DeviceState). FailsRead fails.part.place d new) kept fails.failed;
      }
