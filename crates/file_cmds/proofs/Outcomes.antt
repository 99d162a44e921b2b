-- What a read answers, over what its calls ensure.
use Rattle.std.specs.Prelude.{◌≡◌, ℕ, Bool, true, false, List, Result, Ok, Err, IfOk}
use Rattle.std.specs.declared.vec.Vec.{Vec}
use Rattle.std.proofs.Common.{sym, ◌∙◌, ap}
use Rattle.vol_format.specs.Directory.{Directory, entry_of}
use Rattle.vol_format.specs.Meaning.{Meaning}
use Rattle.file_formats.specs.FileNames.{FileNameView}
use Rattle.file_formats.specs.Files.{FileMeaning, IsFirstNamed}
use Rattle.file_cmds.specs.Text.{IsEntryText, IsWholeTextOf, text_of}
use Rattle.file_cmds.specs.Read.{IsTextAt}

module _ (format : Meaning) (files : FileMeaning) (store : List (List ℕ)) (directory : Directory) (file : ℕ) (text : List ℕ)
    (read : IsWholeTextOf format directory store file text) (whole : Bool) where
  -- the text was read, and is all that is asked for
  pub whole_answered : whole ≡ true → IsEntryText format files directory store file whole text
  whole_answered is = record {
    faultless = read.faultless;
    units = read.units;
    are_units = read.are_units;
    is = read.is ∙ ap (λ b. text_of files format.unit_size b (entry_of directory file).bytes read.units) (sym is);
  }

  -- the body was cut out of it
  pub body_answered : (body : List ℕ) → body ≡ files.body (entry_of directory file).bytes text → whole ≡ false → IsEntryText format files directory store file whole body
  body_answered body body_is is = record {
    faultless = read.faultless;
    units = read.units;
    are_units = read.are_units;
    is = body_is ∙ ap (files.body (entry_of directory file).bytes) read.is ∙ ap (λ b. text_of files format.unit_size b (entry_of directory file).bytes read.units) (sym is);
  }

-- the text of the first file with a name was read
pub text_of_first : {A E : Type 0} (format : Meaning) (files : FileMeaning) (store : List (List ℕ)) (name : FileNameView) (directory : Directory) (described : format.Describes store directory)
    (file : ℕ) (first : IsFirstNamed files directory name file) (whole : Bool) (result : Result (Vec ℕ A) E)
    → IfOk result (λ text. IsEntryText format files directory store file whole text.items) → IfOk result (λ text. IsTextAt format files store name whole text.items)
text_of_first format files store name directory described file first whole (Ok text) read =
    record { directory = directory; described = described; file = file; first = first; read = read }
text_of_first format files store name directory described file first whole (Err error) read = read
