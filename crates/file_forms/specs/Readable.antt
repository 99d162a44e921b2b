-- The form of a file that can be read, where it gives the bytes of the file back.
use Rattle.std.specs.Prelude.{◌≡◌, ℕ, nat_lt, if◌then◌else◌, true, List, [], ◌∷◌, All, drop, length, Some}
use Rattle.apple_text.specs.Shown.{Text as Readable}
use Rattle.apple_text.specs.Taken.{IsTaken}
use Rattle.apple_text.specs.declared.form.HighBit.{HighBit}
use Rattle.apple_text.specs.declared.form.HighBit.TheVariants.{On, Off}
use Rattle.applesoft.specs.Tokens.{IsTokenized}
use Rattle.vol_layout.specs.declared.form.PlaceForm.{PlaceForm}
use Rattle.vol_layout.specs.declared.form.PlaceForm.TheVariants.{Sector, Block}
use Rattle.file_forms.specs.declared.form.FileForm.{FileForm}
use Rattle.file_forms.specs.declared.form.FileForm.TheVariants.{Text, Applesoft, Integer, Single}
use Rattle.file_forms.specs.Found.{FileView, text_bytes}
use Rattle.file_forms.specs.Shown.{IsInForm, form_of}

-- the highest bit of the first byte of a text
abbrev pub high_of : List ℕ → HighBit
high_of [] = Off
high_of (byte ∷ bytes) = if nat_lt byte 0x80 then Off else On

-- in DOS 3.3 nothing but $00 stands behind a text
abbrev pub AreZerosBehind : PlaceForm → List ℕ → List ℕ → Type 0
AreZerosBehind Sector text whole = All (λ byte. byte ≡ 0) (drop (length text) whole)
AreZerosBehind Block text whole = Unit {0}

-- the text is taken for the bytes of the file's text, with their highest bit
pub record IsTextTakenBack (file : FileView) (text : Readable) : Type 0 where
  pub taken : IsTaken (record { high = high_of (text_bytes file); zeros = true }) text (text_bytes file)
  pub zeros : AreZerosBehind file.system (text_bytes file) file.whole

-- what a form shows is taken for the bytes of the file
abbrev pub IsTakenBack : FileForm → FileView → Readable → Type 0
IsTakenBack Text file text = IsTextTakenBack file text
IsTakenBack Applesoft file text = IsTokenized text file.body
IsTakenBack Integer file text = ⊥
IsTakenBack Single file text = ⊥

-- the file is shown as this text by its type, and is taken back from it
pub record IsReadable (file : FileView) (text : Readable) : Type 0 where
  pub form : FileForm
  pub of_type : form_of file.info.file_type ≡ Some form
  pub shown : IsInForm form file text
  pub taken_back : IsTakenBack form file text
