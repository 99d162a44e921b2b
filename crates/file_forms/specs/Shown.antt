-- The forms in which a file is shown.
use Rattle.std.specs.Prelude.{◌≡◌, ℕ, ◌==◌, if◌then◌else◌, List, Option, Some, None, length}
use Rattle.apple_single.specs.Printed.{IsTooLong, single_bytes}
use Rattle.apple_text.specs.Shown.{shown_text}
use Rattle.applesoft.specs.Program as applesoft
use Rattle.integer_basic.specs.Program as integer
use Rattle.file_forms.specs.declared.form.FileForm.{FileForm}
use Rattle.file_forms.specs.declared.form.FileForm.TheVariants.{Text, Applesoft, Integer, Single}
use Rattle.file_forms.specs.Found.{FileView, text_bytes}

-- the form of the files of a type (ProDOS 8 Technical Reference Manual, Appendix B: TXT, INT and BAS)
abbrev pub form_of : ℕ → Option FileForm
form_of file_type =
    if file_type == 0x04 then Some Text
    else if file_type == 0xfa then Some Integer
    else if file_type == 0xfc then Some Applesoft
    else None

-- the file is shown as these bytes
abbrev pub IsInForm : FileForm → FileView → List ℕ → Type 0
IsInForm Text file bytes = bytes ≡ shown_text (text_bytes file)
IsInForm Applesoft file bytes = applesoft.IsListed file.body bytes
IsInForm Integer file bytes = integer.IsListed file.body bytes
IsInForm Single file bytes =
    (¬ IsTooLong (length file.name) (length file.body)) × (bytes ≡ single_bytes file.name file.info file.body)

-- the file has the form
abbrev pub HasForm : FileForm → FileView → Type 0
HasForm form file = (bytes : List ℕ) × IsInForm form file bytes
